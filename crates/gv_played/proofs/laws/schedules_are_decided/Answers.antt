use Rattle.gv_played.proofs.Decided.{one_run, one_line, not_both}
use Rattle.gv_played.proofs.laws.schedules_are_decided.Goals as goal

pub returns-clause-run : goal.returns-clause-run
returns-clause-run c = one_run

pub returns-clause-line : goal.returns-clause-line
returns-clause-line c = one_line

pub returns-clause-not_both : goal.returns-clause-not_both
returns-clause-not_both c = not_both
