use Rattle.gv_asserts.proofs.Moves.{knowing_law, ending_law}
use Rattle.gv_asserts.proofs.laws.facts_follow.Goals as goal

pub returns-clause-added : goal.returns-clause-added
returns-clause-added c = knowing_law

pub returns-clause-ended : goal.returns-clause-ended
returns-clause-ended c = ending_law
