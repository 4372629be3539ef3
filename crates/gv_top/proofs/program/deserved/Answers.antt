use Rattle.std.proofs.Common.{refl}
use Rattle.gv_top.proofs.RunLemmas.{usage_given, command_given}
use Rattle.gv_top.proofs.program.deserved.Goals as goal

pub returns-in-None-clause-deserved : goal.returns-in-None-clause-deserved
returns-in-None-clause-deserved g c = record { given = usage_given _ _ _ c.format_for-format.ensures c.in-None.ensures.none; blamed = refl }

pub returns-in-Some-clause-deserved : goal.returns-in-Some-clause-deserved
returns-in-Some-clause-deserved g c = record {
  given = command_given _ _ _ _ _ _ c.format_for-format.ensures c.in-Some.ensures.some c.perform-report.ensures.comes;
  blamed = c.perform-report.ensures.blame;
}
