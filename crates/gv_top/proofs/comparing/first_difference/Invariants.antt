use Rattle.std.proofs.Common.{take}
use Rattle.gv_top.specs.Comparing.{AllSameSums}
use Rattle.gv_top.proofs.comparing.first_difference.Given as goal

abbrev pub invariant-loop-at : goal.invariant-loop-at
invariant-loop-at l = AllSameSums (take l.at l.ops) (take l.at l.others)
