-- The numbers so far, and those of the operations that are left, are all.
use Rattle.std.proofs.Common.{◌≡◌, ◌+◌, ◌++◌, length}
use Rattle.gv_smallprogram.specs.Program.{numbers_from}
use Rattle.gv_smallprogram.proofs.program.numbers.Given as goal

abbrev pub invariant-loop-left : goal.invariant-loop-left
invariant-loop-left l = record {
  numbers : l.numbers.items ++ numbers_from l.number l.left ≡ numbers_from 1 l.fn.ops;
  count : l.number + length l.left ≡ 1 + length l.fn.ops;
}

abbrev pub decreases-loop-left : goal.decreases-loop-left
decreases-loop-left l = length l.left
