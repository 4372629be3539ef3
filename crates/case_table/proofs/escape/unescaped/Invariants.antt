use Rattle.std.proofs.Common.{ℕ, List, ◌++◌, length}
use Rattle.case_table.specs.Escapes.{Writes}
use Rattle.case_table.proofs.escape.unescaped.Given as goal

abbrev pub invariant-loop-left : goal.invariant-loop-left
invariant-loop-left l = (bytes : List ℕ) → Writes l.left bytes → Writes l.fn.text (l.bytes.items ++ bytes)

abbrev pub decreases-loop-left : goal.decreases-loop-left
decreases-loop-left l = length l.left
