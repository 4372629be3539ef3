use Rattle.std.proofs.Common.{◌≡◌, ℕ, ◌<◌, take}
use Rattle.gv_linear.specs.Columns.{products, total, IsWide}
use Rattle.gv_linear.proofs.columns.column_sum.Given as goal

abbrev pub invariant-loop-i : goal.invariant-loop-i
invariant-loop-i l = record {
  sum : l.sum ≡ total (take l.i (products l.rows l.factors l.unknowns l.column));
  narrow : (r : ℕ) → r < l.i → IsWide (products l.rows l.factors l.unknowns l.column) r → ⊥;
}
