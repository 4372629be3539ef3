use Rattle.std.proofs.Common.{◌≡◌, ℕ, ◌+◌, ◌<◌, ◌≤◌, get_or, Some}
use Rattle.std.proofs.Math.IntN.{pos, ◌*ℤ◌}
use Rattle.gv_linear.specs.Row.{entry}
use Rattle.gv_linear.specs.Columns.{IsAdded}
use Rattle.gv_linear.proofs.window.add_row.Given as goal

abbrev pub invariant-loop-k : goal.invariant-loop-k
invariant-loop-k l = record {
  added : (j : ℕ) → j < l.k → IsAdded (get_or l.initial.sums j (pos 0)) (l.factor *ℤ entry l.unknowns (l.from + j) l.row) (Some (get_or l.sums j (pos 0)));
  left : (j : ℕ) → l.k ≤ j → get_or l.sums j (pos 0) ≡ get_or l.initial.sums j (pos 0);
}
