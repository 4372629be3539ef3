use Rattle.std.proofs.Common.{◌≡◌, ℕ, ◌<◌, ◌≤◌, pos, get_or}
use Rattle.gv_linear.specs.declared.row.Row.{Row}
use Rattle.gv_linear.specs.Row.{coefficient}
use Rattle.gv_linear.proofs.columns.next_column.Given as goal

abbrev pub invariant-loop-row : goal.invariant-loop-row
invariant-loop-row l = record {
  low : l.from ≤ l.next;
  high : l.next ≤ l.unknowns;
  between : (c : ℕ) → l.from ≤ c → c < l.next → (k : ℕ) (d : Row) → k < l.row-index → coefficient c (get_or l.rows k d).items ≡ pos 0;
}
