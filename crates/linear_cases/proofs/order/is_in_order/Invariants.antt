use Rattle.std.proofs.Common.{ℕ, ℤ, ◌<◌, ◌≤◌, get_or}
use Rattle.linear_cases.proofs.order.is_in_order.Given as goal

abbrev pub invariant-loop-item : goal.invariant-loop-item
invariant-loop-item l = record {
  within : l.from ≤ l.unknowns;
  before : (k : ℕ) (d : ℕ × ℤ) → k < l.item-index → (get_or l.items k d).0 < l.from;
  ascending : (i j : ℕ) (d : ℕ × ℤ) → i < j → j < l.item-index → (get_or l.items i d).0 < (get_or l.items j d).0;
}
