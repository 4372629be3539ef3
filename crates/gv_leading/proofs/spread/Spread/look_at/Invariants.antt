use Rattle.std.proofs.Common.{◌≡◌, ◌<◌, ◌≤◌, ◌+◌, ◌-◌, ℕ, [], ◌∷◌, true, length, get_or}
use Rattle.gv_cycles.specs.Leading.{lists_of, row}
use Rattle.gv_cycles.specs.Search.{seen_count}
use Rattle.gv_leading.specs.Back.{IsKnown, IsSpread}
use Rattle.gv_leading.proofs.spread.Spread.look_at.Given as goal

abbrev pub invariant-loop-at : goal.invariant-loop-at
invariant-loop-at l = record {
  spread : IsSpread (lists_of l.rows) l.start (l.number ∷ []) l.self.is_seen.items l.self.waiting.items;
  known : IsKnown l.start l.self.is_seen.items l.number;
  row : row (lists_of l.rows) l.number ≡ l.row.items;
  within : l.at ≤ length l.row.items;
  passed : (i d : ℕ) → i < l.at → (get_or l.row.items i d ≡ l.start → ⊥) × (get_or l.self.is_seen.items (get_or l.row.items i d) true ≡ true);
  counted : length l.self.waiting.items + seen_count l.fn.self.is_seen.items ≡ length l.fn.self.waiting.items + seen_count l.self.is_seen.items;
}

abbrev pub decreases-loop-at : goal.decreases-loop-at
decreases-loop-at l = length l.row.items - l.at
