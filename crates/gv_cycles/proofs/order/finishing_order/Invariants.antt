use Rattle.std.proofs.Common.{◌≡◌, ◌<◌, ◌≤◌, ◌-◌, ℕ, [], true, length, get_or}
use Rattle.gv_cycles.specs.Leading.{lists_of}
use Rattle.gv_cycles.specs.Search.{IsSearched}
use Rattle.gv_cycles.proofs.order.finishing_order.Given as goal

abbrev pub invariant-loop-root : goal.invariant-loop-root
invariant-loop-root l = record {
  searched : IsSearched (lists_of l.rows) l.search;
  none : l.search.path.items ≡ [];
  all : (n : ℕ) → n < l.root → get_or l.search.is_seen.items n true ≡ true;
  within : l.root ≤ length l.rows;
}

abbrev pub decreases-loop-root : goal.decreases-loop-root
decreases-loop-root l = length l.rows - l.root
