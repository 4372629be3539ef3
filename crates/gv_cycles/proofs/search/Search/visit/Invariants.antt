use Rattle.std.proofs.Common.{◌≡◌, ◌+◌, ◌-◌, ◌*◌, true, length, get_or}
use Rattle.gv_cycles.specs.Leading.{lists_of}
use Rattle.gv_cycles.specs.Search.{IsSearched, IsMoreSeen}
use Rattle.gv_cycles.proofs.search.Search.visit.Given as goal

abbrev pub invariant-loop-top : goal.invariant-loop-top
invariant-loop-top l = record {
  searched : IsSearched (lists_of l.rows) l.self;
  more : IsMoreSeen l.fn.self.is_seen.items l.self.is_seen.items;
  there : get_or l.self.is_seen.items l.root true ≡ true;
}

abbrev pub decreases-loop-top : goal.decreases-loop-top
decreases-loop-top l = 2 * length l.rows - (length l.self.path.items + 2 * length l.self.order.items)
