use Rattle.std.proofs.Common.{◌+◌, ◌-◌, [], length}
use Rattle.gv_cycles.specs.Leading.{lists_of}
use Rattle.gv_cycles.specs.Search.{seen_count}
use Rattle.gv_leading.specs.Back.{IsSpread}
use Rattle.gv_leading.proofs.back.leads_back.Given as goal

abbrev pub invariant-loop-number : goal.invariant-loop-number
invariant-loop-number l = record {
  spread : IsSpread (lists_of l.rows) l.start [] l.spread.is_seen.items l.spread.waiting.items;
}

abbrev pub decreases-loop-number : goal.decreases-loop-number
decreases-loop-number l = length l.spread.waiting.items + (length l.rows - seen_count l.spread.is_seen.items)
