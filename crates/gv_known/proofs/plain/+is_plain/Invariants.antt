use Rattle.std.proofs.Common.{◌≡◌, map, drop}
use Rattle.std.specs.List.{list_all}
use Rattle.gv_terms.specs.Store.{trees_at}
use Rattle.gv_certs.specs.Known.{is_plain}
use Rattle.gv_known.proofs.plain.+is_plain.Given as goal

abbrev pub decreases-is_plain : goal.decreases-is_plain
decreases-is_plain l = l.term.id

abbrev pub invariant-loop-i : goal.invariant-loop-i
invariant-loop-i l = list_all (λ b. b) (map is_plain (trees_at l.store (drop l.i l.parts))) ≡ list_all (λ b. b) (map is_plain (trees_at l.store l.parts))
