use Rattle.std.proofs.Common.{◌≡◌, true, take}
use Rattle.std.specs.List.{list_all}
use Rattle.gv_asserts.specs.Kinds.{item_keeps}
use Rattle.gv_asserts.proofs.keeping.case_keeps.Given as goal

abbrev pub invariant-loop-item : goal.invariant-loop-item
invariant-loop-item l = list_all (item_keeps l.quality l.table) (take l.item-index l.case.items) ≡ true
