use Rattle.std.proofs.Common.{◌≡◌, true, take}
use Rattle.std.specs.List.{list_all}
use Rattle.gv_asserts.specs.Kinds.{case_keeps}
use Rattle.gv_asserts.proofs.keeping.pred_keeps.Given as goal

abbrev pub invariant-loop-case : goal.invariant-loop-case
invariant-loop-case l = list_all (case_keeps l.quality l.table) (take l.case-index l.pred.cases) ≡ true
