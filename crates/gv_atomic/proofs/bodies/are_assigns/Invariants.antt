use Rattle.std.proofs.Common.{◌≡◌, ◌++◌, true, take, map}
use Rattle.std.specs.List.{list_all}
use Rattle.gv_atomic.specs.Typed as typed
use Rattle.gv_atomic.specs.Marks.{AreMarks}
use Rattle.gv_atomic.proofs.bodies.are_assigns.Given as goal

abbrev pub invariant-loop-a : goal.invariant-loop-a
invariant-loop-a l = record {
  passes : list_all (typed.is_assign l.store (map typed.var_of l.sorts) (l.fields ++ l.own)) (take l.a-index l.body) ≡ true;
  marks : AreMarks l.store (l.fields ++ l.own) l.number l.marks.items;
}
