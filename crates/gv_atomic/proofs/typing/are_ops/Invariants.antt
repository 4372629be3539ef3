use Rattle.std.proofs.Common.{◌≡◌, ◌+◌, true, take}
use Rattle.std.specs.List.{list_all}
use Rattle.gv_atomic.specs.Typed as typed
use Rattle.gv_atomic.specs.Marks.{AreBefore}
use Rattle.gv_atomic.proofs.typing.are_ops.Given as goal

abbrev pub invariant-loop-i : goal.invariant-loop-i
invariant-loop-i l = record {
  passes : list_all (typed.is_op l.store l.fields) (take l.i l.ops) ≡ true;
  marks : AreBefore l.store (l.i + 2) l.marks.items;
}
