use Rattle.std.proofs.Common.{◌≡◌, true, take, []}
use Rattle.std.specs.List.{list_all}
use Rattle.gv_atomic.specs.Typed as typed
use Rattle.gv_atomic.specs.Marks.{AreMarks}
use Rattle.gv_atomic.proofs.typing.are_fields.Given as goal

abbrev pub invariant-loop-field : goal.invariant-loop-field
invariant-loop-field l = record {
  passes : list_all (typed.is_field l.store) (take l.field-index l.fields) ≡ true;
  marks : AreMarks l.store [] 1 l.marks.items;
}
