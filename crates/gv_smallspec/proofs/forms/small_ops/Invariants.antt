use Rattle.std.proofs.Common.{◌≡◌, Some, map, take}
use Rattle.gv_smallspec.specs.SmallSpec as form
use Rattle.gv_smallspec.proofs.forms.small_ops.Given as goal

abbrev pub invariant-loop-number : goal.invariant-loop-number
invariant-loop-number l = map (form.small_op l.spec.store) (take l.number l.spec.ops) ≡ map Some l.ops
