use Rattle.std.proofs.Common.{◌≡◌, true, take}
use Rattle.std.specs.List.{list_all}
use Rattle.gv_atomic.specs.Typed as typed
use Rattle.gv_atomic.proofs.typing.are_plain.Given as goal

abbrev pub invariant-loop-param : goal.invariant-loop-param
invariant-loop-param l = list_all (λ v. typed.is_plain v.sort) (take l.param-index l.params) ≡ true
