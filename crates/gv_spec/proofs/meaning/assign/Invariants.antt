use Rattle.std.proofs.Common.{◌≡◌, take}
use Rattle.gv_atomic.specs.Specification.{assigned}
use Rattle.gv_spec.proofs.meaning.assign.Given as goal

abbrev pub invariant-loop-a : goal.invariant-loop-a
invariant-loop-a l = l.values.items ≡ assigned l.store l.env (take l.a-index l.body) l.s.values
