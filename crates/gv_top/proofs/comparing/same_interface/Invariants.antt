use Rattle.std.proofs.Common.{◌≡◌, take}
use Rattle.std.specs.Prelude.{map}
use Rattle.gv_top.proofs.comparing.same_interface.Given as goal

abbrev pub invariant-loop-at : goal.invariant-loop-at
invariant-loop-at l = record {
  names : map (λ op. op.name) (take l.at l.ops) ≡ map (λ op. op.name) (take l.at l.other);
  params : map (λ op. op.params) (take l.at l.ops) ≡ map (λ op. op.params) (take l.at l.other);
}
