use Rattle.std.proofs.Common.{◌≡◌, take}
use Rattle.std.specs.Prelude.{map}
use Rattle.gv_top.proofs.comparing.same_blocks.Given as goal

abbrev pub invariant-loop-at : goal.invariant-loop-at
invariant-loop-at l = map (λ op. op.name) (take l.at l.ops) ≡ map (λ b. b.name) (take l.at l.blocks)
