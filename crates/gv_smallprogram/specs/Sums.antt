-- The values of Sums, and packages and specifications of the small form beside each other.
use Rattle.std.specs.Prelude.{◌≡◌, ℕ, ◌+◌, ◌-◌, ◌%◌, ◌^◌, List, map, fold, slice_index, if◌then◌else◌}
use Rattle.gv_base.specs.declared.small.Small.{Small}
use Rattle.gv_base.specs.declared.small.SmallOp.{SmallOp}
use Rattle.gv_base.specs.declared.small.Turn.{Turn}
use Rattle.gv_base.specs.declared.small.Part.{Part}
use Rattle.gv_base.specs.declared.small.Part.TheVariants as part

-- ---- Sums

abbrev pub part_value : List ℕ → Part → ℕ
part_value args (part.Param place) = slice_index args place
part_value args (part.Number value) = value

-- added or taken away, around at 2 ^ 64
abbrev pub turned : List ℕ → ℕ → Turn → ℕ
turned args total turn =
    if turn.minus
    then (total + (2 ^ 64 - part_value args turn.part)) % 2 ^ 64
    else (total + part_value args turn.part) % 2 ^ 64

-- the value of an operation's Sum, from the left
abbrev pub sum_value : SmallOp → List ℕ → ℕ
sum_value op args = fold (turned args) (part_value args op.first) op.rest

-- ---- a package and a specification

-- operations of the same names and parameters, in the same order
pub record SameInterface (program small : Small) : Type 0 where
  pub names : map (λ op. op.name) program.ops ≡ map (λ op. op.name) small.ops
  pub params : map (λ op. op.params) program.ops ≡ map (λ op. op.params) small.ops

-- operations with the same Sums, in the same order
pub record SameSums (program small : Small) : Type 0 where
  pub firsts : map (λ op. op.first) program.ops ≡ map (λ op. op.first) small.ops
  pub rests : map (λ op. op.rest) program.ops ≡ map (λ op. op.rest) small.ops

pub record AgreeOps (program small : Small) : Type 0 where
  pub interface : SameInterface program small
  pub sums : SameSums program small
