-- Operations of a package, a specification and a script beside each other.
use Rattle.std.specs.Prelude.{◌≡◌, List, ◌∷◌, ◌++◌, length, map, Some, slice_get}
use Rattle.gv_base.specs.declared.answers.Place.{Place}
use Rattle.gv_base.specs.declared.small.SmallOp.{SmallOp}
use Rattle.gv_top.specs.declared.small_script.SmallBlock.{SmallBlock}

abbrev pub SameSum : SmallOp → SmallOp → Type 0
SameSum op other = (op.first ≡ other.first) × (op.rest ≡ other.rest)

abbrev pub AllSameSums : List SmallOp → List SmallOp → Type 0
AllSameSums ops others = (map (λ op. op.first) ops ≡ map (λ op. op.first) others) × (map (λ op. op.rest) ops ≡ map (λ op. op.rest) others)

-- the place is that of the `step` of an operation whose Sums differ, and the Sums of those before it do not
pub record IsFirstDifference (ops others : List SmallOp) (blocks : List SmallBlock) (place : Place) : Type 0 where
  pub prefix : List SmallOp
  pub op : SmallOp
  pub after : List SmallOp
  pub other_prefix : List SmallOp
  pub other : SmallOp
  pub other_after : List SmallOp
  pub block : SmallBlock
  pub ops_are : ops ≡ prefix ++ op ∷ after
  pub others_are : others ≡ other_prefix ++ other ∷ other_after
  pub there : slice_get blocks (length prefix) ≡ Some block
  pub before : AllSameSums prefix other_prefix
  pub differs : SameSum op other → ⊥
  pub place_is : block.step ≡ place
