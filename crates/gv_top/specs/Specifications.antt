-- Specifications that go on to the form of specifications that is checked, and where other texts are refused.
use Rattle.std.specs.Prelude.{◌≡◌, ℕ, List}
use Rattle.gv_base.specs.Places.{place_at}
use Rattle.gv_base.specs.declared.answers.Place.{Place}
use Rattle.gv_base.specs.declared.answers.Code.{Code}
use Rattle.gv_base.specs.declared.answers.Code.TheVariants.{NotInProfile}
use Rattle.gv_base.specs.declared.answers.Refusal.{Refusal}
use Rattle.gv_base.specs.declared.answers.Refusal.TheVariants as refusal
use Rattle.gv_base.specs.declared.small.Small.{Small}
use Rattle.gv_small.specs.Tokens.{start}
use Rattle.gv_atomic.specs.declared.spec.Spec.{Spec}
use Rattle.gv_specs.specs.Reading as written
use Rattle.gv_smallspec.specs.SmallSpec.{IsSmallOf}
use Rattle.gv_smallprogram.specs.Sums.{SameInterface}

-- a specification of the small form
pub record IsSpecOf (text : List ℕ) (small : Small) : Type 0 where
  pub atomic : Spec
  pub spelled : written.Spells text atomic
  pub small_form : IsSmallOf atomic small

-- the same with a package's operations
abbrev pub IsSpecFor : Small → List ℕ → Small → Type 0
IsSpecFor program text small = IsSpecOf text small × SameInterface program small

-- A text that spells no specification is refused at its first fault, and all of one that spells a specification which is not for the package.
pub data IsRefusedSpecFor (program : Small) (text : List ℕ) (place : Place) (code : Code) : Type 0 where
  in_text : (at : ℕ) → place ≡ place_at text at → written.IsRefused text at code → IsRefusedSpecFor program text place code
  outside : (s : Spec) → written.Spells text s → place ≡ start → code ≡ NotInProfile → ((small : Small) → IsSpecFor program text small → ⊥)
      → IsRefusedSpecFor program text place code

-- all of a text is refused whose specification has no small form; memory is free
abbrev pub IsRefusedAsOther : Spec → Refusal → Type 0
IsRefusedAsOther s refusal.NoMemory = Unit {0}
IsRefusedAsOther s (refusal.At place code) = (place ≡ start) × (code ≡ NotInProfile) × ((small : Small) → IsSmallOf s small → ⊥)
