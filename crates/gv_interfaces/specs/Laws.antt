-- The operations of two texts differ at one place first, or nowhere, whatever store the specification's terms stand in.
use Rattle.std.specs.Prelude.{◌≡◌, ℕ, List}
use Rattle.gv_base.specs.declared.small.Small.{Small}
use Rattle.gv_atomic.specs.declared.spec.Spec.{Spec}
use Rattle.gv_specs.specs.Reading.{Spells}
use Rattle.gv_interfaces.specs.declared.difference.Difference.{Difference}
use Rattle.gv_interfaces.specs.Interfaces.{SameOperations}
use Rattle.gv_interfaces.specs.Places.{IsFirstDifference}

abbrev pub OneDifference : Type 0
OneDifference = (p : Small) (text : List ℕ) (s t : Spec) (spec_text : List ℕ) (d e : Difference) → Spells spec_text s → Spells spec_text t
    → IsFirstDifference p text s spec_text d → IsFirstDifference p text t spec_text e → d ≡ e

abbrev pub NoneWhereSame : Type 0
NoneWhereSame = (p : Small) (text : List ℕ) (s t : Spec) (spec_text : List ℕ) (d : Difference) → Spells spec_text s → Spells spec_text t
    → SameOperations p s → IsFirstDifference p text t spec_text d → ⊥

-- and they are the same whichever of the specifications is taken
abbrev pub SameForBoth : Type 0
SameForBoth = (p : Small) (s t : Spec) (spec_text : List ℕ) → Spells spec_text s → Spells spec_text t → SameOperations p s → SameOperations p t
