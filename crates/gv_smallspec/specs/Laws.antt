-- What is so of all specifications of the small form.
use Rattle.std.specs.Prelude.{◌≡◌}
use Rattle.gv_base.specs.declared.small.Small.{Small}
use Rattle.gv_atomic.specs.declared.spec.Spec.{Spec}
use Rattle.gv_specs.specs.Alike.{AreAlike}
use Rattle.gv_smallspec.specs.SmallSpec.{IsSmallOf}

-- a specification has at most one small form
abbrev pub HasOne : Type 0
HasOne = (s : Spec) (x y : Small) → IsSmallOf s x → IsSmallOf s y → x ≡ y

-- specifications that differ in their stores alone have the same small form
abbrev pub AlikeHaveSame : Type 0
AlikeHaveSame = (s t : Spec) (x : Small) → AreAlike s t → IsSmallOf s x → IsSmallOf t x
