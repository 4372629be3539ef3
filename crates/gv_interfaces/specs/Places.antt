-- Where operations stand in texts, and where those of two texts differ.
use Rattle.std.specs.Prelude.{◌≡◌, ℕ, Bool, true, false, ◌&&◌, ◌==◌, List, [], ◌∷◌, Option, Some, None, option_map, if◌then◌else◌}
use Rattle.std.specs.Str.{bytes_eq}
use Rattle.gv_base.specs.Places.{place_at}
use Rattle.gv_base.specs.declared.answers.Place.{Place}
use Rattle.gv_base.specs.declared.small.Small.{Small}
use Rattle.gv_small.specs.Tokens as small
use Rattle.gv_small.specs.Tokens.{Placed, tokens_of}
use Rattle.gv_atomic.specs.declared.spec.Spec.{Spec}
use Rattle.gv_specread.specs.declared.tree.OpTree.{OpTree}
use Rattle.gv_specread.specs.declared.tree.SpecTree.{SpecTree}
use Rattle.gv_specs.specs.Names.{name_in}
use Rattle.gv_specs.specs.Reading.{HasTree}
use Rattle.gv_interfaces.specs.declared.difference.Difference.{Difference}
use Rattle.gv_interfaces.specs.declared.difference.Difference.TheVariants as difference
use Rattle.gv_interfaces.specs.Interfaces.{named, IsFirstDiffering}

-- ---- in a specification

-- where the name stands of the first operation that bears it
abbrev pub name_place : List ℕ → List ℕ → List OpTree → Option Place
name_place text name ops = option_map (λ op. place_at text op.name.start) (named (λ op. name_in text op.name) name ops)

pub record StandsInSpec (text name : List ℕ) (place : Place) : Type 0 where
  pub tree : SpecTree
  pub has : HasTree text tree
  pub there : name_place text name tree.ops ≡ Some place

-- ---- in a package of the small form

abbrev pub is_word : List ℕ → small.Token → Bool
is_word name (small.named w) = bytes_eq w name
is_word name small.arrowed = false
is_word name (small.signed b) = false

-- `)`
abbrev pub is_closing : small.Token → Bool
is_closing (small.named w) = false
is_closing small.arrowed = false
is_closing (small.signed b) = b == 41

-- where a name first stands right behind a `)`; whether one stands before these tokens is told
abbrev pub place_behind : List ℕ → Bool → List Placed → Option Place
place_behind name closed [] = None
place_behind name closed (t ∷ ts) = if closed && is_word name t.token then Some t.place else place_behind name (is_closing t.token) ts

-- where the name of a method stands: in the small form no other word stands right behind a `)` but `uint64`, which names no method
abbrev pub method_place : List ℕ → List ℕ → Option Place
method_place text name = place_behind name false (tokens_of true text)

-- ---- both

-- The first name under which the operations of a package and of a specification differ stands here: in the specification, where that has
-- an operation with the name, else in the package.
abbrev pub IsFirstDifference : Small → List ℕ → Spec → List ℕ → Difference → Type 0
IsFirstDifference p text s spec_text (difference.InSpec place) = (name : List ℕ) × IsFirstDiffering p s name × StandsInSpec spec_text name place
IsFirstDifference p text s spec_text (difference.InPackage place) =
    (name : List ℕ) × IsFirstDiffering p s name × (named (λ op. op.name) name s.ops ≡ None) × (method_place text name ≡ Some place)
