-- The value of a pattern, from the values of the parts; and what is to be shown of an axiom in terms of them.
use Rattle.std.proofs.Common.{◌≡◌, ℕ, suc, List, [], ◌∷◌, true, Option, Some, None, ◌⊎◌, replicate, ◌%◌}
use Rattle.gv_terms.specs.declared.sort.Sort.{Sort}
use Rattle.gv_terms.specs.declared.sort.Sort.TheVariants as sort
use Rattle.gv_terms.specs.declared.value.Value.{Value}
use Rattle.gv_terms.specs.declared.value.Value.TheVariants as val
use Rattle.gv_terms.specs.Sorts.{item_sort, entry_sort}
use Rattle.gv_terms.specs.Values.{zero_of, sort_of_value, word_of, ref_of, bytes_of}
use Rattle.gv_terms.specs.Meaning.{operate}
use Rattle.gv_terms.specs.Ranges.{IsInRange}
use Rattle.gv_axioms.specs.declared.kind.Kind.{Kind}
use Rattle.gv_axioms.specs.declared.kind.Kind.TheVariants as kind
use Rattle.gv_axioms.specs.Schema.{Axiom, Pattern, Premise}
use Rattle.gv_axioms.specs.Schema.Pattern.{part, literal, copied, zero, over0, over1, over2, over3}
use Rattle.gv_axioms.specs.Filling.{with_some, held}

-- the values of the parts, how many copies the makers among them make, of what, and the zeros of what they hold
pub record Parts : Type 0 where
  pub value : ℕ → Value
  pub count : ℕ → ℕ
  pub item : ℕ → Value
  pub none : ℕ → Value

abbrev pub worth : Parts → Pattern → Value
worth v (part i) = v.value i
worth v (literal i) = val.Word (v.count i)
worth v (copied i) = v.item i
worth v (zero i) = v.none i
worth v (over0 o) = operate o []
worth v (over1 o p) = operate o (worth v p ∷ [])
worth v (over2 o p q) = operate o (worth v p ∷ worth v q ∷ [])
worth v (over3 o p q r) = operate o (worth v p ∷ worth v q ∷ worth v r ∷ [])

-- a maker's value is so many copies
pub record IsMade (v : Value) (k : ℕ) (w : Value) : Type 0 where
  pub made : ((v ≡ val.Bytes (replicate k (word_of w % 256))) × (sort_of_value w ≡ Some sort.Word))
      ⊎ (((v ≡ val.Words (replicate k (word_of w))) × (sort_of_value w ≡ Some sort.Word))
      ⊎ (((v ≡ val.Refs (replicate k (ref_of w))) × (sort_of_value w ≡ Some sort.Ref))
      ⊎ ((v ≡ val.Blocks (replicate k (bytes_of w))) × (sort_of_value w ≡ Some sort.Bytes))))

-- what is known of the value of a part of some kind
abbrev pub Fact : Parts → ℕ → Kind → Type 0
Fact v i (kind.Of s) = sort_of_value (v.value i) ≡ Some s
Fact v i kind.Anything = Unit {0}
Fact v i kind.List = (s : Sort) × (with_some (sort_of_value (v.value i)) item_sort ≡ Some s) × (v.none i ≡ zero_of s)
Fact v i kind.Map = (s : Sort) × (with_some (sort_of_value (v.value i)) entry_sort ≡ Some s) × (v.none i ≡ zero_of s)
Fact v i (kind.Held j) = with_some (sort_of_value (v.value j)) held ≡ sort_of_value (v.value i)
Fact v i (kind.Like j) = sort_of_value (v.value j) ≡ sort_of_value (v.value i)
Fact v i kind.Maker = IsMade (v.value i) (v.count i) (v.item i)
Fact v i kind.ZeroMaker = (s : Sort) × IsMade (v.value i) (v.count i) (v.item i) × (v.item i ≡ zero_of s)
Fact v i kind.EmptyMap = (v.value i ≡ val.MapWW []) ⊎ (v.value i ≡ val.MapWB [])

abbrev pub Facts : Parts → ℕ → List Kind → Type 0
Facts v i [] = Unit {0}
Facts v i (k ∷ ks) = Fact v i k × Facts v (suc i) ks

abbrev pub IsAsked : Parts → Option ℕ → Type 0
IsAsked v None = Unit {0}
IsAsked v (Some i) = sort_of_value (v.value i) ≡ Some sort.Bytes

abbrev pub AreMet : Parts → List Premise → Type 0
AreMet v [] = Unit {0}
AreMet v (p ∷ ps) = (IsAsked v p.bytes → worth v p.formula ≡ val.Bool true) × AreMet v ps

abbrev pub AreInRange : Parts → Type 0
AreInRange v = (i : ℕ) → IsInRange (v.value i)

-- what is to be shown of an axiom
abbrev pub Holds : Axiom → Type 0
Holds a = (v : Parts) → AreInRange v → Facts v 0 a.kinds → AreMet v a.premises → worth v a.conclusion ≡ val.Bool true
