-- The axioms of lists of zeros.
use Rattle.std.proofs.Common.{◌≡◌, ℕ, zero, suc, List, [], ◌∷◌, Bool, true, ⊎_elim, Some, length, replicate, get_or, nat_eq, refl, ap, sym, ◌∙◌, arith, eqb-true}
use Rattle.std.specs.List.{list_all}
use Rattle.std.specs.Str.{bytes_eq}
use Rattle.std.proofs.lemmas.Bool.{and_parts, and_from, eq-eqb}
use Rattle.std.proofs.lemmas.Slice.Eq.{bytes_eq-Decides}
use Rattle.gv_terms.specs.declared.sort.Sort.{Sort}
use Rattle.gv_terms.specs.declared.sort.Sort.TheVariants as sort
use Rattle.gv_terms.specs.declared.value.Value.{Value}
use Rattle.gv_terms.specs.declared.value.Value.TheVariants as val
use Rattle.gv_terms.specs.Sorts.{item_sort}
use Rattle.gv_terms.specs.Values.{zero_of, sort_of_value, word_of, ref_of, bytes_of}
use Rattle.gv_terms.specs.Meaning.{length_of, item_at, all_zero}
use Rattle.gv_axioms.specs.Filling.{with_some}
use Rattle.gv_axioms.specs.Table as table
use Rattle.gv_axioms.proofs.Worth.{Holds, IsMade}
use Rattle.gv_axioms.proofs.Values.{equal, are_equal, yes, say}

is_zero : (n : ℕ) → nat_eq n 0 ≡ true → n ≡ 0
is_zero n e = eqb-true n 0 e

is_empty : (x : List ℕ) → bytes_eq x [] ≡ true → x ≡ []
is_empty x e = (bytes_eq-Decides x []).0 e

module _ {A : Type 0} (test : A → Bool) (none : A) (tested : (a : A) → test a ≡ true → a ≡ none) where
  item_none : (x : List A) (i : ℕ) → list_all test x ≡ true → get_or x i none ≡ none
  item_none [] i e = refl
  item_none (a ∷ x) zero e = tested a (and_parts (test a) (list_all test x) e).0
  item_none (a ∷ x) (suc i) e = item_none x i (and_parts (test a) (list_all test x) e).1

  same_list : (x y : List A) → list_all test x ≡ true → list_all test y ≡ true → length x ≡ length y → x ≡ y
  same_list [] [] e f g = refl
  same_list [] (b ∷ y) e f g = absurd (omega (arith, g))
  same_list (a ∷ x) [] e f g = absurd (omega (arith, g))
  same_list (a ∷ x) (b ∷ y) e f g =
      let first = and_parts (test a) (list_all test x) e in
      let second = and_parts (test b) (list_all test y) f in
      ap (λ c. c ∷ x) (tested a first.0 ∙ sym (tested b second.0)) ∙ ap (λ z. b ∷ z) (same_list x y first.1 second.1 (omega (arith, g)))

copies_pass : {A : Type 0} (test : A → Bool) (k : ℕ) (a : A) → test a ≡ true → list_all test (replicate k a) ≡ true
copies_pass test zero a e = refl
copies_pass test (suc k) a e = and_from (test a) (list_all test (replicate k a)) e (copies_pass test k a e)

item_zero : (x : Value) (i : ℕ) (s : Sort) → with_some (sort_of_value x) item_sort ≡ Some s → all_zero x ≡ val.Bool true → item_at x i ≡ zero_of s
item_zero (val.Bytes x) i s e h = let w : sort.Word ≡ s = cc in ap (λ n. val.Word n) (item_none (λ n. nat_eq n 0) 0 is_zero x i (yes _ h)) ∙ ap zero_of w
item_zero (val.Words x) i s e h = let w : sort.Word ≡ s = cc in ap (λ n. val.Word n) (item_none (λ n. nat_eq n 0) 0 is_zero x i (yes _ h)) ∙ ap zero_of w
item_zero (val.Refs x) i s e h = let w : sort.Ref ≡ s = cc in ap (λ n. val.Ref n) (item_none (λ n. nat_eq n 0) 0 is_zero x i (yes _ h)) ∙ ap zero_of w
item_zero (val.Blocks x) i s e h = let w : sort.Bytes ≡ s = cc in ap (λ n. val.Bytes n) (item_none (λ b. bytes_eq b []) [] is_empty x i (yes _ h)) ∙ ap zero_of w
item_zero _ i s e h = absurd cc

same_zeros : (x y : Value) (s : Sort) → with_some (sort_of_value x) item_sort ≡ Some s → sort_of_value x ≡ sort_of_value y → all_zero x ≡ val.Bool true → all_zero y ≡ val.Bool true → word_of (length_of x) ≡ word_of (length_of y) → x ≡ y
same_zeros (val.Bytes x) (val.Bytes y) s e same f g h = ap (λ z. val.Bytes z) (same_list (λ n. nat_eq n 0) 0 is_zero x y (yes _ f) (yes _ g) h)
same_zeros (val.Words x) (val.Words y) s e same f g h = ap (λ z. val.Words z) (same_list (λ n. nat_eq n 0) 0 is_zero x y (yes _ f) (yes _ g) h)
same_zeros (val.Refs x) (val.Refs y) s e same f g h = ap (λ z. val.Refs z) (same_list (λ n. nat_eq n 0) 0 is_zero x y (yes _ f) (yes _ g) h)
same_zeros (val.Blocks x) (val.Blocks y) s e same f g h = ap (λ z. val.Blocks z) (same_list (λ b. bytes_eq b []) [] is_empty x y (yes _ f) (yes _ g) h)
same_zeros _ _ s e same f g h = absurd cc

word_zero : (s : Sort) → word_of (zero_of s) ≡ 0
word_zero sort.Word = refl
word_zero sort.Bool = refl
word_zero sort.Bytes = refl
word_zero sort.Words = refl
word_zero sort.Refs = refl
word_zero sort.Blocks = refl
word_zero sort.MapWW = refl
word_zero sort.MapWB = refl
word_zero sort.Ref = refl
word_zero sort.SliceS = refl
word_zero sort.Call = refl
word_zero sort.Name = refl

ref_zero : (s : Sort) → ref_of (zero_of s) ≡ 0
ref_zero sort.Word = refl
ref_zero sort.Bool = refl
ref_zero sort.Bytes = refl
ref_zero sort.Words = refl
ref_zero sort.Refs = refl
ref_zero sort.Blocks = refl
ref_zero sort.MapWW = refl
ref_zero sort.MapWB = refl
ref_zero sort.Ref = refl
ref_zero sort.SliceS = refl
ref_zero sort.Call = refl
ref_zero sort.Name = refl

bytes_zero : (s : Sort) → bytes_of (zero_of s) ≡ []
bytes_zero sort.Word = refl
bytes_zero sort.Bool = refl
bytes_zero sort.Bytes = refl
bytes_zero sort.Words = refl
bytes_zero sort.Refs = refl
bytes_zero sort.Blocks = refl
bytes_zero sort.MapWW = refl
bytes_zero sort.MapWB = refl
bytes_zero sort.Ref = refl
bytes_zero sort.SliceS = refl
bytes_zero sort.Call = refl
bytes_zero sort.Name = refl

made_zero : (v : Value) (k : ℕ) (w : Value) (s : Sort) → IsMade v k w → w ≡ zero_of s → all_zero v ≡ val.Bool true
made_zero v k w s m e =
    let word : word_of w ≡ 0 = ap word_of e ∙ word_zero s in
    let ref : ref_of w ≡ 0 = ap ref_of e ∙ ref_zero s in
    let bytes : bytes_of w ≡ [] = ap bytes_of e ∙ bytes_zero s in
    ⊎_elim (λ h. ap all_zero h.0 ∙ say _ (copies_pass (λ n. nat_eq n 0) k _ (eq-eqb _ 0 (omega (arith, word)))))
    (⊎_elim (λ h. ap all_zero h.0 ∙ say _ (copies_pass (λ n. nat_eq n 0) k _ (eq-eqb _ 0 word)))
    (⊎_elim (λ h. ap all_zero h.0 ∙ say _ (copies_pass (λ n. nat_eq n 0) k _ (eq-eqb _ 0 ref)))
    (λ h. ap all_zero h.0 ∙ say _ (copies_pass (λ b. bytes_eq b []) k _ ((bytes_eq-Decides (bytes_of w) []).1 bytes)))))
    m.made

pub holds_33 : Holds table.axiom_33
holds_33 v in_range is met = equal _ _ (item_zero (v.value 0) (word_of (v.value 1)) is.0.0 is.0.1 (met.0 tt) ∙ sym is.0.2)

pub holds_34 : Holds table.axiom_34
holds_34 v in_range is met = made_zero (v.value 0) (v.count 0) (v.item 0) is.0.0 is.0.1 is.0.2

pub holds_43 : Holds table.axiom_43
holds_43 v in_range is met =
    equal (v.value 0) (v.value 1) (same_zeros (v.value 0) (v.value 1) is.0.0 is.0.1 is.1.0 (met.0 tt) (met.1.0 tt) (ap word_of (are_equal (length_of (v.value 0)) (length_of (v.value 1)) (met.1.1.0 tt))))
