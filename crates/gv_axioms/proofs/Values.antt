-- What values are that have a sort, and truth of equations.
use Rattle.std.proofs.Common.{◌≡◌, ℕ, ◌<◌, ◌≤◌, Bool, true, false, not, Some, refl, ap, sym, ◌∙◌, nat_lt, nat_le, lit<, ltb-true, ltb-false, leb-true}
use Rattle.std.proofs.lemmas.Bool.{lt-ltb, le-leb, leb-false}
use Rattle.gv_terms.specs.declared.sort.Sort.TheVariants as sort
use Rattle.gv_terms.specs.declared.value.Value.{Value}
use Rattle.gv_terms.specs.declared.value.Value.TheVariants as val
use Rattle.gv_terms.specs.Values.{sort_of_value, value_eq, word_of, truth_of, bytes_of, ref_of, slice_of}
use Rattle.gv_terms.specs.Ranges.{IsInRange}
use Rattle.gv_words.specs.Words.{words}
use Rattle.gv_terms.proofs.Equality.{value_eq_decides}

pub is_word : (v : Value) → sort_of_value v ≡ Some sort.Word → v ≡ val.Word (word_of v)
is_word (val.Word n) e = refl
is_word _ e = absurd cc

pub is_bool : (v : Value) → sort_of_value v ≡ Some sort.Bool → v ≡ val.Bool (truth_of v)
is_bool (val.Bool b) e = refl
is_bool _ e = absurd cc

pub is_bytes : (v : Value) → sort_of_value v ≡ Some sort.Bytes → v ≡ val.Bytes (bytes_of v)
is_bytes (val.Bytes x) e = refl
is_bytes _ e = absurd cc

pub is_ref : (v : Value) → sort_of_value v ≡ Some sort.Ref → v ≡ val.Ref (ref_of v)
is_ref (val.Ref r) e = refl
is_ref _ e = absurd cc

pub is_slice : (v : Value) → sort_of_value v ≡ Some sort.SliceS → v ≡ val.SliceS (slice_of v)
is_slice (val.SliceS s) e = refl
is_slice _ e = absurd cc

pub below : (v : Value) → IsInRange v → word_of v < words
below (val.Word n) is = is
below _ is = lit< tt

-- truth
pub yes : (b : Bool) → val.Bool b ≡ val.Bool true → b ≡ true
yes b e = ap truth_of e

pub say : (b : Bool) → b ≡ true → val.Bool b ≡ val.Bool true
say b e = ap (λ c. val.Bool c) e

pub equal : (a b : Value) → a ≡ b → val.Bool (value_eq a b) ≡ val.Bool true
equal a b e = say (value_eq a b) ((value_eq_decides a b).1 e)

pub are_equal : (a b : Value) → val.Bool (value_eq a b) ≡ val.Bool true → a ≡ b
are_equal a b e = (value_eq_decides a b).0 (yes (value_eq a b) e)

negated : (b : Bool) → (b ≡ true → ⊥) → not b ≡ true
negated true h = absurd (h refl)
negated false h = refl

pub denied : (b : Bool) → not b ≡ true → b ≡ false
denied true e = absurd cc
denied false e = refl

pub doubly : (b : Bool) → not (not b) ≡ true → b ≡ true
doubly true e = refl
doubly false e = absurd cc

pub differ : (a b : Value) → (a ≡ b → ⊥) → val.Bool (not (value_eq a b)) ≡ val.Bool true
differ a b h = say (not (value_eq a b)) (negated (value_eq a b) (λ e. h ((value_eq_decides a b).0 e)))

pub are_different : (a b : Value) → val.Bool (not (value_eq a b)) ≡ val.Bool true → a ≡ b → ⊥
are_different a b e f =
    let g = (value_eq_decides a b).1 f in
    let h = denied (value_eq a b) (yes (not (value_eq a b)) e) in
    absurd cc

-- of two words whose values differ
pub apart : (a b : Value) → sort_of_value a ≡ Some sort.Word → sort_of_value b ≡ Some sort.Word → val.Bool (not (value_eq a b)) ≡ val.Bool true → word_of a ≡ word_of b → ⊥
apart a b f g e h = are_different a b e (is_word a f ∙ ap (λ n. val.Word n) h ∙ sym (is_word b g))

-- orders
pub less : (m n : ℕ) → val.Bool (nat_lt m n) ≡ val.Bool true → m < n
less m n e = ltb-true m n (yes (nat_lt m n) e)

pub is_less : (m n : ℕ) → m < n → val.Bool (nat_lt m n) ≡ val.Bool true
is_less m n h = say (nat_lt m n) (lt-ltb m n h)

pub at_most : (m n : ℕ) → val.Bool (nat_le m n) ≡ val.Bool true → m ≤ n
at_most m n e = leb-true m n (yes (nat_le m n) e)

pub is_at_most : (m n : ℕ) → m ≤ n → val.Bool (nat_le m n) ≡ val.Bool true
is_at_most m n h = say (nat_le m n) (le-leb m n h)

pub not_less : (m n : ℕ) → val.Bool (not (nat_lt m n)) ≡ val.Bool true → n ≤ m
not_less m n e = ltb-false m n (denied (nat_lt m n) (yes (not (nat_lt m n)) e))

pub not_at_most : (m n : ℕ) → val.Bool (not (nat_le m n)) ≡ val.Bool true → n < m
not_at_most m n e = leb-false m n (denied (nat_le m n) (yes (not (nat_le m n)) e))
