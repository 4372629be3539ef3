-- The axioms of arithmetic on words.
use Rattle.std.proofs.Common.{◌≡◌, ℕ, ◌+◌, ◌*◌, ◌/◌, ◌%◌, ◌<◌, ◌≤◌, Bool, true, false, cond, nat_eq, refl, ap, sym, ◌∙◌, arith, div-le_self, eqb-true}
use Rattle.std.proofs.Math.Nat.{mod-le}
use Rattle.std.proofs.lemmas.Nat.{and_le_l, mod_below, div-add-mod'}
use Rattle.gv_terms.specs.declared.value.Value.TheVariants as val
use Rattle.gv_terms.specs.Values.{word_of}
use Rattle.gv_words.specs.Words as words
use Rattle.gv_axioms.specs.Table as table
use Rattle.gv_axioms.proofs.Worth.{Holds}
use Rattle.gv_axioms.proofs.Values.{is_word, below, equal, less, is_less, at_most, is_at_most}

not_zero : (b : ℕ) → 0 < b → nat_eq b 0 ≡ false
not_zero b h = pick (nat_eq b 0) refl
  where
    pick : (t : Bool) → nat_eq b 0 ≡ t → t ≡ false
    pick true e = let f : b ≡ 0 = eqb-true b 0 e in absurd (omega arith)
    pick false e = refl

pub quotient_is : (a b : ℕ) → 0 < b → words.quotient a b ≡ a / b
quotient_is a b h = ap (λ t. cond t 0 (a / b)) (not_zero b h)

pub remainder_is : (a b : ℕ) → 0 < b → words.remainder a b ≡ a % b
remainder_is a b h = ap (λ t. cond t 0 (a % b)) (not_zero b h)

at_most_of : (t : Bool) (m n : ℕ) → m ≤ n → cond t 0 m ≤ n
at_most_of true m n h = omega arith
at_most_of false m n h = h

fits_word : (a b : ℕ) → b < words.words → a ≤ words.minus 18446744073709551615 b → a + b < words.words
fits_word a b below le = omega arith

turned : (a b : ℕ) → words.plus a b ≡ words.plus b a
turned a b = omega arith

regrouped : (a b c : ℕ) → words.plus (words.plus a b) c ≡ words.plus a (words.plus b c)
regrouped a b c = omega arith

back : (a b : ℕ) → a < words.words → b < words.words → words.minus (words.plus a b) b ≡ a
back a b f g = omega arith

once : (a : ℕ) → a < words.words → words.times a 1 ≡ a
once a f = omega arith

put_together : (a b : ℕ) → a < words.words → 0 < b → words.plus (words.times (words.quotient a b) b) (words.remainder a b) ≡ a
put_together a b f h =
    ap (λ q. words.plus (words.times q b) (words.remainder a b)) (quotient_is a b h)
    ∙ ap (λ r. words.plus (words.times (a / b) b) r) (remainder_is a b h)
    ∙ small (a / b * b) (a % b) (div-add-mod' a b)
  where
    small : (p r : ℕ) → p + r ≡ a → words.plus (p % words.words) r ≡ a
    small p r e = omega arith

pub holds_18 : Holds table.axiom_18
holds_18 v in_range is met = is_less _ words.words (fits_word (word_of (v.value 0)) (word_of (v.value 1)) (below (v.value 1) (in_range 1)) (at_most _ _ (met.0 tt)))

pub holds_19 : Holds table.axiom_19
holds_19 v in_range is met =
    let a = word_of (v.value 0) in
    let b = word_of (v.value 1) in
    let positive : 0 < b = less 0 b (met.0 tt) in
    is_less (words.remainder a b) b (omega (arith, remainder_is a b positive, mod_below a b positive))

pub holds_20 : Holds table.axiom_20
holds_20 v in_range is met =
    let a = word_of (v.value 0) in
    let b = word_of (v.value 1) in
    is_at_most (words.quotient a b) a (at_most_of (nat_eq b 0) (a / b) a (div-le_self a b))

pub holds_21 : Holds table.axiom_21
holds_21 v in_range is met =
    let a = word_of (v.value 0) in
    let b = word_of (v.value 1) in
    is_at_most (words.remainder a b) a (at_most_of (nat_eq b 0) (a % b) a (mod-le a b))

pub holds_22 : Holds table.axiom_22
holds_22 v in_range is met = equal _ _ (ap (λ n. val.Word n) (turned (word_of (v.value 0)) (word_of (v.value 1))))

pub holds_23 : Holds table.axiom_23
holds_23 v in_range is met = equal _ _ (ap (λ n. val.Word n) (regrouped (word_of (v.value 0)) (word_of (v.value 1)) (word_of (v.value 2))))

pub holds_24 : Holds table.axiom_24
holds_24 v in_range is met =
    equal _ (v.value 0) (ap (λ n. val.Word n) (back (word_of (v.value 0)) (word_of (v.value 1)) (below (v.value 0) (in_range 0)) (below (v.value 1) (in_range 1))) ∙ sym (is_word (v.value 0) is.0))

pub holds_25 : Holds table.axiom_25
holds_25 v in_range is met = is_at_most _ (word_of (v.value 0)) (and_le_l (word_of (v.value 0)) (word_of (v.value 1)))

pub holds_26 : Holds table.axiom_26
holds_26 v in_range is met = equal _ (v.value 0) (ap (λ n. val.Word n) (once (word_of (v.value 0)) (below (v.value 0) (in_range 0))) ∙ sym (is_word (v.value 0) is.0))

pub holds_27 : Holds table.axiom_27
holds_27 v in_range is met =
    let a = word_of (v.value 0) in
    let b = word_of (v.value 1) in
    equal _ (v.value 0) (ap (λ n. val.Word n) (put_together a b (below (v.value 0) (in_range 0)) (less 0 b (met.0 tt))) ∙ sym (is_word (v.value 0) is.0))
