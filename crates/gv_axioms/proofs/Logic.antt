-- The axioms of formulas and of order.
use Rattle.std.proofs.Common.{◌≡◌, Bool, true, false, not, ◌&&◌, ◌||◌, cond, refl, ap, sym, ◌∙◌, arith}
use Rattle.gv_terms.specs.declared.value.Value.{Value}
use Rattle.gv_terms.specs.declared.value.Value.TheVariants as val
use Rattle.gv_terms.specs.Values.{word_of, truth_of}
use Rattle.gv_axioms.specs.Table as table
use Rattle.gv_axioms.proofs.Worth.{Holds}
use Rattle.gv_axioms.proofs.Values.{is_word, is_bool, below, yes, say, equal, differ, apart, less, is_less, at_most, is_at_most, not_less, not_at_most, doubly}

both_left : (p q : Bool) → (p && q) ≡ true → p ≡ true
both_left true q e = refl
both_left false q e = absurd cc

both_right : (p q : Bool) → (p && q) ≡ true → q ≡ true
both_right true q e = e
both_right false q e = absurd cc

both : (p q : Bool) → p ≡ true → q ≡ true → (p && q) ≡ true
both true q e f = f
both false q e f = absurd cc

either_left : (p q : Bool) → p ≡ true → (p || q) ≡ true
either_left true q e = refl
either_left false q e = absurd cc

either_right : (p q : Bool) → q ≡ true → (p || q) ≡ true
either_right true q e = refl
either_right false q e = e

other : (p q : Bool) → (p || q) ≡ true → not p ≡ true → q ≡ true
other true q e f = absurd cc
other false q e f = e

implied : (p q : Bool) → (not p || q) ≡ true → p ≡ true → q ≡ true
implied true q e f = e
implied false q e f = absurd cc

first_of : (b : Bool) (x y : Value) → b ≡ true → cond b x y ≡ x
first_of true x y e = refl
first_of false x y e = absurd cc

second_of : (b : Bool) (x y : Value) → not b ≡ true → cond b x y ≡ y
second_of true x y e = absurd cc
second_of false x y e = refl

pub holds_1 : Holds table.axiom_1
holds_1 v in_range is met = is_bool (v.value 0) is.0 ∙ say (truth_of (v.value 0)) (both_left _ (truth_of (v.value 1)) (yes _ (met.0 tt)))

pub holds_2 : Holds table.axiom_2
holds_2 v in_range is met = is_bool (v.value 1) is.1.0 ∙ say (truth_of (v.value 1)) (both_right (truth_of (v.value 0)) _ (yes _ (met.0 tt)))

pub holds_3 : Holds table.axiom_3
holds_3 v in_range is met = say _ (both (truth_of (v.value 0)) (truth_of (v.value 1)) (ap truth_of (met.0 tt)) (ap truth_of (met.1.0 tt)))

pub holds_4 : Holds table.axiom_4
holds_4 v in_range is met = say _ (either_left (truth_of (v.value 0)) (truth_of (v.value 1)) (ap truth_of (met.0 tt)))

pub holds_5 : Holds table.axiom_5
holds_5 v in_range is met = say _ (either_right (truth_of (v.value 0)) (truth_of (v.value 1)) (ap truth_of (met.0 tt)))

pub holds_6 : Holds table.axiom_6
holds_6 v in_range is met = is_bool (v.value 1) is.1.0 ∙ say (truth_of (v.value 1)) (other (truth_of (v.value 0)) _ (yes _ (met.0 tt)) (yes _ (met.1.0 tt)))

pub holds_7 : Holds table.axiom_7
holds_7 v in_range is met = is_bool (v.value 1) is.1.0 ∙ say (truth_of (v.value 1)) (implied (truth_of (v.value 0)) _ (yes _ (met.0 tt)) (ap truth_of (met.1.0 tt)))

pub holds_8 : Holds table.axiom_8
holds_8 v in_range is met = is_bool (v.value 0) is.0 ∙ say (truth_of (v.value 0)) (doubly (truth_of (v.value 0)) (yes _ (met.0 tt)))

pub holds_9 : Holds table.axiom_9
holds_9 v in_range is met = is_at_most _ _ (not_less (word_of (v.value 0)) (word_of (v.value 1)) (met.0 tt))

pub holds_10 : Holds table.axiom_10
holds_10 v in_range is met = is_less _ _ (not_at_most (word_of (v.value 0)) (word_of (v.value 1)) (met.0 tt))

pub holds_11 : Holds table.axiom_11
holds_11 v in_range is met =
    let a = word_of (v.value 0) in
    let b = word_of (v.value 1) in
    let same : a ≡ b = omega (arith, at_most a b (met.0 tt), at_most b a (met.1.0 tt)) in
    equal (v.value 0) (v.value 1) (is_word (v.value 0) is.0 ∙ ap (λ n. val.Word n) same ∙ sym (is_word (v.value 1) is.1.0))

pub holds_12 : Holds table.axiom_12
holds_12 v in_range is met = is_at_most 0 (word_of (v.value 0)) (omega arith)

pub holds_13 : Holds table.axiom_13
holds_13 v in_range is met = is_at_most (word_of (v.value 0)) 18446744073709551615 (omega (arith, below (v.value 0) (in_range 0)))

pub holds_14 : Holds table.axiom_14
holds_14 v in_range is met = equal _ (v.value 1) (first_of (truth_of (v.value 0)) (v.value 1) (v.value 2) (ap truth_of (met.0 tt)))

pub holds_15 : Holds table.axiom_15
holds_15 v in_range is met = equal _ (v.value 2) (second_of (truth_of (v.value 0)) (v.value 1) (v.value 2) (yes _ (met.0 tt)))

pub holds_16 : Holds table.axiom_16
holds_16 v in_range is met =
    let a = word_of (v.value 0) in
    let b = word_of (v.value 1) in
    let ne : a ≡ b → ⊥ = apart (v.value 0) (v.value 1) is.0 is.1.0 (met.1.0 tt) in
    is_less a b (omega (arith, at_most a b (met.0 tt), ne))

pub holds_17 : Holds table.axiom_17
holds_17 v in_range is met =
    differ (v.value 0) (v.value 1) (λ e. let same : word_of (v.value 0) ≡ word_of (v.value 1) = ap word_of e in absurd (omega (arith, same, less (word_of (v.value 0)) (word_of (v.value 1)) (met.0 tt))))
