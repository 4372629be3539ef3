-- A number, digit by digit.
use Rattle.std.proofs.Common.{◌≡◌, ℕ, ◌+◌, ◌-◌, ◌*◌, ◌^◌, ◌<◌, ◌≤◌, Bool, true, false, cond, List, [], ◌∷◌, length, take, get_or, Option, Some, None, refl, sym, ap, subst, ◌∙◌, arith, rules, tests}
use Rattle.std.specs.Prelude.{◌&&◌, nat_lt, nat_le}
use Rattle.std.specs.List.{list_all}
use Rattle.std.specs.Char.{digit_value}
use Rattle.std.specs.Str.Parse.{digits_value}
use Rattle.std.proofs.lemmas.List.{take_all}
use Rattle.std.proofs.lemmas.List.Folds.{list_all_at}
use Rattle.std.proofs.lemmas.Int.Digits.{digits_value_more}
use Rattle.std.proofs.lemmas.Str.{digit_value_digit}
use Rattle.std.proofs.lemmas.Str.Parse.{digits_value-take-le}
use Rattle.gv_small.specs.Forms.{is_digit, word_number}
use Rattle.gv_small.proofs.Cuts.{both, false_true}

pub digit_at : (w : List ℕ) (i : ℕ) → list_all is_digit w ≡ true → i < length w → (48 ≤ get_or w i 0) × (get_or w i 0 ≤ 57)
digit_at w i h l = go (is_digit (get_or w i 0)) refl
  where
    go : (t : Bool) → is_digit (get_or w i 0) ≡ t → (48 ≤ get_or w i 0) × (get_or w i 0 ≤ 57)
    go true e = let p = both (nat_le 48 (get_or w i 0)) (nat_le (get_or w i 0) 57) e in (search (rules, tests, p.0), search (rules, tests, p.1))
    go false e = absurd (false_true (sym (list_all_at is_digit w i 0 l e) ∙ h))

pub one_more_digit : (w : List ℕ) (i value digit : ℕ) → list_all is_digit w ≡ true → i < length w → value ≡ digits_value 10 (take i w) → digit ≡ get_or w i 0 - 48 →
    value * 10 + digit ≡ digits_value 10 (take (i + 1) w)
one_more_digit w i value digit h l v d =
    let p = digit_at w i h l in
    let e : digit_value (get_or w i 0) + 48 ≡ get_or w i 0 = digit_value_digit (get_or w i 0) p in
    let m = digits_value_more 10 w i l in
    let low : 48 ≤ get_or w i 0 = p.0 in
    let same : digit ≡ digit_value (get_or w i 0) = omega (arith, e, d, low) in
    ap (λ x. x * 10 + digit) v ∙ ap (λ x. digits_value 10 (take i w) * 10 + x) same ∙ sym m

pub too_large : (w : List ℕ) (i value digit : ℕ) → list_all is_digit w ≡ true → i < length w → value ≡ digits_value 10 (take i w) → digit ≡ get_or w i 0 - 48 →
    2 ^ 64 ≤ value * 10 + digit → word_number w ≡ None
too_large w i value digit h l v d big =
    let e = one_more_digit w i value digit h l v d in
    let le = digits_value-take-le 10 w (i + 1) (omega arith) in
    let large : 2 ^ 64 ≤ digits_value 10 w = omega (arith, e, le, big) in
    let test : nat_lt (digits_value 10 w) (2 ^ 64) ≡ false = search (rules, tests, large) in
    rw test refl

pub whole_number : (w : List ℕ) (i value : ℕ) → value < 2 ^ 64 → value ≡ digits_value 10 (take i w) → length w ≤ i → Some value ≡ word_number w
whole_number w i value f v l =
    let e : value ≡ digits_value 10 w = v ∙ ap (digits_value 10) (take_all i w l) in
    let test : nat_lt (digits_value 10 w) (2 ^ 64) ≡ true = search (rules, tests, subst (λ n. n < 2 ^ 64) e f) in
    rw test (ap Some e)
