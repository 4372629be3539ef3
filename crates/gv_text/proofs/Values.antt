-- The value of digits grows with each digit.
use Rattle.std.proofs.Common.{◌≡◌, ◌<◌, ◌≤◌, ◌+◌, ◌*◌, Some, None, ℕ, Bool, true, false, cond, List, [], ◌∷◌, fold, length, drop, get_or, sym, ap, ◌∙◌, arith}
use Rattle.std.proofs.lemmas.List.{at_drop_more, at_drop_all}
use Rattle.std.proofs.Math.Nat.{mul-le-mul_left}
use Rattle.std.specs.Char.{digit_value}
use Rattle.gv_text.specs.Bytes.{is_underscore}
use Rattle.gv_text.specs.Digits.{with_digit, up_to, value_of}

step_grows : (radix n b : ℕ) (u : Bool) → 1 ≤ radix → n ≤ cond u n (n * radix + digit_value b)
step_grows radix n b true h = omega arith
step_grows radix n b false h = omega (arith, mul-le-mul_left n h)

pub digit_grows : (radix n b : ℕ) → 1 ≤ radix → n ≤ with_digit radix n b
digit_grows radix n b h = step_grows radix n b (is_underscore b) h

pub value_grows : (radix : ℕ) → 1 ≤ radix → (n : ℕ) (digits : List ℕ) → n ≤ fold (with_digit radix) n digits
value_grows radix h n [] = omega arith
value_grows radix h n (b ∷ bs) = omega (arith, digit_grows radix n b h, value_grows radix h (with_digit radix n b) bs)

pub small_fits : (most n : ℕ) → n ≤ most → up_to most n ≡ Some n
small_fits most n h = grind arith

pub large_fits : (most n : ℕ) → most < n → up_to most n ≡ None
large_fits most n h = grind arith

pub large_from_none : (most n : ℕ) → up_to most n ≡ None → most < n
large_from_none most n e = grind arith

pub small_from_some : (most n m : ℕ) → up_to most n ≡ Some m → (m ≤ most) × (m ≡ n)
small_from_some most n m e = (grind arith, grind arith)

-- a digit with which the value is too large
pub value_overflows : (radix most : ℕ) (digits : List ℕ) (i n : ℕ) → 1 ≤ radix → i < length digits
    → fold (with_digit radix) n (drop i digits) ≡ fold (with_digit radix) 0 digits → None ≡ up_to most (with_digit radix n (get_or digits i 0))
    → None ≡ up_to most (value_of radix digits)
unfolding value_of
value_overflows radix most digits i n h l e f =
    let next = with_digit radix n (get_or digits i 0) in
    let large : most < next = large_from_none most next (sym f) in
    let step : fold (with_digit radix) n (drop i digits) ≡ fold (with_digit radix) next (drop (i + 1) digits) = at_drop_more (fold (with_digit radix) n) digits i 0 l in
    let grows = value_grows radix h next (drop (i + 1) digits) in
    sym (large_fits most (fold (with_digit radix) 0 digits) (omega arith))

-- past the last digit
pub value_ends : (radix most : ℕ) (digits : List ℕ) (i n : ℕ) → length digits ≤ i → fold (with_digit radix) n (drop i digits) ≡ fold (with_digit radix) 0 digits
    → n ≤ most → Some n ≡ up_to most (value_of radix digits)
unfolding value_of
value_ends radix most digits i n l e h =
    let same : n ≡ fold (with_digit radix) 0 digits = sym (at_drop_all (fold (with_digit radix) n) digits i l) ∙ e in
    sym (small_fits most n h) ∙ ap (up_to most) same
