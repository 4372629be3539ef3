-- Numbers: the Go specification, sections "Integer literals" to "Imaginary literals".
use Rattle.std.specs.Prelude.{ℕ, ◌+◌, ◌*◌, ◌^◌, Bool, true, false, not, ◌||◌, ◌&&◌, ◌==◌, nat_lt, if◌then◌else◌, Option, Some, None, is_some, List, [], ◌∷◌, length, take, drop, fold, slice_index}
use Rattle.std.specs.Char.{is_digit}
use Rattle.gv_base.specs.declared.answers.Code.{Code}
use Rattle.gv_base.specs.declared.answers.Code.TheVariants.{BadNumber, NotInProfile}
use Rattle.gv_text.specs.Bytes.{is_underscore}
use Rattle.gv_text.specs.Digits.{value_of, up_to, largest_word}
use Rattle.gv_text.specs.Lengths.{nothing, optional, in_turn}
use Rattle.gv_tokens.specs.declared.bytes.Class.{Class}
use Rattle.gv_tokens.specs.declared.bytes.Class.TheVariants.{DecimalDigits, HexDigits}
use Rattle.gv_tokens.specs.Bytes.{run}
use Rattle.gv_tokens.specs.declared.numbers.Base.{Base}
use Rattle.gv_tokens.specs.declared.numbers.Base.TheVariants.{Binary, Octal, Decimal, Hex}

-- the byte after a leading 0 in either case
abbrev pub base_by : ℕ → Base
base_by c =
    if c == 120 || c == 88 then Hex else (
    if c == 98 || c == 66 then Binary else (
    if c == 111 || c == 79 then Octal else Decimal))

abbrev pub base_of : List ℕ → Base
base_of text = if slice_index text 0 == 48 then base_by (slice_index text 1) else Decimal

abbrev pub prefix_length : Base → ℕ
prefix_length Decimal = 0
prefix_length Hex = 2
prefix_length Binary = 2
prefix_length Octal = 2

abbrev pub radix_of : Base → ℕ
radix_of Decimal = 10
radix_of Hex = 16
radix_of Binary = 2
radix_of Octal = 8

abbrev pub digits_of : Base → Class
digits_of Hex = HexDigits
digits_of Decimal = DecimalDigits
digits_of Binary = DecimalDigits
digits_of Octal = DecimalDigits

-- ---- the piece: a prefix, digits and `_`, fraction, exponent and `i`, right or wrong

abbrev pub is_point : ℕ → Bool
is_point b = b == 46

abbrev pub is_exponent_letter : ℕ → Bool
is_exponent_letter b = (b == 101 || b == 69) || (b == 112 || b == 80)

abbrev pub is_plus_or_minus : ℕ → Bool
is_plus_or_minus b = b == 43 || b == 45

abbrev pub is_i : ℕ → Bool
is_i b = b == 105

abbrev pub fraction_length : Class → List ℕ → ℕ
fraction_length class = optional is_point (run class)

abbrev pub sign_length : List ℕ → ℕ
sign_length = optional is_plus_or_minus nothing

abbrev pub exponent_length : List ℕ → ℕ
exponent_length = optional is_exponent_letter (in_turn sign_length (run DecimalDigits))

abbrev pub imaginary_length : List ℕ → ℕ
imaginary_length = optional is_i nothing

abbrev pub parts_length : Class → List ℕ → ℕ
parts_length class = in_turn (run class) (in_turn (fraction_length class) (in_turn exponent_length imaginary_length))

unfoldable pub number_length : List ℕ → ℕ
number_length text = let base = base_of text in
    prefix_length base + parts_length (digits_of base) (drop (prefix_length base) text)

-- ---- which of these are numbers

-- Digits, and a `_` only where a digit stands before it and after it. The flag says that one stands before, or a
-- prefix, which counts as one.
unfoldable pub is_spaced : ℕ → Bool → List ℕ → Bool
is_spaced radix after [] = after
is_spaced radix after (b ∷ bs) =
    if is_digit b radix then is_spaced radix true bs else after && (is_underscore b && is_spaced radix false bs)

abbrev pub is_spaced_or_empty : ℕ → Bool → List ℕ → Bool
is_spaced_or_empty radix after digits = length digits == 0 || is_spaced radix after digits

-- an integer of the profile: with a prefix, or decimal and then without a leading zero
abbrev pub is_integer : Base → List ℕ → Bool
is_integer Decimal digits = is_spaced 10 false digits && (length digits == 1 || not (slice_index digits 0 == 48))
is_integer Hex digits = not (length digits == 0) && is_spaced 16 true digits
is_integer Binary digits = not (length digits == 0) && is_spaced 2 true digits
is_integer Octal digits = not (length digits == 0) && is_spaced 8 true digits

abbrev pub is_decimal_base : Base → Bool
is_decimal_base Decimal = true
is_decimal_base Hex = false
is_decimal_base Binary = false
is_decimal_base Octal = false

abbrev pub is_e : ℕ → Bool
is_e b = b == 101 || b == 69

-- the digits of an exponent, after its letter and sign
abbrev pub exponent_digits : List ℕ → List ℕ
exponent_digits exponent = drop (sign_length (drop 1 exponent)) (drop 1 exponent)

-- a float: digits before or after the point, and an exponent, which a hexadecimal one has to have
abbrev pub is_decimal_float : List ℕ → List ℕ → List ℕ → Bool
is_decimal_float whole fraction exponent =
    (is_spaced_or_empty 10 false whole && is_spaced_or_empty 10 false fraction)
    && (not (length whole == 0 && length fraction == 0)
    && (length exponent == 0 || is_e (slice_index exponent 0) && is_spaced 10 false (exponent_digits exponent)))

abbrev pub is_hex_float : List ℕ → List ℕ → List ℕ → Bool
is_hex_float whole fraction exponent =
    (is_spaced_or_empty 16 true whole && is_spaced_or_empty 16 false fraction)
    && (not (length whole == 0 && length fraction == 0)
    && (not (length exponent == 0) && is_spaced 10 false (exponent_digits exponent)))

abbrev pub is_float : Base → List ℕ → List ℕ → List ℕ → Bool
is_float Decimal whole fraction exponent = is_decimal_float whole fraction exponent
is_float Hex whole fraction exponent = is_hex_float whole fraction exponent
is_float Binary whole fraction exponent = false
is_float Octal whole fraction exponent = false

-- a literal of Go that is none of the profile: a float, an imaginary one, or an octal one with a leading zero
abbrev pub is_other : Base → List ℕ → List ℕ → List ℕ → List ℕ → Bool
is_other base whole fraction exponent imaginary =
    if length fraction == 0 && length exponent == 0
    then (if length imaginary == 0
    then is_decimal_base base && is_spaced 8 false whole
    else is_integer base whole || is_decimal_base base && is_spaced 10 false whole)
    else is_float base whole (drop 1 fraction) exponent

-- the fault of a number by its parts
abbrev pub parts_fault : Base → List ℕ → List ℕ → List ℕ → List ℕ → Option Code
parts_fault base whole fraction exponent imaginary =
    if (is_integer base whole && length fraction == 0) && (length exponent == 0 && length imaginary == 0)
    then (if is_some (up_to largest_word (value_of (radix_of base) whole)) then None else Some BadNumber)
    else (if is_other base whole fraction exponent imaginary then Some NotInProfile else Some BadNumber)

-- the fault of a number
unfoldable pub number_fault : List ℕ → Option Code
number_fault bytes =
    let base = base_of bytes in
    let class = digits_of base in
    let body = drop (prefix_length base) bytes in
    let after_whole = drop (run class body) body in
    let after_fraction = drop (fraction_length class after_whole) after_whole in
    let exponent = exponent_length after_fraction in
    parts_fault base (take (run class body) body) (take (fraction_length class after_whole) after_whole)
    (take exponent after_fraction) (drop exponent after_fraction)
