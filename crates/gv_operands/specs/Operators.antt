-- What an operator makes of two operands, by what these are.
use Rattle.std.specs.Prelude.{ℕ, ◌+◌, ◌-◌, ◌*◌, ◌/◌, ◌%◌, ◌^◌, Bool, true, false, ◌&&◌, ◌||◌, ◌==◌, not, nat_lt, nat_le, if◌then◌else◌, List, [], ◌∷◌, Option, Some, None, bit_and, bit_or, bit_xor}
use Rattle.gv_grammar.specs.Derivation.{is_among}
use Rattle.gv_gosyntax.specs.declared.generated.gosyntax_table.TheConstants.{CLASS_AMP, CLASS_AMP_CARET, CLASS_AND_AND, CLASS_AT_LEAST, CLASS_AT_MOST, CLASS_BANG, CLASS_BAR, CLASS_CARET, CLASS_EQUAL, CLASS_GREATER, CLASS_LESS, CLASS_MINUS, CLASS_NOT_EQUAL, CLASS_OR_OR, CLASS_PERCENT, CLASS_PERCENT_ASSIGN, CLASS_PLUS, CLASS_SHIFT_LEFT, CLASS_SHIFT_RIGHT, CLASS_SLASH, CLASS_SLASH_ASSIGN, CLASS_STAR}
use Rattle.gv_operands.specs.declared.types.GoType.TheVariants.{Word, Byte, Boolean}
use Rattle.gv_operands.specs.declared.types.Value.{Value}
use Rattle.gv_operands.specs.declared.types.Value.TheVariants.{Count, Truth}
use Rattle.gv_operands.specs.declared.types.Kind.{Kind}
use Rattle.gv_operands.specs.declared.types.Kind.TheVariants.{Untyped, OfWord, OfByte, OfBool}
use Rattle.gv_operands.specs.declared.types.Class.{Class}
use Rattle.gv_operands.specs.declared.types.Class.TheVariants.{Run, Fixed, Shifted, Nil, Length}
use Rattle.gv_operands.specs.Types.{meets_nil}

-- ---- operators by their signs

abbrev pub ordering : List ℕ
ordering = CLASS_LESS ∷ CLASS_AT_MOST ∷ CLASS_GREATER ∷ CLASS_AT_LEAST ∷ []

abbrev pub equating : List ℕ
equating = CLASS_EQUAL ∷ CLASS_NOT_EQUAL ∷ []

abbrev pub joining : List ℕ
joining = CLASS_AND_AND ∷ CLASS_OR_OR ∷ []

abbrev pub shifting : List ℕ
shifting = CLASS_SHIFT_LEFT ∷ CLASS_SHIFT_RIGHT ∷ []

abbrev pub dividing : List ℕ
dividing = CLASS_SLASH ∷ CLASS_PERCENT ∷ CLASS_SLASH_ASSIGN ∷ CLASS_PERCENT_ASSIGN ∷ []

-- ---- constants

-- a number from 0 to 2^64-1, and one up to 255
abbrev pub word_within : ℕ → Option Value
word_within n = if nat_lt n (2 ^ 64) then Some (Count n) else None

abbrev pub byte_within : ℕ → Option Value
byte_within n = if nat_lt n 256 then Some (Count n) else None

-- one without a sign, or less than 0
abbrev pub difference : ℕ → ℕ → Option Value
difference a b = if nat_le b a then word_within (a - b) else None

-- a shift count has no limit
abbrev pub shifted_left : ℕ → ℕ → Option Value
shifted_left a n = if a == 0 then Some (Count 0) else (if nat_lt n 64 then word_within (a * 2 ^ n) else None)

abbrev pub shifted_right : ℕ → ℕ → Option Value
shifted_right a n = if nat_lt n 64 then Some (Count (a / 2 ^ n)) else Some (Count 0)

abbrev pub divided : (ℕ → ℕ → ℕ) → ℕ → ℕ → Option Value
divided of a b = if b == 0 then None else Some (Count (of a b))

-- an operator on bits, and shifts
abbrev pub computed_bits : ℕ → ℕ → ℕ → Option Value
computed_bits sign a b =
    if sign == CLASS_AMP then Some (Count (bit_and a b)) else (
    if sign == CLASS_BAR then Some (Count (bit_or a b)) else (
    if sign == CLASS_CARET then Some (Count (bit_xor a b)) else (
    if sign == CLASS_AMP_CARET then Some (Count (a - bit_and a b)) else (
    if sign == CLASS_SHIFT_LEFT then shifted_left a b else shifted_right a b))))

-- an operator over whole numbers; its value is outside where it is less than 0 or more than 2^64-1
abbrev pub computed : ℕ → ℕ → ℕ → Option Value
computed sign a b =
    if sign == CLASS_PLUS then word_within (a + b) else (
    if sign == CLASS_MINUS then difference a b else (
    if sign == CLASS_STAR then word_within (a * b) else (
    if sign == CLASS_SLASH then divided (λ m n. m / n) a b else (
    if sign == CLASS_PERCENT then divided (λ m n. m % n) a b else computed_bits sign a b))))

abbrev pub compared : ℕ → ℕ → ℕ → Value
compared sign a b =
    if sign == CLASS_LESS then Truth (nat_lt a b) else (
    if sign == CLASS_AT_MOST then Truth (nat_le a b) else (
    if sign == CLASS_GREATER then Truth (nat_lt b a) else (
    if sign == CLASS_AT_LEAST then Truth (nat_le b a) else (
    if sign == CLASS_EQUAL then Truth (a == b) else Truth (not (a == b))))))

abbrev pub joined : ℕ → Bool → Bool → Value
joined sign p q =
    if sign == CLASS_AND_AND then Truth (p && q) else (
    if sign == CLASS_OR_OR then Truth (p || q) else (
    if sign == CLASS_EQUAL then Truth (if p then q else not q) else Truth (if p then not q else q)))

-- a value of two, where both are there
abbrev pub of_counts : (ℕ → ℕ → Option Value) → Option Value → Option Value → Option Value
of_counts f (Some (Count a)) (Some (Count b)) = f a b
of_counts f _ _ = None

abbrev pub of_truths : (Bool → Bool → Value) → Option Value → Option Value → Option Value
of_truths f (Some (Truth p)) (Some (Truth q)) = Some (f p q)
of_truths f _ _ = None

-- ---- operands of one type

-- what may stand where a `uint64` is wanted
abbrev pub takes_word : Class → Bool
takes_word (Run Word) = true
takes_word (Fixed Untyped v) = true
takes_word (Fixed OfWord v) = true
takes_word Shifted = true
takes_word _ = false

-- and where a byte is compared
abbrev pub takes_byte : Class → Bool
takes_byte (Run Byte) = true
takes_byte (Fixed Untyped v) = true
takes_byte (Fixed OfByte v) = true
takes_byte _ = false

abbrev pub takes_truth : Class → Bool
takes_truth (Run Boolean) = true
takes_truth (Fixed OfBool v) = true
takes_truth _ = false

-- has no type of its own
abbrev pub is_untyped : Class → Bool
is_untyped (Fixed Untyped v) = true
is_untyped Shifted = true
is_untyped _ = false

abbrev pub is_fixed : Class → Bool
is_fixed (Fixed k v) = true
is_fixed _ = false

abbrev pub value_in : Class → Option Value
value_in (Fixed k v) = v
value_in _ = None

-- the kind of two constants of one type, of which one may be without
abbrev pub common : Class → Class → Kind
common (Fixed Untyped v) (Fixed k w) = k
common (Fixed k v) _ = k
common _ _ = Untyped

-- a constant above 255 that stands beside a byte
abbrev pub as_byte : Kind → Option Value → Option Value
as_byte OfByte (Some (Count n)) = byte_within n
as_byte k v = v

-- ---- two operands

-- `+ - | ^ * / % & &^`: of words
abbrev pub arithmetic : ℕ → Class → Class → Option Class
arithmetic sign a b =
    if not (takes_word a && takes_word b) then None else (
    if is_fixed a && is_fixed b then Some (Fixed (common a b) (of_counts (computed sign) (value_in a) (value_in b))) else (
    if is_untyped a && is_untyped b then Some Shifted else Some (Run Word)))

-- `<<` and `>>`: a word, or a number without a type, by a word. What is shifted gives the type.
abbrev pub shift : ℕ → Class → Class → Option Class
shift sign a b =
    if not (takes_word a && takes_word b) then None else (
    if is_fixed a && is_fixed b then Some (Fixed (common a a) (of_counts (computed sign) (value_in a) (value_in b))) else (
    if is_untyped a then Some Shifted else Some (Run Word)))

-- how two constants of one type compare; a byte is at most 255
abbrev pub compared_constants : ℕ → Class → Class → Option Value
compared_constants sign a b =
    of_counts (λ m n. Some (compared sign m n)) (as_byte (common a b) (value_in a)) (as_byte (common a b) (value_in b))

-- a comparison of words, or of bytes: both may be numbers without a type only where both are constants
abbrev pub comparison : ℕ → Class → Class → Option Class
comparison sign a b =
    if not (takes_word a && takes_word b || takes_byte a && takes_byte b) then None else (
    if is_fixed a && is_fixed b then Some (Fixed OfBool (compared_constants sign a b)) else (
    if is_untyped a && is_untyped b then None else Some (Run Boolean)))

abbrev pub logic : ℕ → Class → Class → Option Class
logic sign a b =
    if not (takes_truth a && takes_truth b) then None else (
    if is_fixed a && is_fixed b then Some (Fixed OfBool (of_truths (joined sign) (value_in a) (value_in b))) else Some (Run Boolean))

-- a pointer or a map beside `nil`
abbrev pub is_with_nil : Class → Class → Bool
is_with_nil (Run t) Nil = meets_nil t
is_with_nil Nil (Run t) = meets_nil t
is_with_nil _ _ = false

abbrev pub equation : ℕ → Class → Class → Option Class
equation sign a b =
    if is_with_nil a b then Some (Run Boolean) else (
    if takes_truth a && takes_truth b then logic sign a b else comparison sign a b)

-- what a binary operator makes of two operands, where it takes them
abbrev pub binary : ℕ → Class → Class → Option Class
binary sign a b =
    if is_among sign joining then logic sign a b else (
    if is_among sign equating then equation sign a b else (
    if is_among sign ordering then comparison sign a b else (
    if is_among sign shifting then shift sign a b else arithmetic sign a b)))

-- ---- one operand

-- `!` of a truth value
abbrev pub negated : Class → Option Class
negated (Run Boolean) = Some (Run Boolean)
negated (Fixed OfBool (Some (Truth p))) = Some (Fixed OfBool (Some (Truth (not p))))
negated (Fixed OfBool v) = Some (Fixed OfBool None)
negated _ = None

-- `^`: of a number without a type it is -1 - c, which is less than 0; of a word it is 2^64 - 1 - c
abbrev pub inverted : Class → Option Class
inverted (Run Word) = Some (Run Word)
inverted (Fixed Untyped v) = Some (Fixed Untyped None)
inverted (Fixed OfWord (Some (Count c))) = Some (Fixed OfWord (Some (Count (2 ^ 64 - 1 - c))))
inverted (Fixed OfWord v) = Some (Fixed OfWord None)
inverted Shifted = Some Shifted
inverted _ = None

abbrev pub unary : ℕ → Class → Option Class
unary sign a = if sign == CLASS_BANG then negated a else inverted a

-- ---- conversions

abbrev pub to_word : Class → Option Class
to_word (Run Word) = Some (Run Word)
to_word (Run Byte) = Some (Run Word)
to_word (Fixed OfBool v) = None
to_word (Fixed k v) = Some (Fixed OfWord v)
to_word Shifted = Some (Run Word)
to_word Length = Some (Run Word)
to_word _ = None

-- Go makes a byte of the `1` in `byte(1 << n)`, so this is none
abbrev pub to_byte : Class → Option Class
to_byte (Run Word) = Some (Run Byte)
to_byte (Run Byte) = Some (Run Byte)
to_byte (Fixed OfBool v) = None
to_byte (Fixed k v) = Some (Fixed OfByte (as_byte OfByte v))
to_byte _ = None
