-- Rune literals as pieces: the Go specification, section "Rune literals".
use Rattle.std.specs.Prelude.{ℕ, ◌+◌, Bool, not, ◌||◌, ◌&&◌, ◌==◌, nat_lt, nat_le, if◌then◌else◌, is_some, List, [], ◌∷◌, length, take, drop, slice_index, codes}
use Rattle.std.specs.Char.{is_digit}
use Rattle.std.specs.List.{list_all, list_any}
use Rattle.std.specs.Str.{continuation_len}
use Rattle.gv_base.specs.Places.{is_newline}
use Rattle.gv_text.specs.Digits.{value_of}
use Rattle.gv_tokens.specs.declared.runes.Limit.{Limit}
use Rattle.gv_tokens.specs.declared.runes.Limit.TheVariants.{Byte, Scalar}
use Rattle.gv_tokens.specs.Chars.{first_char}

-- what an escape by number may stand for
abbrev pub is_allowed : Limit → ℕ → Bool
is_allowed Byte n = nat_lt n 256
is_allowed Scalar n = nat_lt n 0xD800 || nat_le 0xE000 n && nat_lt n 0x11_0000

-- so many digits, where they stand for what is allowed; or nothing
unfoldable pub code_length : ℕ → ℕ → Limit → List ℕ → ℕ
code_length radix count limit text =
    let digits = take count text in
    if length digits == count && (list_all (λ b. is_digit b radix) digits && is_allowed limit (value_of radix digits)) then count else 0

-- a byte more, where there is something
abbrev pub one_more : ℕ → ℕ
one_more n = if n == 0 then 0 else 1 + n

abbrev pub is_simple_escape : ℕ → Bool
is_simple_escape b = list_any (λ c. b == c) (codes "abfnrtv\\'")

-- what may follow a backslash
abbrev pub escape_length : List ℕ → ℕ
escape_length [] = 0
escape_length (b ∷ bs) =
    if is_simple_escape b then 1 else (
    if b == 120 then one_more (code_length 16 2 Byte bs) else (
    if b == 117 then one_more (code_length 16 4 Scalar bs) else (
    if b == 85 then one_more (code_length 16 8 Scalar bs) else code_length 8 3 Byte (b ∷ bs))))

-- a character or an escape
abbrev pub rune_value : List ℕ → ℕ
rune_value [] = 0
rune_value (b ∷ bs) =
    if b == 92 then one_more (escape_length bs) else (
    if b == 39 || is_newline b then 0 else (
    if is_some (first_char (b ∷ bs)) then 1 + continuation_len b else 0))

-- such a value between quotes; or nothing
unfoldable pub rune_length : List ℕ → ℕ
rune_length [] = 0
rune_length (b ∷ bs) =
    let n = rune_value bs in
    if not (n == 0) && slice_index (drop n bs) 0 == 39 then n + 2 else 0
