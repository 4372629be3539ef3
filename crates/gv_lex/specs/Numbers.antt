-- Numbers as pieces, right and wrong.
use Rattle.std.specs.Prelude.{ℕ, ◌^◌, Bool, not, ◌||◌, ◌&&◌, ◌==◌, nat_le, if◌then◌else◌, List, length, drop, slice_index}
use Rattle.std.specs.Char.{is_digit}
use Rattle.std.specs.List.{list_all, prefix_len}
use Rattle.gv_text.specs.Digits.{value_of}
use Rattle.gv_termread.specs.Numbers.{has_prefix}
use Rattle.gv_lex.specs.Bytes.{is_name_byte}

-- the letters, digits and `_` at the start
abbrev pub number_length : List ℕ → ℕ
number_length text = prefix_len is_name_byte text

-- at least one digit, and digits alone
abbrev pub are_digits : ℕ → List ℕ → Bool
are_digits radix bytes = not (length bytes == 0) && list_all (λ b. is_digit b radix) bytes

-- the largest number that a text may hold
abbrev pub largest : ℕ
largest = 2 ^ 127

-- decimal digits without a leading zero, up to the largest number
abbrev pub is_right_decimal : List ℕ → Bool
is_right_decimal digits =
    are_digits 10 digits && ((length digits == 1 || not (slice_index digits 0 == 48)) && nat_le (value_of 10 digits) largest)

-- hexadecimal digits of either case, up to the largest number
abbrev pub is_right_hexadecimal : List ℕ → Bool
is_right_hexadecimal digits = are_digits 16 digits && nat_le (value_of 16 digits) largest

-- a decimal number, or `0x` and hexadecimal digits
abbrev pub is_right_number : List ℕ → Bool
is_right_number bytes = if has_prefix bytes then is_right_hexadecimal (drop 2 bytes) else is_right_decimal bytes
