-- The value of a number of a text.
use Rattle.std.specs.Prelude.{ℕ, Bool, ◌&&◌, ◌==◌, nat_lt, if◌then◌else◌, List, drop, slice_index}
use Rattle.gv_text.specs.Digits.{value_of, largest_word}

-- whether bytes begin with `0x`
abbrev pub has_prefix : List ℕ → Bool
has_prefix bytes = slice_index bytes 0 == 48 && slice_index bytes 1 == 120

-- of decimal digits, or of hexadecimal ones behind `0x`
abbrev pub number_value : List ℕ → ℕ
number_value bytes = if has_prefix bytes then value_of 16 (drop 2 bytes) else value_of 10 bytes

-- 2^64 or more
abbrev pub is_large_number : List ℕ → Bool
is_large_number bytes = nat_lt largest_word (number_value bytes)
