-- Classes of bytes.
use Rattle.std.specs.Prelude.{ℕ, Bool, ◌||◌, ◌==◌}
use Rattle.std.specs.Char.{is_ascii_alphabetic, is_ascii_alphanumeric, is_digit}
use Rattle.gv_text.specs.Bytes.{is_underscore}

-- what an identifier may begin with: an ASCII letter or `_`
abbrev pub is_name_start : ℕ → Bool
is_name_start b = is_ascii_alphabetic b || is_underscore b

-- an ASCII letter, an ASCII digit or `_`
abbrev pub is_name_byte : ℕ → Bool
is_name_byte b = is_ascii_alphanumeric b || is_underscore b

abbrev pub is_dot : ℕ → Bool
is_dot b = b == 46

abbrev pub is_hash : ℕ → Bool
is_hash b = b == 35

-- a hexadecimal digit of either case
abbrev pub is_hex : ℕ → Bool
is_hex b = is_digit b 16
