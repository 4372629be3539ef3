-- The value of digits.
use Rattle.std.specs.Prelude.{ℕ, ◌+◌, ◌*◌, ◌-◌, ◌^◌, nat_le, if◌then◌else◌, Option, Some, None, List, fold}
use Rattle.std.specs.Char.{digit_value}
use Rattle.gv_text.specs.Bytes.{is_underscore}

-- one digit more; a `_` is passed over
abbrev pub with_digit : ℕ → ℕ → ℕ → ℕ
with_digit radix n b = if is_underscore b then n else n * radix + digit_value b

-- the value of digits, of which the first one counts most
unfoldable pub value_of : ℕ → List ℕ → ℕ
value_of radix digits = fold (with_digit radix) 0 digits

-- a number up to a bound, or none
abbrev pub up_to : ℕ → ℕ → Option ℕ
up_to most n = if nat_le n most then Some n else None

-- the largest number of 64 bits
abbrev pub largest_word : ℕ
largest_word = 2 ^ 64 - 1
