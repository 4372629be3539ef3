-- The bytes that hexadecimal digits spell.
use Rattle.std.specs.Prelude.{ℕ, ◌+◌, ◌*◌, nat_lt, if◌then◌else◌, List, [], ◌∷◌}
use Rattle.std.specs.Char.{digit_value}

-- the value of a hexadecimal digit of either case
abbrev pub hex_value : ℕ → ℕ
hex_value b = if nat_lt (digit_value b) 16 then digit_value b else 0

-- two digits a byte, the higher one first
abbrev pub bytes_of : List ℕ → List ℕ
bytes_of [] = []
bytes_of (high ∷ []) = []
bytes_of (high ∷ low ∷ digits) = (16 * hex_value high + hex_value low) ∷ bytes_of digits
