-- Arithmetic on words, and words as bytes.
use Rattle.std.specs.Prelude.{ℕ, zero, suc, ◌+◌, ◌-◌, ◌*◌, ◌/◌, ◌%◌, ◌^◌, List, [], ◌∷◌, ◌++◌, Bool, if◌then◌else◌, nat_eq, nat_lt, bit_and, take, drop, length}

-- how many words there are
abbrev pub words : ℕ
words = 2 ^ 64

abbrev pub plus : ℕ → ℕ → ℕ
plus a b = (a + b) % words

abbrev pub minus : ℕ → ℕ → ℕ
minus a b = (a + words - b) % words

abbrev pub times : ℕ → ℕ → ℕ
times a b = (a * b) % words

-- by 0 both are 0
abbrev pub quotient : ℕ → ℕ → ℕ
quotient a b = if nat_eq b 0 then 0 else a / b

abbrev pub remainder : ℕ → ℕ → ℕ
remainder a b = if nat_eq b 0 then 0 else a % b

-- by 64 or more both are 0
abbrev pub shifted_left : ℕ → ℕ → ℕ
shifted_left a b = if nat_lt b 64 then (a * 2 ^ b) % words else 0

abbrev pub shifted_right : ℕ → ℕ → ℕ
shifted_right a b = if nat_lt b 64 then a / 2 ^ b else 0

abbrev pub complement : ℕ → ℕ
complement a = words - 1 - a

-- the bits of a that b lacks
abbrev pub bits_without : ℕ → ℕ → ℕ
bits_without a b = bit_and a (complement b)

-- whether the sum of whole numbers is a word
abbrev pub fits : ℕ → ℕ → Bool
fits a b = nat_lt (a + b) words

-- the n low bytes of a number, the lowest first
abbrev pub low_bytes : ℕ → ℕ → List ℕ
low_bytes zero a = []
low_bytes (suc n) a = (a % 256) ∷ low_bytes n (a / 256)

-- the number of these bytes, the lowest first
abbrev pub number_of : List ℕ → ℕ
number_of [] = 0
number_of (b ∷ bs) = b + 256 * number_of bs

unfoldable pub le64 : ℕ → List ℕ
le64 a = low_bytes 8 a

-- of the first 8 bytes, of which absent ones are 0
unfoldable pub un64 : List ℕ → ℕ
un64 x = number_of (take 8 x)

-- the first 8 bytes replaced, where there are as many
abbrev pub put64 : List ℕ → ℕ → List ℕ
put64 x a = if nat_lt (length x) 8 then x else le64 a ++ drop 8 x
