-- What tokens say.
use Rattle.std.specs.Prelude.{ℕ, Bool, not, ◌==◌, if◌then◌else◌, Option, Some, None, List, [], ◌∷◌, drop}
use Rattle.gv_base.specs.declared.token.Kind.{Kind}
use Rattle.gv_base.specs.declared.token.Kind.TheVariants as kind
use Rattle.gv_termread.specs.Numbers.{has_prefix, number_value}
use Rattle.gv_text.specs.Digits.{up_to, largest_word}
use Rattle.gv_replay.specs.declared.what.What.{What}
use Rattle.gv_replay.specs.declared.what.What.TheVariants as what
use Rattle.gv_replay.specs.Literals.{bytes_of}

abbrev pub sized : Bool → Option ℕ → What
sized decimal (Some n) = what.Number decimal n
sized decimal None = what.Large

-- decimal digits, or `0x` and hexadecimal ones
abbrev pub number_of : List ℕ → What
number_of bytes = sized (not (has_prefix bytes)) (up_to largest_word (number_value bytes))

abbrev pub one_or_more : List ℕ → What
one_or_more [] = what.Bytes []
one_or_more (b ∷ []) = what.Byte b
one_or_more (b ∷ c ∷ bs) = what.Bytes (b ∷ c ∷ bs)

-- `#` and the digits of bytes
abbrev pub literal_of : List ℕ → What
literal_of bytes = one_or_more (bytes_of (drop 1 bytes))

abbrev pub sign_of : List ℕ → What
sign_of [] = what.Other
sign_of (b ∷ []) = if b == 42 then what.Star else what.Other
sign_of (b ∷ c ∷ bs) = what.Other

-- what a token of a kind and with these bytes says
abbrev pub what_of : Kind → List ℕ → What
what_of kind.Word bytes = what.Word bytes
what_of kind.Number bytes = number_of bytes
what_of kind.Text bytes = literal_of bytes
what_of kind.Sign bytes = sign_of bytes
what_of kind.Semi bytes = what.Other
