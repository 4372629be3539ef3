-- Classes of bytes.
use Rattle.std.specs.Prelude.{ℕ, Bool, ◌||◌, ◌==◌}
use Rattle.std.specs.Char.{is_digit}
use Rattle.gv_base.specs.Places.{is_newline}

-- space, tab, carriage return, newline
abbrev pub is_blank : ℕ → Bool
is_blank b = b == 32 || (b == 9 || (b == 13 || is_newline b))

abbrev pub is_underscore : ℕ → Bool
is_underscore b = b == 95

abbrev pub is_decimal : ℕ → Bool
is_decimal b = is_digit b 10
