-- White space and line comments as pieces.
use Rattle.std.specs.Prelude.{ℕ, Bool, not, List}
use Rattle.std.specs.List.{prefix_len}
use Rattle.gv_base.specs.Places.{is_newline}
use Rattle.gv_text.specs.Bytes.{is_blank}
use Rattle.gv_text.specs.Lengths.{nothing, optional, after_two}

-- one white space character
abbrev pub blank_length : List ℕ → ℕ
blank_length = optional is_blank nothing

abbrev pub is_on_line : ℕ → Bool
is_on_line b = not (is_newline b)

-- `//` up to the next newline and without it, or to the end where there is none
abbrev pub line_length : List ℕ → ℕ
line_length = after_two 47 47 (prefix_len is_on_line)
