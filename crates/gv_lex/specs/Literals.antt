-- Literals of bytes as pieces: `#` and hexadecimal digits.
use Rattle.std.specs.Prelude.{ℕ, ◌%◌, Bool, ◌==◌, List, length, drop}
use Rattle.std.specs.List.{prefix_len}
use Rattle.gv_text.specs.Lengths.{optional}
use Rattle.gv_lex.specs.Bytes.{is_hash, is_hex}

-- the hexadecimal digits at the start
abbrev pub hex_run : List ℕ → ℕ
hex_run text = prefix_len is_hex text

-- `#` and as many digits as follow it; or nothing
abbrev pub literal_length : List ℕ → ℕ
literal_length = optional is_hash hex_run

-- two digits for each byte
abbrev pub has_whole_bytes : List ℕ → Bool
has_whole_bytes literal = length (drop 1 literal) % 2 == 0
