-- The line and the column of a place in a text.
use Rattle.std.specs.Prelude.{ℕ, ◌+◌, Bool, not, ◌==◌, List, length, take, take_while, reverse, count_by}
use Rattle.gv_base.specs.declared.answers.Place.{Place}

abbrev pub is_newline : ℕ → Bool
is_newline byte = byte == 10

-- how many lines end in these bytes
abbrev pub lines_ended : List ℕ → ℕ
lines_ended front = count_by is_newline front

-- how many of these bytes stand after the last newline among them
abbrev pub bytes_on_line : List ℕ → ℕ
bytes_on_line front = length (take_while (λ byte. not (is_newline byte)) (reverse front))

-- The place of the byte with an index, by the bytes before it: lines are separated by newline bytes, and a
-- column counts bytes, both from 1.
abbrev pub place_at : List ℕ → ℕ → Place
place_at text at = record { line = 1 + lines_ended (take at text); column = 1 + bytes_on_line (take at text) }
