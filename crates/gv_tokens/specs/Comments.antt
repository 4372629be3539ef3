-- Comments `/*` as pieces.
use Rattle.std.specs.Prelude.{ℕ, ◌+◌, ◌&&◌, ◌==◌, if◌then◌else◌, List, [], ◌∷◌, slice_index}
use Rattle.gv_text.specs.Lengths.{after_two}

-- up to the next `*/` and with it, or to the end where there is none
unfoldable pub block_rest : List ℕ → ℕ
block_rest [] = 0
block_rest (b ∷ bs) = if b == 42 && slice_index bs 0 == 47 then 2 else 1 + block_rest bs

abbrev pub block_length : List ℕ → ℕ
block_length = after_two 47 42 block_rest
