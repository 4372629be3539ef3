-- What the steps of the pass over a text tell.
use Rattle.std.specs.Prelude.{ℕ, ◌<◌, ◌≤◌, List, length, take}
use Rattle.gv_text.specs.Cutting.{Piece, Lexis, IsLongest, IsRight}

abbrev pub piece : {F : Type 0} → F → List ℕ → Piece F
piece form bytes = record { form = form; bytes = bytes }

-- a text begins with a right piece of this form and length
pub record IsNext {F : Type 0} (kind : Lexis F) (text : List ℕ) (form : F) (len : ℕ) : Type 0 where
  pub some : 0 < len
  pub within : len ≤ length text
  pub longest : IsLongest kind (piece form (take len text)) text
  pub right : IsRight kind (piece form (take len text))
