-- Texts of a kind: what their pieces are, and a text cut into them, each the longest that can start at its place.
use Rattle.std.specs.Prelude.{◌≡◌, ℕ, ◌<◌, ◌≤◌, Option, Some, None, List, [], ◌∷◌, ◌++◌, length, drop}
use Rattle.gv_base.specs.declared.answers.Code.{Code}
use Rattle.gv_base.specs.declared.answers.Code.TheVariants.{BadChar}
use Rattle.gv_base.specs.declared.token.Token.{Token}

-- what a piece is by its first bytes, and all of its bytes
pub record Piece (F : Type 0) : Type 0 where
  pub form : F
  pub bytes : List ℕ

-- What the texts of a kind are made of: the form of the piece that begins a text; how many bytes a piece
-- of a form takes there, or 0; the fault of a piece, with how many of its bytes come before the place; and the tokens of
-- pieces that begin at a place.
pub record Lexis (F : Type 0) : Type 0 where
  pub form_of : List ℕ → F
  pub length_of : F → List ℕ → ℕ
  pub fault_of : F → List ℕ → Option (ℕ × Code)
  pub tokens_at : ℕ → List (Piece F) → List Token

-- the bytes are a piece of their form by themselves, right or wrong
pub record IsPiece {F : Type 0} (kind : Lexis F) (p : Piece F) : Type 0 where
  pub form : kind.form_of p.bytes ≡ p.form
  pub some : 0 < length p.bytes
  pub whole : kind.length_of p.form p.bytes ≡ length p.bytes

abbrev pub Begins : {F : Type 0} → Piece F → List ℕ → Type 0
Begins p text = text ≡ p.bytes ++ drop (length p.bytes) text

-- a piece that a text begins with, and no longer one does
pub record IsLongest {F : Type 0} (kind : Lexis F) (p : Piece F) (text : List ℕ) : Type 0 where
  pub piece : IsPiece kind p
  pub begins : Begins p text
  pub longest : (q : Piece F) → IsPiece kind q → Begins q text → length q.bytes ≤ length p.bytes

abbrev pub BeginsWithNone : {F : Type 0} → Lexis F → List ℕ → Type 0
BeginsWithNone {F} kind text = (p : Piece F) → IsPiece kind p → Begins p text → ⊥

-- a text is these pieces, each the longest at its place, and then the rest
abbrev pub IsCut : {F : Type 0} → Lexis F → List ℕ → List (Piece F) → List ℕ → Type 0
IsCut kind text [] rest = text ≡ rest
IsCut kind text (p ∷ ps) rest = IsLongest kind p text × IsCut kind (drop (length p.bytes) text) ps rest

abbrev pub IsRight : {F : Type 0} → Lexis F → Piece F → Type 0
IsRight kind p = kind.fault_of p.form p.bytes ≡ None

-- A text begins with a piece that has a fault, or with what begins no piece; the number counts the bytes before the place.
pub data FaultsAt {F : Type 0} (kind : Lexis F) (text : List ℕ) (before : ℕ) (code : Code) : Type 0 where
  wrong : (p : Piece F) → IsLongest kind p text → kind.fault_of p.form p.bytes ≡ Some (before, code) → FaultsAt kind text before code
  stray : 0 < length text → BeginsWithNone kind text → before ≡ 0 → code ≡ BadChar → FaultsAt kind text before code
