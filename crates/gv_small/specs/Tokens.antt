-- A text cut into pieces, each the longest that can start at its place, and the tokens among them with their places.
use Rattle.std.specs.Prelude.{◌≡◌, ℕ, ◌+◌, Bool, true, false, ◌&&◌, ◌||◌, ◌==◌, if◌then◌else◌, List, [], ◌∷◌, ◌++◌, fold, map, not, Option, Some, None, codes}
use Rattle.std.specs.List.{flat_map, list_all, list_any, AllByRecursion}
use Rattle.std.specs.Char.{is_ascii_alphanumeric}
use Rattle.std.specs.Str.{bytes_eq}
use Rattle.gv_base.specs.declared.answers.Place.{Place}

-- a letter, a digit or `_`
abbrev pub is_word_byte : ℕ → Bool
is_word_byte b = is_ascii_alphanumeric b || b == 95

-- a space, a tab or a newline
abbrev pub is_blank : ℕ → Bool
is_blank b = b == 32 || b == 9 || b == 10

-- a run of letters, digits and `_`; a blank; `->`; or another byte
pub data Piece : Type 0 where
  word : List ℕ → Piece
  blank : ℕ → Piece
  arrow : Piece
  sign : ℕ → Piece

abbrev pub bytes_of : Piece → List ℕ
bytes_of (word w) = w
bytes_of (blank b) = b ∷ []
bytes_of arrow = 45 ∷ 62 ∷ []
bytes_of (sign b) = b ∷ []

abbrev pub IsWord : List ℕ → Type 0
IsWord [] = ⊥
IsWord (b ∷ bs) = list_all is_word_byte (b ∷ bs) ≡ true

abbrev pub IsPiece : Piece → Type 0
IsPiece (word w) = IsWord w
IsPiece (blank b) = (is_word_byte b ≡ false) × (is_blank b ≡ true)
IsPiece arrow = Unit {0}
IsPiece (sign b) = (is_word_byte b ≡ false) × (is_blank b ≡ false)

-- the first piece could not be longer: no word goes on, and no `-` stands before a `>`
abbrev pub Apart : Piece → Piece → Type 0
Apart (word w) (word v) = ⊥
Apart (sign a) (sign b) = ((a == 45) && (b == 62)) ≡ false
Apart p q = Unit {0}

abbrev pub IsApartFrom : Piece → List Piece → Type 0
IsApartFrom p [] = Unit {0}
IsApartFrom p (q ∷ ps) = Apart p q

abbrev pub AreApart : List Piece → Type 0
AreApart [] = Unit {0}
AreApart (p ∷ ps) = IsApartFrom p ps × AreApart ps

-- these pieces, and no longer ones, make up the text
pub record IsCut (text : List ℕ) (ps : List Piece) : Type 0 where
  pub whole : text ≡ flat_map bytes_of ps
  pub pieces : AllByRecursion IsPiece ps
  pub apart : AreApart ps

-- no word goes on with such a text
abbrev pub BeginsApart : List ℕ → Type 0
BeginsApart [] = Unit {0}
BeginsApart (b ∷ bs) = is_word_byte b ≡ false

-- how a text begins, where no blank comes first
abbrev pub BeginsWord : List ℕ → Type 0
BeginsWord [] = ⊥
BeginsWord (b ∷ bs) = is_word_byte b ≡ true

abbrev pub BeginsArrow : List ℕ → Type 0
BeginsArrow [] = ⊥
BeginsArrow (a ∷ []) = ⊥
BeginsArrow (a ∷ b ∷ bs) = (a ≡ 45) × (b ≡ 62)

-- a byte that is no blank, belongs to no word and begins no `->`
abbrev pub BeginsSign : List ℕ → Type 0
BeginsSign [] = ⊥
BeginsSign (a ∷ []) = (is_word_byte a ≡ false) × (is_blank a ≡ false)
BeginsSign (a ∷ b ∷ bs) = (is_word_byte a ≡ false) × (is_blank a ≡ false) × (a ≡ 45 → (b == 62) ≡ false)

abbrev pub BeginsBlank : List ℕ → Type 0
BeginsBlank [] = ⊥
BeginsBlank (b ∷ bs) = is_blank b ≡ true

abbrev pub BeginsNoBlank : List ℕ → Type 0
BeginsNoBlank [] = Unit {0}
BeginsNoBlank (b ∷ bs) = is_blank b ≡ false

-- ---- places

-- the place behind one more byte: a newline ends its line
abbrev pub moved : Place → ℕ → Place
moved p b = if b == 10 then record { line = p.line + 1; column = 1 } else record { line = p.line; column = p.column + 1 }

-- the place behind these bytes
abbrev pub behind : Place → List ℕ → Place
behind p bs = fold moved p bs

abbrev pub start : Place
start = record { line = 1; column = 1 }

-- ---- tokens

pub data Token : Type 0 where
  named : List ℕ → Token
  arrowed : Token
  signed : ℕ → Token

-- a token and the place of its first byte
pub record Placed : Type 0 where
  pub token : Token
  pub place : Place

-- Go's keywords but those behind which a line may end
abbrev pub open_keywords : List (List ℕ)
open_keywords = codes "case" ∷ codes "chan" ∷ codes "const" ∷ codes "default" ∷ codes "defer" ∷ codes "else" ∷ codes "fallthrough" ∷ codes "for"
    ∷ codes "func" ∷ codes "go" ∷ codes "goto" ∷ codes "if" ∷ codes "import" ∷ codes "interface" ∷ codes "map" ∷ codes "package" ∷ codes "range"
    ∷ codes "select" ∷ codes "struct" ∷ codes "switch" ∷ codes "type" ∷ codes "var" ∷ []

abbrev pub is_among : List (List ℕ) → List ℕ → Bool
is_among names w = list_any (λ n. bytes_eq w n) names

-- whether a line that ends behind this token ends a statement in Go
abbrev pub ends_line : Token → Bool
ends_line (named w) = not (is_among open_keywords w)
ends_line arrowed = false
ends_line (signed b) = b == 41 || b == 93 || b == 125

-- where a semicolon goes if the line ends here
abbrev pub end_behind : Bool → Token → Place → Option Place
end_behind go t p = if go && ends_line t then Some p else None

abbrev pub semicolon : Place → List Placed
semicolon p = record { token = signed 59; place = p } ∷ []

-- the semicolon that is left out at the end of a line, where there is one
abbrev pub left_out : Option Place → List Placed
left_out None = []
left_out (Some p) = semicolon p

-- The tokens among the pieces, from a place on: with `go` those of Go, with a semicolon directly behind the last token of a line
-- where that token may end a statement. `pending` is the place of that semicolon, were the line to end here.
abbrev pub laid : Bool → Option Place → Place → List Piece → List Placed
laid go pending p [] = left_out pending
laid go pending p (word w ∷ ps) = record { token = named w; place = p } ∷ laid go (end_behind go (named w) (behind p w)) (behind p w) ps
laid go pending p (arrow ∷ ps) = record { token = arrowed; place = p } ∷ laid go None (behind p (45 ∷ 62 ∷ [])) ps
laid go pending p (sign b ∷ ps) = record { token = signed b; place = p } ∷ laid go (end_behind go (signed b) (moved p b)) (moved p b) ps
laid go pending p (blank b ∷ ps) = if b == 10 then left_out pending ++ laid go None (moved p b) ps else laid go pending (moved p b) ps

-- the tokens of a cut text
abbrev pub tokens_in : Bool → List Piece → List Placed
tokens_in go ps = laid go None start ps

-- the tokens without their places
abbrev pub kinds : List Placed → List Token
kinds ts = map (λ t. t.token) ts

-- ---- the one cut, by a recursion from the end

-- one more word byte in front
abbrev pub grow : ℕ → List Piece → List Piece
grow b [] = word (b ∷ []) ∷ []
grow b (word w ∷ ps) = word (b ∷ w) ∷ ps
grow b (blank c ∷ ps) = word (b ∷ []) ∷ blank c ∷ ps
grow b (arrow ∷ ps) = word (b ∷ []) ∷ arrow ∷ ps
grow b (sign c ∷ ps) = word (b ∷ []) ∷ sign c ∷ ps

-- one more byte of another kind in front
abbrev pub single : ℕ → Piece
single b = if is_blank b then blank b else sign b

-- a `-` in front
abbrev pub dash : List Piece → List Piece
dash [] = sign 45 ∷ []
dash (word w ∷ ps) = sign 45 ∷ word w ∷ ps
dash (blank c ∷ ps) = sign 45 ∷ blank c ∷ ps
dash (arrow ∷ ps) = sign 45 ∷ arrow ∷ ps
dash (sign c ∷ ps) = if c == 62 then arrow ∷ ps else sign 45 ∷ sign c ∷ ps

unfoldable pub cut : List ℕ → List Piece
cut [] = []
cut (b ∷ bs) = if is_word_byte b then grow b (cut bs) else (if b == 45 then dash (cut bs) else single b ∷ cut bs)

-- the tokens of a text
abbrev pub tokens_of : Bool → List ℕ → List Placed
tokens_of go text = tokens_in go (cut text)

-- the tokens that a text of this project's own spells, as a short way to write them down
abbrev pub plain : List ℕ → List Token
plain text = kinds (tokens_of false text)
