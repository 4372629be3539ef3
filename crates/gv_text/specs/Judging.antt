-- Which tokens a text of a kind has, and where it is refused.
use Rattle.std.specs.Prelude.{◌≡◌, ℕ, ◌+◌, ◌≤◌, nat_lt, if◌then◌else◌, Option, Some, None, Result, Ok, Err, List, [], ◌∷◌, length, take, drop, Vec}
use Rattle.std.specs.List.{AllByRecursion}
use Rattle.std.specs.Str.{IsUtf8, IsValidUpTo, bytes_eq}
use Rattle.std.specs.declared.alloc.Global.{Global}
use Rattle.gv_base.specs.Codes.{code_number}
use Rattle.gv_base.specs.declared.answers.Code.{Code}
use Rattle.gv_base.specs.declared.answers.Code.TheVariants as codes
use Rattle.gv_base.specs.declared.answers.Refusal.{Refusal}
use Rattle.gv_base.specs.declared.answers.Refusal.TheVariants as refusal
use Rattle.gv_base.specs.declared.token.Token.{Token}
use Rattle.gv_text.specs.declared.stop.Stop.{Stop}
use Rattle.gv_text.specs.declared.stop.Stop.TheVariants as stop
use Rattle.gv_text.specs.Answers as answers
use Rattle.gv_text.specs.Cutting.{Piece, Lexis, IsCut, IsRight, FaultsAt}
use Rattle.gv_text.specs.Stops.{refusal_at}

-- the UTF-8 of the character U+FEFF
abbrev pub byte_order_mark : List ℕ
byte_order_mark = 0xEF ∷ 0xBB ∷ 0xBF ∷ []

-- how many bytes of a text are passed over before its pieces
abbrev pub mark_length : List ℕ → ℕ
mark_length text = if bytes_eq (take 3 text) byte_order_mark then 3 else 0

abbrev pub body_of : List ℕ → List ℕ
body_of text = drop (mark_length text) text

-- a text is cut into right pieces, and these are the tokens among them
pub record HasTokens {F : Type 0} (kind : Lexis F) (text : List ℕ) (tokens : List Token) : Type 0 where
  pub pieces : List (Piece F)
  pub cut : IsCut kind (body_of text) pieces []
  pub right : AllByRecursion (IsRight kind) pieces
  pub listed : tokens ≡ kind.tokens_at (mark_length text) pieces

-- a text is read as these tokens
pub record IsRead {F : Type 0} (kind : Lexis F) (text : List ℕ) (tokens : List Token) : Type 0 where
  pub utf8 : IsUtf8 text
  pub spelled : HasTokens kind text tokens

-- right pieces lead to a fault at a place
pub record HasWrongPiece {F : Type 0} (kind : Lexis F) (text : List ℕ) (at : ℕ) (code : Code) : Type 0 where
  pub pieces : List (Piece F)
  pub rest : List ℕ
  pub before : ℕ
  pub cut : IsCut kind (body_of text) pieces rest
  pub right : AllByRecursion (IsRight kind) pieces
  pub fault : FaultsAt kind rest before code
  pub place : at + length rest ≡ length text + before

-- The faults of a text: its UTF-8 ends at the place, or a piece is wrong there.
pub data HasFault {F : Type 0} (kind : Lexis F) (text : List ℕ) (at : ℕ) (code : Code) : Type 0 where
  not_utf8 : IsValidUpTo text at → code ≡ codes.BadUtf8 → HasFault kind text at code
  wrong_piece : HasWrongPiece kind text at code → HasFault kind text at code

-- a text is refused at its first fault
abbrev pub IsRefused : {F : Type 0} → Lexis F → List ℕ → ℕ → Code → Type 0
IsRefused kind text at code = answers.IsFirst code_number (HasFault kind text) at code

-- a refusal that is so, unless memory ran out
abbrev pub Refuses : {F : Type 0} → Lexis F → List ℕ → Refusal → Type 0
Refuses kind text why = answers.Refuses text (IsRefused kind text) why

-- each text spells one list of tokens at most, or is refused in one way at most, and not both
abbrev pub DecidesTexts : {F : Type 0} → Lexis F → Type 0
DecidesTexts kind = (text : List ℕ) → answers.IsDecided (IsRead kind text) (IsRefused kind text)

-- ---- the pieces by themselves, and what the whole text's UTF-8 adds

-- what the pieces of a text come to
abbrev pub IsFound : {F : Type 0} → Lexis F → List ℕ → Result (Vec Token Global) Stop → Type 0
IsFound kind text (Ok read) = HasTokens kind text read.items
IsFound kind text (Err stop.NoMemory) = Unit {0}
IsFound kind text (Err (stop.At at code)) = HasWrongPiece kind text at code × (at ≤ length text)

-- where a text that is not UTF-8 stops being so
abbrev pub IsEnd : List ℕ → Option ℕ → Type 0
IsEnd text None = IsUtf8 text
IsEnd text (Some end) = IsValidUpTo text end

-- the earlier one of a fault and the end of the UTF-8, which goes first at one place
abbrev pub earlier_refusal : List ℕ → ℕ → Code → Option ℕ → Refusal
earlier_refusal text at code None = refusal_at text at code
earlier_refusal text at code (Some end) = if nat_lt at end then refusal_at text at code else refusal_at text end codes.BadUtf8

abbrev pub first_refusal : List ℕ → Stop → Option ℕ → Refusal
first_refusal text stop.NoMemory end = refusal.NoMemory
first_refusal text (stop.At at code) end = earlier_refusal text at code end

-- the answer by what the pieces come to and where the UTF-8 ends
abbrev pub judgement : List ℕ → Result (Vec Token Global) Stop → Option ℕ → Result (Vec Token Global) Refusal
judgement text (Ok read) None = Ok read
judgement text (Ok read) (Some end) = Err (refusal_at text end codes.BadUtf8)
judgement text (Err why) end = Err (first_refusal text why end)
