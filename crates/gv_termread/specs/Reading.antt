-- What is read of a list of tokens as a term, and where it is refused.
use Rattle.std.specs.Prelude.{◌≡◌, ◌≤◌, ◌==◌, ◌+◌, ℕ, if◌then◌else◌, List, [], ◌∷◌, length, Some, slice_get, take, drop}
use Rattle.gv_base.specs.declared.answers.Code.{Code}
use Rattle.gv_base.specs.declared.answers.Code.TheVariants.{TooDeep, EndOfText}
use Rattle.gv_base.specs.declared.token.Token.{Token}
use Rattle.gv_grammar.specs.Text.{Spells, IsWithin, IsRefused, IsUnfinished, IsTooDeep, IsShallow, IsLongestFront}
use Rattle.gv_terms.specs.declared.tree.RawTerm.{RawTerm}
use Rattle.gv_text.specs.Unexpected.{code_by}
use Rattle.gv_termread.specs.declared.reading.TheConstants.{MAX_LEVELS}
use Rattle.gv_termread.specs.declared.generated.term_table.TheConstants.{CLASS_IDENT, CLASS_NUMBER, CLASS_LARGE_NUMBER}
use Rattle.gv_termread.specs.declared.token.SeenToken.{SeenToken}
use Rattle.gv_termread.specs.declared.placed.PlacedTerm.{PlacedTerm}
use Rattle.gv_termread.specs.Language.{Lexicon, IsTerm}
use Rattle.gv_termread.specs.Seen.{seen}

-- each token begins within so many bytes
abbrev pub StartsWithin : ℕ → List SeenToken → Type 0
StartsWithin end tokens = (at : ℕ) (t : SeenToken) → slice_get tokens at ≡ Some t → t.start ≤ end

-- the code of a token that the grammar doesn't allow where it stands, by its class
abbrev pub code_of : ℕ → Code
code_of class = code_by (class == CLASS_LARGE_NUMBER)

-- a text of which only terms are read
abbrev pub alone : List ℕ → Lexicon
alone text = record { text = text; names = CLASS_IDENT ∷ []; numbers = CLASS_NUMBER ∷ [] }

-- ---- at the front of tokens, where so many levels are open before it

-- The longest front that a term begins with has this length and spells this term, within the levels.
pub record IsFront (level : ℕ) (text : List ℕ) (tokens : List SeenToken) (tree : PlacedTerm) (len : ℕ) : Type 0 where
  pub longest : IsLongestFront (IsTerm (alone text) level) tokens len
  pub spelled : Spells (IsTerm (alone text) level) tree (take len tokens)
  pub within : IsWithin (IsTerm (alone text) level) MAX_LEVELS tree (take len tokens)

-- The first fault of the longest front that a term begins with, or of what follows it.
pub data IsFrontRefused (level : ℕ) (text : List ℕ) (tokens : List SeenToken) : ℕ → Code → Type 0 where
  -- the tokens before this one begin a term and are none, those up to it begin none
  unexpected : (at : ℕ) (t : SeenToken) → slice_get tokens at ≡ Some t → IsRefused (IsTerm (alone text) level) tokens at
      → IsUnfinished (IsTerm (alone text) level) (take at tokens)
      → IsShallow (IsTerm (alone text) level) MAX_LEVELS tokens → IsFrontRefused level text tokens t.start (code_of t.class)
  -- this token of a term opens a level above the limit, and none before it does
  too_deep : (at : ℕ) (t : SeenToken) → slice_get tokens at ≡ Some t → IsTooDeep (IsTerm (alone text) level) MAX_LEVELS tokens at
      → IsFrontRefused level text tokens t.start TooDeep
  -- the tokens begin a term and are none
  end_of_text : IsUnfinished (IsTerm (alone text) level) tokens → IsShallow (IsTerm (alone text) level) MAX_LEVELS tokens
      → IsFrontRefused level text tokens (length text) EndOfText

-- ---- from the token with a number on

-- the run of tokens from this one on spells the term, and the next token behind it has this number
pub record IsPlacedRead (text : List ℕ) (tokens : List Token) (at depth : ℕ) (answer : PlacedTerm × ℕ) : Type 0 where
  pub len : ℕ
  pub next : answer.1 ≡ at + len
  pub front : IsFront depth text (seen text (drop at tokens)) answer.0 len

-- the same of the term without its places
pub record IsRead (text : List ℕ) (tokens : List Token) (at depth : ℕ) (answer : RawTerm × ℕ) : Type 0 where
  pub placed : PlacedTerm
  pub same : placed.term ≡ answer.0
  pub read : IsPlacedRead text tokens at depth (placed, answer.1)

-- the run of tokens from this one on is refused at this byte
abbrev pub IsRefusedFrom : List ℕ → List Token → ℕ → ℕ → ℕ → Code → Type 0
IsRefusedFrom text tokens at depth = IsFrontRefused depth text (seen text (drop at tokens))
