-- What is read of the tokens of a specification, and where its text is refused.
use Rattle.std.specs.Prelude.{◌≡◌, ℕ, List, length, Some, slice_get}
use Rattle.gv_base.specs.declared.answers.Code.{Code}
use Rattle.gv_base.specs.declared.answers.Code.TheVariants.{TooDeep, EndOfText}
use Rattle.gv_grammar.specs.Text.{Spells, IsWithin, IsRefused, IsUnfinished, IsTooDeep, IsShallow}
use Rattle.gv_termread.specs.declared.reading.TheConstants.{MAX_LEVELS}
use Rattle.gv_termread.specs.declared.token.SeenToken.{SeenToken}
use Rattle.gv_termread.specs.Reading.{code_of}
use Rattle.gv_specread.specs.declared.tree.SpecTree.{SpecTree}
use Rattle.gv_specread.specs.Language.{IsSpec}

-- the tokens spell the tree, and no token of it opens a level above the limit
pub record IsRead (text : List ℕ) (tokens : List SeenToken) (tree : SpecTree) : Type 0 where
  pub spelled : Spells (IsSpec text 0) tree tokens
  pub within : IsWithin (IsSpec text 0) MAX_LEVELS tree tokens

-- The first fault of the grammar, at a token or at the text's end.
pub data IsRefusedAt (text : List ℕ) (tokens : List SeenToken) : ℕ → Code → Type 0 where
  -- no specification begins with the tokens up to this one, and none before it is too deep
  unexpected : (at : ℕ) (t : SeenToken) → slice_get tokens at ≡ Some t → IsRefused (IsSpec text 0) tokens at → IsShallow (IsSpec text 0) MAX_LEVELS tokens
      → IsRefusedAt text tokens t.start (code_of t.class)
  -- this token opens a level above the limit, and none before it does
  too_deep : (at : ℕ) (t : SeenToken) → slice_get tokens at ≡ Some t → IsTooDeep (IsSpec text 0) MAX_LEVELS tokens at → IsRefusedAt text tokens t.start TooDeep
  -- the tokens begin a specification and are none
  end_of_text : IsUnfinished (IsSpec text 0) tokens → IsShallow (IsSpec text 0) MAX_LEVELS tokens → IsRefusedAt text tokens (length text) EndOfText
