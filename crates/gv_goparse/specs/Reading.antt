-- Which tokens are a package, and where a text is refused.
use Rattle.std.specs.Prelude.{◌≡◌, ◌==◌, if◌then◌else◌, ℕ, List, length, Some, slice_get}
use Rattle.gv_base.specs.declared.answers.Code.{Code}
use Rattle.gv_base.specs.declared.answers.Code.TheVariants.{Unexpected, NotInProfile, TooDeep, EndOfText}
use Rattle.gv_grammar.specs.Text.{Spells, IsWithin, IsRefused, IsUnfinished, IsTooDeep, IsShallow}
use Rattle.gv_gosyntax.specs.declared.generated.gosyntax_table.TheConstants.{CLASS_OUTSIDE}
use Rattle.gv_gosyntax.specs.declared.lexeme.Lexeme.{Lexeme}
use Rattle.gv_gosyntax.specs.declared.tree.File.{File}
use Rattle.gv_gosyntax.specs.declared.node.Node.{Node}
use Rattle.gv_gosyntax.specs.Nodes.{IsTreeOf}
use Rattle.gv_goparse.specs.declared.reading.TheConstants.{MAX_LEVELS}
use Rattle.gv_goparse.specs.Language.{IsFile}

-- the code of a token that the grammar doesn't allow where it stands, by its class: the keywords and operators of Go that
-- no package of the profile has are told from all others
abbrev pub code_of : ℕ → Code
code_of class = if class == CLASS_OUTSIDE then NotInProfile else Unexpected

-- the tokens spell the tree, and no token of it opens a level above the limit
pub record IsRead (tokens : List Lexeme) (tree : File) : Type 0 where
  pub spelled : Spells (IsFile 0) tree tokens
  pub within : IsWithin (IsFile 0) MAX_LEVELS tree tokens

-- The nodes are the tree of the package that the tokens spell.
pub record IsTree (tokens : List Lexeme) (nodes : List Node) : Type 0 where
  pub file : File
  pub tree : IsTreeOf nodes file
  pub read : IsRead tokens file

-- The first fault of the grammar, at a token or at the text's end.
pub data IsRefusedAt (text : List ℕ) (tokens : List Lexeme) : ℕ → Code → Type 0 where
  -- no package begins with the tokens up to this one, and none before it is too deep
  unexpected : (at : ℕ) (t : Lexeme) → slice_get tokens at ≡ Some t → IsRefused (IsFile 0) tokens at → IsShallow (IsFile 0) MAX_LEVELS tokens → IsRefusedAt text tokens t.start (code_of t.class)
  -- this token opens a level above the limit, and none before it does
  too_deep : (at : ℕ) (t : Lexeme) → slice_get tokens at ≡ Some t → IsTooDeep (IsFile 0) MAX_LEVELS tokens at → IsRefusedAt text tokens t.start TooDeep
  -- the tokens begin a package and are none
  end_of_text : IsUnfinished (IsFile 0) tokens → IsShallow (IsFile 0) MAX_LEVELS tokens → IsRefusedAt text tokens (length text) EndOfText
