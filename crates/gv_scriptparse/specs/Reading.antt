-- Which tokens are a script, and where a text is refused.
use Rattle.std.specs.Prelude.{◌≡◌, ◌||◌, ◌==◌, ℕ, List, length, Some, slice_get}
use Rattle.gv_base.specs.declared.answers.Code.{Code}
use Rattle.gv_base.specs.declared.answers.Code.TheVariants.{TooDeep, EndOfText}
use Rattle.gv_grammar.specs.Text.{Spells, IsWithin, IsRefused, IsUnfinished, IsTooDeep, IsShallow}
use Rattle.gv_text.specs.Unexpected.{code_by}
use Rattle.gv_termread.specs.declared.generated.term_table.TheConstants.{CLASS_LARGE_NUMBER}
use Rattle.gv_termread.specs.declared.reading.TheConstants.{MAX_LEVELS}
use Rattle.gv_termread.specs.declared.token.SeenToken.{SeenToken}
use Rattle.gv_scriptsyntax.specs.declared.generated.script_table.TheConstants.{CLASS_LIMIT_NUMBER}
use Rattle.gv_scriptsyntax.specs.declared.node.Node.{Node}
use Rattle.gv_scriptsyntax.specs.declared.tree.Script.{Script}
use Rattle.gv_scriptsyntax.specs.Nodes.{IsTreeOf}
use Rattle.gv_scriptsyntax.specs.Language.{IsScript}

-- the code of a token that the grammar doesn't allow where it stands, by its class: a number of 2^64 or more is told from
-- all others
abbrev pub code_of : ℕ → Code
code_of class = code_by (class == CLASS_LARGE_NUMBER || class == CLASS_LIMIT_NUMBER)

-- the tokens spell the tree, and no token of it opens a level above the limit
pub record IsRead (text : List ℕ) (tokens : List SeenToken) (tree : Script) : Type 0 where
  pub spelled : Spells (IsScript text 0) tree tokens
  pub within : IsWithin (IsScript text 0) MAX_LEVELS tree tokens

-- The nodes are the tree of the script that the tokens spell.
pub record IsTree (text : List ℕ) (tokens : List SeenToken) (nodes : List Node) : Type 0 where
  pub script : Script
  pub tree : IsTreeOf text nodes script
  pub read : IsRead text tokens script

-- The first fault of the grammar, at a token or at the text's end.
pub data IsRefusedAt (text : List ℕ) (tokens : List SeenToken) : ℕ → Code → Type 0 where
  -- no script begins with the tokens up to this one, and none before it is too deep
  unexpected : (at : ℕ) (t : SeenToken) → slice_get tokens at ≡ Some t → IsRefused (IsScript text 0) tokens at → IsShallow (IsScript text 0) MAX_LEVELS tokens
      → IsRefusedAt text tokens t.start (code_of t.class)
  -- this token opens a level above the limit, and none before it does
  too_deep : (at : ℕ) (t : SeenToken) → slice_get tokens at ≡ Some t → IsTooDeep (IsScript text 0) MAX_LEVELS tokens at → IsRefusedAt text tokens t.start TooDeep
  -- the tokens begin a script and are none
  end_of_text : IsUnfinished (IsScript text 0) tokens → IsShallow (IsScript text 0) MAX_LEVELS tokens → IsRefusedAt text tokens (length text) EndOfText
