-- Books nodes. Made by tools/script_nodes.py from script.grammar: edit that.
use Rattle.std.specs.Prelude.{◌≡◌, ℕ, ◌<◌, List, length, [], ◌∷◌, ◌++◌}
use Rattle.gv_termread.specs.declared.generated.term_acts.Part.TheVariants.{Term as PTerm, Other as POther}
use Rattle.gv_scriptsyntax.specs.declared.generated.script_acts.ScriptPart.TheVariants.{Books as PBooks}
use Rattle.gv_scriptsyntax.specs.declared.tree.Book.{Book}
use Rattle.gv_termread.specs.declared.placed.PlacedTerm.{PlacedTerm}
use Rattle.gv_termread.specs.declared.token.SeenToken.{SeenToken}
use Rattle.gv_scriptsyntax.specs.declared.node.Node.{Node}
use Rattle.gv_scriptsyntax.specs.Nodes.{IsPartAt}
use Rattle.gv_certnodes.specs.Places.{IsBefore}
use Rattle.gv_declnodes.specs.declared.generated.books_node.BooksNode.{BooksNode}
use Rattle.gv_declnodes.specs.declared.generated.books_node.BooksNode.TheVariants as node

-- a part of the kind stands there
pub record IsSomeBooks (text : List ℕ) (nodes : List Node) (at : ℕ) : Type 0 where
  pub whole : List Book
  pub within : at < length nodes
  pub part : IsPartAt text nodes at (POther (PBooks whole))

pub record IsBook (text : List ℕ) (nodes : List Node) (limit : ℕ) (books : ℕ) (name : SeenToken) (sort : SeenToken) (count : SeenToken) (first : ℕ) (whole : List Book) : Type 0 where
  pub of_books : List Book
  pub of_first : PlacedTerm
  pub at_books : IsBefore text nodes limit books (POther (PBooks of_books))
  pub at_first : IsBefore text nodes limit first (PTerm of_first)
  pub made : whole ≡ (of_books ++ (record { name = name; sort = sort; count = count; first = of_first }) ∷ [])

-- what is told of a node before `limit` is so of this part
abbrev pub IsBooksNode : List ℕ → List Node → ℕ → BooksNode → List Book → Type 0
IsBooksNode text nodes limit node.NoBooks whole = whole ≡ []
IsBooksNode text nodes limit (node.Book books name sort count first) whole = IsBook text nodes limit books name sort count first whole
