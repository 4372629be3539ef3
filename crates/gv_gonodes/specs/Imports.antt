-- Imports nodes. Made by tools/nodes.py from gosyntax.grammar: edit that.
use Rattle.std.specs.Prelude.{◌≡◌, ℕ, ◌<◌, List, length, [], ◌∷◌, ◌++◌}
use Rattle.gv_gosyntax.specs.declared.generated.gosyntax_acts.Part.TheVariants.{Imports as PImports, Names as PNames}
use Rattle.gv_gosyntax.specs.declared.lexeme.Lexeme.{Lexeme}
use Rattle.gv_gosyntax.specs.declared.node.Node.{Node}
use Rattle.gv_gosyntax.specs.Nodes.{IsPartAt}
use Rattle.gv_gonodes.specs.Places.{IsBefore}
use Rattle.gv_gonodes.specs.declared.generated.imports_node.ImportsNode.{ImportsNode}
use Rattle.gv_gonodes.specs.declared.generated.imports_node.ImportsNode.TheVariants as node

-- a part of the kind stands there
pub record IsSomeImports (nodes : List Node) (at : ℕ) : Type 0 where
  pub whole : List (List Lexeme)
  pub within : at < length nodes
  pub part : IsPartAt nodes at (PImports whole)

pub record IsImport (nodes : List Node) (limit : ℕ) (imports : ℕ) (texts : ℕ) (whole : List (List Lexeme)) : Type 0 where
  pub of_imports : List (List Lexeme)
  pub of_texts : List Lexeme
  pub at_imports : IsBefore nodes limit imports (PImports of_imports)
  pub at_texts : IsBefore nodes limit texts (PNames of_texts)
  pub made : whole ≡ (of_imports ++ of_texts ∷ [])

-- what is told of a node before `limit` is so of this part
abbrev pub IsImportsNode : List Node → ℕ → ImportsNode → List (List Lexeme) → Type 0
IsImportsNode nodes limit node.NoImports whole = whole ≡ []
IsImportsNode nodes limit (node.Import imports texts) whole = IsImport nodes limit imports texts whole
