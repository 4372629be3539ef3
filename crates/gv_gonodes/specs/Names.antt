-- Names nodes. Made by tools/nodes.py from gosyntax.grammar: edit that.
use Rattle.std.specs.Prelude.{◌≡◌, ℕ, ◌<◌, List, length, [], ◌∷◌, ◌++◌}
use Rattle.gv_gosyntax.specs.declared.generated.gosyntax_acts.Part.TheVariants.{Names as PNames}
use Rattle.gv_gosyntax.specs.declared.lexeme.Lexeme.{Lexeme}
use Rattle.gv_gosyntax.specs.declared.node.Node.{Node}
use Rattle.gv_gosyntax.specs.Nodes.{IsPartAt}
use Rattle.gv_gonodes.specs.Places.{IsBefore}
use Rattle.gv_gonodes.specs.declared.generated.names_node.NamesNode.{NamesNode}
use Rattle.gv_gonodes.specs.declared.generated.names_node.NamesNode.TheVariants as node

-- a part of the kind stands there
pub record IsSomeNames (nodes : List Node) (at : ℕ) : Type 0 where
  pub whole : List Lexeme
  pub within : at < length nodes
  pub part : IsPartAt nodes at (PNames whole)

pub record IsName (nodes : List Node) (limit : ℕ) (names : ℕ) (name : Lexeme) (whole : List Lexeme) : Type 0 where
  pub of_names : List Lexeme
  pub at_names : IsBefore nodes limit names (PNames of_names)
  pub made : whole ≡ (of_names ++ name ∷ [])

pub record IsPastNames (nodes : List Node) (limit : ℕ) (names : ℕ) (whole : List Lexeme) : Type 0 where
  pub of_names : List Lexeme
  pub at_names : IsBefore nodes limit names (PNames of_names)
  pub made : whole ≡ of_names

pub record IsInParens (nodes : List Node) (limit : ℕ) (names : ℕ) (whole : List Lexeme) : Type 0 where
  pub of_names : List Lexeme
  pub at_names : IsBefore nodes limit names (PNames of_names)
  pub made : whole ≡ of_names

-- what is told of a node before `limit` is so of this part
abbrev pub IsNamesNode : List Node → ℕ → NamesNode → List Lexeme → Type 0
IsNamesNode nodes limit node.NoNames whole = whole ≡ []
IsNamesNode nodes limit (node.Name names name) whole = IsName nodes limit names name whole
IsNamesNode nodes limit (node.PastNames names) whole = IsPastNames nodes limit names whole
IsNamesNode nodes limit (node.InParens names) whole = IsInParens nodes limit names whole
