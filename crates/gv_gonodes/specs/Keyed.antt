-- Keyed nodes. Made by tools/nodes.py from gosyntax.grammar: edit that.
use Rattle.std.specs.Prelude.{◌≡◌, ℕ, ◌<◌, List, length, [], ◌∷◌, ◌++◌}
use Rattle.gv_gosyntax.specs.declared.generated.gosyntax_acts.Part.TheVariants.{Expr as PExpr, Keyed as PKeyed}
use Rattle.gv_gosyntax.specs.declared.tree.Expr.{Expr}
use Rattle.gv_gosyntax.specs.declared.tree.KeyedExpr.{KeyedExpr}
use Rattle.gv_gosyntax.specs.declared.lexeme.Lexeme.{Lexeme}
use Rattle.gv_gosyntax.specs.declared.node.Node.{Node}
use Rattle.gv_gosyntax.specs.Nodes.{IsPartAt}
use Rattle.gv_gonodes.specs.Places.{IsBefore}
use Rattle.gv_gonodes.specs.declared.generated.keyed_node.KeyedNode.{KeyedNode}
use Rattle.gv_gonodes.specs.declared.generated.keyed_node.KeyedNode.TheVariants as node

-- a part of the kind stands there
pub record IsSomeKeyed (nodes : List Node) (at : ℕ) : Type 0 where
  pub whole : List KeyedExpr
  pub within : at < length nodes
  pub part : IsPartAt nodes at (PKeyed whole)

pub record IsKeyed (nodes : List Node) (limit : ℕ) (fields : ℕ) (key : Lexeme) (value : ℕ) (whole : List KeyedExpr) : Type 0 where
  pub of_fields : List KeyedExpr
  pub of_value : Expr
  pub at_fields : IsBefore nodes limit fields (PKeyed of_fields)
  pub at_value : IsBefore nodes limit value (PExpr of_value)
  pub made : whole ≡ (of_fields ++ (record { key = key; value = of_value }) ∷ [])

pub record IsPastKeyed (nodes : List Node) (limit : ℕ) (fields : ℕ) (whole : List KeyedExpr) : Type 0 where
  pub of_fields : List KeyedExpr
  pub at_fields : IsBefore nodes limit fields (PKeyed of_fields)
  pub made : whole ≡ of_fields

-- what is told of a node before `limit` is so of this part
abbrev pub IsKeyedNode : List Node → ℕ → KeyedNode → List KeyedExpr → Type 0
IsKeyedNode nodes limit node.NoKeyed whole = whole ≡ []
IsKeyedNode nodes limit (node.Keyed fields key value) whole = IsKeyed nodes limit fields key value whole
IsKeyedNode nodes limit (node.PastKeyed fields) whole = IsPastKeyed nodes limit fields whole
