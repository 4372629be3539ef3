-- Types nodes. Made by tools/nodes.py from gosyntax.grammar: edit that.
use Rattle.std.specs.Prelude.{◌≡◌, ℕ, ◌<◌, List, length, [], ◌∷◌, ◌++◌}
use Rattle.gv_gosyntax.specs.declared.generated.gosyntax_acts.Part.TheVariants.{GoType as PGoType, Types as PTypes}
use Rattle.gv_gosyntax.specs.declared.tree.GoType.{GoType}
use Rattle.gv_gosyntax.specs.declared.node.Node.{Node}
use Rattle.gv_gosyntax.specs.Nodes.{IsPartAt}
use Rattle.gv_gonodes.specs.Places.{IsBefore}
use Rattle.gv_gonodes.specs.declared.generated.types_node.TypesNode.{TypesNode}
use Rattle.gv_gonodes.specs.declared.generated.types_node.TypesNode.TheVariants as node

-- a part of the kind stands there
pub record IsSomeTypes (nodes : List Node) (at : ℕ) : Type 0 where
  pub whole : List GoType
  pub within : at < length nodes
  pub part : IsPartAt nodes at (PTypes whole)

pub record IsType (nodes : List Node) (limit : ℕ) (types : ℕ) (kind : ℕ) (whole : List GoType) : Type 0 where
  pub of_types : List GoType
  pub of_kind : GoType
  pub at_types : IsBefore nodes limit types (PTypes of_types)
  pub at_kind : IsBefore nodes limit kind (PGoType of_kind)
  pub made : whole ≡ (of_types ++ of_kind ∷ [])

pub record IsPastTypes (nodes : List Node) (limit : ℕ) (types : ℕ) (whole : List GoType) : Type 0 where
  pub of_types : List GoType
  pub at_types : IsBefore nodes limit types (PTypes of_types)
  pub made : whole ≡ of_types

-- what is told of a node before `limit` is so of this part
abbrev pub IsTypesNode : List Node → ℕ → TypesNode → List GoType → Type 0
IsTypesNode nodes limit node.NoTypes whole = whole ≡ []
IsTypesNode nodes limit (node.Type types kind) whole = IsType nodes limit types kind whole
IsTypesNode nodes limit (node.PastTypes types) whole = IsPastTypes nodes limit types whole
