-- Groups nodes. Made by tools/nodes.py from gosyntax.grammar: edit that.
use Rattle.std.specs.Prelude.{◌≡◌, ℕ, ◌<◌, List, length, [], ◌∷◌, ◌++◌}
use Rattle.gv_gosyntax.specs.declared.generated.gosyntax_acts.Part.TheVariants.{GoType as PGoType, Groups as PGroups, Names as PNames}
use Rattle.gv_gosyntax.specs.declared.tree.GoType.{GoType}
use Rattle.gv_gosyntax.specs.declared.tree.Group.{Group}
use Rattle.gv_gosyntax.specs.declared.lexeme.Lexeme.{Lexeme}
use Rattle.gv_gosyntax.specs.declared.node.Node.{Node}
use Rattle.gv_gosyntax.specs.Nodes.{IsPartAt}
use Rattle.gv_gonodes.specs.Places.{IsBefore}
use Rattle.gv_gonodes.specs.declared.generated.groups_node.GroupsNode.{GroupsNode}
use Rattle.gv_gonodes.specs.declared.generated.groups_node.GroupsNode.TheVariants as node

-- a part of the kind stands there
pub record IsSomeGroups (nodes : List Node) (at : ℕ) : Type 0 where
  pub whole : List Group
  pub within : at < length nodes
  pub part : IsPartAt nodes at (PGroups whole)

pub record IsGroup (nodes : List Node) (limit : ℕ) (groups : ℕ) (names : ℕ) (kind : ℕ) (whole : List Group) : Type 0 where
  pub of_groups : List Group
  pub of_names : List Lexeme
  pub of_kind : GoType
  pub at_groups : IsBefore nodes limit groups (PGroups of_groups)
  pub at_names : IsBefore nodes limit names (PNames of_names)
  pub at_kind : IsBefore nodes limit kind (PGoType of_kind)
  pub made : whole ≡ (of_groups ++ (record { names = of_names; kind = of_kind }) ∷ [])

pub record IsPastGroups (nodes : List Node) (limit : ℕ) (groups : ℕ) (whole : List Group) : Type 0 where
  pub of_groups : List Group
  pub at_groups : IsBefore nodes limit groups (PGroups of_groups)
  pub made : whole ≡ of_groups

-- what is told of a node before `limit` is so of this part
abbrev pub IsGroupsNode : List Node → ℕ → GroupsNode → List Group → Type 0
IsGroupsNode nodes limit node.NoGroups whole = whole ≡ []
IsGroupsNode nodes limit (node.Group groups names kind) whole = IsGroup nodes limit groups names kind whole
IsGroupsNode nodes limit (node.PastGroups groups) whole = IsPastGroups nodes limit groups whole
