-- Rights nodes. Made by tools/nodes.py from gosyntax.grammar: edit that.
use Rattle.std.specs.Prelude.{◌≡◌, ℕ, ◌<◌, List, length, [], ◌∷◌, ◌++◌}
use Rattle.gv_gosyntax.specs.declared.generated.gosyntax_acts.Part.TheVariants.{Right as PRight, Rights as PRights}
use Rattle.gv_gosyntax.specs.declared.tree.Right.{Right}
use Rattle.gv_gosyntax.specs.declared.node.Node.{Node}
use Rattle.gv_gosyntax.specs.Nodes.{IsPartAt}
use Rattle.gv_gonodes.specs.Places.{IsBefore}
use Rattle.gv_gonodes.specs.declared.generated.rights_node.RightsNode.{RightsNode}
use Rattle.gv_gonodes.specs.declared.generated.rights_node.RightsNode.TheVariants as node

-- a part of the kind stands there
pub record IsSomeRights (nodes : List Node) (at : ℕ) : Type 0 where
  pub whole : List Right
  pub within : at < length nodes
  pub part : IsPartAt nodes at (PRights whole)

pub record IsRight (nodes : List Node) (limit : ℕ) (rights : ℕ) (last : ℕ) (whole : List Right) : Type 0 where
  pub of_rights : List Right
  pub of_last : Right
  pub at_rights : IsBefore nodes limit rights (PRights of_rights)
  pub at_last : IsBefore nodes limit last (PRight of_last)
  pub made : whole ≡ (of_rights ++ of_last ∷ [])

pub record IsPastRights (nodes : List Node) (limit : ℕ) (rights : ℕ) (whole : List Right) : Type 0 where
  pub of_rights : List Right
  pub at_rights : IsBefore nodes limit rights (PRights of_rights)
  pub made : whole ≡ of_rights

-- what is told of a node before `limit` is so of this part
abbrev pub IsRightsNode : List Node → ℕ → RightsNode → List Right → Type 0
IsRightsNode nodes limit node.NoRights whole = whole ≡ []
IsRightsNode nodes limit (node.Right rights last) whole = IsRight nodes limit rights last whole
IsRightsNode nodes limit (node.PastRights rights) whole = IsPastRights nodes limit rights whole
