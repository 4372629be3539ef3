-- Arms nodes. Made by tools/script_nodes.py from script.grammar: edit that.
use Rattle.std.specs.Prelude.{◌≡◌, ℕ, ◌<◌, List, length, [], ◌∷◌, ◌++◌}
use Rattle.gv_termread.specs.declared.generated.term_acts.Part.TheVariants.{Other as POther}
use Rattle.gv_scriptsyntax.specs.declared.generated.script_acts.ScriptPart.TheVariants.{Arm as PArm, Arms as PArms}
use Rattle.gv_scriptsyntax.specs.declared.tree.Arm.{Arm}
use Rattle.gv_scriptsyntax.specs.declared.node.Node.{Node}
use Rattle.gv_scriptsyntax.specs.Nodes.{IsPartAt}
use Rattle.gv_certnodes.specs.Places.{IsBefore}
use Rattle.gv_commandnodes.specs.declared.generated.arms_node.ArmsNode.{ArmsNode}
use Rattle.gv_commandnodes.specs.declared.generated.arms_node.ArmsNode.TheVariants as node

-- a part of the kind stands there
pub record IsSomeArms (text : List ℕ) (nodes : List Node) (at : ℕ) : Type 0 where
  pub whole : List Arm
  pub within : at < length nodes
  pub part : IsPartAt text nodes at (POther (PArms whole))

pub record IsNextArm (text : List ℕ) (nodes : List Node) (limit : ℕ) (arms : ℕ) (arm : ℕ) (whole : List Arm) : Type 0 where
  pub of_arms : List Arm
  pub of_arm : Arm
  pub at_arms : IsBefore text nodes limit arms (POther (PArms of_arms))
  pub at_arm : IsBefore text nodes limit arm (POther (PArm of_arm))
  pub made : whole ≡ (of_arms ++ of_arm ∷ [])

-- what is told of a node before `limit` is so of this part
abbrev pub IsArmsNode : List ℕ → List Node → ℕ → ArmsNode → List Arm → Type 0
IsArmsNode text nodes limit node.NoArms whole = whole ≡ []
IsArmsNode text nodes limit (node.NextArm arms arm) whole = IsNextArm text nodes limit arms arm whole
