-- Nodes and the parts that an act makes them of.
use Rattle.std.specs.Prelude.{◌≡◌, ℕ, ◌+◌, ◌<◌, List, ◌∷◌, Some, None, slice_get, take, drop}
use Rattle.gv_termread.specs.declared.generated.term_acts.Part.TheVariants.{Token as PToken}
use Rattle.gv_termread.specs.declared.token.SeenToken.{SeenToken}
use Rattle.gv_scriptsyntax.specs.declared.node.Node.{Node}
use Rattle.gv_scriptsyntax.specs.declared.node.Node.TheVariants.{Token, Made}
use Rattle.gv_scriptsyntax.specs.declared.tree.Script.{Script}
use Rattle.gv_scriptsyntax.specs.Nodes.{Parts, built, IsTreeOf}

-- the act that makes the node at a place; 0, which is none, of a token
abbrev pub act_in : Node → ℕ
act_in (Token t) = 0
act_in (Made act from) = act

abbrev pub act_at : List Node → ℕ → ℕ
act_at nodes at = elim (slice_get nodes at) [ None ↦ 0 | Some node ↦ act_in node ]

-- The node at a place is the part of another one behind which so many of its parts come.
pub record IsChild (text : List ℕ) (nodes : List Node) (at number place : ℕ) : Type 0 where
  pub before : place < at
  pub part : (parts : Parts) → built text (take at nodes) ≡ Some parts → built text (take (place + 1) nodes) ≡ Some (drop number parts)

-- That part is a token.
pub record IsTokenOf (text : List ℕ) (nodes : List Node) (at number : ℕ) (token : SeenToken) : Type 0 where
  pub same : (parts rest : Parts) (t : SeenToken) → built text (take at nodes) ≡ Some parts → drop number parts ≡ PToken t ∷ rest → token ≡ t

-- The nodes are the tree of some script.
pub record IsSomeScript (text : List ℕ) (nodes : List Node) : Type 0 where
  pub script : Script
  pub tree : IsTreeOf text nodes script
