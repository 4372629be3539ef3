-- Nodes by the acts that make them, and where a part stands.
use Rattle.std.specs.Prelude.{◌≡◌, ℕ, ◌-◌, ◌<◌, List, Some, slice_get}
use Rattle.gv_grammar.specs.declared.levels.TheConstants.{FIRST_ACT}
use Rattle.gv_termread.specs.declared.generated.term_acts.Part.{Part}
use Rattle.gv_scriptsyntax.specs.declared.generated.script_acts.ScriptPart.{ScriptPart}
use Rattle.gv_scriptsyntax.specs.declared.node.Node.{Node}
use Rattle.gv_scriptsyntax.specs.declared.node.Node.TheVariants.{Made}
use Rattle.gv_scriptsyntax.specs.Nodes.{IsPartAt}

-- An act makes the node at a place; the marks, whose numbers are lower, do what the first act does.
pub record IsMadeBy (nodes : List Node) (at act : ℕ) : Type 0 where
  pub raw : ℕ
  pub from : ℕ
  pub node : slice_get nodes at ≡ Some (Made raw from)
  pub number : raw - FIRST_ACT ≡ act - FIRST_ACT

-- some act does
pub record IsMade (nodes : List Node) (at : ℕ) : Type 0 where
  pub act : ℕ
  pub from : ℕ
  pub node : slice_get nodes at ≡ Some (Made act from)

-- The node at a place is this part, and it stands before `end`.
pub record IsBefore (text : List ℕ) (nodes : List Node) (end at : ℕ) (part : Part ScriptPart) : Type 0 where
  pub before : at < end
  pub is : IsPartAt text nodes at part
