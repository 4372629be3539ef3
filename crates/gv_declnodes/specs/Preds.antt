-- Preds nodes. Made by tools/script_nodes.py from script.grammar: edit that.
use Rattle.std.specs.Prelude.{◌≡◌, ℕ, ◌<◌, List, length, [], ◌∷◌, ◌++◌}
use Rattle.gv_termread.specs.declared.generated.term_acts.Part.TheVariants.{Other as POther}
use Rattle.gv_scriptsyntax.specs.declared.generated.script_acts.ScriptPart.TheVariants.{Cases as PCases, Pars as PPars, Preds as PPreds}
use Rattle.gv_scriptsyntax.specs.declared.tree.Case.{Case}
use Rattle.gv_scriptsyntax.specs.declared.tree.Par.{Par}
use Rattle.gv_scriptsyntax.specs.declared.tree.Pred.{Pred}
use Rattle.gv_termread.specs.declared.token.SeenToken.{SeenToken}
use Rattle.gv_scriptsyntax.specs.declared.node.Node.{Node}
use Rattle.gv_scriptsyntax.specs.Nodes.{IsPartAt}
use Rattle.gv_certnodes.specs.Places.{IsBefore}
use Rattle.gv_declnodes.specs.declared.generated.preds_node.PredsNode.{PredsNode}
use Rattle.gv_declnodes.specs.declared.generated.preds_node.PredsNode.TheVariants as node

-- a part of the kind stands there
pub record IsSomePreds (text : List ℕ) (nodes : List Node) (at : ℕ) : Type 0 where
  pub whole : List Pred
  pub within : at < length nodes
  pub part : IsPartAt text nodes at (POther (PPreds whole))

pub record IsPred (text : List ℕ) (nodes : List Node) (limit : ℕ) (preds : ℕ) (name : SeenToken) (params : ℕ) (cases : ℕ) (whole : List Pred) : Type 0 where
  pub of_preds : List Pred
  pub of_params : List Par
  pub of_cases : List Case
  pub at_preds : IsBefore text nodes limit preds (POther (PPreds of_preds))
  pub at_params : IsBefore text nodes limit params (POther (PPars of_params))
  pub at_cases : IsBefore text nodes limit cases (POther (PCases of_cases))
  pub made : whole ≡ (of_preds ++ (record { name = name; params = of_params; cases = of_cases }) ∷ [])

-- what is told of a node before `limit` is so of this part
abbrev pub IsPredsNode : List ℕ → List Node → ℕ → PredsNode → List Pred → Type 0
IsPredsNode text nodes limit node.NoPreds whole = whole ≡ []
IsPredsNode text nodes limit (node.Pred preds name params cases) whole = IsPred text nodes limit preds name params cases whole
