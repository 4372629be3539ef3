-- Pars nodes. Made by tools/script_nodes.py from script.grammar: edit that.
use Rattle.std.specs.Prelude.{◌≡◌, ℕ, ◌<◌, List, length, [], ◌∷◌, ◌++◌}
use Rattle.gv_termread.specs.declared.generated.term_acts.Part.TheVariants.{Other as POther}
use Rattle.gv_scriptsyntax.specs.declared.generated.script_acts.ScriptPart.TheVariants.{Pars as PPars}
use Rattle.gv_scriptsyntax.specs.declared.tree.Par.{Par}
use Rattle.gv_termread.specs.declared.token.SeenToken.{SeenToken}
use Rattle.gv_scriptsyntax.specs.declared.node.Node.{Node}
use Rattle.gv_scriptsyntax.specs.Nodes.{IsPartAt}
use Rattle.gv_certnodes.specs.Places.{IsBefore}
use Rattle.gv_declnodes.specs.declared.generated.pars_node.ParsNode.{ParsNode}
use Rattle.gv_declnodes.specs.declared.generated.pars_node.ParsNode.TheVariants as node

-- a part of the kind stands there
pub record IsSomePars (text : List ℕ) (nodes : List Node) (at : ℕ) : Type 0 where
  pub whole : List Par
  pub within : at < length nodes
  pub part : IsPartAt text nodes at (POther (PPars whole))

pub record IsPar (text : List ℕ) (nodes : List Node) (limit : ℕ) (pars : ℕ) (name : SeenToken) (sort : SeenToken) (whole : List Par) : Type 0 where
  pub of_pars : List Par
  pub at_pars : IsBefore text nodes limit pars (POther (PPars of_pars))
  pub made : whole ≡ (of_pars ++ (record { name = name; sort = sort }) ∷ [])

pub record IsNextPar (text : List ℕ) (nodes : List Node) (limit : ℕ) (pars : ℕ) (name : SeenToken) (sort : SeenToken) (whole : List Par) : Type 0 where
  pub of_pars : List Par
  pub at_pars : IsBefore text nodes limit pars (POther (PPars of_pars))
  pub made : whole ≡ (of_pars ++ (record { name = name; sort = sort }) ∷ [])

pub record IsInPars (text : List ℕ) (nodes : List Node) (limit : ℕ) (pars : ℕ) (whole : List Par) : Type 0 where
  pub of_pars : List Par
  pub at_pars : IsBefore text nodes limit pars (POther (PPars of_pars))
  pub made : whole ≡ of_pars

-- what is told of a node before `limit` is so of this part
abbrev pub IsParsNode : List ℕ → List Node → ℕ → ParsNode → List Par → Type 0
IsParsNode text nodes limit node.NoPars whole = whole ≡ []
IsParsNode text nodes limit (node.Par pars name sort) whole = IsPar text nodes limit pars name sort whole
IsParsNode text nodes limit (node.NextPar pars name sort) whole = IsNextPar text nodes limit pars name sort whole
IsParsNode text nodes limit (node.InPars pars) whole = IsInPars text nodes limit pars whole
