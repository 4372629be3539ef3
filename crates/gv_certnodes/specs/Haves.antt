-- Haves nodes. Made by tools/script_nodes.py from script.grammar: edit that.
use Rattle.std.specs.Prelude.{◌≡◌, ℕ, ◌<◌, List, length, [], ◌∷◌, ◌++◌}
use Rattle.gv_termread.specs.declared.generated.term_acts.Part.TheVariants.{Term as PTerm, Other as POther}
use Rattle.gv_scriptsyntax.specs.declared.generated.script_acts.ScriptPart.TheVariants.{Cert as PCert, Haves as PHaves}
use Rattle.gv_scriptsyntax.specs.declared.tree.Cert.{Cert}
use Rattle.gv_scriptsyntax.specs.declared.tree.Have.{Have}
use Rattle.gv_termread.specs.declared.placed.PlacedTerm.{PlacedTerm}
use Rattle.gv_termread.specs.declared.token.SeenToken.{SeenToken}
use Rattle.gv_scriptsyntax.specs.declared.node.Node.{Node}
use Rattle.gv_scriptsyntax.specs.Nodes.{IsPartAt}
use Rattle.gv_certnodes.specs.Places.{IsBefore}
use Rattle.gv_certnodes.specs.declared.generated.haves_node.HavesNode.{HavesNode}
use Rattle.gv_certnodes.specs.declared.generated.haves_node.HavesNode.TheVariants as node

-- a part of the kind stands there
pub record IsSomeHaves (text : List ℕ) (nodes : List Node) (at : ℕ) : Type 0 where
  pub whole : List Have
  pub within : at < length nodes
  pub part : IsPartAt text nodes at (POther (PHaves whole))

pub record IsStepHave (text : List ℕ) (nodes : List Node) (limit : ℕ) (haves : ℕ) (word : SeenToken) (term : ℕ) (proof : ℕ) (whole : List Have) : Type 0 where
  pub of_haves : List Have
  pub of_term : PlacedTerm
  pub of_proof : Cert
  pub at_haves : IsBefore text nodes limit haves (POther (PHaves of_haves))
  pub at_term : IsBefore text nodes limit term (PTerm of_term)
  pub at_proof : IsBefore text nodes limit proof (POther (PCert of_proof))
  pub made : whole ≡ (of_haves ++ (record { word = word; term = of_term; proof = of_proof }) ∷ [])

-- what is told of a node before `limit` is so of this part
abbrev pub IsHavesNode : List ℕ → List Node → ℕ → HavesNode → List Have → Type 0
IsHavesNode text nodes limit node.NoHaves whole = whole ≡ []
IsHavesNode text nodes limit (node.StepHave haves word term proof) whole = IsStepHave text nodes limit haves word term proof whole
