-- Terms nodes. Made by tools/script_nodes.py from script.grammar: edit that.
use Rattle.std.specs.Prelude.{◌≡◌, ℕ, ◌<◌, List, length, [], ◌∷◌, ◌++◌}
use Rattle.gv_termread.specs.declared.generated.term_acts.Part.TheVariants.{Term as PTerm, Other as POther}
use Rattle.gv_scriptsyntax.specs.declared.generated.script_acts.ScriptPart.TheVariants.{Terms as PTerms}
use Rattle.gv_termread.specs.declared.placed.PlacedTerm.{PlacedTerm}
use Rattle.gv_scriptsyntax.specs.declared.node.Node.{Node}
use Rattle.gv_scriptsyntax.specs.Nodes.{IsPartAt}
use Rattle.gv_certnodes.specs.Places.{IsBefore}
use Rattle.gv_certnodes.specs.declared.generated.terms_node.TermsNode.{TermsNode}
use Rattle.gv_certnodes.specs.declared.generated.terms_node.TermsNode.TheVariants as node

-- a part of the kind stands there
pub record IsSomeTerms (text : List ℕ) (nodes : List Node) (at : ℕ) : Type 0 where
  pub whole : List PlacedTerm
  pub within : at < length nodes
  pub part : IsPartAt text nodes at (POther (PTerms whole))

pub record IsTerm (text : List ℕ) (nodes : List Node) (limit : ℕ) (terms : ℕ) (term : ℕ) (whole : List PlacedTerm) : Type 0 where
  pub of_terms : List PlacedTerm
  pub of_term : PlacedTerm
  pub at_terms : IsBefore text nodes limit terms (POther (PTerms of_terms))
  pub at_term : IsBefore text nodes limit term (PTerm of_term)
  pub made : whole ≡ (of_terms ++ of_term ∷ [])

pub record IsNextTerm (text : List ℕ) (nodes : List Node) (limit : ℕ) (terms : ℕ) (term : ℕ) (whole : List PlacedTerm) : Type 0 where
  pub of_terms : List PlacedTerm
  pub of_term : PlacedTerm
  pub at_terms : IsBefore text nodes limit terms (POther (PTerms of_terms))
  pub at_term : IsBefore text nodes limit term (PTerm of_term)
  pub made : whole ≡ (of_terms ++ of_term ∷ [])

pub record IsInTerms (text : List ℕ) (nodes : List Node) (limit : ℕ) (terms : ℕ) (whole : List PlacedTerm) : Type 0 where
  pub of_terms : List PlacedTerm
  pub at_terms : IsBefore text nodes limit terms (POther (PTerms of_terms))
  pub made : whole ≡ of_terms

pub record IsWordTerms (text : List ℕ) (nodes : List Node) (limit : ℕ) (terms : ℕ) (whole : List PlacedTerm) : Type 0 where
  pub of_terms : List PlacedTerm
  pub at_terms : IsBefore text nodes limit terms (POther (PTerms of_terms))
  pub made : whole ≡ of_terms

-- what is told of a node before `limit` is so of this part
abbrev pub IsTermsNode : List ℕ → List Node → ℕ → TermsNode → List PlacedTerm → Type 0
IsTermsNode text nodes limit node.NoTerms whole = whole ≡ []
IsTermsNode text nodes limit (node.Term terms term) whole = IsTerm text nodes limit terms term whole
IsTermsNode text nodes limit (node.NextTerm terms term) whole = IsNextTerm text nodes limit terms term whole
IsTermsNode text nodes limit (node.InTerms terms) whole = IsInTerms text nodes limit terms whole
IsTermsNode text nodes limit (node.WordTerms terms) whole = IsWordTerms text nodes limit terms whole
