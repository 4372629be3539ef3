-- Cert nodes. Made by tools/script_nodes.py from script.grammar: edit that.
use Rattle.std.specs.Prelude.{◌≡◌, ℕ, ◌<◌, List, length, Option}
use Rattle.gv_termread.specs.declared.generated.term_acts.Part.TheVariants.{Term as PTerm, Other as POther}
use Rattle.gv_scriptsyntax.specs.declared.generated.script_acts.ScriptPart.TheVariants.{Cert as PCert, Factors as PFactors, Haves as PHaves, MaybeTerm as PMaybeTerm, Terms as PTerms}
use Rattle.gv_scriptsyntax.specs.declared.tree.Cert.{Cert}
use Rattle.gv_scriptsyntax.specs.declared.tree.Factor.{Factor}
use Rattle.gv_scriptsyntax.specs.declared.tree.Have.{Have}
use Rattle.gv_termread.specs.declared.placed.PlacedTerm.{PlacedTerm}
use Rattle.gv_termread.specs.declared.token.SeenToken.{SeenToken}
use Rattle.gv_scriptsyntax.specs.declared.node.Node.{Node}
use Rattle.gv_scriptsyntax.specs.declared.tree.Cert.TheVariants as cert
use Rattle.gv_scriptsyntax.specs.Nodes.{IsPartAt}
use Rattle.gv_certnodes.specs.Places.{IsBefore}
use Rattle.gv_certnodes.specs.declared.generated.cert_node.CertNode.{CertNode}
use Rattle.gv_certnodes.specs.declared.generated.cert_node.CertNode.TheVariants as node

-- a part of the kind stands there
pub record IsSomeCert (text : List ℕ) (nodes : List Node) (at : ℕ) : Type 0 where
  pub whole : Cert
  pub within : at < length nodes
  pub part : IsPartAt text nodes at (POther (PCert whole))

pub record IsAxiom (text : List ℕ) (nodes : List Node) (limit : ℕ) (word : SeenToken) (number : SeenToken) (terms : ℕ) (whole : Cert) : Type 0 where
  pub of_terms : List PlacedTerm
  pub at_terms : IsBefore text nodes limit terms (POther (PTerms of_terms))
  pub made : whole ≡ (cert.Axiom word number of_terms)

pub record IsSubst (text : List ℕ) (nodes : List Node) (limit : ℕ) (word : SeenToken) (equation : ℕ) (within : ℕ) (whole : Cert) : Type 0 where
  pub of_equation : PlacedTerm
  pub of_within : Option PlacedTerm
  pub at_equation : IsBefore text nodes limit equation (PTerm of_equation)
  pub at_within : IsBefore text nodes limit within (POther (PMaybeTerm of_within))
  pub made : whole ≡ (cert.Subst word of_equation of_within)

pub record IsContra (text : List ℕ) (nodes : List Node) (limit : ℕ) (word : SeenToken) (term : ℕ) (whole : Cert) : Type 0 where
  pub of_term : PlacedTerm
  pub at_term : IsBefore text nodes limit term (PTerm of_term)
  pub made : whole ≡ (cert.Contra word of_term)

pub record IsLinear (text : List ℕ) (nodes : List Node) (limit : ℕ) (word : SeenToken) (sums : ℕ) (factors : ℕ) (whole : Cert) : Type 0 where
  pub of_sums : List PlacedTerm
  pub of_factors : List Factor
  pub at_sums : IsBefore text nodes limit sums (POther (PTerms of_sums))
  pub at_factors : IsBefore text nodes limit factors (POther (PFactors of_factors))
  pub made : whole ≡ (cert.Linear word of_sums of_factors)

pub record IsByCases (text : List ℕ) (nodes : List Node) (limit : ℕ) (word : SeenToken) (term : ℕ) (first : ℕ) (second : ℕ) (whole : Cert) : Type 0 where
  pub of_term : PlacedTerm
  pub of_first : Cert
  pub of_second : Cert
  pub at_term : IsBefore text nodes limit term (PTerm of_term)
  pub at_first : IsBefore text nodes limit first (POther (PCert of_first))
  pub at_second : IsBefore text nodes limit second (POther (PCert of_second))
  pub made : whole ≡ (cert.Cases word of_term of_first of_second)

pub record IsSteps (text : List ℕ) (nodes : List Node) (limit : ℕ) (word : SeenToken) (haves : ℕ) (last : ℕ) (whole : Cert) : Type 0 where
  pub of_haves : List Have
  pub of_last : Cert
  pub at_haves : IsBefore text nodes limit haves (POther (PHaves of_haves))
  pub at_last : IsBefore text nodes limit last (POther (PCert of_last))
  pub made : whole ≡ (cert.Steps word of_haves of_last)

-- what is told of a node before `limit` is so of this part
abbrev pub IsCertNode : List ℕ → List Node → ℕ → CertNode → Cert → Type 0
IsCertNode text nodes limit (node.Given word) whole = whole ≡ (cert.Given word)
IsCertNode text nodes limit (node.Axiom word number terms) whole = IsAxiom text nodes limit word number terms whole
IsCertNode text nodes limit (node.Subst word equation within) whole = IsSubst text nodes limit word equation within whole
IsCertNode text nodes limit (node.Contra word term) whole = IsContra text nodes limit word term whole
IsCertNode text nodes limit (node.Linear word sums factors) whole = IsLinear text nodes limit word sums factors whole
IsCertNode text nodes limit (node.ByCases word term first second) whole = IsByCases text nodes limit word term first second whole
IsCertNode text nodes limit (node.Steps word haves last) whole = IsSteps text nodes limit word haves last whole
IsCertNode text nodes limit (node.Hole token) whole = whole ≡ (cert.Hole token)
