-- Factors nodes by the acts that make them. Made by tools/script_nodes.py from script.grammar: edit that.
use Rattle.std.proofs.Common.{◌≡◌, ℕ, true, List, [], ◌∷◌, Some, refl, ap, ◌∙◌}
use Rattle.std.specs.Prelude.{drop, take}
use Rattle.gv_grammar.specs.Building.{has_tops}
use Rattle.gv_termread.specs.declared.generated.term_acts.Part.TheVariants.{Token as PToken, Other as POther}
use Rattle.gv_scriptsyntax.specs.declared.generated.script_acts.ScriptPart.TheVariants.{Factor as PFactor, Factors as PFactors}
use Rattle.gv_scriptsyntax.specs.declared.tree.Factor.{Factor}
use Rattle.gv_termread.specs.declared.token.SeenToken.{SeenToken}
use Rattle.gv_scriptsyntax.specs.declared.node.Node.{Node}
use Rattle.gv_scriptsyntax.specs.declared.node.Node.TheVariants.{Made}
use Rattle.gv_scriptsyntax.specs.declared.generated.script_table.TheConstants as act
use Rattle.gv_termread.specs.TermActs.{is_token}
use Rattle.gv_scriptsyntax.specs.ScriptActs.{is_factor, is_factors, made_factor, made_next_factor, made_no_factors}
use Rattle.gv_scriptsyntax.specs.Nodes.{Parts, built, IsPartAt}
use Rattle.gv_scriptnodes.specs.Places.{IsChild}
use Rattle.gv_scriptnodes.proofs.Opened.{opened}
use Rattle.gv_scriptnodes.proofs.Tops.{accepted, top_factor, top_factors, top_token}
use Rattle.gv_certnodes.specs.Places.{IsMadeBy}
use Rattle.gv_certnodes.specs.Factors.{IsFactor, IsNextFactor}
use Rattle.gv_certnodes.proofs.Opened.{at_part, same_act}

no_factors_end : (text : List ℕ) (nodes : List Node) (at : ℕ)
    → (whole : List Factor) (parts rest : Parts) (behind : Parts) → built text (take at nodes) ≡ Some parts → parts ≡ behind
    → POther (PFactors whole) ∷ rest ≡ POther (PFactors (made_no_factors parts)) ∷ drop 0 parts → whole ≡ []
no_factors_end text nodes at whole parts rest behind before shape q =
    let made : whole ≡ made_no_factors parts = cc in
    made ∙ ap (λ (ps : Parts). made_no_factors ps) shape

pub no_factors_is : (text : List ℕ) (nodes : List Node) (at : ℕ) → IsMadeBy nodes at act.ACT_NO_FACTORS
    → (whole : List Factor) → IsPartAt text nodes at (POther (PFactors whole)) → whole ≡ []
no_factors_is text nodes at by whole is =
    let o = opened text nodes at (Made by.raw by.from) (POther (PFactors whole)) by.node is in
    let a = accepted text act.ACT_NO_FACTORS o.parts (POther (PFactors whole) ∷ o.rest) (same_act text by.raw act.ACT_NO_FACTORS o.parts by.number ∙ o.done) in
    go o.parts o.rest o.before a.0 a.1
  where
    go : (parts rest : Parts) → built text (take at nodes) ≡ Some parts → has_tops ([]) parts ≡ true → POther (PFactors whole) ∷ rest ≡ POther (PFactors (made_no_factors parts)) ∷ drop 0 parts → whole ≡ []
    go parts rest before h q =
        no_factors_end text nodes at whole parts rest parts before refl q

factor_end : (text : List ℕ) (nodes : List Node) (at : ℕ) (at_factors : ℕ) (at_factor : ℕ) → IsChild text nodes at 1 at_factors → IsChild text nodes at 0 at_factor
    → (whole : List Factor) (parts rest : Parts) (factor : Factor) (factors : List Factor) (behind : Parts) → built text (take at nodes) ≡ Some parts → parts ≡ POther (PFactor factor) ∷ POther (PFactors factors) ∷ behind
    → POther (PFactors whole) ∷ rest ≡ POther (PFactors (made_factor parts)) ∷ drop 2 parts → IsFactor text nodes at at_factors at_factor whole
factor_end text nodes at at_factors at_factor known_factors known_factor whole parts rest factor factors behind before shape q =
    let made : whole ≡ made_factor parts = cc in
    record {
      of_factors = factors;
      of_factor = factor;
      at_factors = at_part text nodes at 1 at_factors parts (behind) (POther (PFactors factors)) known_factors before (ap (λ (ps : Parts). drop 1 ps) shape);
      at_factor = at_part text nodes at 0 at_factor parts (POther (PFactors factors) ∷ behind) (POther (PFactor factor)) known_factor before (ap (λ (ps : Parts). drop 0 ps) shape);
      made = made ∙ ap (λ (ps : Parts). made_factor ps) shape;
    }

pub factor_is : (text : List ℕ) (nodes : List Node) (at : ℕ) (at_factors : ℕ) (at_factor : ℕ) → IsMadeBy nodes at act.ACT_FACTOR → IsChild text nodes at 1 at_factors → IsChild text nodes at 0 at_factor
    → (whole : List Factor) → IsPartAt text nodes at (POther (PFactors whole)) → IsFactor text nodes at at_factors at_factor whole
factor_is text nodes at at_factors at_factor by known_factors known_factor whole is =
    let o = opened text nodes at (Made by.raw by.from) (POther (PFactors whole)) by.node is in
    let a = accepted text act.ACT_FACTOR o.parts (POther (PFactors whole) ∷ o.rest) (same_act text by.raw act.ACT_FACTOR o.parts by.number ∙ o.done) in
    go o.parts o.rest o.before a.0 a.1
  where
    go : (parts rest : Parts) → built text (take at nodes) ≡ Some parts → has_tops (is_factor ∷ is_factors ∷ []) parts ≡ true → POther (PFactors whole) ∷ rest ≡ POther (PFactors (made_factor parts)) ∷ drop 2 parts → IsFactor text nodes at at_factors at_factor whole
    go parts rest before h q =
        top_factor (is_factors ∷ []) parts h (λ x0 r0 e0 h0.
        top_factors ([]) r0 h0 (λ x1 r1 e1 h1.
        factor_end text nodes at at_factors at_factor known_factors known_factor whole parts rest x0 x1 r1 before (e0 ∙ ap (λ (ps : Parts). POther (PFactor x0) ∷ ps) e1) q))

next_factor_end : (text : List ℕ) (nodes : List Node) (at : ℕ) (at_factors : ℕ) (at_factor : ℕ) → IsChild text nodes at 2 at_factors → IsChild text nodes at 0 at_factor
    → (whole : List Factor) (parts rest : Parts) (factor : Factor) (passed_1 : SeenToken) (factors : List Factor) (behind : Parts) → built text (take at nodes) ≡ Some parts → parts ≡ POther (PFactor factor) ∷ PToken passed_1 ∷ POther (PFactors factors) ∷ behind
    → POther (PFactors whole) ∷ rest ≡ POther (PFactors (made_next_factor parts)) ∷ drop 3 parts → IsNextFactor text nodes at at_factors at_factor whole
next_factor_end text nodes at at_factors at_factor known_factors known_factor whole parts rest factor passed_1 factors behind before shape q =
    let made : whole ≡ made_next_factor parts = cc in
    record {
      of_factors = factors;
      of_factor = factor;
      at_factors = at_part text nodes at 2 at_factors parts (behind) (POther (PFactors factors)) known_factors before (ap (λ (ps : Parts). drop 2 ps) shape);
      at_factor = at_part text nodes at 0 at_factor parts (PToken passed_1 ∷ POther (PFactors factors) ∷ behind) (POther (PFactor factor)) known_factor before (ap (λ (ps : Parts). drop 0 ps) shape);
      made = made ∙ ap (λ (ps : Parts). made_next_factor ps) shape;
    }

pub next_factor_is : (text : List ℕ) (nodes : List Node) (at : ℕ) (at_factors : ℕ) (at_factor : ℕ) → IsMadeBy nodes at act.ACT_NEXT_FACTOR → IsChild text nodes at 2 at_factors → IsChild text nodes at 0 at_factor
    → (whole : List Factor) → IsPartAt text nodes at (POther (PFactors whole)) → IsNextFactor text nodes at at_factors at_factor whole
next_factor_is text nodes at at_factors at_factor by known_factors known_factor whole is =
    let o = opened text nodes at (Made by.raw by.from) (POther (PFactors whole)) by.node is in
    let a = accepted text act.ACT_NEXT_FACTOR o.parts (POther (PFactors whole) ∷ o.rest) (same_act text by.raw act.ACT_NEXT_FACTOR o.parts by.number ∙ o.done) in
    go o.parts o.rest o.before a.0 a.1
  where
    go : (parts rest : Parts) → built text (take at nodes) ≡ Some parts → has_tops (is_factor ∷ is_token ∷ is_factors ∷ []) parts ≡ true → POther (PFactors whole) ∷ rest ≡ POther (PFactors (made_next_factor parts)) ∷ drop 3 parts → IsNextFactor text nodes at at_factors at_factor whole
    go parts rest before h q =
        top_factor (is_token ∷ is_factors ∷ []) parts h (λ x0 r0 e0 h0.
        top_token (is_factors ∷ []) r0 h0 (λ x1 r1 e1 h1.
        top_factors ([]) r1 h1 (λ x2 r2 e2 h2.
        next_factor_end text nodes at at_factors at_factor known_factors known_factor whole parts rest x0 x1 x2 r2 before (e0 ∙ ap (λ (ps : Parts). POther (PFactor x0) ∷ ps) (e1 ∙ ap (λ (ps : Parts). PToken x1 ∷ ps) e2)) q)))
