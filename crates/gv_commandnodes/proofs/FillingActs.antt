-- Filling nodes by the acts that make them. Made by tools/script_nodes.py from script.grammar: edit that.
use Rattle.std.proofs.Common.{◌≡◌, ℕ, true, List, [], ◌∷◌, Some, sym, ap, ◌∙◌}
use Rattle.std.specs.Prelude.{drop, take}
use Rattle.gv_grammar.specs.Building.{has_tops}
use Rattle.gv_termread.specs.declared.generated.term_acts.Part.TheVariants.{Token as PToken, Other as POther}
use Rattle.gv_scriptsyntax.specs.declared.generated.script_acts.ScriptPart.TheVariants.{Filling as PFilling, Terms as PTerms}
use Rattle.gv_scriptsyntax.specs.declared.tree.Filling.{Filling}
use Rattle.gv_termread.specs.declared.placed.PlacedTerm.{PlacedTerm}
use Rattle.gv_termread.specs.declared.token.SeenToken.{SeenToken}
use Rattle.gv_scriptsyntax.specs.declared.tree.Filling.TheVariants as filling
use Rattle.gv_scriptsyntax.specs.declared.node.Node.{Node}
use Rattle.gv_scriptsyntax.specs.declared.node.Node.TheVariants.{Made}
use Rattle.gv_scriptsyntax.specs.declared.generated.script_table.TheConstants as act
use Rattle.gv_termread.specs.TermActs.{is_token}
use Rattle.gv_scriptsyntax.specs.ScriptActs.{is_terms, made_filled, made_filled_parens, made_hole_terms}
use Rattle.gv_scriptsyntax.specs.Nodes.{Parts, built, IsPartAt}
use Rattle.gv_scriptnodes.specs.Places.{IsChild, IsTokenOf}
use Rattle.gv_scriptnodes.proofs.Opened.{opened}
use Rattle.gv_scriptnodes.proofs.Tops.{accepted, top_terms, top_token}
use Rattle.gv_certnodes.specs.Places.{IsMadeBy}
use Rattle.gv_commandnodes.specs.Filling.{IsFilled, IsFilledParens}
use Rattle.gv_certnodes.proofs.Opened.{at_part, same_act}

hole_terms_end : (text : List ℕ) (nodes : List Node) (at : ℕ) (at_hole : SeenToken) → IsTokenOf text nodes at 1 at_hole
    → (whole : Filling) (parts rest : Parts) (passed_2 : SeenToken) (hole : SeenToken) (passed_0 : SeenToken) (behind : Parts) → built text (take at nodes) ≡ Some parts → parts ≡ PToken passed_2 ∷ PToken hole ∷ PToken passed_0 ∷ behind
    → POther (PFilling whole) ∷ rest ≡ POther (PFilling (made_hole_terms parts)) ∷ drop 3 parts → whole ≡ (filling.Hole at_hole)
hole_terms_end text nodes at at_hole known_hole whole parts rest passed_2 hole passed_0 behind before shape q =
    let made : whole ≡ made_hole_terms parts = cc in
    made ∙ ap (λ (ps : Parts). made_hole_terms ps) shape
    ∙ ap (λ (x : SeenToken). (filling.Hole x)) (sym (known_hole.same parts (PToken passed_0 ∷ behind) hole before (ap (λ (ps : Parts). drop 1 ps) shape)))

pub hole_terms_is : (text : List ℕ) (nodes : List Node) (at : ℕ) (at_hole : SeenToken) → IsMadeBy nodes at act.ACT_HOLE_TERMS → IsTokenOf text nodes at 1 at_hole
    → (whole : Filling) → IsPartAt text nodes at (POther (PFilling whole)) → whole ≡ (filling.Hole at_hole)
hole_terms_is text nodes at at_hole by known_hole whole is =
    let o = opened text nodes at (Made by.raw by.from) (POther (PFilling whole)) by.node is in
    let a = accepted text act.ACT_HOLE_TERMS o.parts (POther (PFilling whole) ∷ o.rest) (same_act text by.raw act.ACT_HOLE_TERMS o.parts by.number ∙ o.done) in
    go o.parts o.rest o.before a.0 a.1
  where
    go : (parts rest : Parts) → built text (take at nodes) ≡ Some parts → has_tops (is_token ∷ is_token ∷ is_token ∷ []) parts ≡ true → POther (PFilling whole) ∷ rest ≡ POther (PFilling (made_hole_terms parts)) ∷ drop 3 parts → whole ≡ (filling.Hole at_hole)
    go parts rest before h q =
        top_token (is_token ∷ is_token ∷ []) parts h (λ x0 r0 e0 h0.
        top_token (is_token ∷ []) r0 h0 (λ x1 r1 e1 h1.
        top_token ([]) r1 h1 (λ x2 r2 e2 h2.
        hole_terms_end text nodes at at_hole known_hole whole parts rest x0 x1 x2 r2 before (e0 ∙ ap (λ (ps : Parts). PToken x0 ∷ ps) (e1 ∙ ap (λ (ps : Parts). PToken x1 ∷ ps) e2)) q)))

filled_end : (text : List ℕ) (nodes : List Node) (at : ℕ) (at_terms : ℕ) → IsChild text nodes at 0 at_terms
    → (whole : Filling) (parts rest : Parts) (terms : List PlacedTerm) (behind : Parts) → built text (take at nodes) ≡ Some parts → parts ≡ POther (PTerms terms) ∷ behind
    → POther (PFilling whole) ∷ rest ≡ POther (PFilling (made_filled parts)) ∷ drop 1 parts → IsFilled text nodes at at_terms whole
filled_end text nodes at at_terms known_terms whole parts rest terms behind before shape q =
    let made : whole ≡ made_filled parts = cc in
    record {
      of_terms = terms;
      at_terms = at_part text nodes at 0 at_terms parts (behind) (POther (PTerms terms)) known_terms before (ap (λ (ps : Parts). drop 0 ps) shape);
      made = made ∙ ap (λ (ps : Parts). made_filled ps) shape;
    }

pub filled_is : (text : List ℕ) (nodes : List Node) (at : ℕ) (at_terms : ℕ) → IsMadeBy nodes at act.ACT_FILLED → IsChild text nodes at 0 at_terms
    → (whole : Filling) → IsPartAt text nodes at (POther (PFilling whole)) → IsFilled text nodes at at_terms whole
filled_is text nodes at at_terms by known_terms whole is =
    let o = opened text nodes at (Made by.raw by.from) (POther (PFilling whole)) by.node is in
    let a = accepted text act.ACT_FILLED o.parts (POther (PFilling whole) ∷ o.rest) (same_act text by.raw act.ACT_FILLED o.parts by.number ∙ o.done) in
    go o.parts o.rest o.before a.0 a.1
  where
    go : (parts rest : Parts) → built text (take at nodes) ≡ Some parts → has_tops (is_terms ∷ []) parts ≡ true → POther (PFilling whole) ∷ rest ≡ POther (PFilling (made_filled parts)) ∷ drop 1 parts → IsFilled text nodes at at_terms whole
    go parts rest before h q =
        top_terms ([]) parts h (λ x0 r0 e0 h0.
        filled_end text nodes at at_terms known_terms whole parts rest x0 r0 before e0 q)

filled_parens_end : (text : List ℕ) (nodes : List Node) (at : ℕ) (at_terms : ℕ) → IsChild text nodes at 1 at_terms
    → (whole : Filling) (parts rest : Parts) (passed_2 : SeenToken) (terms : List PlacedTerm) (passed_0 : SeenToken) (behind : Parts) → built text (take at nodes) ≡ Some parts → parts ≡ PToken passed_2 ∷ POther (PTerms terms) ∷ PToken passed_0 ∷ behind
    → POther (PFilling whole) ∷ rest ≡ POther (PFilling (made_filled_parens parts)) ∷ drop 3 parts → IsFilledParens text nodes at at_terms whole
filled_parens_end text nodes at at_terms known_terms whole parts rest passed_2 terms passed_0 behind before shape q =
    let made : whole ≡ made_filled_parens parts = cc in
    record {
      of_terms = terms;
      at_terms = at_part text nodes at 1 at_terms parts (PToken passed_0 ∷ behind) (POther (PTerms terms)) known_terms before (ap (λ (ps : Parts). drop 1 ps) shape);
      made = made ∙ ap (λ (ps : Parts). made_filled_parens ps) shape;
    }

pub filled_parens_is : (text : List ℕ) (nodes : List Node) (at : ℕ) (at_terms : ℕ) → IsMadeBy nodes at act.ACT_FILLED_PARENS → IsChild text nodes at 1 at_terms
    → (whole : Filling) → IsPartAt text nodes at (POther (PFilling whole)) → IsFilledParens text nodes at at_terms whole
filled_parens_is text nodes at at_terms by known_terms whole is =
    let o = opened text nodes at (Made by.raw by.from) (POther (PFilling whole)) by.node is in
    let a = accepted text act.ACT_FILLED_PARENS o.parts (POther (PFilling whole) ∷ o.rest) (same_act text by.raw act.ACT_FILLED_PARENS o.parts by.number ∙ o.done) in
    go o.parts o.rest o.before a.0 a.1
  where
    go : (parts rest : Parts) → built text (take at nodes) ≡ Some parts → has_tops (is_token ∷ is_terms ∷ is_token ∷ []) parts ≡ true → POther (PFilling whole) ∷ rest ≡ POther (PFilling (made_filled_parens parts)) ∷ drop 3 parts → IsFilledParens text nodes at at_terms whole
    go parts rest before h q =
        top_token (is_terms ∷ is_token ∷ []) parts h (λ x0 r0 e0 h0.
        top_terms (is_token ∷ []) r0 h0 (λ x1 r1 e1 h1.
        top_token ([]) r1 h1 (λ x2 r2 e2 h2.
        filled_parens_end text nodes at at_terms known_terms whole parts rest x0 x1 x2 r2 before (e0 ∙ ap (λ (ps : Parts). PToken x0 ∷ ps) (e1 ∙ ap (λ (ps : Parts). POther (PTerms x1) ∷ ps) e2)) q)))
