-- Factor nodes by the acts that make them. Made by tools/script_nodes.py from script.grammar: edit that.
use Rattle.std.proofs.Common.{◌≡◌, ℕ, true, List, [], ◌∷◌, Some, None, sym, ap, ◌∙◌}
use Rattle.std.specs.Prelude.{drop, take}
use Rattle.gv_grammar.specs.Building.{has_tops}
use Rattle.gv_termread.specs.declared.generated.term_acts.Part.TheVariants.{Term as PTerm, Token as PToken, Other as POther}
use Rattle.gv_scriptsyntax.specs.declared.generated.script_acts.ScriptPart.TheVariants.{Factor as PFactor}
use Rattle.gv_scriptsyntax.specs.declared.tree.Factor.{Factor}
use Rattle.gv_termread.specs.declared.placed.PlacedTerm.{PlacedTerm}
use Rattle.gv_termread.specs.declared.token.SeenToken.{SeenToken}
use Rattle.gv_scriptsyntax.specs.declared.node.Node.{Node}
use Rattle.gv_scriptsyntax.specs.declared.node.Node.TheVariants.{Made}
use Rattle.gv_scriptsyntax.specs.declared.generated.script_table.TheConstants as act
use Rattle.gv_termread.specs.TermActs.{is_term, is_token}
use Rattle.gv_scriptsyntax.specs.ScriptActs.{made_negative, made_positive}
use Rattle.gv_scriptsyntax.specs.Nodes.{Parts, built, IsPartAt}
use Rattle.gv_scriptnodes.specs.Places.{IsChild, IsTokenOf}
use Rattle.gv_scriptnodes.proofs.Opened.{opened}
use Rattle.gv_scriptnodes.proofs.Tops.{accepted, top_term, top_token}
use Rattle.gv_certnodes.specs.Places.{IsMadeBy}
use Rattle.gv_certnodes.specs.Factor.{IsPositive, IsNegative}
use Rattle.gv_certnodes.proofs.Opened.{at_part, same_act}

positive_end : (text : List ℕ) (nodes : List Node) (at : ℕ) (at_number : SeenToken) (at_term : ℕ) → IsTokenOf text nodes at 1 at_number → IsChild text nodes at 0 at_term
    → (whole : Factor) (parts rest : Parts) (term : PlacedTerm) (number : SeenToken) (behind : Parts) → built text (take at nodes) ≡ Some parts → parts ≡ PTerm term ∷ PToken number ∷ behind
    → POther (PFactor whole) ∷ rest ≡ POther (PFactor (made_positive parts)) ∷ drop 2 parts → IsPositive text nodes at at_number at_term whole
positive_end text nodes at at_number at_term known_number known_term whole parts rest term number behind before shape q =
    let made : whole ≡ made_positive parts = cc in
    record {
      of_term = term;
      at_term = at_part text nodes at 0 at_term parts (PToken number ∷ behind) (PTerm term) known_term before (ap (λ (ps : Parts). drop 0 ps) shape);
      made = made ∙ ap (λ (ps : Parts). made_positive ps) shape
          ∙ ap (λ (x : SeenToken). let y : Factor = (record { minus = None; number = x; term = term }) in y) (sym (known_number.same parts (behind) number before (ap (λ (ps : Parts). drop 1 ps) shape)));
    }

pub positive_is : (text : List ℕ) (nodes : List Node) (at : ℕ) (at_number : SeenToken) (at_term : ℕ) → IsMadeBy nodes at act.ACT_POSITIVE → IsTokenOf text nodes at 1 at_number → IsChild text nodes at 0 at_term
    → (whole : Factor) → IsPartAt text nodes at (POther (PFactor whole)) → IsPositive text nodes at at_number at_term whole
positive_is text nodes at at_number at_term by known_number known_term whole is =
    let o = opened text nodes at (Made by.raw by.from) (POther (PFactor whole)) by.node is in
    let a = accepted text act.ACT_POSITIVE o.parts (POther (PFactor whole) ∷ o.rest) (same_act text by.raw act.ACT_POSITIVE o.parts by.number ∙ o.done) in
    go o.parts o.rest o.before a.0 a.1
  where
    go : (parts rest : Parts) → built text (take at nodes) ≡ Some parts → has_tops (is_term ∷ is_token ∷ []) parts ≡ true → POther (PFactor whole) ∷ rest ≡ POther (PFactor (made_positive parts)) ∷ drop 2 parts → IsPositive text nodes at at_number at_term whole
    go parts rest before h q =
        top_term (is_token ∷ []) parts h (λ x0 r0 e0 h0.
        top_token ([]) r0 h0 (λ x1 r1 e1 h1.
        positive_end text nodes at at_number at_term known_number known_term whole parts rest x0 x1 r1 before (e0 ∙ ap (λ (ps : Parts). PTerm x0 ∷ ps) e1) q))

negative_end : (text : List ℕ) (nodes : List Node) (at : ℕ) (at_minus : SeenToken) (at_number : SeenToken) (at_term : ℕ) → IsTokenOf text nodes at 2 at_minus → IsTokenOf text nodes at 1 at_number → IsChild text nodes at 0 at_term
    → (whole : Factor) (parts rest : Parts) (term : PlacedTerm) (number : SeenToken) (minus : SeenToken) (behind : Parts) → built text (take at nodes) ≡ Some parts → parts ≡ PTerm term ∷ PToken number ∷ PToken minus ∷ behind
    → POther (PFactor whole) ∷ rest ≡ POther (PFactor (made_negative parts)) ∷ drop 3 parts → IsNegative text nodes at at_minus at_number at_term whole
negative_end text nodes at at_minus at_number at_term known_minus known_number known_term whole parts rest term number minus behind before shape q =
    let made : whole ≡ made_negative parts = cc in
    record {
      of_term = term;
      at_term = at_part text nodes at 0 at_term parts (PToken number ∷ PToken minus ∷ behind) (PTerm term) known_term before (ap (λ (ps : Parts). drop 0 ps) shape);
      made = made ∙ ap (λ (ps : Parts). made_negative ps) shape
          ∙ ap (λ (x : SeenToken). let y : Factor = (record { minus = Some x; number = number; term = term }) in y) (sym (known_minus.same parts (behind) minus before (ap (λ (ps : Parts). drop 2 ps) shape)))
          ∙ ap (λ (x : SeenToken). let y : Factor = (record { minus = Some at_minus; number = x; term = term }) in y) (sym (known_number.same parts (PToken minus ∷ behind) number before (ap (λ (ps : Parts). drop 1 ps) shape)));
    }

pub negative_is : (text : List ℕ) (nodes : List Node) (at : ℕ) (at_minus : SeenToken) (at_number : SeenToken) (at_term : ℕ) → IsMadeBy nodes at act.ACT_NEGATIVE → IsTokenOf text nodes at 2 at_minus → IsTokenOf text nodes at 1 at_number → IsChild text nodes at 0 at_term
    → (whole : Factor) → IsPartAt text nodes at (POther (PFactor whole)) → IsNegative text nodes at at_minus at_number at_term whole
negative_is text nodes at at_minus at_number at_term by known_minus known_number known_term whole is =
    let o = opened text nodes at (Made by.raw by.from) (POther (PFactor whole)) by.node is in
    let a = accepted text act.ACT_NEGATIVE o.parts (POther (PFactor whole) ∷ o.rest) (same_act text by.raw act.ACT_NEGATIVE o.parts by.number ∙ o.done) in
    go o.parts o.rest o.before a.0 a.1
  where
    go : (parts rest : Parts) → built text (take at nodes) ≡ Some parts → has_tops (is_term ∷ is_token ∷ is_token ∷ []) parts ≡ true → POther (PFactor whole) ∷ rest ≡ POther (PFactor (made_negative parts)) ∷ drop 3 parts → IsNegative text nodes at at_minus at_number at_term whole
    go parts rest before h q =
        top_term (is_token ∷ is_token ∷ []) parts h (λ x0 r0 e0 h0.
        top_token (is_token ∷ []) r0 h0 (λ x1 r1 e1 h1.
        top_token ([]) r1 h1 (λ x2 r2 e2 h2.
        negative_end text nodes at at_minus at_number at_term known_minus known_number known_term whole parts rest x0 x1 x2 r2 before (e0 ∙ ap (λ (ps : Parts). PTerm x0 ∷ ps) (e1 ∙ ap (λ (ps : Parts). PToken x1 ∷ ps) e2)) q)))
