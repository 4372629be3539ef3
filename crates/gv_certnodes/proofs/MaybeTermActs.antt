-- MaybeTerm nodes by the acts that make them. Made by tools/script_nodes.py from script.grammar: edit that.
use Rattle.std.proofs.Common.{◌≡◌, ℕ, true, List, [], ◌∷◌, Option, Some, None, refl, ap, ◌∙◌}
use Rattle.std.specs.Prelude.{drop, take}
use Rattle.gv_grammar.specs.Building.{has_tops}
use Rattle.gv_termread.specs.declared.generated.term_acts.Part.TheVariants.{Term as PTerm, Token as PToken, Other as POther}
use Rattle.gv_scriptsyntax.specs.declared.generated.script_acts.ScriptPart.TheVariants.{MaybeTerm as PMaybeTerm}
use Rattle.gv_termread.specs.declared.placed.PlacedTerm.{PlacedTerm}
use Rattle.gv_termread.specs.declared.token.SeenToken.{SeenToken}
use Rattle.gv_scriptsyntax.specs.declared.node.Node.{Node}
use Rattle.gv_scriptsyntax.specs.declared.node.Node.TheVariants.{Made}
use Rattle.gv_scriptsyntax.specs.declared.generated.script_table.TheConstants as act
use Rattle.gv_termread.specs.TermActs.{is_term, is_token}
use Rattle.gv_scriptsyntax.specs.ScriptActs.{made_no_term, made_word_term}
use Rattle.gv_scriptsyntax.specs.Nodes.{Parts, built, IsPartAt}
use Rattle.gv_scriptnodes.specs.Places.{IsChild}
use Rattle.gv_scriptnodes.proofs.Opened.{opened}
use Rattle.gv_scriptnodes.proofs.Tops.{accepted, top_term, top_token}
use Rattle.gv_certnodes.specs.Places.{IsMadeBy}
use Rattle.gv_certnodes.specs.MaybeTerm.{IsWordTerm}
use Rattle.gv_certnodes.proofs.Opened.{at_part, same_act}

no_term_end : (text : List ℕ) (nodes : List Node) (at : ℕ)
    → (whole : Option PlacedTerm) (parts rest : Parts) (behind : Parts) → built text (take at nodes) ≡ Some parts → parts ≡ behind
    → POther (PMaybeTerm whole) ∷ rest ≡ POther (PMaybeTerm (made_no_term parts)) ∷ drop 0 parts → whole ≡ None
no_term_end text nodes at whole parts rest behind before shape q =
    let made : whole ≡ made_no_term parts = cc in
    made ∙ ap (λ (ps : Parts). made_no_term ps) shape

pub no_term_is : (text : List ℕ) (nodes : List Node) (at : ℕ) → IsMadeBy nodes at act.ACT_NO_TERM
    → (whole : Option PlacedTerm) → IsPartAt text nodes at (POther (PMaybeTerm whole)) → whole ≡ None
no_term_is text nodes at by whole is =
    let o = opened text nodes at (Made by.raw by.from) (POther (PMaybeTerm whole)) by.node is in
    let a = accepted text act.ACT_NO_TERM o.parts (POther (PMaybeTerm whole) ∷ o.rest) (same_act text by.raw act.ACT_NO_TERM o.parts by.number ∙ o.done) in
    go o.parts o.rest o.before a.0 a.1
  where
    go : (parts rest : Parts) → built text (take at nodes) ≡ Some parts → has_tops ([]) parts ≡ true → POther (PMaybeTerm whole) ∷ rest ≡ POther (PMaybeTerm (made_no_term parts)) ∷ drop 0 parts → whole ≡ None
    go parts rest before h q =
        no_term_end text nodes at whole parts rest parts before refl q

word_term_end : (text : List ℕ) (nodes : List Node) (at : ℕ) (at_term : ℕ) → IsChild text nodes at 0 at_term
    → (whole : Option PlacedTerm) (parts rest : Parts) (term : PlacedTerm) (passed_0 : SeenToken) (behind : Parts) → built text (take at nodes) ≡ Some parts → parts ≡ PTerm term ∷ PToken passed_0 ∷ behind
    → POther (PMaybeTerm whole) ∷ rest ≡ POther (PMaybeTerm (made_word_term parts)) ∷ drop 2 parts → IsWordTerm text nodes at at_term whole
word_term_end text nodes at at_term known_term whole parts rest term passed_0 behind before shape q =
    let made : whole ≡ made_word_term parts = cc in
    record {
      of_term = term;
      at_term = at_part text nodes at 0 at_term parts (PToken passed_0 ∷ behind) (PTerm term) known_term before (ap (λ (ps : Parts). drop 0 ps) shape);
      made = made ∙ ap (λ (ps : Parts). made_word_term ps) shape;
    }

pub word_term_is : (text : List ℕ) (nodes : List Node) (at : ℕ) (at_term : ℕ) → IsMadeBy nodes at act.ACT_WORD_TERM → IsChild text nodes at 0 at_term
    → (whole : Option PlacedTerm) → IsPartAt text nodes at (POther (PMaybeTerm whole)) → IsWordTerm text nodes at at_term whole
word_term_is text nodes at at_term by known_term whole is =
    let o = opened text nodes at (Made by.raw by.from) (POther (PMaybeTerm whole)) by.node is in
    let a = accepted text act.ACT_WORD_TERM o.parts (POther (PMaybeTerm whole) ∷ o.rest) (same_act text by.raw act.ACT_WORD_TERM o.parts by.number ∙ o.done) in
    go o.parts o.rest o.before a.0 a.1
  where
    go : (parts rest : Parts) → built text (take at nodes) ≡ Some parts → has_tops (is_term ∷ is_token ∷ []) parts ≡ true → POther (PMaybeTerm whole) ∷ rest ≡ POther (PMaybeTerm (made_word_term parts)) ∷ drop 2 parts → IsWordTerm text nodes at at_term whole
    go parts rest before h q =
        top_term (is_token ∷ []) parts h (λ x0 r0 e0 h0.
        top_token ([]) r0 h0 (λ x1 r1 e1 h1.
        word_term_end text nodes at at_term known_term whole parts rest x0 x1 r1 before (e0 ∙ ap (λ (ps : Parts). PTerm x0 ∷ ps) e1) q))
