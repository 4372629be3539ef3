-- Terms nodes by the acts that make them. Made by tools/script_nodes.py from script.grammar: edit that.
use Rattle.std.proofs.Common.{◌≡◌, ℕ, true, List, [], ◌∷◌, Some, refl, ap, ◌∙◌}
use Rattle.std.specs.Prelude.{drop, take}
use Rattle.gv_grammar.specs.Building.{has_tops}
use Rattle.gv_termread.specs.declared.generated.term_acts.Part.TheVariants.{Term as PTerm, Token as PToken, Other as POther}
use Rattle.gv_scriptsyntax.specs.declared.generated.script_acts.ScriptPart.TheVariants.{Terms as PTerms}
use Rattle.gv_termread.specs.declared.placed.PlacedTerm.{PlacedTerm}
use Rattle.gv_termread.specs.declared.token.SeenToken.{SeenToken}
use Rattle.gv_scriptsyntax.specs.declared.node.Node.{Node}
use Rattle.gv_scriptsyntax.specs.declared.node.Node.TheVariants.{Made}
use Rattle.gv_scriptsyntax.specs.declared.generated.script_table.TheConstants as act
use Rattle.gv_termread.specs.TermActs.{is_term, is_token}
use Rattle.gv_scriptsyntax.specs.ScriptActs.{is_terms, made_in_terms, made_next_term, made_no_terms, made_term, made_word_terms}
use Rattle.gv_scriptsyntax.specs.Nodes.{Parts, built, IsPartAt}
use Rattle.gv_scriptnodes.specs.Places.{IsChild}
use Rattle.gv_scriptnodes.proofs.Opened.{opened}
use Rattle.gv_scriptnodes.proofs.Tops.{accepted, top_term, top_terms, top_token}
use Rattle.gv_certnodes.specs.Places.{IsMadeBy}
use Rattle.gv_certnodes.specs.Terms.{IsTerm, IsNextTerm, IsInTerms, IsWordTerms}
use Rattle.gv_certnodes.proofs.Opened.{at_part, same_act}

no_terms_end : (text : List ℕ) (nodes : List Node) (at : ℕ)
    → (whole : List PlacedTerm) (parts rest : Parts) (behind : Parts) → built text (take at nodes) ≡ Some parts → parts ≡ behind
    → POther (PTerms whole) ∷ rest ≡ POther (PTerms (made_no_terms parts)) ∷ drop 0 parts → whole ≡ []
no_terms_end text nodes at whole parts rest behind before shape q =
    let made : whole ≡ made_no_terms parts = cc in
    made ∙ ap (λ (ps : Parts). made_no_terms ps) shape

pub no_terms_is : (text : List ℕ) (nodes : List Node) (at : ℕ) → IsMadeBy nodes at act.ACT_NO_TERMS
    → (whole : List PlacedTerm) → IsPartAt text nodes at (POther (PTerms whole)) → whole ≡ []
no_terms_is text nodes at by whole is =
    let o = opened text nodes at (Made by.raw by.from) (POther (PTerms whole)) by.node is in
    let a = accepted text act.ACT_NO_TERMS o.parts (POther (PTerms whole) ∷ o.rest) (same_act text by.raw act.ACT_NO_TERMS o.parts by.number ∙ o.done) in
    go o.parts o.rest o.before a.0 a.1
  where
    go : (parts rest : Parts) → built text (take at nodes) ≡ Some parts → has_tops ([]) parts ≡ true → POther (PTerms whole) ∷ rest ≡ POther (PTerms (made_no_terms parts)) ∷ drop 0 parts → whole ≡ []
    go parts rest before h q =
        no_terms_end text nodes at whole parts rest parts before refl q

term_end : (text : List ℕ) (nodes : List Node) (at : ℕ) (at_terms : ℕ) (at_term : ℕ) → IsChild text nodes at 1 at_terms → IsChild text nodes at 0 at_term
    → (whole : List PlacedTerm) (parts rest : Parts) (term : PlacedTerm) (terms : List PlacedTerm) (behind : Parts) → built text (take at nodes) ≡ Some parts → parts ≡ PTerm term ∷ POther (PTerms terms) ∷ behind
    → POther (PTerms whole) ∷ rest ≡ POther (PTerms (made_term parts)) ∷ drop 2 parts → IsTerm text nodes at at_terms at_term whole
term_end text nodes at at_terms at_term known_terms known_term whole parts rest term terms behind before shape q =
    let made : whole ≡ made_term parts = cc in
    record {
      of_terms = terms;
      of_term = term;
      at_terms = at_part text nodes at 1 at_terms parts (behind) (POther (PTerms terms)) known_terms before (ap (λ (ps : Parts). drop 1 ps) shape);
      at_term = at_part text nodes at 0 at_term parts (POther (PTerms terms) ∷ behind) (PTerm term) known_term before (ap (λ (ps : Parts). drop 0 ps) shape);
      made = made ∙ ap (λ (ps : Parts). made_term ps) shape;
    }

pub term_is : (text : List ℕ) (nodes : List Node) (at : ℕ) (at_terms : ℕ) (at_term : ℕ) → IsMadeBy nodes at act.ACT_TERM → IsChild text nodes at 1 at_terms → IsChild text nodes at 0 at_term
    → (whole : List PlacedTerm) → IsPartAt text nodes at (POther (PTerms whole)) → IsTerm text nodes at at_terms at_term whole
term_is text nodes at at_terms at_term by known_terms known_term whole is =
    let o = opened text nodes at (Made by.raw by.from) (POther (PTerms whole)) by.node is in
    let a = accepted text act.ACT_TERM o.parts (POther (PTerms whole) ∷ o.rest) (same_act text by.raw act.ACT_TERM o.parts by.number ∙ o.done) in
    go o.parts o.rest o.before a.0 a.1
  where
    go : (parts rest : Parts) → built text (take at nodes) ≡ Some parts → has_tops (is_term ∷ is_terms ∷ []) parts ≡ true → POther (PTerms whole) ∷ rest ≡ POther (PTerms (made_term parts)) ∷ drop 2 parts → IsTerm text nodes at at_terms at_term whole
    go parts rest before h q =
        top_term (is_terms ∷ []) parts h (λ x0 r0 e0 h0.
        top_terms ([]) r0 h0 (λ x1 r1 e1 h1.
        term_end text nodes at at_terms at_term known_terms known_term whole parts rest x0 x1 r1 before (e0 ∙ ap (λ (ps : Parts). PTerm x0 ∷ ps) e1) q))

next_term_end : (text : List ℕ) (nodes : List Node) (at : ℕ) (at_terms : ℕ) (at_term : ℕ) → IsChild text nodes at 2 at_terms → IsChild text nodes at 0 at_term
    → (whole : List PlacedTerm) (parts rest : Parts) (term : PlacedTerm) (passed_1 : SeenToken) (terms : List PlacedTerm) (behind : Parts) → built text (take at nodes) ≡ Some parts → parts ≡ PTerm term ∷ PToken passed_1 ∷ POther (PTerms terms) ∷ behind
    → POther (PTerms whole) ∷ rest ≡ POther (PTerms (made_next_term parts)) ∷ drop 3 parts → IsNextTerm text nodes at at_terms at_term whole
next_term_end text nodes at at_terms at_term known_terms known_term whole parts rest term passed_1 terms behind before shape q =
    let made : whole ≡ made_next_term parts = cc in
    record {
      of_terms = terms;
      of_term = term;
      at_terms = at_part text nodes at 2 at_terms parts (behind) (POther (PTerms terms)) known_terms before (ap (λ (ps : Parts). drop 2 ps) shape);
      at_term = at_part text nodes at 0 at_term parts (PToken passed_1 ∷ POther (PTerms terms) ∷ behind) (PTerm term) known_term before (ap (λ (ps : Parts). drop 0 ps) shape);
      made = made ∙ ap (λ (ps : Parts). made_next_term ps) shape;
    }

pub next_term_is : (text : List ℕ) (nodes : List Node) (at : ℕ) (at_terms : ℕ) (at_term : ℕ) → IsMadeBy nodes at act.ACT_NEXT_TERM → IsChild text nodes at 2 at_terms → IsChild text nodes at 0 at_term
    → (whole : List PlacedTerm) → IsPartAt text nodes at (POther (PTerms whole)) → IsNextTerm text nodes at at_terms at_term whole
next_term_is text nodes at at_terms at_term by known_terms known_term whole is =
    let o = opened text nodes at (Made by.raw by.from) (POther (PTerms whole)) by.node is in
    let a = accepted text act.ACT_NEXT_TERM o.parts (POther (PTerms whole) ∷ o.rest) (same_act text by.raw act.ACT_NEXT_TERM o.parts by.number ∙ o.done) in
    go o.parts o.rest o.before a.0 a.1
  where
    go : (parts rest : Parts) → built text (take at nodes) ≡ Some parts → has_tops (is_term ∷ is_token ∷ is_terms ∷ []) parts ≡ true → POther (PTerms whole) ∷ rest ≡ POther (PTerms (made_next_term parts)) ∷ drop 3 parts → IsNextTerm text nodes at at_terms at_term whole
    go parts rest before h q =
        top_term (is_token ∷ is_terms ∷ []) parts h (λ x0 r0 e0 h0.
        top_token (is_terms ∷ []) r0 h0 (λ x1 r1 e1 h1.
        top_terms ([]) r1 h1 (λ x2 r2 e2 h2.
        next_term_end text nodes at at_terms at_term known_terms known_term whole parts rest x0 x1 x2 r2 before (e0 ∙ ap (λ (ps : Parts). PTerm x0 ∷ ps) (e1 ∙ ap (λ (ps : Parts). PToken x1 ∷ ps) e2)) q)))

in_terms_end : (text : List ℕ) (nodes : List Node) (at : ℕ) (at_terms : ℕ) → IsChild text nodes at 1 at_terms
    → (whole : List PlacedTerm) (parts rest : Parts) (passed_2 : SeenToken) (terms : List PlacedTerm) (passed_0 : SeenToken) (behind : Parts) → built text (take at nodes) ≡ Some parts → parts ≡ PToken passed_2 ∷ POther (PTerms terms) ∷ PToken passed_0 ∷ behind
    → POther (PTerms whole) ∷ rest ≡ POther (PTerms (made_in_terms parts)) ∷ drop 3 parts → IsInTerms text nodes at at_terms whole
in_terms_end text nodes at at_terms known_terms whole parts rest passed_2 terms passed_0 behind before shape q =
    let made : whole ≡ made_in_terms parts = cc in
    record {
      of_terms = terms;
      at_terms = at_part text nodes at 1 at_terms parts (PToken passed_0 ∷ behind) (POther (PTerms terms)) known_terms before (ap (λ (ps : Parts). drop 1 ps) shape);
      made = made ∙ ap (λ (ps : Parts). made_in_terms ps) shape;
    }

pub in_terms_is : (text : List ℕ) (nodes : List Node) (at : ℕ) (at_terms : ℕ) → IsMadeBy nodes at act.ACT_IN_TERMS → IsChild text nodes at 1 at_terms
    → (whole : List PlacedTerm) → IsPartAt text nodes at (POther (PTerms whole)) → IsInTerms text nodes at at_terms whole
in_terms_is text nodes at at_terms by known_terms whole is =
    let o = opened text nodes at (Made by.raw by.from) (POther (PTerms whole)) by.node is in
    let a = accepted text act.ACT_IN_TERMS o.parts (POther (PTerms whole) ∷ o.rest) (same_act text by.raw act.ACT_IN_TERMS o.parts by.number ∙ o.done) in
    go o.parts o.rest o.before a.0 a.1
  where
    go : (parts rest : Parts) → built text (take at nodes) ≡ Some parts → has_tops (is_token ∷ is_terms ∷ is_token ∷ []) parts ≡ true → POther (PTerms whole) ∷ rest ≡ POther (PTerms (made_in_terms parts)) ∷ drop 3 parts → IsInTerms text nodes at at_terms whole
    go parts rest before h q =
        top_token (is_terms ∷ is_token ∷ []) parts h (λ x0 r0 e0 h0.
        top_terms (is_token ∷ []) r0 h0 (λ x1 r1 e1 h1.
        top_token ([]) r1 h1 (λ x2 r2 e2 h2.
        in_terms_end text nodes at at_terms known_terms whole parts rest x0 x1 x2 r2 before (e0 ∙ ap (λ (ps : Parts). PToken x0 ∷ ps) (e1 ∙ ap (λ (ps : Parts). POther (PTerms x1) ∷ ps) e2)) q)))

word_terms_end : (text : List ℕ) (nodes : List Node) (at : ℕ) (at_terms : ℕ) → IsChild text nodes at 0 at_terms
    → (whole : List PlacedTerm) (parts rest : Parts) (terms : List PlacedTerm) (passed_0 : SeenToken) (behind : Parts) → built text (take at nodes) ≡ Some parts → parts ≡ POther (PTerms terms) ∷ PToken passed_0 ∷ behind
    → POther (PTerms whole) ∷ rest ≡ POther (PTerms (made_word_terms parts)) ∷ drop 2 parts → IsWordTerms text nodes at at_terms whole
word_terms_end text nodes at at_terms known_terms whole parts rest terms passed_0 behind before shape q =
    let made : whole ≡ made_word_terms parts = cc in
    record {
      of_terms = terms;
      at_terms = at_part text nodes at 0 at_terms parts (PToken passed_0 ∷ behind) (POther (PTerms terms)) known_terms before (ap (λ (ps : Parts). drop 0 ps) shape);
      made = made ∙ ap (λ (ps : Parts). made_word_terms ps) shape;
    }

pub word_terms_is : (text : List ℕ) (nodes : List Node) (at : ℕ) (at_terms : ℕ) → IsMadeBy nodes at act.ACT_WORD_TERMS → IsChild text nodes at 0 at_terms
    → (whole : List PlacedTerm) → IsPartAt text nodes at (POther (PTerms whole)) → IsWordTerms text nodes at at_terms whole
word_terms_is text nodes at at_terms by known_terms whole is =
    let o = opened text nodes at (Made by.raw by.from) (POther (PTerms whole)) by.node is in
    let a = accepted text act.ACT_WORD_TERMS o.parts (POther (PTerms whole) ∷ o.rest) (same_act text by.raw act.ACT_WORD_TERMS o.parts by.number ∙ o.done) in
    go o.parts o.rest o.before a.0 a.1
  where
    go : (parts rest : Parts) → built text (take at nodes) ≡ Some parts → has_tops (is_terms ∷ is_token ∷ []) parts ≡ true → POther (PTerms whole) ∷ rest ≡ POther (PTerms (made_word_terms parts)) ∷ drop 2 parts → IsWordTerms text nodes at at_terms whole
    go parts rest before h q =
        top_terms (is_token ∷ []) parts h (λ x0 r0 e0 h0.
        top_token ([]) r0 h0 (λ x1 r1 e1 h1.
        word_terms_end text nodes at at_terms known_terms whole parts rest x0 x1 r1 before (e0 ∙ ap (λ (ps : Parts). POther (PTerms x0) ∷ ps) e1) q))
