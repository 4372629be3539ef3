-- Cert nodes by the acts that make them. Made by tools/script_nodes.py from script.grammar: edit that.
use Rattle.std.proofs.Common.{◌≡◌, ℕ, true, List, [], ◌∷◌, Option, Some, sym, ap, ◌∙◌}
use Rattle.std.specs.Prelude.{drop, take}
use Rattle.gv_grammar.specs.Building.{has_tops}
use Rattle.gv_termread.specs.declared.generated.term_acts.Part.TheVariants.{Term as PTerm, Token as PToken, Other as POther}
use Rattle.gv_scriptsyntax.specs.declared.generated.script_acts.ScriptPart.TheVariants.{Cert as PCert, Factors as PFactors, Haves as PHaves, MaybeTerm as PMaybeTerm, Terms as PTerms}
use Rattle.gv_scriptsyntax.specs.declared.tree.Cert.{Cert}
use Rattle.gv_scriptsyntax.specs.declared.tree.Factor.{Factor}
use Rattle.gv_scriptsyntax.specs.declared.tree.Have.{Have}
use Rattle.gv_termread.specs.declared.placed.PlacedTerm.{PlacedTerm}
use Rattle.gv_termread.specs.declared.token.SeenToken.{SeenToken}
use Rattle.gv_scriptsyntax.specs.declared.tree.Cert.TheVariants as cert
use Rattle.gv_scriptsyntax.specs.declared.node.Node.{Node}
use Rattle.gv_scriptsyntax.specs.declared.node.Node.TheVariants.{Made}
use Rattle.gv_scriptsyntax.specs.declared.generated.script_table.TheConstants as act
use Rattle.gv_termread.specs.TermActs.{is_term, is_token}
use Rattle.gv_scriptsyntax.specs.ScriptActs.{is_cert, is_factors, is_haves, is_maybe_term, is_terms, made_axiom, made_by_cases, made_contra, made_given, made_hole, made_linear, made_steps, made_subst}
use Rattle.gv_scriptsyntax.specs.Nodes.{Parts, built, IsPartAt}
use Rattle.gv_scriptnodes.specs.Places.{IsChild, IsTokenOf}
use Rattle.gv_scriptnodes.proofs.Opened.{opened}
use Rattle.gv_scriptnodes.proofs.Tops.{accepted, top_cert, top_factors, top_haves, top_maybe_term, top_term, top_terms, top_token}
use Rattle.gv_certnodes.specs.Places.{IsMadeBy}
use Rattle.gv_certnodes.specs.Cert.{IsAxiom, IsSubst, IsContra, IsLinear, IsByCases, IsSteps}
use Rattle.gv_certnodes.proofs.Opened.{at_part, same_act}

given_end : (text : List ℕ) (nodes : List Node) (at : ℕ) (at_word : SeenToken) → IsTokenOf text nodes at 0 at_word
    → (whole : Cert) (parts rest : Parts) (word : SeenToken) (behind : Parts) → built text (take at nodes) ≡ Some parts → parts ≡ PToken word ∷ behind
    → POther (PCert whole) ∷ rest ≡ POther (PCert (made_given parts)) ∷ drop 1 parts → whole ≡ (cert.Given at_word)
given_end text nodes at at_word known_word whole parts rest word behind before shape q =
    let made : whole ≡ made_given parts = cc in
    made ∙ ap (λ (ps : Parts). made_given ps) shape
    ∙ ap (λ (x : SeenToken). (cert.Given x)) (sym (known_word.same parts (behind) word before (ap (λ (ps : Parts). drop 0 ps) shape)))

pub given_is : (text : List ℕ) (nodes : List Node) (at : ℕ) (at_word : SeenToken) → IsMadeBy nodes at act.ACT_GIVEN → IsTokenOf text nodes at 0 at_word
    → (whole : Cert) → IsPartAt text nodes at (POther (PCert whole)) → whole ≡ (cert.Given at_word)
given_is text nodes at at_word by known_word whole is =
    let o = opened text nodes at (Made by.raw by.from) (POther (PCert whole)) by.node is in
    let a = accepted text act.ACT_GIVEN o.parts (POther (PCert whole) ∷ o.rest) (same_act text by.raw act.ACT_GIVEN o.parts by.number ∙ o.done) in
    go o.parts o.rest o.before a.0 a.1
  where
    go : (parts rest : Parts) → built text (take at nodes) ≡ Some parts → has_tops (is_token ∷ []) parts ≡ true → POther (PCert whole) ∷ rest ≡ POther (PCert (made_given parts)) ∷ drop 1 parts → whole ≡ (cert.Given at_word)
    go parts rest before h q =
        top_token ([]) parts h (λ x0 r0 e0 h0.
        given_end text nodes at at_word known_word whole parts rest x0 r0 before e0 q)

axiom_end : (text : List ℕ) (nodes : List Node) (at : ℕ) (at_word : SeenToken) (at_number : SeenToken) (at_terms : ℕ) → IsTokenOf text nodes at 2 at_word → IsTokenOf text nodes at 1 at_number → IsChild text nodes at 0 at_terms
    → (whole : Cert) (parts rest : Parts) (terms : List PlacedTerm) (number : SeenToken) (word : SeenToken) (behind : Parts) → built text (take at nodes) ≡ Some parts → parts ≡ POther (PTerms terms) ∷ PToken number ∷ PToken word ∷ behind
    → POther (PCert whole) ∷ rest ≡ POther (PCert (made_axiom parts)) ∷ drop 3 parts → IsAxiom text nodes at at_word at_number at_terms whole
axiom_end text nodes at at_word at_number at_terms known_word known_number known_terms whole parts rest terms number word behind before shape q =
    let made : whole ≡ made_axiom parts = cc in
    record {
      of_terms = terms;
      at_terms = at_part text nodes at 0 at_terms parts (PToken number ∷ PToken word ∷ behind) (POther (PTerms terms)) known_terms before (ap (λ (ps : Parts). drop 0 ps) shape);
      made = made ∙ ap (λ (ps : Parts). made_axiom ps) shape
          ∙ ap (λ (x : SeenToken). (cert.Axiom x number terms)) (sym (known_word.same parts (behind) word before (ap (λ (ps : Parts). drop 2 ps) shape)))
          ∙ ap (λ (x : SeenToken). (cert.Axiom at_word x terms)) (sym (known_number.same parts (PToken word ∷ behind) number before (ap (λ (ps : Parts). drop 1 ps) shape)));
    }

pub axiom_is : (text : List ℕ) (nodes : List Node) (at : ℕ) (at_word : SeenToken) (at_number : SeenToken) (at_terms : ℕ) → IsMadeBy nodes at act.ACT_AXIOM → IsTokenOf text nodes at 2 at_word → IsTokenOf text nodes at 1 at_number → IsChild text nodes at 0 at_terms
    → (whole : Cert) → IsPartAt text nodes at (POther (PCert whole)) → IsAxiom text nodes at at_word at_number at_terms whole
axiom_is text nodes at at_word at_number at_terms by known_word known_number known_terms whole is =
    let o = opened text nodes at (Made by.raw by.from) (POther (PCert whole)) by.node is in
    let a = accepted text act.ACT_AXIOM o.parts (POther (PCert whole) ∷ o.rest) (same_act text by.raw act.ACT_AXIOM o.parts by.number ∙ o.done) in
    go o.parts o.rest o.before a.0 a.1
  where
    go : (parts rest : Parts) → built text (take at nodes) ≡ Some parts → has_tops (is_terms ∷ is_token ∷ is_token ∷ []) parts ≡ true → POther (PCert whole) ∷ rest ≡ POther (PCert (made_axiom parts)) ∷ drop 3 parts → IsAxiom text nodes at at_word at_number at_terms whole
    go parts rest before h q =
        top_terms (is_token ∷ is_token ∷ []) parts h (λ x0 r0 e0 h0.
        top_token (is_token ∷ []) r0 h0 (λ x1 r1 e1 h1.
        top_token ([]) r1 h1 (λ x2 r2 e2 h2.
        axiom_end text nodes at at_word at_number at_terms known_word known_number known_terms whole parts rest x0 x1 x2 r2 before (e0 ∙ ap (λ (ps : Parts). POther (PTerms x0) ∷ ps) (e1 ∙ ap (λ (ps : Parts). PToken x1 ∷ ps) e2)) q)))

subst_end : (text : List ℕ) (nodes : List Node) (at : ℕ) (at_word : SeenToken) (at_equation : ℕ) (at_within : ℕ) → IsTokenOf text nodes at 2 at_word → IsChild text nodes at 1 at_equation → IsChild text nodes at 0 at_within
    → (whole : Cert) (parts rest : Parts) (within : Option PlacedTerm) (equation : PlacedTerm) (word : SeenToken) (behind : Parts) → built text (take at nodes) ≡ Some parts → parts ≡ POther (PMaybeTerm within) ∷ PTerm equation ∷ PToken word ∷ behind
    → POther (PCert whole) ∷ rest ≡ POther (PCert (made_subst parts)) ∷ drop 3 parts → IsSubst text nodes at at_word at_equation at_within whole
subst_end text nodes at at_word at_equation at_within known_word known_equation known_within whole parts rest within equation word behind before shape q =
    let made : whole ≡ made_subst parts = cc in
    record {
      of_equation = equation;
      of_within = within;
      at_equation = at_part text nodes at 1 at_equation parts (PToken word ∷ behind) (PTerm equation) known_equation before (ap (λ (ps : Parts). drop 1 ps) shape);
      at_within = at_part text nodes at 0 at_within parts (PTerm equation ∷ PToken word ∷ behind) (POther (PMaybeTerm within)) known_within before (ap (λ (ps : Parts). drop 0 ps) shape);
      made = made ∙ ap (λ (ps : Parts). made_subst ps) shape
          ∙ ap (λ (x : SeenToken). (cert.Subst x equation within)) (sym (known_word.same parts (behind) word before (ap (λ (ps : Parts). drop 2 ps) shape)));
    }

pub subst_is : (text : List ℕ) (nodes : List Node) (at : ℕ) (at_word : SeenToken) (at_equation : ℕ) (at_within : ℕ) → IsMadeBy nodes at act.ACT_SUBST → IsTokenOf text nodes at 2 at_word → IsChild text nodes at 1 at_equation → IsChild text nodes at 0 at_within
    → (whole : Cert) → IsPartAt text nodes at (POther (PCert whole)) → IsSubst text nodes at at_word at_equation at_within whole
subst_is text nodes at at_word at_equation at_within by known_word known_equation known_within whole is =
    let o = opened text nodes at (Made by.raw by.from) (POther (PCert whole)) by.node is in
    let a = accepted text act.ACT_SUBST o.parts (POther (PCert whole) ∷ o.rest) (same_act text by.raw act.ACT_SUBST o.parts by.number ∙ o.done) in
    go o.parts o.rest o.before a.0 a.1
  where
    go : (parts rest : Parts) → built text (take at nodes) ≡ Some parts → has_tops (is_maybe_term ∷ is_term ∷ is_token ∷ []) parts ≡ true → POther (PCert whole) ∷ rest ≡ POther (PCert (made_subst parts)) ∷ drop 3 parts → IsSubst text nodes at at_word at_equation at_within whole
    go parts rest before h q =
        top_maybe_term (is_term ∷ is_token ∷ []) parts h (λ x0 r0 e0 h0.
        top_term (is_token ∷ []) r0 h0 (λ x1 r1 e1 h1.
        top_token ([]) r1 h1 (λ x2 r2 e2 h2.
        subst_end text nodes at at_word at_equation at_within known_word known_equation known_within whole parts rest x0 x1 x2 r2 before (e0 ∙ ap (λ (ps : Parts). POther (PMaybeTerm x0) ∷ ps) (e1 ∙ ap (λ (ps : Parts). PTerm x1 ∷ ps) e2)) q)))

contra_end : (text : List ℕ) (nodes : List Node) (at : ℕ) (at_word : SeenToken) (at_term : ℕ) → IsTokenOf text nodes at 1 at_word → IsChild text nodes at 0 at_term
    → (whole : Cert) (parts rest : Parts) (term : PlacedTerm) (word : SeenToken) (behind : Parts) → built text (take at nodes) ≡ Some parts → parts ≡ PTerm term ∷ PToken word ∷ behind
    → POther (PCert whole) ∷ rest ≡ POther (PCert (made_contra parts)) ∷ drop 2 parts → IsContra text nodes at at_word at_term whole
contra_end text nodes at at_word at_term known_word known_term whole parts rest term word behind before shape q =
    let made : whole ≡ made_contra parts = cc in
    record {
      of_term = term;
      at_term = at_part text nodes at 0 at_term parts (PToken word ∷ behind) (PTerm term) known_term before (ap (λ (ps : Parts). drop 0 ps) shape);
      made = made ∙ ap (λ (ps : Parts). made_contra ps) shape
          ∙ ap (λ (x : SeenToken). (cert.Contra x term)) (sym (known_word.same parts (behind) word before (ap (λ (ps : Parts). drop 1 ps) shape)));
    }

pub contra_is : (text : List ℕ) (nodes : List Node) (at : ℕ) (at_word : SeenToken) (at_term : ℕ) → IsMadeBy nodes at act.ACT_CONTRA → IsTokenOf text nodes at 1 at_word → IsChild text nodes at 0 at_term
    → (whole : Cert) → IsPartAt text nodes at (POther (PCert whole)) → IsContra text nodes at at_word at_term whole
contra_is text nodes at at_word at_term by known_word known_term whole is =
    let o = opened text nodes at (Made by.raw by.from) (POther (PCert whole)) by.node is in
    let a = accepted text act.ACT_CONTRA o.parts (POther (PCert whole) ∷ o.rest) (same_act text by.raw act.ACT_CONTRA o.parts by.number ∙ o.done) in
    go o.parts o.rest o.before a.0 a.1
  where
    go : (parts rest : Parts) → built text (take at nodes) ≡ Some parts → has_tops (is_term ∷ is_token ∷ []) parts ≡ true → POther (PCert whole) ∷ rest ≡ POther (PCert (made_contra parts)) ∷ drop 2 parts → IsContra text nodes at at_word at_term whole
    go parts rest before h q =
        top_term (is_token ∷ []) parts h (λ x0 r0 e0 h0.
        top_token ([]) r0 h0 (λ x1 r1 e1 h1.
        contra_end text nodes at at_word at_term known_word known_term whole parts rest x0 x1 r1 before (e0 ∙ ap (λ (ps : Parts). PTerm x0 ∷ ps) e1) q))

linear_end : (text : List ℕ) (nodes : List Node) (at : ℕ) (at_word : SeenToken) (at_sums : ℕ) (at_factors : ℕ) → IsTokenOf text nodes at 6 at_word → IsChild text nodes at 4 at_sums → IsChild text nodes at 1 at_factors
    → (whole : Cert) (parts rest : Parts) (passed_6 : SeenToken) (factors : List Factor) (passed_4 : SeenToken) (passed_3 : SeenToken) (sums : List PlacedTerm) (passed_1 : SeenToken) (word : SeenToken) (behind : Parts) → built text (take at nodes) ≡ Some parts → parts ≡ PToken passed_6 ∷ POther (PFactors factors) ∷ PToken passed_4 ∷ PToken passed_3 ∷ POther (PTerms sums) ∷ PToken passed_1 ∷ PToken word ∷ behind
    → POther (PCert whole) ∷ rest ≡ POther (PCert (made_linear parts)) ∷ drop 7 parts → IsLinear text nodes at at_word at_sums at_factors whole
linear_end text nodes at at_word at_sums at_factors known_word known_sums known_factors whole parts rest passed_6 factors passed_4 passed_3 sums passed_1 word behind before shape q =
    let made : whole ≡ made_linear parts = cc in
    record {
      of_sums = sums;
      of_factors = factors;
      at_sums = at_part text nodes at 4 at_sums parts (PToken passed_1 ∷ PToken word ∷ behind) (POther (PTerms sums)) known_sums before (ap (λ (ps : Parts). drop 4 ps) shape);
      at_factors = at_part text nodes at 1 at_factors parts (PToken passed_4 ∷ PToken passed_3 ∷ POther (PTerms sums) ∷ PToken passed_1 ∷ PToken word ∷ behind) (POther (PFactors factors)) known_factors before (ap (λ (ps : Parts). drop 1 ps) shape);
      made = made ∙ ap (λ (ps : Parts). made_linear ps) shape
          ∙ ap (λ (x : SeenToken). (cert.Linear x sums factors)) (sym (known_word.same parts (behind) word before (ap (λ (ps : Parts). drop 6 ps) shape)));
    }

pub linear_is : (text : List ℕ) (nodes : List Node) (at : ℕ) (at_word : SeenToken) (at_sums : ℕ) (at_factors : ℕ) → IsMadeBy nodes at act.ACT_LINEAR → IsTokenOf text nodes at 6 at_word → IsChild text nodes at 4 at_sums → IsChild text nodes at 1 at_factors
    → (whole : Cert) → IsPartAt text nodes at (POther (PCert whole)) → IsLinear text nodes at at_word at_sums at_factors whole
linear_is text nodes at at_word at_sums at_factors by known_word known_sums known_factors whole is =
    let o = opened text nodes at (Made by.raw by.from) (POther (PCert whole)) by.node is in
    let a = accepted text act.ACT_LINEAR o.parts (POther (PCert whole) ∷ o.rest) (same_act text by.raw act.ACT_LINEAR o.parts by.number ∙ o.done) in
    go o.parts o.rest o.before a.0 a.1
  where
    go : (parts rest : Parts) → built text (take at nodes) ≡ Some parts → has_tops (is_token ∷ is_factors ∷ is_token ∷ is_token ∷ is_terms ∷ is_token ∷ is_token ∷ []) parts ≡ true → POther (PCert whole) ∷ rest ≡ POther (PCert (made_linear parts)) ∷ drop 7 parts → IsLinear text nodes at at_word at_sums at_factors whole
    go parts rest before h q =
        top_token (is_factors ∷ is_token ∷ is_token ∷ is_terms ∷ is_token ∷ is_token ∷ []) parts h (λ x0 r0 e0 h0.
        top_factors (is_token ∷ is_token ∷ is_terms ∷ is_token ∷ is_token ∷ []) r0 h0 (λ x1 r1 e1 h1.
        top_token (is_token ∷ is_terms ∷ is_token ∷ is_token ∷ []) r1 h1 (λ x2 r2 e2 h2.
        top_token (is_terms ∷ is_token ∷ is_token ∷ []) r2 h2 (λ x3 r3 e3 h3.
        top_terms (is_token ∷ is_token ∷ []) r3 h3 (λ x4 r4 e4 h4.
        top_token (is_token ∷ []) r4 h4 (λ x5 r5 e5 h5.
        top_token ([]) r5 h5 (λ x6 r6 e6 h6.
        linear_end text nodes at at_word at_sums at_factors known_word known_sums known_factors whole parts rest x0 x1 x2 x3 x4 x5 x6 r6 before (e0 ∙ ap (λ (ps : Parts). PToken x0 ∷ ps) (e1 ∙ ap (λ (ps : Parts). POther (PFactors x1) ∷ ps) (e2 ∙ ap (λ (ps : Parts). PToken x2 ∷ ps) (e3 ∙ ap (λ (ps : Parts). PToken x3 ∷ ps) (e4 ∙ ap (λ (ps : Parts). POther (PTerms x4) ∷ ps) (e5 ∙ ap (λ (ps : Parts). PToken x5 ∷ ps) e6)))))) q)))))))

by_cases_end : (text : List ℕ) (nodes : List Node) (at : ℕ) (at_word : SeenToken) (at_term : ℕ) (at_first : ℕ) (at_second : ℕ) → IsTokenOf text nodes at 7 at_word → IsChild text nodes at 6 at_term → IsChild text nodes at 4 at_first → IsChild text nodes at 1 at_second
    → (whole : Cert) (parts rest : Parts) (passed_7 : SeenToken) (second : Cert) (passed_5 : SeenToken) (passed_4 : SeenToken) (first : Cert) (passed_2 : SeenToken) (term : PlacedTerm) (word : SeenToken) (behind : Parts) → built text (take at nodes) ≡ Some parts → parts ≡ PToken passed_7 ∷ POther (PCert second) ∷ PToken passed_5 ∷ PToken passed_4 ∷ POther (PCert first) ∷ PToken passed_2 ∷ PTerm term ∷ PToken word ∷ behind
    → POther (PCert whole) ∷ rest ≡ POther (PCert (made_by_cases parts)) ∷ drop 8 parts → IsByCases text nodes at at_word at_term at_first at_second whole
by_cases_end text nodes at at_word at_term at_first at_second known_word known_term known_first known_second whole parts rest passed_7 second passed_5 passed_4 first passed_2 term word behind before shape q =
    let made : whole ≡ made_by_cases parts = cc in
    record {
      of_term = term;
      of_first = first;
      of_second = second;
      at_term = at_part text nodes at 6 at_term parts (PToken word ∷ behind) (PTerm term) known_term before (ap (λ (ps : Parts). drop 6 ps) shape);
      at_first = at_part text nodes at 4 at_first parts (PToken passed_2 ∷ PTerm term ∷ PToken word ∷ behind) (POther (PCert first)) known_first before (ap (λ (ps : Parts). drop 4 ps) shape);
      at_second = at_part text nodes at 1 at_second parts (PToken passed_5 ∷ PToken passed_4 ∷ POther (PCert first) ∷ PToken passed_2 ∷ PTerm term ∷ PToken word ∷ behind) (POther (PCert second)) known_second before (ap (λ (ps : Parts). drop 1 ps) shape);
      made = made ∙ ap (λ (ps : Parts). made_by_cases ps) shape
          ∙ ap (λ (x : SeenToken). (cert.Cases x term first second)) (sym (known_word.same parts (behind) word before (ap (λ (ps : Parts). drop 7 ps) shape)));
    }

pub by_cases_is : (text : List ℕ) (nodes : List Node) (at : ℕ) (at_word : SeenToken) (at_term : ℕ) (at_first : ℕ) (at_second : ℕ) → IsMadeBy nodes at act.ACT_BY_CASES → IsTokenOf text nodes at 7 at_word → IsChild text nodes at 6 at_term → IsChild text nodes at 4 at_first → IsChild text nodes at 1 at_second
    → (whole : Cert) → IsPartAt text nodes at (POther (PCert whole)) → IsByCases text nodes at at_word at_term at_first at_second whole
by_cases_is text nodes at at_word at_term at_first at_second by known_word known_term known_first known_second whole is =
    let o = opened text nodes at (Made by.raw by.from) (POther (PCert whole)) by.node is in
    let a = accepted text act.ACT_BY_CASES o.parts (POther (PCert whole) ∷ o.rest) (same_act text by.raw act.ACT_BY_CASES o.parts by.number ∙ o.done) in
    go o.parts o.rest o.before a.0 a.1
  where
    go : (parts rest : Parts) → built text (take at nodes) ≡ Some parts → has_tops (is_token ∷ is_cert ∷ is_token ∷ is_token ∷ is_cert ∷ is_token ∷ is_term ∷ is_token ∷ []) parts ≡ true → POther (PCert whole) ∷ rest ≡ POther (PCert (made_by_cases parts)) ∷ drop 8 parts → IsByCases text nodes at at_word at_term at_first at_second whole
    go parts rest before h q =
        top_token (is_cert ∷ is_token ∷ is_token ∷ is_cert ∷ is_token ∷ is_term ∷ is_token ∷ []) parts h (λ x0 r0 e0 h0.
        top_cert (is_token ∷ is_token ∷ is_cert ∷ is_token ∷ is_term ∷ is_token ∷ []) r0 h0 (λ x1 r1 e1 h1.
        top_token (is_token ∷ is_cert ∷ is_token ∷ is_term ∷ is_token ∷ []) r1 h1 (λ x2 r2 e2 h2.
        top_token (is_cert ∷ is_token ∷ is_term ∷ is_token ∷ []) r2 h2 (λ x3 r3 e3 h3.
        top_cert (is_token ∷ is_term ∷ is_token ∷ []) r3 h3 (λ x4 r4 e4 h4.
        top_token (is_term ∷ is_token ∷ []) r4 h4 (λ x5 r5 e5 h5.
        top_term (is_token ∷ []) r5 h5 (λ x6 r6 e6 h6.
        top_token ([]) r6 h6 (λ x7 r7 e7 h7.
        by_cases_end text nodes at at_word at_term at_first at_second known_word known_term known_first known_second whole parts rest x0 x1 x2 x3 x4 x5 x6 x7 r7 before (e0 ∙ ap (λ (ps : Parts). PToken x0 ∷ ps) (e1 ∙ ap (λ (ps : Parts). POther (PCert x1) ∷ ps) (e2 ∙ ap (λ (ps : Parts). PToken x2 ∷ ps) (e3 ∙ ap (λ (ps : Parts). PToken x3 ∷ ps) (e4 ∙ ap (λ (ps : Parts). POther (PCert x4) ∷ ps) (e5 ∙ ap (λ (ps : Parts). PToken x5 ∷ ps) (e6 ∙ ap (λ (ps : Parts). PTerm x6 ∷ ps) e7))))))) q))))))))

steps_end : (text : List ℕ) (nodes : List Node) (at : ℕ) (at_word : SeenToken) (at_haves : ℕ) (at_last : ℕ) → IsTokenOf text nodes at 4 at_word → IsChild text nodes at 2 at_haves → IsChild text nodes at 1 at_last
    → (whole : Cert) (parts rest : Parts) (passed_4 : SeenToken) (last : Cert) (haves : List Have) (passed_1 : SeenToken) (word : SeenToken) (behind : Parts) → built text (take at nodes) ≡ Some parts → parts ≡ PToken passed_4 ∷ POther (PCert last) ∷ POther (PHaves haves) ∷ PToken passed_1 ∷ PToken word ∷ behind
    → POther (PCert whole) ∷ rest ≡ POther (PCert (made_steps parts)) ∷ drop 5 parts → IsSteps text nodes at at_word at_haves at_last whole
steps_end text nodes at at_word at_haves at_last known_word known_haves known_last whole parts rest passed_4 last haves passed_1 word behind before shape q =
    let made : whole ≡ made_steps parts = cc in
    record {
      of_haves = haves;
      of_last = last;
      at_haves = at_part text nodes at 2 at_haves parts (PToken passed_1 ∷ PToken word ∷ behind) (POther (PHaves haves)) known_haves before (ap (λ (ps : Parts). drop 2 ps) shape);
      at_last = at_part text nodes at 1 at_last parts (POther (PHaves haves) ∷ PToken passed_1 ∷ PToken word ∷ behind) (POther (PCert last)) known_last before (ap (λ (ps : Parts). drop 1 ps) shape);
      made = made ∙ ap (λ (ps : Parts). made_steps ps) shape
          ∙ ap (λ (x : SeenToken). (cert.Steps x haves last)) (sym (known_word.same parts (behind) word before (ap (λ (ps : Parts). drop 4 ps) shape)));
    }

pub steps_is : (text : List ℕ) (nodes : List Node) (at : ℕ) (at_word : SeenToken) (at_haves : ℕ) (at_last : ℕ) → IsMadeBy nodes at act.ACT_STEPS → IsTokenOf text nodes at 4 at_word → IsChild text nodes at 2 at_haves → IsChild text nodes at 1 at_last
    → (whole : Cert) → IsPartAt text nodes at (POther (PCert whole)) → IsSteps text nodes at at_word at_haves at_last whole
steps_is text nodes at at_word at_haves at_last by known_word known_haves known_last whole is =
    let o = opened text nodes at (Made by.raw by.from) (POther (PCert whole)) by.node is in
    let a = accepted text act.ACT_STEPS o.parts (POther (PCert whole) ∷ o.rest) (same_act text by.raw act.ACT_STEPS o.parts by.number ∙ o.done) in
    go o.parts o.rest o.before a.0 a.1
  where
    go : (parts rest : Parts) → built text (take at nodes) ≡ Some parts → has_tops (is_token ∷ is_cert ∷ is_haves ∷ is_token ∷ is_token ∷ []) parts ≡ true → POther (PCert whole) ∷ rest ≡ POther (PCert (made_steps parts)) ∷ drop 5 parts → IsSteps text nodes at at_word at_haves at_last whole
    go parts rest before h q =
        top_token (is_cert ∷ is_haves ∷ is_token ∷ is_token ∷ []) parts h (λ x0 r0 e0 h0.
        top_cert (is_haves ∷ is_token ∷ is_token ∷ []) r0 h0 (λ x1 r1 e1 h1.
        top_haves (is_token ∷ is_token ∷ []) r1 h1 (λ x2 r2 e2 h2.
        top_token (is_token ∷ []) r2 h2 (λ x3 r3 e3 h3.
        top_token ([]) r3 h3 (λ x4 r4 e4 h4.
        steps_end text nodes at at_word at_haves at_last known_word known_haves known_last whole parts rest x0 x1 x2 x3 x4 r4 before (e0 ∙ ap (λ (ps : Parts). PToken x0 ∷ ps) (e1 ∙ ap (λ (ps : Parts). POther (PCert x1) ∷ ps) (e2 ∙ ap (λ (ps : Parts). POther (PHaves x2) ∷ ps) (e3 ∙ ap (λ (ps : Parts). PToken x3 ∷ ps) e4)))) q)))))

hole_end : (text : List ℕ) (nodes : List Node) (at : ℕ) (at_token : SeenToken) → IsTokenOf text nodes at 0 at_token
    → (whole : Cert) (parts rest : Parts) (token : SeenToken) (behind : Parts) → built text (take at nodes) ≡ Some parts → parts ≡ PToken token ∷ behind
    → POther (PCert whole) ∷ rest ≡ POther (PCert (made_hole parts)) ∷ drop 1 parts → whole ≡ (cert.Hole at_token)
hole_end text nodes at at_token known_token whole parts rest token behind before shape q =
    let made : whole ≡ made_hole parts = cc in
    made ∙ ap (λ (ps : Parts). made_hole ps) shape
    ∙ ap (λ (x : SeenToken). (cert.Hole x)) (sym (known_token.same parts (behind) token before (ap (λ (ps : Parts). drop 0 ps) shape)))

pub hole_is : (text : List ℕ) (nodes : List Node) (at : ℕ) (at_token : SeenToken) → IsMadeBy nodes at act.ACT_HOLE → IsTokenOf text nodes at 0 at_token
    → (whole : Cert) → IsPartAt text nodes at (POther (PCert whole)) → whole ≡ (cert.Hole at_token)
hole_is text nodes at at_token by known_token whole is =
    let o = opened text nodes at (Made by.raw by.from) (POther (PCert whole)) by.node is in
    let a = accepted text act.ACT_HOLE o.parts (POther (PCert whole) ∷ o.rest) (same_act text by.raw act.ACT_HOLE o.parts by.number ∙ o.done) in
    go o.parts o.rest o.before a.0 a.1
  where
    go : (parts rest : Parts) → built text (take at nodes) ≡ Some parts → has_tops (is_token ∷ []) parts ≡ true → POther (PCert whole) ∷ rest ≡ POther (PCert (made_hole parts)) ∷ drop 1 parts → whole ≡ (cert.Hole at_token)
    go parts rest before h q =
        top_token ([]) parts h (λ x0 r0 e0 h0.
        hole_end text nodes at at_token known_token whole parts rest x0 r0 before e0 q)
