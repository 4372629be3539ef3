-- Pars nodes by the acts that make them. Made by tools/script_nodes.py from script.grammar: edit that.
use Rattle.std.proofs.Common.{◌≡◌, ℕ, true, List, [], ◌∷◌, ◌++◌, Some, refl, sym, ap, ◌∙◌}
use Rattle.std.specs.Prelude.{drop, take}
use Rattle.gv_grammar.specs.Building.{has_tops}
use Rattle.gv_termread.specs.declared.generated.term_acts.Part.TheVariants.{Token as PToken, Other as POther}
use Rattle.gv_scriptsyntax.specs.declared.generated.script_acts.ScriptPart.TheVariants.{Pars as PPars}
use Rattle.gv_scriptsyntax.specs.declared.tree.Par.{Par}
use Rattle.gv_termread.specs.declared.token.SeenToken.{SeenToken}
use Rattle.gv_scriptsyntax.specs.declared.node.Node.{Node}
use Rattle.gv_scriptsyntax.specs.declared.node.Node.TheVariants.{Made}
use Rattle.gv_scriptsyntax.specs.declared.generated.script_table.TheConstants as act
use Rattle.gv_termread.specs.TermActs.{is_token}
use Rattle.gv_scriptsyntax.specs.ScriptActs.{is_pars, made_in_pars, made_next_par, made_no_pars, made_par}
use Rattle.gv_scriptsyntax.specs.Nodes.{Parts, built, IsPartAt}
use Rattle.gv_scriptnodes.specs.Places.{IsChild, IsTokenOf}
use Rattle.gv_scriptnodes.proofs.Opened.{opened}
use Rattle.gv_scriptnodes.proofs.Tops.{accepted, top_pars, top_token}
use Rattle.gv_certnodes.specs.Places.{IsMadeBy}
use Rattle.gv_declnodes.specs.Pars.{IsPar, IsNextPar, IsInPars}
use Rattle.gv_certnodes.proofs.Opened.{at_part, same_act}

no_pars_end : (text : List ℕ) (nodes : List Node) (at : ℕ)
    → (whole : List Par) (parts rest : Parts) (behind : Parts) → built text (take at nodes) ≡ Some parts → parts ≡ behind
    → POther (PPars whole) ∷ rest ≡ POther (PPars (made_no_pars parts)) ∷ drop 0 parts → whole ≡ []
no_pars_end text nodes at whole parts rest behind before shape q =
    let made : whole ≡ made_no_pars parts = cc in
    made ∙ ap (λ (ps : Parts). made_no_pars ps) shape

pub no_pars_is : (text : List ℕ) (nodes : List Node) (at : ℕ) → IsMadeBy nodes at act.ACT_NO_PARS
    → (whole : List Par) → IsPartAt text nodes at (POther (PPars whole)) → whole ≡ []
no_pars_is text nodes at by whole is =
    let o = opened text nodes at (Made by.raw by.from) (POther (PPars whole)) by.node is in
    let a = accepted text act.ACT_NO_PARS o.parts (POther (PPars whole) ∷ o.rest) (same_act text by.raw act.ACT_NO_PARS o.parts by.number ∙ o.done) in
    go o.parts o.rest o.before a.0 a.1
  where
    go : (parts rest : Parts) → built text (take at nodes) ≡ Some parts → has_tops ([]) parts ≡ true → POther (PPars whole) ∷ rest ≡ POther (PPars (made_no_pars parts)) ∷ drop 0 parts → whole ≡ []
    go parts rest before h q =
        no_pars_end text nodes at whole parts rest parts before refl q

par_end : (text : List ℕ) (nodes : List Node) (at : ℕ) (at_pars : ℕ) (at_name : SeenToken) (at_sort : SeenToken) → IsChild text nodes at 3 at_pars → IsTokenOf text nodes at 2 at_name → IsTokenOf text nodes at 0 at_sort
    → (whole : List Par) (parts rest : Parts) (sort : SeenToken) (passed_2 : SeenToken) (name : SeenToken) (pars : List Par) (behind : Parts) → built text (take at nodes) ≡ Some parts → parts ≡ PToken sort ∷ PToken passed_2 ∷ PToken name ∷ POther (PPars pars) ∷ behind
    → POther (PPars whole) ∷ rest ≡ POther (PPars (made_par parts)) ∷ drop 4 parts → IsPar text nodes at at_pars at_name at_sort whole
par_end text nodes at at_pars at_name at_sort known_pars known_name known_sort whole parts rest sort passed_2 name pars behind before shape q =
    let made : whole ≡ made_par parts = cc in
    record {
      of_pars = pars;
      at_pars = at_part text nodes at 3 at_pars parts (behind) (POther (PPars pars)) known_pars before (ap (λ (ps : Parts). drop 3 ps) shape);
      made = made ∙ ap (λ (ps : Parts). made_par ps) shape
          ∙ ap (λ (x : SeenToken). let y : List Par = (pars ++ (record { name = x; sort = sort }) ∷ []) in y) (sym (known_name.same parts (POther (PPars pars) ∷ behind) name before (ap (λ (ps : Parts). drop 2 ps) shape)))
          ∙ ap (λ (x : SeenToken). let y : List Par = (pars ++ (record { name = at_name; sort = x }) ∷ []) in y) (sym (known_sort.same parts (PToken passed_2 ∷ PToken name ∷ POther (PPars pars) ∷ behind) sort before (ap (λ (ps : Parts). drop 0 ps) shape)));
    }

pub par_is : (text : List ℕ) (nodes : List Node) (at : ℕ) (at_pars : ℕ) (at_name : SeenToken) (at_sort : SeenToken) → IsMadeBy nodes at act.ACT_PAR → IsChild text nodes at 3 at_pars → IsTokenOf text nodes at 2 at_name → IsTokenOf text nodes at 0 at_sort
    → (whole : List Par) → IsPartAt text nodes at (POther (PPars whole)) → IsPar text nodes at at_pars at_name at_sort whole
par_is text nodes at at_pars at_name at_sort by known_pars known_name known_sort whole is =
    let o = opened text nodes at (Made by.raw by.from) (POther (PPars whole)) by.node is in
    let a = accepted text act.ACT_PAR o.parts (POther (PPars whole) ∷ o.rest) (same_act text by.raw act.ACT_PAR o.parts by.number ∙ o.done) in
    go o.parts o.rest o.before a.0 a.1
  where
    go : (parts rest : Parts) → built text (take at nodes) ≡ Some parts → has_tops (is_token ∷ is_token ∷ is_token ∷ is_pars ∷ []) parts ≡ true → POther (PPars whole) ∷ rest ≡ POther (PPars (made_par parts)) ∷ drop 4 parts → IsPar text nodes at at_pars at_name at_sort whole
    go parts rest before h q =
        top_token (is_token ∷ is_token ∷ is_pars ∷ []) parts h (λ x0 r0 e0 h0.
        top_token (is_token ∷ is_pars ∷ []) r0 h0 (λ x1 r1 e1 h1.
        top_token (is_pars ∷ []) r1 h1 (λ x2 r2 e2 h2.
        top_pars ([]) r2 h2 (λ x3 r3 e3 h3.
        par_end text nodes at at_pars at_name at_sort known_pars known_name known_sort whole parts rest x0 x1 x2 x3 r3 before (e0 ∙ ap (λ (ps : Parts). PToken x0 ∷ ps) (e1 ∙ ap (λ (ps : Parts). PToken x1 ∷ ps) (e2 ∙ ap (λ (ps : Parts). PToken x2 ∷ ps) e3))) q))))

next_par_end : (text : List ℕ) (nodes : List Node) (at : ℕ) (at_pars : ℕ) (at_name : SeenToken) (at_sort : SeenToken) → IsChild text nodes at 4 at_pars → IsTokenOf text nodes at 2 at_name → IsTokenOf text nodes at 0 at_sort
    → (whole : List Par) (parts rest : Parts) (sort : SeenToken) (passed_3 : SeenToken) (name : SeenToken) (passed_1 : SeenToken) (pars : List Par) (behind : Parts) → built text (take at nodes) ≡ Some parts → parts ≡ PToken sort ∷ PToken passed_3 ∷ PToken name ∷ PToken passed_1 ∷ POther (PPars pars) ∷ behind
    → POther (PPars whole) ∷ rest ≡ POther (PPars (made_next_par parts)) ∷ drop 5 parts → IsNextPar text nodes at at_pars at_name at_sort whole
next_par_end text nodes at at_pars at_name at_sort known_pars known_name known_sort whole parts rest sort passed_3 name passed_1 pars behind before shape q =
    let made : whole ≡ made_next_par parts = cc in
    record {
      of_pars = pars;
      at_pars = at_part text nodes at 4 at_pars parts (behind) (POther (PPars pars)) known_pars before (ap (λ (ps : Parts). drop 4 ps) shape);
      made = made ∙ ap (λ (ps : Parts). made_next_par ps) shape
          ∙ ap (λ (x : SeenToken). let y : List Par = (pars ++ (record { name = x; sort = sort }) ∷ []) in y) (sym (known_name.same parts (PToken passed_1 ∷ POther (PPars pars) ∷ behind) name before (ap (λ (ps : Parts). drop 2 ps) shape)))
          ∙ ap (λ (x : SeenToken). let y : List Par = (pars ++ (record { name = at_name; sort = x }) ∷ []) in y) (sym (known_sort.same parts (PToken passed_3 ∷ PToken name ∷ PToken passed_1 ∷ POther (PPars pars) ∷ behind) sort before (ap (λ (ps : Parts). drop 0 ps) shape)));
    }

pub next_par_is : (text : List ℕ) (nodes : List Node) (at : ℕ) (at_pars : ℕ) (at_name : SeenToken) (at_sort : SeenToken) → IsMadeBy nodes at act.ACT_NEXT_PAR → IsChild text nodes at 4 at_pars → IsTokenOf text nodes at 2 at_name → IsTokenOf text nodes at 0 at_sort
    → (whole : List Par) → IsPartAt text nodes at (POther (PPars whole)) → IsNextPar text nodes at at_pars at_name at_sort whole
next_par_is text nodes at at_pars at_name at_sort by known_pars known_name known_sort whole is =
    let o = opened text nodes at (Made by.raw by.from) (POther (PPars whole)) by.node is in
    let a = accepted text act.ACT_NEXT_PAR o.parts (POther (PPars whole) ∷ o.rest) (same_act text by.raw act.ACT_NEXT_PAR o.parts by.number ∙ o.done) in
    go o.parts o.rest o.before a.0 a.1
  where
    go : (parts rest : Parts) → built text (take at nodes) ≡ Some parts → has_tops (is_token ∷ is_token ∷ is_token ∷ is_token ∷ is_pars ∷ []) parts ≡ true → POther (PPars whole) ∷ rest ≡ POther (PPars (made_next_par parts)) ∷ drop 5 parts → IsNextPar text nodes at at_pars at_name at_sort whole
    go parts rest before h q =
        top_token (is_token ∷ is_token ∷ is_token ∷ is_pars ∷ []) parts h (λ x0 r0 e0 h0.
        top_token (is_token ∷ is_token ∷ is_pars ∷ []) r0 h0 (λ x1 r1 e1 h1.
        top_token (is_token ∷ is_pars ∷ []) r1 h1 (λ x2 r2 e2 h2.
        top_token (is_pars ∷ []) r2 h2 (λ x3 r3 e3 h3.
        top_pars ([]) r3 h3 (λ x4 r4 e4 h4.
        next_par_end text nodes at at_pars at_name at_sort known_pars known_name known_sort whole parts rest x0 x1 x2 x3 x4 r4 before (e0 ∙ ap (λ (ps : Parts). PToken x0 ∷ ps) (e1 ∙ ap (λ (ps : Parts). PToken x1 ∷ ps) (e2 ∙ ap (λ (ps : Parts). PToken x2 ∷ ps) (e3 ∙ ap (λ (ps : Parts). PToken x3 ∷ ps) e4)))) q)))))

in_pars_end : (text : List ℕ) (nodes : List Node) (at : ℕ) (at_pars : ℕ) → IsChild text nodes at 1 at_pars
    → (whole : List Par) (parts rest : Parts) (passed_2 : SeenToken) (pars : List Par) (passed_0 : SeenToken) (behind : Parts) → built text (take at nodes) ≡ Some parts → parts ≡ PToken passed_2 ∷ POther (PPars pars) ∷ PToken passed_0 ∷ behind
    → POther (PPars whole) ∷ rest ≡ POther (PPars (made_in_pars parts)) ∷ drop 3 parts → IsInPars text nodes at at_pars whole
in_pars_end text nodes at at_pars known_pars whole parts rest passed_2 pars passed_0 behind before shape q =
    let made : whole ≡ made_in_pars parts = cc in
    record {
      of_pars = pars;
      at_pars = at_part text nodes at 1 at_pars parts (PToken passed_0 ∷ behind) (POther (PPars pars)) known_pars before (ap (λ (ps : Parts). drop 1 ps) shape);
      made = made ∙ ap (λ (ps : Parts). made_in_pars ps) shape;
    }

pub in_pars_is : (text : List ℕ) (nodes : List Node) (at : ℕ) (at_pars : ℕ) → IsMadeBy nodes at act.ACT_IN_PARS → IsChild text nodes at 1 at_pars
    → (whole : List Par) → IsPartAt text nodes at (POther (PPars whole)) → IsInPars text nodes at at_pars whole
in_pars_is text nodes at at_pars by known_pars whole is =
    let o = opened text nodes at (Made by.raw by.from) (POther (PPars whole)) by.node is in
    let a = accepted text act.ACT_IN_PARS o.parts (POther (PPars whole) ∷ o.rest) (same_act text by.raw act.ACT_IN_PARS o.parts by.number ∙ o.done) in
    go o.parts o.rest o.before a.0 a.1
  where
    go : (parts rest : Parts) → built text (take at nodes) ≡ Some parts → has_tops (is_token ∷ is_pars ∷ is_token ∷ []) parts ≡ true → POther (PPars whole) ∷ rest ≡ POther (PPars (made_in_pars parts)) ∷ drop 3 parts → IsInPars text nodes at at_pars whole
    go parts rest before h q =
        top_token (is_pars ∷ is_token ∷ []) parts h (λ x0 r0 e0 h0.
        top_pars (is_token ∷ []) r0 h0 (λ x1 r1 e1 h1.
        top_token ([]) r1 h1 (λ x2 r2 e2 h2.
        in_pars_end text nodes at at_pars known_pars whole parts rest x0 x1 x2 r2 before (e0 ∙ ap (λ (ps : Parts). PToken x0 ∷ ps) (e1 ∙ ap (λ (ps : Parts). POther (PPars x1) ∷ ps) e2)) q)))
