-- Preds nodes by the acts that make them. Made by tools/script_nodes.py from script.grammar: edit that.
use Rattle.std.proofs.Common.{◌≡◌, ℕ, true, List, [], ◌∷◌, ◌++◌, Some, refl, sym, ap, ◌∙◌}
use Rattle.std.specs.Prelude.{drop, take}
use Rattle.gv_grammar.specs.Building.{has_tops}
use Rattle.gv_termread.specs.declared.generated.term_acts.Part.TheVariants.{Token as PToken, Other as POther}
use Rattle.gv_scriptsyntax.specs.declared.generated.script_acts.ScriptPart.TheVariants.{Cases as PCases, Pars as PPars, Preds as PPreds}
use Rattle.gv_scriptsyntax.specs.declared.tree.Case.{Case}
use Rattle.gv_scriptsyntax.specs.declared.tree.Par.{Par}
use Rattle.gv_scriptsyntax.specs.declared.tree.Pred.{Pred}
use Rattle.gv_termread.specs.declared.token.SeenToken.{SeenToken}
use Rattle.gv_scriptsyntax.specs.declared.node.Node.{Node}
use Rattle.gv_scriptsyntax.specs.declared.node.Node.TheVariants.{Made}
use Rattle.gv_scriptsyntax.specs.declared.generated.script_table.TheConstants as act
use Rattle.gv_termread.specs.TermActs.{is_token}
use Rattle.gv_scriptsyntax.specs.ScriptActs.{is_cases, is_pars, is_preds, made_no_preds, made_pred}
use Rattle.gv_scriptsyntax.specs.Nodes.{Parts, built, IsPartAt}
use Rattle.gv_scriptnodes.specs.Places.{IsChild, IsTokenOf}
use Rattle.gv_scriptnodes.proofs.Opened.{opened}
use Rattle.gv_scriptnodes.proofs.Tops.{accepted, top_cases, top_pars, top_preds, top_token}
use Rattle.gv_certnodes.specs.Places.{IsMadeBy}
use Rattle.gv_declnodes.specs.Preds.{IsPred}
use Rattle.gv_certnodes.proofs.Opened.{at_part, same_act}

no_preds_end : (text : List ℕ) (nodes : List Node) (at : ℕ)
    → (whole : List Pred) (parts rest : Parts) (behind : Parts) → built text (take at nodes) ≡ Some parts → parts ≡ behind
    → POther (PPreds whole) ∷ rest ≡ POther (PPreds (made_no_preds parts)) ∷ drop 0 parts → whole ≡ []
no_preds_end text nodes at whole parts rest behind before shape q =
    let made : whole ≡ made_no_preds parts = cc in
    made ∙ ap (λ (ps : Parts). made_no_preds ps) shape

pub no_preds_is : (text : List ℕ) (nodes : List Node) (at : ℕ) → IsMadeBy nodes at act.ACT_NO_PREDS
    → (whole : List Pred) → IsPartAt text nodes at (POther (PPreds whole)) → whole ≡ []
no_preds_is text nodes at by whole is =
    let o = opened text nodes at (Made by.raw by.from) (POther (PPreds whole)) by.node is in
    let a = accepted text act.ACT_NO_PREDS o.parts (POther (PPreds whole) ∷ o.rest) (same_act text by.raw act.ACT_NO_PREDS o.parts by.number ∙ o.done) in
    go o.parts o.rest o.before a.0 a.1
  where
    go : (parts rest : Parts) → built text (take at nodes) ≡ Some parts → has_tops ([]) parts ≡ true → POther (PPreds whole) ∷ rest ≡ POther (PPreds (made_no_preds parts)) ∷ drop 0 parts → whole ≡ []
    go parts rest before h q =
        no_preds_end text nodes at whole parts rest parts before refl q

pred_end : (text : List ℕ) (nodes : List Node) (at : ℕ) (at_preds : ℕ) (at_name : SeenToken) (at_params : ℕ) (at_cases : ℕ) → IsChild text nodes at 6 at_preds → IsTokenOf text nodes at 4 at_name → IsChild text nodes at 3 at_params → IsChild text nodes at 1 at_cases
    → (whole : List Pred) (parts rest : Parts) (passed_6 : SeenToken) (cases : List Case) (passed_4 : SeenToken) (params : List Par) (name : SeenToken) (passed_1 : SeenToken) (preds : List Pred) (behind : Parts) → built text (take at nodes) ≡ Some parts → parts ≡ PToken passed_6 ∷ POther (PCases cases) ∷ PToken passed_4 ∷ POther (PPars params) ∷ PToken name ∷ PToken passed_1 ∷ POther (PPreds preds) ∷ behind
    → POther (PPreds whole) ∷ rest ≡ POther (PPreds (made_pred parts)) ∷ drop 7 parts → IsPred text nodes at at_preds at_name at_params at_cases whole
pred_end text nodes at at_preds at_name at_params at_cases known_preds known_name known_params known_cases whole parts rest passed_6 cases passed_4 params name passed_1 preds behind before shape q =
    let made : whole ≡ made_pred parts = cc in
    record {
      of_preds = preds;
      of_params = params;
      of_cases = cases;
      at_preds = at_part text nodes at 6 at_preds parts (behind) (POther (PPreds preds)) known_preds before (ap (λ (ps : Parts). drop 6 ps) shape);
      at_params = at_part text nodes at 3 at_params parts (PToken name ∷ PToken passed_1 ∷ POther (PPreds preds) ∷ behind) (POther (PPars params)) known_params before (ap (λ (ps : Parts). drop 3 ps) shape);
      at_cases = at_part text nodes at 1 at_cases parts (PToken passed_4 ∷ POther (PPars params) ∷ PToken name ∷ PToken passed_1 ∷ POther (PPreds preds) ∷ behind) (POther (PCases cases)) known_cases before (ap (λ (ps : Parts). drop 1 ps) shape);
      made = made ∙ ap (λ (ps : Parts). made_pred ps) shape
          ∙ ap (λ (x : SeenToken). let y : List Pred = (preds ++ (record { name = x; params = params; cases = cases }) ∷ []) in y) (sym (known_name.same parts (PToken passed_1 ∷ POther (PPreds preds) ∷ behind) name before (ap (λ (ps : Parts). drop 4 ps) shape)));
    }

pub pred_is : (text : List ℕ) (nodes : List Node) (at : ℕ) (at_preds : ℕ) (at_name : SeenToken) (at_params : ℕ) (at_cases : ℕ) → IsMadeBy nodes at act.ACT_PRED → IsChild text nodes at 6 at_preds → IsTokenOf text nodes at 4 at_name → IsChild text nodes at 3 at_params → IsChild text nodes at 1 at_cases
    → (whole : List Pred) → IsPartAt text nodes at (POther (PPreds whole)) → IsPred text nodes at at_preds at_name at_params at_cases whole
pred_is text nodes at at_preds at_name at_params at_cases by known_preds known_name known_params known_cases whole is =
    let o = opened text nodes at (Made by.raw by.from) (POther (PPreds whole)) by.node is in
    let a = accepted text act.ACT_PRED o.parts (POther (PPreds whole) ∷ o.rest) (same_act text by.raw act.ACT_PRED o.parts by.number ∙ o.done) in
    go o.parts o.rest o.before a.0 a.1
  where
    go : (parts rest : Parts) → built text (take at nodes) ≡ Some parts → has_tops (is_token ∷ is_cases ∷ is_token ∷ is_pars ∷ is_token ∷ is_token ∷ is_preds ∷ []) parts ≡ true → POther (PPreds whole) ∷ rest ≡ POther (PPreds (made_pred parts)) ∷ drop 7 parts → IsPred text nodes at at_preds at_name at_params at_cases whole
    go parts rest before h q =
        top_token (is_cases ∷ is_token ∷ is_pars ∷ is_token ∷ is_token ∷ is_preds ∷ []) parts h (λ x0 r0 e0 h0.
        top_cases (is_token ∷ is_pars ∷ is_token ∷ is_token ∷ is_preds ∷ []) r0 h0 (λ x1 r1 e1 h1.
        top_token (is_pars ∷ is_token ∷ is_token ∷ is_preds ∷ []) r1 h1 (λ x2 r2 e2 h2.
        top_pars (is_token ∷ is_token ∷ is_preds ∷ []) r2 h2 (λ x3 r3 e3 h3.
        top_token (is_token ∷ is_preds ∷ []) r3 h3 (λ x4 r4 e4 h4.
        top_token (is_preds ∷ []) r4 h4 (λ x5 r5 e5 h5.
        top_preds ([]) r5 h5 (λ x6 r6 e6 h6.
        pred_end text nodes at at_preds at_name at_params at_cases known_preds known_name known_params known_cases whole parts rest x0 x1 x2 x3 x4 x5 x6 r6 before (e0 ∙ ap (λ (ps : Parts). PToken x0 ∷ ps) (e1 ∙ ap (λ (ps : Parts). POther (PCases x1) ∷ ps) (e2 ∙ ap (λ (ps : Parts). PToken x2 ∷ ps) (e3 ∙ ap (λ (ps : Parts). POther (PPars x3) ∷ ps) (e4 ∙ ap (λ (ps : Parts). PToken x4 ∷ ps) (e5 ∙ ap (λ (ps : Parts). PToken x5 ∷ ps) e6)))))) q)))))))
