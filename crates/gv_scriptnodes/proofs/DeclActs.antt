-- Nodes of declarations before the blocks, by the acts that make them.
use Rattle.std.proofs.Common.{◌≡◌, ℕ, true, List, [], ◌∷◌, ◌++◌, Some, ap, ◌∙◌, arith}
use Rattle.std.specs.Prelude.{drop, take}
use Rattle.gv_grammar.specs.Building.{has_tops}
use Rattle.gv_termread.specs.declared.generated.term_acts.Part.TheVariants.{Token as PToken, Term as PTerm, Other as POther}
use Rattle.gv_termread.specs.declared.placed.PlacedTerm.{PlacedTerm}
use Rattle.gv_termread.specs.declared.token.SeenToken.{SeenToken}
use Rattle.gv_scriptsyntax.specs.declared.generated.script_acts.ScriptPart.TheVariants.{Books as PBooks, Case as PCase, Cases as PCases, Items as PItems, Pars as PPars, Preds as PPreds}
use Rattle.gv_scriptsyntax.specs.declared.generated.script_table.TheConstants.{ACT_CASE, ACT_NO_CASES, ACT_NEXT_CASE, ACT_NO_BOOKS, ACT_BOOK, ACT_NO_PREDS, ACT_PRED}
use Rattle.gv_scriptsyntax.specs.declared.tree.Book.{Book}
use Rattle.gv_scriptsyntax.specs.declared.tree.Case.{Case}
use Rattle.gv_scriptsyntax.specs.declared.tree.Item.{Item}
use Rattle.gv_scriptsyntax.specs.declared.tree.Par.{Par}
use Rattle.gv_scriptsyntax.specs.declared.tree.Pred.{Pred}
use Rattle.gv_scriptsyntax.specs.declared.node.Node.{Node}
use Rattle.gv_scriptsyntax.specs.Nodes.{Parts, built, IsPartAt}
use Rattle.gv_scriptnodes.specs.Places.{IsChild, IsTokenOf, act_at}
use Rattle.gv_scriptnodes.proofs.Opened.{opened_act, part_at}
use Rattle.gv_termread.specs.TermActs.{is_term, is_token}
use Rattle.gv_scriptsyntax.specs.ScriptActs.{is_books, is_case, is_cases, is_items, is_pars, is_preds, made_case, made_next_case, made_book, made_pred}
use Rattle.gv_scriptnodes.proofs.Tops.{accepted, same_books, same_case, same_cases, same_preds, top_books, top_case, top_cases, top_items, top_pars, top_preds, top_term, top_token}

pub record CaseIs (text : List ℕ) (nodes : List Node) (at : ℕ) (whole : Case) : Type 0 where
  pub items : List Item
  pub vars : List Par
  pub at_items : (place : ℕ) → IsChild text nodes at 0 place → IsPartAt text nodes place (POther (PItems items))
  pub at_vars : (place : ℕ) → IsChild text nodes at 1 place → IsPartAt text nodes place (POther (PPars vars))
  pub made : whole ≡ (record { vars = vars; items = items })

case_end : (text : List ℕ) (nodes : List Node) (at : ℕ) (whole : Case) (parts rest : Parts) (x0 : List Item) (x1 : List Par) (x2 : SeenToken) (behind : Parts) → built text (take at nodes) ≡ Some parts → parts ≡ POther (PItems x0) ∷ POther (PPars x1) ∷ PToken x2 ∷ behind
    → POther (PCase whole) ∷ rest ≡ POther (PCase (made_case parts)) ∷ drop 3 parts → CaseIs text nodes at whole
case_end text nodes at whole parts rest x0 x1 x2 behind before shape q = record {
  items = x0;
  vars = x1;
  at_items = λ place c. part_at text nodes at 0 place parts (POther (PPars x1) ∷ PToken x2 ∷ behind) (POther (PItems x0)) c before (ap (λ (ps : Parts). drop 0 ps) shape);
  at_vars = λ place c. part_at text nodes at 1 place parts (PToken x2 ∷ behind) (POther (PPars x1)) c before (ap (λ (ps : Parts). drop 1 ps) shape);
  made = same_case whole (made_case parts) rest (drop 3 parts) q ∙ ap (λ (ps : Parts). made_case ps) shape;
}

pub case_is : (text : List ℕ) (nodes : List Node) (at : ℕ) → act_at nodes at ≡ ACT_CASE → (whole : Case) → IsPartAt text nodes at (POther (PCase whole)) → CaseIs text nodes at whole
case_is text nodes at e whole is =
    let o = opened_act text nodes at ACT_CASE (POther (PCase whole)) e (omega arith) is in
    let a = accepted text ACT_CASE o.parts (POther (PCase whole) ∷ o.rest) o.done in
    go o.parts o.rest o.before a.0 a.1
  where
    go : (parts rest : Parts) → built text (take at nodes) ≡ Some parts → has_tops (is_items ∷ is_pars ∷ is_token ∷ []) parts ≡ true
        → POther (PCase whole) ∷ rest ≡ POther (PCase (made_case parts)) ∷ drop 3 parts → CaseIs text nodes at whole
    go parts rest before h q =
        top_items (is_pars ∷ is_token ∷ []) parts h (λ x0 r0 e0 h0.
        top_pars (is_token ∷ []) r0 h0 (λ x1 r1 e1 h1.
        top_token ([]) r1 h1 (λ x2 r2 e2 h2.
        case_end text nodes at whole parts rest x0 x1 x2 r2 before (e0 ∙ ap (λ (ps : Parts). POther (PItems x0) ∷ ps) (e1 ∙ ap (λ (ps : Parts). POther (PPars x1) ∷ ps) (e2))) q)))

pub no_cases_is : (text : List ℕ) (nodes : List Node) (at : ℕ) → act_at nodes at ≡ ACT_NO_CASES → (whole : List Case) → IsPartAt text nodes at (POther (PCases whole)) → whole ≡ []
no_cases_is text nodes at e whole is =
    let o = opened_act text nodes at ACT_NO_CASES (POther (PCases whole)) e (omega arith) is in
    let a = accepted text ACT_NO_CASES o.parts (POther (PCases whole) ∷ o.rest) o.done in
    let q : POther (PCases whole) ∷ o.rest ≡ POther (PCases []) ∷ o.parts = a.1 in
    same_cases whole [] o.rest o.parts q

pub record NextCaseIs (text : List ℕ) (nodes : List Node) (at : ℕ) (whole : List Case) : Type 0 where
  pub next : Case
  pub cases : List Case
  pub at_next : (place : ℕ) → IsChild text nodes at 0 place → IsPartAt text nodes place (POther (PCase next))
  pub at_cases : (place : ℕ) → IsChild text nodes at 1 place → IsPartAt text nodes place (POther (PCases cases))
  pub made : whole ≡ (cases ++ next ∷ [])

next_case_end : (text : List ℕ) (nodes : List Node) (at : ℕ) (whole : List Case) (parts rest : Parts) (x0 : Case) (x1 : List Case) (behind : Parts) → built text (take at nodes) ≡ Some parts → parts ≡ POther (PCase x0) ∷ POther (PCases x1) ∷ behind
    → POther (PCases whole) ∷ rest ≡ POther (PCases (made_next_case parts)) ∷ drop 2 parts → NextCaseIs text nodes at whole
next_case_end text nodes at whole parts rest x0 x1 behind before shape q = record {
  next = x0;
  cases = x1;
  at_next = λ place c. part_at text nodes at 0 place parts (POther (PCases x1) ∷ behind) (POther (PCase x0)) c before (ap (λ (ps : Parts). drop 0 ps) shape);
  at_cases = λ place c. part_at text nodes at 1 place parts (behind) (POther (PCases x1)) c before (ap (λ (ps : Parts). drop 1 ps) shape);
  made = same_cases whole (made_next_case parts) rest (drop 2 parts) q ∙ ap (λ (ps : Parts). made_next_case ps) shape;
}

pub next_case_is : (text : List ℕ) (nodes : List Node) (at : ℕ) → act_at nodes at ≡ ACT_NEXT_CASE → (whole : List Case) → IsPartAt text nodes at (POther (PCases whole)) → NextCaseIs text nodes at whole
next_case_is text nodes at e whole is =
    let o = opened_act text nodes at ACT_NEXT_CASE (POther (PCases whole)) e (omega arith) is in
    let a = accepted text ACT_NEXT_CASE o.parts (POther (PCases whole) ∷ o.rest) o.done in
    go o.parts o.rest o.before a.0 a.1
  where
    go : (parts rest : Parts) → built text (take at nodes) ≡ Some parts → has_tops (is_case ∷ is_cases ∷ []) parts ≡ true
        → POther (PCases whole) ∷ rest ≡ POther (PCases (made_next_case parts)) ∷ drop 2 parts → NextCaseIs text nodes at whole
    go parts rest before h q =
        top_case (is_cases ∷ []) parts h (λ x0 r0 e0 h0.
        top_cases ([]) r0 h0 (λ x1 r1 e1 h1.
        next_case_end text nodes at whole parts rest x0 x1 r1 before (e0 ∙ ap (λ (ps : Parts). POther (PCase x0) ∷ ps) (e1)) q))

pub no_books_is : (text : List ℕ) (nodes : List Node) (at : ℕ) → act_at nodes at ≡ ACT_NO_BOOKS → (whole : List Book) → IsPartAt text nodes at (POther (PBooks whole)) → whole ≡ []
no_books_is text nodes at e whole is =
    let o = opened_act text nodes at ACT_NO_BOOKS (POther (PBooks whole)) e (omega arith) is in
    let a = accepted text ACT_NO_BOOKS o.parts (POther (PBooks whole) ∷ o.rest) o.done in
    let q : POther (PBooks whole) ∷ o.rest ≡ POther (PBooks []) ∷ o.parts = a.1 in
    same_books whole [] o.rest o.parts q

pub record BookIs (text : List ℕ) (nodes : List Node) (at : ℕ) (whole : List Book) : Type 0 where
  pub first : PlacedTerm
  pub count : SeenToken
  pub sort : SeenToken
  pub name : SeenToken
  pub books : List Book
  pub at_first : (place : ℕ) → IsChild text nodes at 1 place → IsPartAt text nodes place (PTerm first)
  pub at_count : (t : SeenToken) → IsTokenOf text nodes at 3 t → t ≡ count
  pub at_sort : (t : SeenToken) → IsTokenOf text nodes at 4 t → t ≡ sort
  pub at_name : (t : SeenToken) → IsTokenOf text nodes at 6 t → t ≡ name
  pub at_books : (place : ℕ) → IsChild text nodes at 8 place → IsPartAt text nodes place (POther (PBooks books))
  pub made : whole ≡ (books ++ (record { name = name; sort = sort; count = count; first = first }) ∷ [])

book_end : (text : List ℕ) (nodes : List Node) (at : ℕ) (whole : List Book) (parts rest : Parts) (x0 : SeenToken) (x1 : PlacedTerm) (x2 : SeenToken) (x3 : SeenToken) (x4 : SeenToken) (x5 : SeenToken) (x6 : SeenToken) (x7 : SeenToken) (x8 : List Book) (behind : Parts) → built text (take at nodes) ≡ Some parts → parts ≡ PToken x0 ∷ PTerm x1 ∷ PToken x2 ∷ PToken x3 ∷ PToken x4 ∷ PToken x5 ∷ PToken x6 ∷ PToken x7 ∷ POther (PBooks x8) ∷ behind
    → POther (PBooks whole) ∷ rest ≡ POther (PBooks (made_book parts)) ∷ drop 9 parts → BookIs text nodes at whole
book_end text nodes at whole parts rest x0 x1 x2 x3 x4 x5 x6 x7 x8 behind before shape q = record {
  first = x1;
  count = x3;
  sort = x4;
  name = x6;
  books = x8;
  at_first = λ place c. part_at text nodes at 1 place parts (PToken x2 ∷ PToken x3 ∷ PToken x4 ∷ PToken x5 ∷ PToken x6 ∷ PToken x7 ∷ POther (PBooks x8) ∷ behind) (PTerm x1) c before (ap (λ (ps : Parts). drop 1 ps) shape);
  at_count = λ t c. c.same parts (PToken x4 ∷ PToken x5 ∷ PToken x6 ∷ PToken x7 ∷ POther (PBooks x8) ∷ behind) x3 before (ap (λ (ps : Parts). drop 3 ps) shape);
  at_sort = λ t c. c.same parts (PToken x5 ∷ PToken x6 ∷ PToken x7 ∷ POther (PBooks x8) ∷ behind) x4 before (ap (λ (ps : Parts). drop 4 ps) shape);
  at_name = λ t c. c.same parts (PToken x7 ∷ POther (PBooks x8) ∷ behind) x6 before (ap (λ (ps : Parts). drop 6 ps) shape);
  at_books = λ place c. part_at text nodes at 8 place parts (behind) (POther (PBooks x8)) c before (ap (λ (ps : Parts). drop 8 ps) shape);
  made = same_books whole (made_book parts) rest (drop 9 parts) q ∙ ap (λ (ps : Parts). made_book ps) shape;
}

pub book_is : (text : List ℕ) (nodes : List Node) (at : ℕ) → act_at nodes at ≡ ACT_BOOK → (whole : List Book) → IsPartAt text nodes at (POther (PBooks whole)) → BookIs text nodes at whole
book_is text nodes at e whole is =
    let o = opened_act text nodes at ACT_BOOK (POther (PBooks whole)) e (omega arith) is in
    let a = accepted text ACT_BOOK o.parts (POther (PBooks whole) ∷ o.rest) o.done in
    go o.parts o.rest o.before a.0 a.1
  where
    go : (parts rest : Parts) → built text (take at nodes) ≡ Some parts → has_tops (is_token ∷ is_term ∷ is_token ∷ is_token ∷ is_token ∷ is_token ∷ is_token ∷ is_token ∷ is_books ∷ []) parts ≡ true
        → POther (PBooks whole) ∷ rest ≡ POther (PBooks (made_book parts)) ∷ drop 9 parts → BookIs text nodes at whole
    go parts rest before h q =
        top_token (is_term ∷ is_token ∷ is_token ∷ is_token ∷ is_token ∷ is_token ∷ is_token ∷ is_books ∷ []) parts h (λ x0 r0 e0 h0.
        top_term (is_token ∷ is_token ∷ is_token ∷ is_token ∷ is_token ∷ is_token ∷ is_books ∷ []) r0 h0 (λ x1 r1 e1 h1.
        top_token (is_token ∷ is_token ∷ is_token ∷ is_token ∷ is_token ∷ is_books ∷ []) r1 h1 (λ x2 r2 e2 h2.
        top_token (is_token ∷ is_token ∷ is_token ∷ is_token ∷ is_books ∷ []) r2 h2 (λ x3 r3 e3 h3.
        top_token (is_token ∷ is_token ∷ is_token ∷ is_books ∷ []) r3 h3 (λ x4 r4 e4 h4.
        top_token (is_token ∷ is_token ∷ is_books ∷ []) r4 h4 (λ x5 r5 e5 h5.
        top_token (is_token ∷ is_books ∷ []) r5 h5 (λ x6 r6 e6 h6.
        top_token (is_books ∷ []) r6 h6 (λ x7 r7 e7 h7.
        top_books ([]) r7 h7 (λ x8 r8 e8 h8.
        book_end text nodes at whole parts rest x0 x1 x2 x3 x4 x5 x6 x7 x8 r8 before (e0 ∙ ap (λ (ps : Parts). PToken x0 ∷ ps) (e1 ∙ ap (λ (ps : Parts). PTerm x1 ∷ ps) (e2 ∙ ap (λ (ps : Parts). PToken x2 ∷ ps) (e3 ∙ ap (λ (ps : Parts). PToken x3 ∷ ps) (e4 ∙ ap (λ (ps : Parts). PToken x4 ∷ ps) (e5 ∙ ap (λ (ps : Parts). PToken x5 ∷ ps) (e6 ∙ ap (λ (ps : Parts). PToken x6 ∷ ps) (e7 ∙ ap (λ (ps : Parts). PToken x7 ∷ ps) (e8))))))))) q)))))))))

pub no_preds_is : (text : List ℕ) (nodes : List Node) (at : ℕ) → act_at nodes at ≡ ACT_NO_PREDS → (whole : List Pred) → IsPartAt text nodes at (POther (PPreds whole)) → whole ≡ []
no_preds_is text nodes at e whole is =
    let o = opened_act text nodes at ACT_NO_PREDS (POther (PPreds whole)) e (omega arith) is in
    let a = accepted text ACT_NO_PREDS o.parts (POther (PPreds whole) ∷ o.rest) o.done in
    let q : POther (PPreds whole) ∷ o.rest ≡ POther (PPreds []) ∷ o.parts = a.1 in
    same_preds whole [] o.rest o.parts q

pub record PredIs (text : List ℕ) (nodes : List Node) (at : ℕ) (whole : List Pred) : Type 0 where
  pub cases : List Case
  pub params : List Par
  pub name : SeenToken
  pub preds : List Pred
  pub at_cases : (place : ℕ) → IsChild text nodes at 1 place → IsPartAt text nodes place (POther (PCases cases))
  pub at_params : (place : ℕ) → IsChild text nodes at 3 place → IsPartAt text nodes place (POther (PPars params))
  pub at_name : (t : SeenToken) → IsTokenOf text nodes at 4 t → t ≡ name
  pub at_preds : (place : ℕ) → IsChild text nodes at 6 place → IsPartAt text nodes place (POther (PPreds preds))
  pub made : whole ≡ (preds ++ (record { name = name; params = params; cases = cases }) ∷ [])

pred_end : (text : List ℕ) (nodes : List Node) (at : ℕ) (whole : List Pred) (parts rest : Parts) (x0 : SeenToken) (x1 : List Case) (x2 : SeenToken) (x3 : List Par) (x4 : SeenToken) (x5 : SeenToken) (x6 : List Pred) (behind : Parts) → built text (take at nodes) ≡ Some parts → parts ≡ PToken x0 ∷ POther (PCases x1) ∷ PToken x2 ∷ POther (PPars x3) ∷ PToken x4 ∷ PToken x5 ∷ POther (PPreds x6) ∷ behind
    → POther (PPreds whole) ∷ rest ≡ POther (PPreds (made_pred parts)) ∷ drop 7 parts → PredIs text nodes at whole
pred_end text nodes at whole parts rest x0 x1 x2 x3 x4 x5 x6 behind before shape q = record {
  cases = x1;
  params = x3;
  name = x4;
  preds = x6;
  at_cases = λ place c. part_at text nodes at 1 place parts (PToken x2 ∷ POther (PPars x3) ∷ PToken x4 ∷ PToken x5 ∷ POther (PPreds x6) ∷ behind) (POther (PCases x1)) c before (ap (λ (ps : Parts). drop 1 ps) shape);
  at_params = λ place c. part_at text nodes at 3 place parts (PToken x4 ∷ PToken x5 ∷ POther (PPreds x6) ∷ behind) (POther (PPars x3)) c before (ap (λ (ps : Parts). drop 3 ps) shape);
  at_name = λ t c. c.same parts (PToken x5 ∷ POther (PPreds x6) ∷ behind) x4 before (ap (λ (ps : Parts). drop 4 ps) shape);
  at_preds = λ place c. part_at text nodes at 6 place parts (behind) (POther (PPreds x6)) c before (ap (λ (ps : Parts). drop 6 ps) shape);
  made = same_preds whole (made_pred parts) rest (drop 7 parts) q ∙ ap (λ (ps : Parts). made_pred ps) shape;
}

pub pred_is : (text : List ℕ) (nodes : List Node) (at : ℕ) → act_at nodes at ≡ ACT_PRED → (whole : List Pred) → IsPartAt text nodes at (POther (PPreds whole)) → PredIs text nodes at whole
pred_is text nodes at e whole is =
    let o = opened_act text nodes at ACT_PRED (POther (PPreds whole)) e (omega arith) is in
    let a = accepted text ACT_PRED o.parts (POther (PPreds whole) ∷ o.rest) o.done in
    go o.parts o.rest o.before a.0 a.1
  where
    go : (parts rest : Parts) → built text (take at nodes) ≡ Some parts → has_tops (is_token ∷ is_cases ∷ is_token ∷ is_pars ∷ is_token ∷ is_token ∷ is_preds ∷ []) parts ≡ true
        → POther (PPreds whole) ∷ rest ≡ POther (PPreds (made_pred parts)) ∷ drop 7 parts → PredIs text nodes at whole
    go parts rest before h q =
        top_token (is_cases ∷ is_token ∷ is_pars ∷ is_token ∷ is_token ∷ is_preds ∷ []) parts h (λ x0 r0 e0 h0.
        top_cases (is_token ∷ is_pars ∷ is_token ∷ is_token ∷ is_preds ∷ []) r0 h0 (λ x1 r1 e1 h1.
        top_token (is_pars ∷ is_token ∷ is_token ∷ is_preds ∷ []) r1 h1 (λ x2 r2 e2 h2.
        top_pars (is_token ∷ is_token ∷ is_preds ∷ []) r2 h2 (λ x3 r3 e3 h3.
        top_token (is_token ∷ is_preds ∷ []) r3 h3 (λ x4 r4 e4 h4.
        top_token (is_preds ∷ []) r4 h4 (λ x5 r5 e5 h5.
        top_preds ([]) r5 h5 (λ x6 r6 e6 h6.
        pred_end text nodes at whole parts rest x0 x1 x2 x3 x4 x5 x6 r6 before (e0 ∙ ap (λ (ps : Parts). PToken x0 ∷ ps) (e1 ∙ ap (λ (ps : Parts). POther (PCases x1) ∷ ps) (e2 ∙ ap (λ (ps : Parts). PToken x2 ∷ ps) (e3 ∙ ap (λ (ps : Parts). POther (PPars x3) ∷ ps) (e4 ∙ ap (λ (ps : Parts). PToken x4 ∷ ps) (e5 ∙ ap (λ (ps : Parts). PToken x5 ∷ ps) (e6))))))) q)))))))
