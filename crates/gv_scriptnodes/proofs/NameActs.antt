-- Nodes of names, parameters and terms, by the acts that make them.
use Rattle.std.proofs.Common.{◌≡◌, ℕ, true, List, [], ◌∷◌, ◌++◌, Some, ap, ◌∙◌, arith}
use Rattle.std.specs.Prelude.{drop, take}
use Rattle.gv_grammar.specs.Building.{has_tops}
use Rattle.gv_termread.specs.declared.generated.term_acts.Part.TheVariants.{Token as PToken, Term as PTerm, Other as POther}
use Rattle.gv_termread.specs.declared.placed.PlacedTerm.{PlacedTerm}
use Rattle.gv_termread.specs.declared.token.SeenToken.{SeenToken}
use Rattle.gv_scriptsyntax.specs.declared.generated.script_acts.ScriptPart.TheVariants.{Names as PNames, Pars as PPars, Terms as PTerms}
use Rattle.gv_scriptsyntax.specs.declared.generated.script_table.TheConstants.{ACT_NO_NAMES, ACT_NAME, ACT_NEXT_NAME, ACT_IN_NAMES, ACT_WORD_NAMES, ACT_NO_PARS, ACT_PAR, ACT_NEXT_PAR, ACT_IN_PARS, ACT_NO_TERMS, ACT_TERM, ACT_NEXT_TERM, ACT_IN_TERMS, ACT_WORD_TERMS}
use Rattle.gv_scriptsyntax.specs.declared.tree.Par.{Par}
use Rattle.gv_scriptsyntax.specs.declared.node.Node.{Node}
use Rattle.gv_scriptsyntax.specs.Nodes.{Parts, built, IsPartAt}
use Rattle.gv_scriptnodes.specs.Places.{IsChild, IsTokenOf, act_at}
use Rattle.gv_scriptnodes.proofs.Opened.{opened_act, part_at}
use Rattle.gv_termread.specs.TermActs.{is_term, is_token}
use Rattle.gv_scriptsyntax.specs.ScriptActs.{is_names, is_pars, is_terms, made_name, made_next_name, made_in_names, made_word_names, made_par, made_next_par, made_in_pars, made_term, made_next_term, made_in_terms, made_word_terms}
use Rattle.gv_scriptnodes.proofs.Tops.{accepted, same_names, same_pars, same_terms, top_names, top_pars, top_term, top_terms, top_token}

pub no_names_is : (text : List ℕ) (nodes : List Node) (at : ℕ) → act_at nodes at ≡ ACT_NO_NAMES → (whole : List SeenToken) → IsPartAt text nodes at (POther (PNames whole)) → whole ≡ []
no_names_is text nodes at e whole is =
    let o = opened_act text nodes at ACT_NO_NAMES (POther (PNames whole)) e (omega arith) is in
    let a = accepted text ACT_NO_NAMES o.parts (POther (PNames whole) ∷ o.rest) o.done in
    let q : POther (PNames whole) ∷ o.rest ≡ POther (PNames []) ∷ o.parts = a.1 in
    same_names whole [] o.rest o.parts q

pub record NameIs (text : List ℕ) (nodes : List Node) (at : ℕ) (whole : List SeenToken) : Type 0 where
  pub name : SeenToken
  pub names : List SeenToken
  pub at_name : (t : SeenToken) → IsTokenOf text nodes at 0 t → t ≡ name
  pub at_names : (place : ℕ) → IsChild text nodes at 1 place → IsPartAt text nodes place (POther (PNames names))
  pub made : whole ≡ (names ++ name ∷ [])

name_end : (text : List ℕ) (nodes : List Node) (at : ℕ) (whole : List SeenToken) (parts rest : Parts) (x0 : SeenToken) (x1 : List SeenToken) (behind : Parts) → built text (take at nodes) ≡ Some parts → parts ≡ PToken x0 ∷ POther (PNames x1) ∷ behind
    → POther (PNames whole) ∷ rest ≡ POther (PNames (made_name parts)) ∷ drop 2 parts → NameIs text nodes at whole
name_end text nodes at whole parts rest x0 x1 behind before shape q = record {
  name = x0;
  names = x1;
  at_name = λ t c. c.same parts (POther (PNames x1) ∷ behind) x0 before (ap (λ (ps : Parts). drop 0 ps) shape);
  at_names = λ place c. part_at text nodes at 1 place parts (behind) (POther (PNames x1)) c before (ap (λ (ps : Parts). drop 1 ps) shape);
  made = same_names whole (made_name parts) rest (drop 2 parts) q ∙ ap (λ (ps : Parts). made_name ps) shape;
}

pub name_is : (text : List ℕ) (nodes : List Node) (at : ℕ) → act_at nodes at ≡ ACT_NAME → (whole : List SeenToken) → IsPartAt text nodes at (POther (PNames whole)) → NameIs text nodes at whole
name_is text nodes at e whole is =
    let o = opened_act text nodes at ACT_NAME (POther (PNames whole)) e (omega arith) is in
    let a = accepted text ACT_NAME o.parts (POther (PNames whole) ∷ o.rest) o.done in
    go o.parts o.rest o.before a.0 a.1
  where
    go : (parts rest : Parts) → built text (take at nodes) ≡ Some parts → has_tops (is_token ∷ is_names ∷ []) parts ≡ true
        → POther (PNames whole) ∷ rest ≡ POther (PNames (made_name parts)) ∷ drop 2 parts → NameIs text nodes at whole
    go parts rest before h q =
        top_token (is_names ∷ []) parts h (λ x0 r0 e0 h0.
        top_names ([]) r0 h0 (λ x1 r1 e1 h1.
        name_end text nodes at whole parts rest x0 x1 r1 before (e0 ∙ ap (λ (ps : Parts). PToken x0 ∷ ps) (e1)) q))

pub record NextNameIs (text : List ℕ) (nodes : List Node) (at : ℕ) (whole : List SeenToken) : Type 0 where
  pub name : SeenToken
  pub names : List SeenToken
  pub at_name : (t : SeenToken) → IsTokenOf text nodes at 0 t → t ≡ name
  pub at_names : (place : ℕ) → IsChild text nodes at 2 place → IsPartAt text nodes place (POther (PNames names))
  pub made : whole ≡ (names ++ name ∷ [])

next_name_end : (text : List ℕ) (nodes : List Node) (at : ℕ) (whole : List SeenToken) (parts rest : Parts) (x0 : SeenToken) (x1 : SeenToken) (x2 : List SeenToken) (behind : Parts) → built text (take at nodes) ≡ Some parts → parts ≡ PToken x0 ∷ PToken x1 ∷ POther (PNames x2) ∷ behind
    → POther (PNames whole) ∷ rest ≡ POther (PNames (made_next_name parts)) ∷ drop 3 parts → NextNameIs text nodes at whole
next_name_end text nodes at whole parts rest x0 x1 x2 behind before shape q = record {
  name = x0;
  names = x2;
  at_name = λ t c. c.same parts (PToken x1 ∷ POther (PNames x2) ∷ behind) x0 before (ap (λ (ps : Parts). drop 0 ps) shape);
  at_names = λ place c. part_at text nodes at 2 place parts (behind) (POther (PNames x2)) c before (ap (λ (ps : Parts). drop 2 ps) shape);
  made = same_names whole (made_next_name parts) rest (drop 3 parts) q ∙ ap (λ (ps : Parts). made_next_name ps) shape;
}

pub next_name_is : (text : List ℕ) (nodes : List Node) (at : ℕ) → act_at nodes at ≡ ACT_NEXT_NAME → (whole : List SeenToken) → IsPartAt text nodes at (POther (PNames whole)) → NextNameIs text nodes at whole
next_name_is text nodes at e whole is =
    let o = opened_act text nodes at ACT_NEXT_NAME (POther (PNames whole)) e (omega arith) is in
    let a = accepted text ACT_NEXT_NAME o.parts (POther (PNames whole) ∷ o.rest) o.done in
    go o.parts o.rest o.before a.0 a.1
  where
    go : (parts rest : Parts) → built text (take at nodes) ≡ Some parts → has_tops (is_token ∷ is_token ∷ is_names ∷ []) parts ≡ true
        → POther (PNames whole) ∷ rest ≡ POther (PNames (made_next_name parts)) ∷ drop 3 parts → NextNameIs text nodes at whole
    go parts rest before h q =
        top_token (is_token ∷ is_names ∷ []) parts h (λ x0 r0 e0 h0.
        top_token (is_names ∷ []) r0 h0 (λ x1 r1 e1 h1.
        top_names ([]) r1 h1 (λ x2 r2 e2 h2.
        next_name_end text nodes at whole parts rest x0 x1 x2 r2 before (e0 ∙ ap (λ (ps : Parts). PToken x0 ∷ ps) (e1 ∙ ap (λ (ps : Parts). PToken x1 ∷ ps) (e2))) q)))

pub record InNamesIs (text : List ℕ) (nodes : List Node) (at : ℕ) (whole : List SeenToken) : Type 0 where
  pub names : List SeenToken
  pub at_names : (place : ℕ) → IsChild text nodes at 1 place → IsPartAt text nodes place (POther (PNames names))
  pub made : whole ≡ names

in_names_end : (text : List ℕ) (nodes : List Node) (at : ℕ) (whole : List SeenToken) (parts rest : Parts) (x0 : SeenToken) (x1 : List SeenToken) (x2 : SeenToken) (behind : Parts) → built text (take at nodes) ≡ Some parts → parts ≡ PToken x0 ∷ POther (PNames x1) ∷ PToken x2 ∷ behind
    → POther (PNames whole) ∷ rest ≡ POther (PNames (made_in_names parts)) ∷ drop 3 parts → InNamesIs text nodes at whole
in_names_end text nodes at whole parts rest x0 x1 x2 behind before shape q = record {
  names = x1;
  at_names = λ place c. part_at text nodes at 1 place parts (PToken x2 ∷ behind) (POther (PNames x1)) c before (ap (λ (ps : Parts). drop 1 ps) shape);
  made = same_names whole (made_in_names parts) rest (drop 3 parts) q ∙ ap (λ (ps : Parts). made_in_names ps) shape;
}

pub in_names_is : (text : List ℕ) (nodes : List Node) (at : ℕ) → act_at nodes at ≡ ACT_IN_NAMES → (whole : List SeenToken) → IsPartAt text nodes at (POther (PNames whole)) → InNamesIs text nodes at whole
in_names_is text nodes at e whole is =
    let o = opened_act text nodes at ACT_IN_NAMES (POther (PNames whole)) e (omega arith) is in
    let a = accepted text ACT_IN_NAMES o.parts (POther (PNames whole) ∷ o.rest) o.done in
    go o.parts o.rest o.before a.0 a.1
  where
    go : (parts rest : Parts) → built text (take at nodes) ≡ Some parts → has_tops (is_token ∷ is_names ∷ is_token ∷ []) parts ≡ true
        → POther (PNames whole) ∷ rest ≡ POther (PNames (made_in_names parts)) ∷ drop 3 parts → InNamesIs text nodes at whole
    go parts rest before h q =
        top_token (is_names ∷ is_token ∷ []) parts h (λ x0 r0 e0 h0.
        top_names (is_token ∷ []) r0 h0 (λ x1 r1 e1 h1.
        top_token ([]) r1 h1 (λ x2 r2 e2 h2.
        in_names_end text nodes at whole parts rest x0 x1 x2 r2 before (e0 ∙ ap (λ (ps : Parts). PToken x0 ∷ ps) (e1 ∙ ap (λ (ps : Parts). POther (PNames x1) ∷ ps) (e2))) q)))

pub record WordNamesIs (text : List ℕ) (nodes : List Node) (at : ℕ) (whole : List SeenToken) : Type 0 where
  pub names : List SeenToken
  pub at_names : (place : ℕ) → IsChild text nodes at 0 place → IsPartAt text nodes place (POther (PNames names))
  pub made : whole ≡ names

word_names_end : (text : List ℕ) (nodes : List Node) (at : ℕ) (whole : List SeenToken) (parts rest : Parts) (x0 : List SeenToken) (x1 : SeenToken) (behind : Parts) → built text (take at nodes) ≡ Some parts → parts ≡ POther (PNames x0) ∷ PToken x1 ∷ behind
    → POther (PNames whole) ∷ rest ≡ POther (PNames (made_word_names parts)) ∷ drop 2 parts → WordNamesIs text nodes at whole
word_names_end text nodes at whole parts rest x0 x1 behind before shape q = record {
  names = x0;
  at_names = λ place c. part_at text nodes at 0 place parts (PToken x1 ∷ behind) (POther (PNames x0)) c before (ap (λ (ps : Parts). drop 0 ps) shape);
  made = same_names whole (made_word_names parts) rest (drop 2 parts) q ∙ ap (λ (ps : Parts). made_word_names ps) shape;
}

pub word_names_is : (text : List ℕ) (nodes : List Node) (at : ℕ) → act_at nodes at ≡ ACT_WORD_NAMES → (whole : List SeenToken) → IsPartAt text nodes at (POther (PNames whole)) → WordNamesIs text nodes at whole
word_names_is text nodes at e whole is =
    let o = opened_act text nodes at ACT_WORD_NAMES (POther (PNames whole)) e (omega arith) is in
    let a = accepted text ACT_WORD_NAMES o.parts (POther (PNames whole) ∷ o.rest) o.done in
    go o.parts o.rest o.before a.0 a.1
  where
    go : (parts rest : Parts) → built text (take at nodes) ≡ Some parts → has_tops (is_names ∷ is_token ∷ []) parts ≡ true
        → POther (PNames whole) ∷ rest ≡ POther (PNames (made_word_names parts)) ∷ drop 2 parts → WordNamesIs text nodes at whole
    go parts rest before h q =
        top_names (is_token ∷ []) parts h (λ x0 r0 e0 h0.
        top_token ([]) r0 h0 (λ x1 r1 e1 h1.
        word_names_end text nodes at whole parts rest x0 x1 r1 before (e0 ∙ ap (λ (ps : Parts). POther (PNames x0) ∷ ps) (e1)) q))

pub no_pars_is : (text : List ℕ) (nodes : List Node) (at : ℕ) → act_at nodes at ≡ ACT_NO_PARS → (whole : List Par) → IsPartAt text nodes at (POther (PPars whole)) → whole ≡ []
no_pars_is text nodes at e whole is =
    let o = opened_act text nodes at ACT_NO_PARS (POther (PPars whole)) e (omega arith) is in
    let a = accepted text ACT_NO_PARS o.parts (POther (PPars whole) ∷ o.rest) o.done in
    let q : POther (PPars whole) ∷ o.rest ≡ POther (PPars []) ∷ o.parts = a.1 in
    same_pars whole [] o.rest o.parts q

pub record ParIs (text : List ℕ) (nodes : List Node) (at : ℕ) (whole : List Par) : Type 0 where
  pub sort : SeenToken
  pub name : SeenToken
  pub pars : List Par
  pub at_sort : (t : SeenToken) → IsTokenOf text nodes at 0 t → t ≡ sort
  pub at_name : (t : SeenToken) → IsTokenOf text nodes at 2 t → t ≡ name
  pub at_pars : (place : ℕ) → IsChild text nodes at 3 place → IsPartAt text nodes place (POther (PPars pars))
  pub made : whole ≡ (pars ++ (record { name = name; sort = sort }) ∷ [])

par_end : (text : List ℕ) (nodes : List Node) (at : ℕ) (whole : List Par) (parts rest : Parts) (x0 : SeenToken) (x1 : SeenToken) (x2 : SeenToken) (x3 : List Par) (behind : Parts) → built text (take at nodes) ≡ Some parts → parts ≡ PToken x0 ∷ PToken x1 ∷ PToken x2 ∷ POther (PPars x3) ∷ behind
    → POther (PPars whole) ∷ rest ≡ POther (PPars (made_par parts)) ∷ drop 4 parts → ParIs text nodes at whole
par_end text nodes at whole parts rest x0 x1 x2 x3 behind before shape q = record {
  sort = x0;
  name = x2;
  pars = x3;
  at_sort = λ t c. c.same parts (PToken x1 ∷ PToken x2 ∷ POther (PPars x3) ∷ behind) x0 before (ap (λ (ps : Parts). drop 0 ps) shape);
  at_name = λ t c. c.same parts (POther (PPars x3) ∷ behind) x2 before (ap (λ (ps : Parts). drop 2 ps) shape);
  at_pars = λ place c. part_at text nodes at 3 place parts (behind) (POther (PPars x3)) c before (ap (λ (ps : Parts). drop 3 ps) shape);
  made = same_pars whole (made_par parts) rest (drop 4 parts) q ∙ ap (λ (ps : Parts). made_par ps) shape;
}

pub par_is : (text : List ℕ) (nodes : List Node) (at : ℕ) → act_at nodes at ≡ ACT_PAR → (whole : List Par) → IsPartAt text nodes at (POther (PPars whole)) → ParIs text nodes at whole
par_is text nodes at e whole is =
    let o = opened_act text nodes at ACT_PAR (POther (PPars whole)) e (omega arith) is in
    let a = accepted text ACT_PAR o.parts (POther (PPars whole) ∷ o.rest) o.done in
    go o.parts o.rest o.before a.0 a.1
  where
    go : (parts rest : Parts) → built text (take at nodes) ≡ Some parts → has_tops (is_token ∷ is_token ∷ is_token ∷ is_pars ∷ []) parts ≡ true
        → POther (PPars whole) ∷ rest ≡ POther (PPars (made_par parts)) ∷ drop 4 parts → ParIs text nodes at whole
    go parts rest before h q =
        top_token (is_token ∷ is_token ∷ is_pars ∷ []) parts h (λ x0 r0 e0 h0.
        top_token (is_token ∷ is_pars ∷ []) r0 h0 (λ x1 r1 e1 h1.
        top_token (is_pars ∷ []) r1 h1 (λ x2 r2 e2 h2.
        top_pars ([]) r2 h2 (λ x3 r3 e3 h3.
        par_end text nodes at whole parts rest x0 x1 x2 x3 r3 before (e0 ∙ ap (λ (ps : Parts). PToken x0 ∷ ps) (e1 ∙ ap (λ (ps : Parts). PToken x1 ∷ ps) (e2 ∙ ap (λ (ps : Parts). PToken x2 ∷ ps) (e3)))) q))))

pub record NextParIs (text : List ℕ) (nodes : List Node) (at : ℕ) (whole : List Par) : Type 0 where
  pub sort : SeenToken
  pub name : SeenToken
  pub pars : List Par
  pub at_sort : (t : SeenToken) → IsTokenOf text nodes at 0 t → t ≡ sort
  pub at_name : (t : SeenToken) → IsTokenOf text nodes at 2 t → t ≡ name
  pub at_pars : (place : ℕ) → IsChild text nodes at 4 place → IsPartAt text nodes place (POther (PPars pars))
  pub made : whole ≡ (pars ++ (record { name = name; sort = sort }) ∷ [])

next_par_end : (text : List ℕ) (nodes : List Node) (at : ℕ) (whole : List Par) (parts rest : Parts) (x0 : SeenToken) (x1 : SeenToken) (x2 : SeenToken) (x3 : SeenToken) (x4 : List Par) (behind : Parts) → built text (take at nodes) ≡ Some parts → parts ≡ PToken x0 ∷ PToken x1 ∷ PToken x2 ∷ PToken x3 ∷ POther (PPars x4) ∷ behind
    → POther (PPars whole) ∷ rest ≡ POther (PPars (made_next_par parts)) ∷ drop 5 parts → NextParIs text nodes at whole
next_par_end text nodes at whole parts rest x0 x1 x2 x3 x4 behind before shape q = record {
  sort = x0;
  name = x2;
  pars = x4;
  at_sort = λ t c. c.same parts (PToken x1 ∷ PToken x2 ∷ PToken x3 ∷ POther (PPars x4) ∷ behind) x0 before (ap (λ (ps : Parts). drop 0 ps) shape);
  at_name = λ t c. c.same parts (PToken x3 ∷ POther (PPars x4) ∷ behind) x2 before (ap (λ (ps : Parts). drop 2 ps) shape);
  at_pars = λ place c. part_at text nodes at 4 place parts (behind) (POther (PPars x4)) c before (ap (λ (ps : Parts). drop 4 ps) shape);
  made = same_pars whole (made_next_par parts) rest (drop 5 parts) q ∙ ap (λ (ps : Parts). made_next_par ps) shape;
}

pub next_par_is : (text : List ℕ) (nodes : List Node) (at : ℕ) → act_at nodes at ≡ ACT_NEXT_PAR → (whole : List Par) → IsPartAt text nodes at (POther (PPars whole)) → NextParIs text nodes at whole
next_par_is text nodes at e whole is =
    let o = opened_act text nodes at ACT_NEXT_PAR (POther (PPars whole)) e (omega arith) is in
    let a = accepted text ACT_NEXT_PAR o.parts (POther (PPars whole) ∷ o.rest) o.done in
    go o.parts o.rest o.before a.0 a.1
  where
    go : (parts rest : Parts) → built text (take at nodes) ≡ Some parts → has_tops (is_token ∷ is_token ∷ is_token ∷ is_token ∷ is_pars ∷ []) parts ≡ true
        → POther (PPars whole) ∷ rest ≡ POther (PPars (made_next_par parts)) ∷ drop 5 parts → NextParIs text nodes at whole
    go parts rest before h q =
        top_token (is_token ∷ is_token ∷ is_token ∷ is_pars ∷ []) parts h (λ x0 r0 e0 h0.
        top_token (is_token ∷ is_token ∷ is_pars ∷ []) r0 h0 (λ x1 r1 e1 h1.
        top_token (is_token ∷ is_pars ∷ []) r1 h1 (λ x2 r2 e2 h2.
        top_token (is_pars ∷ []) r2 h2 (λ x3 r3 e3 h3.
        top_pars ([]) r3 h3 (λ x4 r4 e4 h4.
        next_par_end text nodes at whole parts rest x0 x1 x2 x3 x4 r4 before (e0 ∙ ap (λ (ps : Parts). PToken x0 ∷ ps) (e1 ∙ ap (λ (ps : Parts). PToken x1 ∷ ps) (e2 ∙ ap (λ (ps : Parts). PToken x2 ∷ ps) (e3 ∙ ap (λ (ps : Parts). PToken x3 ∷ ps) (e4))))) q)))))

pub record InParsIs (text : List ℕ) (nodes : List Node) (at : ℕ) (whole : List Par) : Type 0 where
  pub pars : List Par
  pub at_pars : (place : ℕ) → IsChild text nodes at 1 place → IsPartAt text nodes place (POther (PPars pars))
  pub made : whole ≡ pars

in_pars_end : (text : List ℕ) (nodes : List Node) (at : ℕ) (whole : List Par) (parts rest : Parts) (x0 : SeenToken) (x1 : List Par) (x2 : SeenToken) (behind : Parts) → built text (take at nodes) ≡ Some parts → parts ≡ PToken x0 ∷ POther (PPars x1) ∷ PToken x2 ∷ behind
    → POther (PPars whole) ∷ rest ≡ POther (PPars (made_in_pars parts)) ∷ drop 3 parts → InParsIs text nodes at whole
in_pars_end text nodes at whole parts rest x0 x1 x2 behind before shape q = record {
  pars = x1;
  at_pars = λ place c. part_at text nodes at 1 place parts (PToken x2 ∷ behind) (POther (PPars x1)) c before (ap (λ (ps : Parts). drop 1 ps) shape);
  made = same_pars whole (made_in_pars parts) rest (drop 3 parts) q ∙ ap (λ (ps : Parts). made_in_pars ps) shape;
}

pub in_pars_is : (text : List ℕ) (nodes : List Node) (at : ℕ) → act_at nodes at ≡ ACT_IN_PARS → (whole : List Par) → IsPartAt text nodes at (POther (PPars whole)) → InParsIs text nodes at whole
in_pars_is text nodes at e whole is =
    let o = opened_act text nodes at ACT_IN_PARS (POther (PPars whole)) e (omega arith) is in
    let a = accepted text ACT_IN_PARS o.parts (POther (PPars whole) ∷ o.rest) o.done in
    go o.parts o.rest o.before a.0 a.1
  where
    go : (parts rest : Parts) → built text (take at nodes) ≡ Some parts → has_tops (is_token ∷ is_pars ∷ is_token ∷ []) parts ≡ true
        → POther (PPars whole) ∷ rest ≡ POther (PPars (made_in_pars parts)) ∷ drop 3 parts → InParsIs text nodes at whole
    go parts rest before h q =
        top_token (is_pars ∷ is_token ∷ []) parts h (λ x0 r0 e0 h0.
        top_pars (is_token ∷ []) r0 h0 (λ x1 r1 e1 h1.
        top_token ([]) r1 h1 (λ x2 r2 e2 h2.
        in_pars_end text nodes at whole parts rest x0 x1 x2 r2 before (e0 ∙ ap (λ (ps : Parts). PToken x0 ∷ ps) (e1 ∙ ap (λ (ps : Parts). POther (PPars x1) ∷ ps) (e2))) q)))

pub no_terms_is : (text : List ℕ) (nodes : List Node) (at : ℕ) → act_at nodes at ≡ ACT_NO_TERMS → (whole : List PlacedTerm) → IsPartAt text nodes at (POther (PTerms whole)) → whole ≡ []
no_terms_is text nodes at e whole is =
    let o = opened_act text nodes at ACT_NO_TERMS (POther (PTerms whole)) e (omega arith) is in
    let a = accepted text ACT_NO_TERMS o.parts (POther (PTerms whole) ∷ o.rest) o.done in
    let q : POther (PTerms whole) ∷ o.rest ≡ POther (PTerms []) ∷ o.parts = a.1 in
    same_terms whole [] o.rest o.parts q

pub record TermIs (text : List ℕ) (nodes : List Node) (at : ℕ) (whole : List PlacedTerm) : Type 0 where
  pub term : PlacedTerm
  pub terms : List PlacedTerm
  pub at_term : (place : ℕ) → IsChild text nodes at 0 place → IsPartAt text nodes place (PTerm term)
  pub at_terms : (place : ℕ) → IsChild text nodes at 1 place → IsPartAt text nodes place (POther (PTerms terms))
  pub made : whole ≡ (terms ++ term ∷ [])

term_end : (text : List ℕ) (nodes : List Node) (at : ℕ) (whole : List PlacedTerm) (parts rest : Parts) (x0 : PlacedTerm) (x1 : List PlacedTerm) (behind : Parts) → built text (take at nodes) ≡ Some parts → parts ≡ PTerm x0 ∷ POther (PTerms x1) ∷ behind
    → POther (PTerms whole) ∷ rest ≡ POther (PTerms (made_term parts)) ∷ drop 2 parts → TermIs text nodes at whole
term_end text nodes at whole parts rest x0 x1 behind before shape q = record {
  term = x0;
  terms = x1;
  at_term = λ place c. part_at text nodes at 0 place parts (POther (PTerms x1) ∷ behind) (PTerm x0) c before (ap (λ (ps : Parts). drop 0 ps) shape);
  at_terms = λ place c. part_at text nodes at 1 place parts (behind) (POther (PTerms x1)) c before (ap (λ (ps : Parts). drop 1 ps) shape);
  made = same_terms whole (made_term parts) rest (drop 2 parts) q ∙ ap (λ (ps : Parts). made_term ps) shape;
}

pub term_is : (text : List ℕ) (nodes : List Node) (at : ℕ) → act_at nodes at ≡ ACT_TERM → (whole : List PlacedTerm) → IsPartAt text nodes at (POther (PTerms whole)) → TermIs text nodes at whole
term_is text nodes at e whole is =
    let o = opened_act text nodes at ACT_TERM (POther (PTerms whole)) e (omega arith) is in
    let a = accepted text ACT_TERM o.parts (POther (PTerms whole) ∷ o.rest) o.done in
    go o.parts o.rest o.before a.0 a.1
  where
    go : (parts rest : Parts) → built text (take at nodes) ≡ Some parts → has_tops (is_term ∷ is_terms ∷ []) parts ≡ true
        → POther (PTerms whole) ∷ rest ≡ POther (PTerms (made_term parts)) ∷ drop 2 parts → TermIs text nodes at whole
    go parts rest before h q =
        top_term (is_terms ∷ []) parts h (λ x0 r0 e0 h0.
        top_terms ([]) r0 h0 (λ x1 r1 e1 h1.
        term_end text nodes at whole parts rest x0 x1 r1 before (e0 ∙ ap (λ (ps : Parts). PTerm x0 ∷ ps) (e1)) q))

pub record NextTermIs (text : List ℕ) (nodes : List Node) (at : ℕ) (whole : List PlacedTerm) : Type 0 where
  pub term : PlacedTerm
  pub terms : List PlacedTerm
  pub at_term : (place : ℕ) → IsChild text nodes at 0 place → IsPartAt text nodes place (PTerm term)
  pub at_terms : (place : ℕ) → IsChild text nodes at 2 place → IsPartAt text nodes place (POther (PTerms terms))
  pub made : whole ≡ (terms ++ term ∷ [])

next_term_end : (text : List ℕ) (nodes : List Node) (at : ℕ) (whole : List PlacedTerm) (parts rest : Parts) (x0 : PlacedTerm) (x1 : SeenToken) (x2 : List PlacedTerm) (behind : Parts) → built text (take at nodes) ≡ Some parts → parts ≡ PTerm x0 ∷ PToken x1 ∷ POther (PTerms x2) ∷ behind
    → POther (PTerms whole) ∷ rest ≡ POther (PTerms (made_next_term parts)) ∷ drop 3 parts → NextTermIs text nodes at whole
next_term_end text nodes at whole parts rest x0 x1 x2 behind before shape q = record {
  term = x0;
  terms = x2;
  at_term = λ place c. part_at text nodes at 0 place parts (PToken x1 ∷ POther (PTerms x2) ∷ behind) (PTerm x0) c before (ap (λ (ps : Parts). drop 0 ps) shape);
  at_terms = λ place c. part_at text nodes at 2 place parts (behind) (POther (PTerms x2)) c before (ap (λ (ps : Parts). drop 2 ps) shape);
  made = same_terms whole (made_next_term parts) rest (drop 3 parts) q ∙ ap (λ (ps : Parts). made_next_term ps) shape;
}

pub next_term_is : (text : List ℕ) (nodes : List Node) (at : ℕ) → act_at nodes at ≡ ACT_NEXT_TERM → (whole : List PlacedTerm) → IsPartAt text nodes at (POther (PTerms whole)) → NextTermIs text nodes at whole
next_term_is text nodes at e whole is =
    let o = opened_act text nodes at ACT_NEXT_TERM (POther (PTerms whole)) e (omega arith) is in
    let a = accepted text ACT_NEXT_TERM o.parts (POther (PTerms whole) ∷ o.rest) o.done in
    go o.parts o.rest o.before a.0 a.1
  where
    go : (parts rest : Parts) → built text (take at nodes) ≡ Some parts → has_tops (is_term ∷ is_token ∷ is_terms ∷ []) parts ≡ true
        → POther (PTerms whole) ∷ rest ≡ POther (PTerms (made_next_term parts)) ∷ drop 3 parts → NextTermIs text nodes at whole
    go parts rest before h q =
        top_term (is_token ∷ is_terms ∷ []) parts h (λ x0 r0 e0 h0.
        top_token (is_terms ∷ []) r0 h0 (λ x1 r1 e1 h1.
        top_terms ([]) r1 h1 (λ x2 r2 e2 h2.
        next_term_end text nodes at whole parts rest x0 x1 x2 r2 before (e0 ∙ ap (λ (ps : Parts). PTerm x0 ∷ ps) (e1 ∙ ap (λ (ps : Parts). PToken x1 ∷ ps) (e2))) q)))

pub record InTermsIs (text : List ℕ) (nodes : List Node) (at : ℕ) (whole : List PlacedTerm) : Type 0 where
  pub terms : List PlacedTerm
  pub at_terms : (place : ℕ) → IsChild text nodes at 1 place → IsPartAt text nodes place (POther (PTerms terms))
  pub made : whole ≡ terms

in_terms_end : (text : List ℕ) (nodes : List Node) (at : ℕ) (whole : List PlacedTerm) (parts rest : Parts) (x0 : SeenToken) (x1 : List PlacedTerm) (x2 : SeenToken) (behind : Parts) → built text (take at nodes) ≡ Some parts → parts ≡ PToken x0 ∷ POther (PTerms x1) ∷ PToken x2 ∷ behind
    → POther (PTerms whole) ∷ rest ≡ POther (PTerms (made_in_terms parts)) ∷ drop 3 parts → InTermsIs text nodes at whole
in_terms_end text nodes at whole parts rest x0 x1 x2 behind before shape q = record {
  terms = x1;
  at_terms = λ place c. part_at text nodes at 1 place parts (PToken x2 ∷ behind) (POther (PTerms x1)) c before (ap (λ (ps : Parts). drop 1 ps) shape);
  made = same_terms whole (made_in_terms parts) rest (drop 3 parts) q ∙ ap (λ (ps : Parts). made_in_terms ps) shape;
}

pub in_terms_is : (text : List ℕ) (nodes : List Node) (at : ℕ) → act_at nodes at ≡ ACT_IN_TERMS → (whole : List PlacedTerm) → IsPartAt text nodes at (POther (PTerms whole)) → InTermsIs text nodes at whole
in_terms_is text nodes at e whole is =
    let o = opened_act text nodes at ACT_IN_TERMS (POther (PTerms whole)) e (omega arith) is in
    let a = accepted text ACT_IN_TERMS o.parts (POther (PTerms whole) ∷ o.rest) o.done in
    go o.parts o.rest o.before a.0 a.1
  where
    go : (parts rest : Parts) → built text (take at nodes) ≡ Some parts → has_tops (is_token ∷ is_terms ∷ is_token ∷ []) parts ≡ true
        → POther (PTerms whole) ∷ rest ≡ POther (PTerms (made_in_terms parts)) ∷ drop 3 parts → InTermsIs text nodes at whole
    go parts rest before h q =
        top_token (is_terms ∷ is_token ∷ []) parts h (λ x0 r0 e0 h0.
        top_terms (is_token ∷ []) r0 h0 (λ x1 r1 e1 h1.
        top_token ([]) r1 h1 (λ x2 r2 e2 h2.
        in_terms_end text nodes at whole parts rest x0 x1 x2 r2 before (e0 ∙ ap (λ (ps : Parts). PToken x0 ∷ ps) (e1 ∙ ap (λ (ps : Parts). POther (PTerms x1) ∷ ps) (e2))) q)))

pub record WordTermsIs (text : List ℕ) (nodes : List Node) (at : ℕ) (whole : List PlacedTerm) : Type 0 where
  pub terms : List PlacedTerm
  pub at_terms : (place : ℕ) → IsChild text nodes at 0 place → IsPartAt text nodes place (POther (PTerms terms))
  pub made : whole ≡ terms

word_terms_end : (text : List ℕ) (nodes : List Node) (at : ℕ) (whole : List PlacedTerm) (parts rest : Parts) (x0 : List PlacedTerm) (x1 : SeenToken) (behind : Parts) → built text (take at nodes) ≡ Some parts → parts ≡ POther (PTerms x0) ∷ PToken x1 ∷ behind
    → POther (PTerms whole) ∷ rest ≡ POther (PTerms (made_word_terms parts)) ∷ drop 2 parts → WordTermsIs text nodes at whole
word_terms_end text nodes at whole parts rest x0 x1 behind before shape q = record {
  terms = x0;
  at_terms = λ place c. part_at text nodes at 0 place parts (PToken x1 ∷ behind) (POther (PTerms x0)) c before (ap (λ (ps : Parts). drop 0 ps) shape);
  made = same_terms whole (made_word_terms parts) rest (drop 2 parts) q ∙ ap (λ (ps : Parts). made_word_terms ps) shape;
}

pub word_terms_is : (text : List ℕ) (nodes : List Node) (at : ℕ) → act_at nodes at ≡ ACT_WORD_TERMS → (whole : List PlacedTerm) → IsPartAt text nodes at (POther (PTerms whole)) → WordTermsIs text nodes at whole
word_terms_is text nodes at e whole is =
    let o = opened_act text nodes at ACT_WORD_TERMS (POther (PTerms whole)) e (omega arith) is in
    let a = accepted text ACT_WORD_TERMS o.parts (POther (PTerms whole) ∷ o.rest) o.done in
    go o.parts o.rest o.before a.0 a.1
  where
    go : (parts rest : Parts) → built text (take at nodes) ≡ Some parts → has_tops (is_terms ∷ is_token ∷ []) parts ≡ true
        → POther (PTerms whole) ∷ rest ≡ POther (PTerms (made_word_terms parts)) ∷ drop 2 parts → WordTermsIs text nodes at whole
    go parts rest before h q =
        top_terms (is_token ∷ []) parts h (λ x0 r0 e0 h0.
        top_token ([]) r0 h0 (λ x1 r1 e1 h1.
        word_terms_end text nodes at whole parts rest x0 x1 r1 before (e0 ∙ ap (λ (ps : Parts). POther (PTerms x0) ∷ ps) (e1)) q))
