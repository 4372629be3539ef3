-- What acts name themselves, by the parts of their nodes.
use Rattle.std.proofs.Common.{◌≡◌, ℕ, Bool, true, false, List, [], ◌∷◌, length, Option, Some, None, refl, ap, sym, ◌∙◌, arith}
use Rattle.std.specs.Prelude.{drop, take, slice_get, ◌==◌, if◌then◌else◌}
use Rattle.std.proofs.lemmas.Bool.{false≢true}
use Rattle.gv_grammar.specs.Building.{has_tops}
use Rattle.gv_termread.specs.declared.generated.term_acts.Part.TheVariants.{Token as PToken, Term as PTerm, Other as POther}
use Rattle.gv_termread.specs.declared.placed.PlacedTerm.{PlacedTerm}
use Rattle.gv_termread.specs.declared.token.SeenToken.{SeenToken}
use Rattle.gv_termread.specs.TermActs.{is_token, is_term}
use Rattle.gv_scriptsyntax.specs.declared.generated.script_acts.ScriptPart.TheVariants.{Atom as PAtom, Terms as PTerms}
use Rattle.gv_scriptsyntax.specs.declared.generated.script_table.TheConstants.{ACT_BOOK_ATOM, ACT_CELL_ATOM, ACT_EACH_ATOM, ACT_FIELD_ATOM, ACT_INST, ACT_SET_BOOK, ACT_TO, ACT_TOKEN_ATOM}
use Rattle.gv_scriptsyntax.specs.declared.tree.Atom.{Atom}
use Rattle.gv_scriptsyntax.specs.declared.node.Node.{Node}
use Rattle.gv_scriptsyntax.specs.declared.node.Node.TheVariants.{Token, Made}
use Rattle.gv_scriptsyntax.specs.ScriptActs.{is_atom, is_terms}
use Rattle.gv_scriptsyntax.specs.Nodes.{Parts, built, IsFormed, IsPartAt}
use Rattle.gv_scriptnames.specs.declared.mention.Mention.TheVariants as mention
use Rattle.gv_scriptnodes.specs.Places.{IsChild, IsTokenOf, act_at, act_in}
use Rattle.gv_scriptnodes.specs.Gathered.{named_by, by_node, named_at}
use Rattle.gv_scriptnodes.proofs.Opened.{made_at, opened_act, part_at}
use Rattle.gv_scriptnodes.proofs.Named.{named_of}
use Rattle.gv_scriptnodes.proofs.Tops.{accepted, top_atom, top_term, top_terms, top_token}

pub record PredNamed (text : List ℕ) (nodes : List Node) (at : ℕ) : Type 0 where
  pub name : SeenToken
  pub terms : List PlacedTerm
  pub at_name : (t : SeenToken) → IsTokenOf text nodes at 1 t → t ≡ name
  pub at_terms : (place : ℕ) → IsChild text nodes at 0 place → IsPartAt text nodes place (POther (PTerms terms))
  pub same : named_at text nodes at ≡ mention.Pred name (length terms) ∷ []

pred_end : (text : List ℕ) (nodes : List Node) (at : ℕ) (parts : Parts) (x0 : List PlacedTerm) (x1 : SeenToken) (behind : Parts) → built text (take at nodes) ≡ Some parts → parts ≡ POther (PTerms x0) ∷ PToken x1 ∷ behind → named_at text nodes at ≡ named_by ACT_INST parts
    → PredNamed text nodes at
pred_end text nodes at parts x0 x1 behind before shape named = record {
  name = x1;
  terms = x0;
  at_name = λ t c. c.same parts (behind) x1 before (ap (λ (ps : Parts). drop 1 ps) shape);
  at_terms = λ place c. part_at text nodes at 0 place parts (PToken x1 ∷ behind) (POther (PTerms x0)) c before (ap (λ (ps : Parts). drop 0 ps) shape);
  same = named ∙ ap (λ (ps : Parts). named_by ACT_INST ps) shape;
}

pub pred_named : (text : List ℕ) (nodes : List Node) (at : ℕ) → IsFormed text nodes → act_at nodes at ≡ ACT_INST → PredNamed text nodes at
pred_named text nodes at formed e =
    let m = made_at nodes at ACT_INST e (omega arith) in
    let one = formed at (Made ACT_INST m.from) m.node in
    let o = opened_act text nodes at ACT_INST one.part e (omega arith) (record { before = one.before; made = one.made }) in
    let a = accepted text ACT_INST o.parts (one.part ∷ o.rest) o.done in
    go o.parts o.before a.0 (named_of text nodes at (Made ACT_INST m.from) o.parts m.node o.before)
  where
    go : (parts : Parts) → built text (take at nodes) ≡ Some parts → has_tops (is_terms ∷ is_token ∷ []) parts ≡ true → named_at text nodes at ≡ named_by ACT_INST parts → PredNamed text nodes at
    go parts before h named =
        top_terms (is_token ∷ []) parts h (λ x0 r0 e0 h0.
        top_token ([]) r0 h0 (λ x1 r1 e1 h1.
        pred_end text nodes at parts x0 x1 r1 before (e0 ∙ ap (λ (ps : Parts). POther (PTerms x0) ∷ ps) (e1)) named))

pub record CellNamed (text : List ℕ) (nodes : List Node) (at : ℕ) : Type 0 where
  pub name : SeenToken
  pub at_name : (t : SeenToken) → IsTokenOf text nodes at 3 t → t ≡ name
  pub same : named_at text nodes at ≡ mention.Cell name ∷ []

cell_end : (text : List ℕ) (nodes : List Node) (at : ℕ) (parts : Parts) (x0 : SeenToken) (x1 : PlacedTerm) (x2 : SeenToken) (x3 : SeenToken) (x4 : SeenToken) (x5 : PlacedTerm) (x6 : SeenToken) (x7 : SeenToken) (behind : Parts) → built text (take at nodes) ≡ Some parts → parts ≡ PToken x0 ∷ PTerm x1 ∷ PToken x2 ∷ PToken x3 ∷ PToken x4 ∷ PTerm x5 ∷ PToken x6 ∷ PToken x7 ∷ behind → named_at text nodes at ≡ named_by ACT_CELL_ATOM parts
    → CellNamed text nodes at
cell_end text nodes at parts x0 x1 x2 x3 x4 x5 x6 x7 behind before shape named = record {
  name = x3;
  at_name = λ t c. c.same parts (PToken x4 ∷ PTerm x5 ∷ PToken x6 ∷ PToken x7 ∷ behind) x3 before (ap (λ (ps : Parts). drop 3 ps) shape);
  same = named ∙ ap (λ (ps : Parts). named_by ACT_CELL_ATOM ps) shape;
}

pub cell_named : (text : List ℕ) (nodes : List Node) (at : ℕ) → IsFormed text nodes → act_at nodes at ≡ ACT_CELL_ATOM → CellNamed text nodes at
cell_named text nodes at formed e =
    let m = made_at nodes at ACT_CELL_ATOM e (omega arith) in
    let one = formed at (Made ACT_CELL_ATOM m.from) m.node in
    let o = opened_act text nodes at ACT_CELL_ATOM one.part e (omega arith) (record { before = one.before; made = one.made }) in
    let a = accepted text ACT_CELL_ATOM o.parts (one.part ∷ o.rest) o.done in
    go o.parts o.before a.0 (named_of text nodes at (Made ACT_CELL_ATOM m.from) o.parts m.node o.before)
  where
    go : (parts : Parts) → built text (take at nodes) ≡ Some parts → has_tops (is_token ∷ is_term ∷ is_token ∷ is_token ∷ is_token ∷ is_term ∷ is_token ∷ is_token ∷ []) parts ≡ true → named_at text nodes at ≡ named_by ACT_CELL_ATOM parts → CellNamed text nodes at
    go parts before h named =
        top_token (is_term ∷ is_token ∷ is_token ∷ is_token ∷ is_term ∷ is_token ∷ is_token ∷ []) parts h (λ x0 r0 e0 h0.
        top_term (is_token ∷ is_token ∷ is_token ∷ is_term ∷ is_token ∷ is_token ∷ []) r0 h0 (λ x1 r1 e1 h1.
        top_token (is_token ∷ is_token ∷ is_term ∷ is_token ∷ is_token ∷ []) r1 h1 (λ x2 r2 e2 h2.
        top_token (is_token ∷ is_term ∷ is_token ∷ is_token ∷ []) r2 h2 (λ x3 r3 e3 h3.
        top_token (is_term ∷ is_token ∷ is_token ∷ []) r3 h3 (λ x4 r4 e4 h4.
        top_term (is_token ∷ is_token ∷ []) r4 h4 (λ x5 r5 e5 h5.
        top_token (is_token ∷ []) r5 h5 (λ x6 r6 e6 h6.
        top_token ([]) r6 h6 (λ x7 r7 e7 h7.
        cell_end text nodes at parts x0 x1 x2 x3 x4 x5 x6 x7 r7 before (e0 ∙ ap (λ (ps : Parts). PToken x0 ∷ ps) (e1 ∙ ap (λ (ps : Parts). PTerm x1 ∷ ps) (e2 ∙ ap (λ (ps : Parts). PToken x2 ∷ ps) (e3 ∙ ap (λ (ps : Parts). PToken x3 ∷ ps) (e4 ∙ ap (λ (ps : Parts). PToken x4 ∷ ps) (e5 ∙ ap (λ (ps : Parts). PTerm x5 ∷ ps) (e6 ∙ ap (λ (ps : Parts). PToken x6 ∷ ps) (e7)))))))) named))))))))

pub record FieldNamed (text : List ℕ) (nodes : List Node) (at : ℕ) : Type 0 where
  pub name : SeenToken
  pub at_name : (t : SeenToken) → IsTokenOf text nodes at 3 t → t ≡ name
  pub same : named_at text nodes at ≡ mention.Field name ∷ []

field_end : (text : List ℕ) (nodes : List Node) (at : ℕ) (parts : Parts) (x0 : SeenToken) (x1 : PlacedTerm) (x2 : SeenToken) (x3 : SeenToken) (x4 : SeenToken) (x5 : SeenToken) (behind : Parts) → built text (take at nodes) ≡ Some parts → parts ≡ PToken x0 ∷ PTerm x1 ∷ PToken x2 ∷ PToken x3 ∷ PToken x4 ∷ PToken x5 ∷ behind → named_at text nodes at ≡ named_by ACT_FIELD_ATOM parts
    → FieldNamed text nodes at
field_end text nodes at parts x0 x1 x2 x3 x4 x5 behind before shape named = record {
  name = x3;
  at_name = λ t c. c.same parts (PToken x4 ∷ PToken x5 ∷ behind) x3 before (ap (λ (ps : Parts). drop 3 ps) shape);
  same = named ∙ ap (λ (ps : Parts). named_by ACT_FIELD_ATOM ps) shape;
}

pub field_named : (text : List ℕ) (nodes : List Node) (at : ℕ) → IsFormed text nodes → act_at nodes at ≡ ACT_FIELD_ATOM → FieldNamed text nodes at
field_named text nodes at formed e =
    let m = made_at nodes at ACT_FIELD_ATOM e (omega arith) in
    let one = formed at (Made ACT_FIELD_ATOM m.from) m.node in
    let o = opened_act text nodes at ACT_FIELD_ATOM one.part e (omega arith) (record { before = one.before; made = one.made }) in
    let a = accepted text ACT_FIELD_ATOM o.parts (one.part ∷ o.rest) o.done in
    go o.parts o.before a.0 (named_of text nodes at (Made ACT_FIELD_ATOM m.from) o.parts m.node o.before)
  where
    go : (parts : Parts) → built text (take at nodes) ≡ Some parts → has_tops (is_token ∷ is_term ∷ is_token ∷ is_token ∷ is_token ∷ is_token ∷ []) parts ≡ true → named_at text nodes at ≡ named_by ACT_FIELD_ATOM parts → FieldNamed text nodes at
    go parts before h named =
        top_token (is_term ∷ is_token ∷ is_token ∷ is_token ∷ is_token ∷ []) parts h (λ x0 r0 e0 h0.
        top_term (is_token ∷ is_token ∷ is_token ∷ is_token ∷ []) r0 h0 (λ x1 r1 e1 h1.
        top_token (is_token ∷ is_token ∷ is_token ∷ []) r1 h1 (λ x2 r2 e2 h2.
        top_token (is_token ∷ is_token ∷ []) r2 h2 (λ x3 r3 e3 h3.
        top_token (is_token ∷ []) r3 h3 (λ x4 r4 e4 h4.
        top_token ([]) r4 h4 (λ x5 r5 e5 h5.
        field_end text nodes at parts x0 x1 x2 x3 x4 x5 r5 before (e0 ∙ ap (λ (ps : Parts). PToken x0 ∷ ps) (e1 ∙ ap (λ (ps : Parts). PTerm x1 ∷ ps) (e2 ∙ ap (λ (ps : Parts). PToken x2 ∷ ps) (e3 ∙ ap (λ (ps : Parts). PToken x3 ∷ ps) (e4 ∙ ap (λ (ps : Parts). PToken x4 ∷ ps) (e5)))))) named))))))

pub record BookNamed (text : List ℕ) (nodes : List Node) (at : ℕ) : Type 0 where
  pub name : SeenToken
  pub at_name : (t : SeenToken) → IsTokenOf text nodes at 5 t → t ≡ name
  pub same : named_at text nodes at ≡ mention.Book name ∷ []

book_end : (text : List ℕ) (nodes : List Node) (at : ℕ) (parts : Parts) (x0 : SeenToken) (x1 : PlacedTerm) (x2 : SeenToken) (x3 : PlacedTerm) (x4 : SeenToken) (x5 : SeenToken) (x6 : SeenToken) (x7 : SeenToken) (behind : Parts) → built text (take at nodes) ≡ Some parts → parts ≡ PToken x0 ∷ PTerm x1 ∷ PToken x2 ∷ PTerm x3 ∷ PToken x4 ∷ PToken x5 ∷ PToken x6 ∷ PToken x7 ∷ behind → named_at text nodes at ≡ named_by ACT_BOOK_ATOM parts
    → BookNamed text nodes at
book_end text nodes at parts x0 x1 x2 x3 x4 x5 x6 x7 behind before shape named = record {
  name = x5;
  at_name = λ t c. c.same parts (PToken x6 ∷ PToken x7 ∷ behind) x5 before (ap (λ (ps : Parts). drop 5 ps) shape);
  same = named ∙ ap (λ (ps : Parts). named_by ACT_BOOK_ATOM ps) shape;
}

pub book_named : (text : List ℕ) (nodes : List Node) (at : ℕ) → IsFormed text nodes → act_at nodes at ≡ ACT_BOOK_ATOM → BookNamed text nodes at
book_named text nodes at formed e =
    let m = made_at nodes at ACT_BOOK_ATOM e (omega arith) in
    let one = formed at (Made ACT_BOOK_ATOM m.from) m.node in
    let o = opened_act text nodes at ACT_BOOK_ATOM one.part e (omega arith) (record { before = one.before; made = one.made }) in
    let a = accepted text ACT_BOOK_ATOM o.parts (one.part ∷ o.rest) o.done in
    go o.parts o.before a.0 (named_of text nodes at (Made ACT_BOOK_ATOM m.from) o.parts m.node o.before)
  where
    go : (parts : Parts) → built text (take at nodes) ≡ Some parts → has_tops (is_token ∷ is_term ∷ is_token ∷ is_term ∷ is_token ∷ is_token ∷ is_token ∷ is_token ∷ []) parts ≡ true → named_at text nodes at ≡ named_by ACT_BOOK_ATOM parts → BookNamed text nodes at
    go parts before h named =
        top_token (is_term ∷ is_token ∷ is_term ∷ is_token ∷ is_token ∷ is_token ∷ is_token ∷ []) parts h (λ x0 r0 e0 h0.
        top_term (is_token ∷ is_term ∷ is_token ∷ is_token ∷ is_token ∷ is_token ∷ []) r0 h0 (λ x1 r1 e1 h1.
        top_token (is_term ∷ is_token ∷ is_token ∷ is_token ∷ is_token ∷ []) r1 h1 (λ x2 r2 e2 h2.
        top_term (is_token ∷ is_token ∷ is_token ∷ is_token ∷ []) r2 h2 (λ x3 r3 e3 h3.
        top_token (is_token ∷ is_token ∷ is_token ∷ []) r3 h3 (λ x4 r4 e4 h4.
        top_token (is_token ∷ is_token ∷ []) r4 h4 (λ x5 r5 e5 h5.
        top_token (is_token ∷ []) r5 h5 (λ x6 r6 e6 h6.
        top_token ([]) r6 h6 (λ x7 r7 e7 h7.
        book_end text nodes at parts x0 x1 x2 x3 x4 x5 x6 x7 r7 before (e0 ∙ ap (λ (ps : Parts). PToken x0 ∷ ps) (e1 ∙ ap (λ (ps : Parts). PTerm x1 ∷ ps) (e2 ∙ ap (λ (ps : Parts). PToken x2 ∷ ps) (e3 ∙ ap (λ (ps : Parts). PTerm x3 ∷ ps) (e4 ∙ ap (λ (ps : Parts). PToken x4 ∷ ps) (e5 ∙ ap (λ (ps : Parts). PToken x5 ∷ ps) (e6 ∙ ap (λ (ps : Parts). PToken x6 ∷ ps) (e7)))))))) named))))))))

pub record OpNamed (text : List ℕ) (nodes : List Node) (at : ℕ) : Type 0 where
  pub word : SeenToken
  pub name : SeenToken
  pub terms : List PlacedTerm
  pub at_word : (t : SeenToken) → IsTokenOf text nodes at 6 t → t ≡ word
  pub at_name : (t : SeenToken) → IsTokenOf text nodes at 2 t → t ≡ name
  pub at_terms : (place : ℕ) → IsChild text nodes at 1 place → IsPartAt text nodes place (POther (PTerms terms))
  pub same : named_at text nodes at ≡ mention.Op word name (length terms) ∷ []

op_end : (text : List ℕ) (nodes : List Node) (at : ℕ) (parts : Parts) (x0 : SeenToken) (x1 : List PlacedTerm) (x2 : SeenToken) (x3 : SeenToken) (x4 : PlacedTerm) (x5 : SeenToken) (x6 : SeenToken) (behind : Parts) → built text (take at nodes) ≡ Some parts → parts ≡ PToken x0 ∷ POther (PTerms x1) ∷ PToken x2 ∷ PToken x3 ∷ PTerm x4 ∷ PToken x5 ∷ PToken x6 ∷ behind → named_at text nodes at ≡ named_by ACT_TOKEN_ATOM parts
    → OpNamed text nodes at
op_end text nodes at parts x0 x1 x2 x3 x4 x5 x6 behind before shape named = record {
  word = x6;
  name = x2;
  terms = x1;
  at_word = λ t c. c.same parts (behind) x6 before (ap (λ (ps : Parts). drop 6 ps) shape);
  at_name = λ t c. c.same parts (PToken x3 ∷ PTerm x4 ∷ PToken x5 ∷ PToken x6 ∷ behind) x2 before (ap (λ (ps : Parts). drop 2 ps) shape);
  at_terms = λ place c. part_at text nodes at 1 place parts (PToken x2 ∷ PToken x3 ∷ PTerm x4 ∷ PToken x5 ∷ PToken x6 ∷ behind) (POther (PTerms x1)) c before (ap (λ (ps : Parts). drop 1 ps) shape);
  same = named ∙ ap (λ (ps : Parts). named_by ACT_TOKEN_ATOM ps) shape;
}

pub op_named : (text : List ℕ) (nodes : List Node) (at : ℕ) → IsFormed text nodes → act_at nodes at ≡ ACT_TOKEN_ATOM → OpNamed text nodes at
op_named text nodes at formed e =
    let m = made_at nodes at ACT_TOKEN_ATOM e (omega arith) in
    let one = formed at (Made ACT_TOKEN_ATOM m.from) m.node in
    let o = opened_act text nodes at ACT_TOKEN_ATOM one.part e (omega arith) (record { before = one.before; made = one.made }) in
    let a = accepted text ACT_TOKEN_ATOM o.parts (one.part ∷ o.rest) o.done in
    go o.parts o.before a.0 (named_of text nodes at (Made ACT_TOKEN_ATOM m.from) o.parts m.node o.before)
  where
    go : (parts : Parts) → built text (take at nodes) ≡ Some parts → has_tops (is_token ∷ is_terms ∷ is_token ∷ is_token ∷ is_term ∷ is_token ∷ is_token ∷ []) parts ≡ true → named_at text nodes at ≡ named_by ACT_TOKEN_ATOM parts → OpNamed text nodes at
    go parts before h named =
        top_token (is_terms ∷ is_token ∷ is_token ∷ is_term ∷ is_token ∷ is_token ∷ []) parts h (λ x0 r0 e0 h0.
        top_terms (is_token ∷ is_token ∷ is_term ∷ is_token ∷ is_token ∷ []) r0 h0 (λ x1 r1 e1 h1.
        top_token (is_token ∷ is_term ∷ is_token ∷ is_token ∷ []) r1 h1 (λ x2 r2 e2 h2.
        top_token (is_term ∷ is_token ∷ is_token ∷ []) r2 h2 (λ x3 r3 e3 h3.
        top_term (is_token ∷ is_token ∷ []) r3 h3 (λ x4 r4 e4 h4.
        top_token (is_token ∷ []) r4 h4 (λ x5 r5 e5 h5.
        top_token ([]) r5 h5 (λ x6 r6 e6 h6.
        op_end text nodes at parts x0 x1 x2 x3 x4 x5 x6 r6 before (e0 ∙ ap (λ (ps : Parts). PToken x0 ∷ ps) (e1 ∙ ap (λ (ps : Parts). POther (PTerms x1) ∷ ps) (e2 ∙ ap (λ (ps : Parts). PToken x2 ∷ ps) (e3 ∙ ap (λ (ps : Parts). PToken x3 ∷ ps) (e4 ∙ ap (λ (ps : Parts). PTerm x4 ∷ ps) (e5 ∙ ap (λ (ps : Parts). PToken x5 ∷ ps) (e6))))))) named)))))))

pub record BoundNamed (text : List ℕ) (nodes : List Node) (at : ℕ) : Type 0 where
  pub name : SeenToken
  pub at_name : (t : SeenToken) → IsTokenOf text nodes at 8 t → t ≡ name
  pub same : named_at text nodes at ≡ mention.Bound name ∷ []

bound_end : (text : List ℕ) (nodes : List Node) (at : ℕ) (parts : Parts) (x0 : SeenToken) (x1 : Atom) (x2 : SeenToken) (x3 : List PlacedTerm) (x4 : PlacedTerm) (x5 : SeenToken) (x6 : PlacedTerm) (x7 : SeenToken) (x8 : SeenToken) (x9 : SeenToken) (x10 : SeenToken) (behind : Parts) → built text (take at nodes) ≡ Some parts → parts ≡ PToken x0 ∷ POther (PAtom x1) ∷ PToken x2 ∷ POther (PTerms x3) ∷ PTerm x4 ∷ PToken x5 ∷ PTerm x6 ∷ PToken x7 ∷ PToken x8 ∷ PToken x9 ∷ PToken x10 ∷ behind → named_at text nodes at ≡ named_by ACT_EACH_ATOM parts
    → BoundNamed text nodes at
bound_end text nodes at parts x0 x1 x2 x3 x4 x5 x6 x7 x8 x9 x10 behind before shape named = record {
  name = x8;
  at_name = λ t c. c.same parts (PToken x9 ∷ PToken x10 ∷ behind) x8 before (ap (λ (ps : Parts). drop 8 ps) shape);
  same = named ∙ ap (λ (ps : Parts). named_by ACT_EACH_ATOM ps) shape;
}

pub bound_named : (text : List ℕ) (nodes : List Node) (at : ℕ) → IsFormed text nodes → act_at nodes at ≡ ACT_EACH_ATOM → BoundNamed text nodes at
bound_named text nodes at formed e =
    let m = made_at nodes at ACT_EACH_ATOM e (omega arith) in
    let one = formed at (Made ACT_EACH_ATOM m.from) m.node in
    let o = opened_act text nodes at ACT_EACH_ATOM one.part e (omega arith) (record { before = one.before; made = one.made }) in
    let a = accepted text ACT_EACH_ATOM o.parts (one.part ∷ o.rest) o.done in
    go o.parts o.before a.0 (named_of text nodes at (Made ACT_EACH_ATOM m.from) o.parts m.node o.before)
  where
    go : (parts : Parts) → built text (take at nodes) ≡ Some parts → has_tops (is_token ∷ is_atom ∷ is_token ∷ is_terms ∷ is_term ∷ is_token ∷ is_term ∷ is_token ∷ is_token ∷ is_token ∷ is_token ∷ []) parts ≡ true → named_at text nodes at ≡ named_by ACT_EACH_ATOM parts → BoundNamed text nodes at
    go parts before h named =
        top_token (is_atom ∷ is_token ∷ is_terms ∷ is_term ∷ is_token ∷ is_term ∷ is_token ∷ is_token ∷ is_token ∷ is_token ∷ []) parts h (λ x0 r0 e0 h0.
        top_atom (is_token ∷ is_terms ∷ is_term ∷ is_token ∷ is_term ∷ is_token ∷ is_token ∷ is_token ∷ is_token ∷ []) r0 h0 (λ x1 r1 e1 h1.
        top_token (is_terms ∷ is_term ∷ is_token ∷ is_term ∷ is_token ∷ is_token ∷ is_token ∷ is_token ∷ []) r1 h1 (λ x2 r2 e2 h2.
        top_terms (is_term ∷ is_token ∷ is_term ∷ is_token ∷ is_token ∷ is_token ∷ is_token ∷ []) r2 h2 (λ x3 r3 e3 h3.
        top_term (is_token ∷ is_term ∷ is_token ∷ is_token ∷ is_token ∷ is_token ∷ []) r3 h3 (λ x4 r4 e4 h4.
        top_token (is_term ∷ is_token ∷ is_token ∷ is_token ∷ is_token ∷ []) r4 h4 (λ x5 r5 e5 h5.
        top_term (is_token ∷ is_token ∷ is_token ∷ is_token ∷ []) r5 h5 (λ x6 r6 e6 h6.
        top_token (is_token ∷ is_token ∷ is_token ∷ []) r6 h6 (λ x7 r7 e7 h7.
        top_token (is_token ∷ is_token ∷ []) r7 h7 (λ x8 r8 e8 h8.
        top_token (is_token ∷ []) r8 h8 (λ x9 r9 e9 h9.
        top_token ([]) r9 h9 (λ x10 r10 e10 h10.
        bound_end text nodes at parts x0 x1 x2 x3 x4 x5 x6 x7 x8 x9 x10 r10 before (e0 ∙ ap (λ (ps : Parts). PToken x0 ∷ ps) (e1 ∙ ap (λ (ps : Parts). POther (PAtom x1) ∷ ps) (e2 ∙ ap (λ (ps : Parts). PToken x2 ∷ ps) (e3 ∙ ap (λ (ps : Parts). POther (PTerms x3) ∷ ps) (e4 ∙ ap (λ (ps : Parts). PTerm x4 ∷ ps) (e5 ∙ ap (λ (ps : Parts). PToken x5 ∷ ps) (e6 ∙ ap (λ (ps : Parts). PTerm x6 ∷ ps) (e7 ∙ ap (λ (ps : Parts). PToken x7 ∷ ps) (e8 ∙ ap (λ (ps : Parts). PToken x8 ∷ ps) (e9 ∙ ap (λ (ps : Parts). PToken x9 ∷ ps) (e10))))))))))) named)))))))))))

pub record SetNamed (text : List ℕ) (nodes : List Node) (at : ℕ) : Type 0 where
  pub name : SeenToken
  pub at_name : (t : SeenToken) → IsTokenOf text nodes at 3 t → t ≡ name
  pub same : named_at text nodes at ≡ mention.Book name ∷ []

set_end : (text : List ℕ) (nodes : List Node) (at : ℕ) (parts : Parts) (x0 : PlacedTerm) (x1 : SeenToken) (x2 : PlacedTerm) (x3 : SeenToken) (x4 : SeenToken) (behind : Parts) → built text (take at nodes) ≡ Some parts → parts ≡ PTerm x0 ∷ PToken x1 ∷ PTerm x2 ∷ PToken x3 ∷ PToken x4 ∷ behind → named_at text nodes at ≡ named_by ACT_SET_BOOK parts
    → SetNamed text nodes at
set_end text nodes at parts x0 x1 x2 x3 x4 behind before shape named = record {
  name = x3;
  at_name = λ t c. c.same parts (PToken x4 ∷ behind) x3 before (ap (λ (ps : Parts). drop 3 ps) shape);
  same = named ∙ ap (λ (ps : Parts). named_by ACT_SET_BOOK ps) shape;
}

pub set_named : (text : List ℕ) (nodes : List Node) (at : ℕ) → IsFormed text nodes → act_at nodes at ≡ ACT_SET_BOOK → SetNamed text nodes at
set_named text nodes at formed e =
    let m = made_at nodes at ACT_SET_BOOK e (omega arith) in
    let one = formed at (Made ACT_SET_BOOK m.from) m.node in
    let o = opened_act text nodes at ACT_SET_BOOK one.part e (omega arith) (record { before = one.before; made = one.made }) in
    let a = accepted text ACT_SET_BOOK o.parts (one.part ∷ o.rest) o.done in
    go o.parts o.before a.0 (named_of text nodes at (Made ACT_SET_BOOK m.from) o.parts m.node o.before)
  where
    go : (parts : Parts) → built text (take at nodes) ≡ Some parts → has_tops (is_term ∷ is_token ∷ is_term ∷ is_token ∷ is_token ∷ []) parts ≡ true → named_at text nodes at ≡ named_by ACT_SET_BOOK parts → SetNamed text nodes at
    go parts before h named =
        top_term (is_token ∷ is_term ∷ is_token ∷ is_token ∷ []) parts h (λ x0 r0 e0 h0.
        top_token (is_term ∷ is_token ∷ is_token ∷ []) r0 h0 (λ x1 r1 e1 h1.
        top_term (is_token ∷ is_token ∷ []) r1 h1 (λ x2 r2 e2 h2.
        top_token (is_token ∷ []) r2 h2 (λ x3 r3 e3 h3.
        top_token ([]) r3 h3 (λ x4 r4 e4 h4.
        set_end text nodes at parts x0 x1 x2 x3 x4 r4 before (e0 ∙ ap (λ (ps : Parts). PTerm x0 ∷ ps) (e1 ∙ ap (λ (ps : Parts). PToken x1 ∷ ps) (e2 ∙ ap (λ (ps : Parts). PTerm x2 ∷ ps) (e3 ∙ ap (λ (ps : Parts). PToken x3 ∷ ps) (e4))))) named)))))

pub record CutNamed (text : List ℕ) (nodes : List Node) (at : ℕ) : Type 0 where
  pub cut : SeenToken
  pub at_cut : (t : SeenToken) → IsTokenOf text nodes at 1 t → t ≡ cut
  pub same : named_at text nodes at ≡ mention.Cut cut ∷ []

cut_end : (text : List ℕ) (nodes : List Node) (at : ℕ) (parts : Parts) (x0 : List PlacedTerm) (x1 : SeenToken) (x2 : SeenToken) (behind : Parts) → built text (take at nodes) ≡ Some parts → parts ≡ POther (PTerms x0) ∷ PToken x1 ∷ PToken x2 ∷ behind → named_at text nodes at ≡ named_by ACT_TO parts
    → CutNamed text nodes at
cut_end text nodes at parts x0 x1 x2 behind before shape named = record {
  cut = x1;
  at_cut = λ t c. c.same parts (PToken x2 ∷ behind) x1 before (ap (λ (ps : Parts). drop 1 ps) shape);
  same = named ∙ ap (λ (ps : Parts). named_by ACT_TO ps) shape;
}

pub cut_named : (text : List ℕ) (nodes : List Node) (at : ℕ) → IsFormed text nodes → act_at nodes at ≡ ACT_TO → CutNamed text nodes at
cut_named text nodes at formed e =
    let m = made_at nodes at ACT_TO e (omega arith) in
    let one = formed at (Made ACT_TO m.from) m.node in
    let o = opened_act text nodes at ACT_TO one.part e (omega arith) (record { before = one.before; made = one.made }) in
    let a = accepted text ACT_TO o.parts (one.part ∷ o.rest) o.done in
    go o.parts o.before a.0 (named_of text nodes at (Made ACT_TO m.from) o.parts m.node o.before)
  where
    go : (parts : Parts) → built text (take at nodes) ≡ Some parts → has_tops (is_terms ∷ is_token ∷ is_token ∷ []) parts ≡ true → named_at text nodes at ≡ named_by ACT_TO parts → CutNamed text nodes at
    go parts before h named =
        top_terms (is_token ∷ is_token ∷ []) parts h (λ x0 r0 e0 h0.
        top_token (is_token ∷ []) r0 h0 (λ x1 r1 e1 h1.
        top_token ([]) r1 h1 (λ x2 r2 e2 h2.
        cut_end text nodes at parts x0 x1 x2 r2 before (e0 ∙ ap (λ (ps : Parts). POther (PTerms x0) ∷ ps) (e1 ∙ ap (λ (ps : Parts). PToken x1 ∷ ps) (e2))) named)))

-- ---- acts that name nothing themselves

skip : {T : Type 0} (b : Bool) (x y : T) → b ≡ false → (if b then x else y) ≡ y
skip true x y e = absurd (false≢true (sym e))
skip false x y e = refl

unnamed_act : (act : ℕ) (parts : Parts) → (act == ACT_INST) ≡ false → (act == ACT_CELL_ATOM) ≡ false → (act == ACT_FIELD_ATOM) ≡ false → (act == ACT_BOOK_ATOM) ≡ false → (act == ACT_TOKEN_ATOM) ≡ false
    → (act == ACT_EACH_ATOM) ≡ false → (act == ACT_SET_BOOK) ≡ false → (act == ACT_TO) ≡ false → named_by act parts ≡ []
unnamed_act act parts a b c d e f g h = rw (a, b, c, d, e, f, g, h) refl

pub unnamed : (text : List ℕ) (nodes : List Node) (at act : ℕ) → act_at nodes at ≡ act → (act == ACT_INST) ≡ false → (act == ACT_CELL_ATOM) ≡ false → (act == ACT_FIELD_ATOM) ≡ false → (act == ACT_BOOK_ATOM) ≡ false
    → (act == ACT_TOKEN_ATOM) ≡ false → (act == ACT_EACH_ATOM) ≡ false → (act == ACT_SET_BOOK) ≡ false → (act == ACT_TO) ≡ false → named_at text nodes at ≡ []
unnamed text nodes at act q a b c d e f g h = go (slice_get nodes at) refl
  where
    of_node : (node : Node) (parts : Option Parts) → act_in node ≡ act → by_node node parts ≡ []
    of_node (Token t) parts p = refl
    of_node (Made raw from) None p = refl
    of_node (Made raw from) (Some parts) p = ap (λ (n : ℕ). named_by n parts) p ∙ unnamed_act act parts a b c d e f g h

    go : (found : Option Node) → slice_get nodes at ≡ found → named_at text nodes at ≡ []
    go None there = ap (λ (o : Option Node). elim o [ None ↦ [] | Some n ↦ by_node n (built text (take at nodes)) ]) there
    go (Some node) there =
        ap (λ (o : Option Node). elim o [ None ↦ [] | Some n ↦ by_node n (built text (take at nodes)) ]) there
        ∙ of_node node (built text (take at nodes)) (sym (ap (λ (o : Option Node). elim o [ None ↦ 0 | Some n ↦ act_in n ]) there) ∙ q)
