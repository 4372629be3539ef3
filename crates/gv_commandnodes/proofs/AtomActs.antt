-- Atom nodes by the acts that make them. Made by tools/script_nodes.py from script.grammar: edit that.
use Rattle.std.proofs.Common.{◌≡◌, ℕ, true, List, [], ◌∷◌, Option, Some, sym, ap, ◌∙◌}
use Rattle.std.specs.Prelude.{drop, take}
use Rattle.gv_grammar.specs.Building.{has_tops}
use Rattle.gv_termread.specs.declared.generated.term_acts.Part.TheVariants.{Term as PTerm, Token as PToken, Other as POther}
use Rattle.gv_scriptsyntax.specs.declared.generated.script_acts.ScriptPart.TheVariants.{Atom as PAtom, Inst as PInst, MaybeTerm as PMaybeTerm, Terms as PTerms}
use Rattle.gv_scriptsyntax.specs.declared.tree.Atom.{Atom}
use Rattle.gv_scriptsyntax.specs.declared.tree.Inst.{Inst}
use Rattle.gv_termread.specs.declared.placed.PlacedTerm.{PlacedTerm}
use Rattle.gv_termread.specs.declared.token.SeenToken.{SeenToken}
use Rattle.gv_scriptsyntax.specs.declared.tree.Atom.TheVariants as atom
use Rattle.gv_scriptsyntax.specs.declared.node.Node.{Node}
use Rattle.gv_scriptsyntax.specs.declared.node.Node.TheVariants.{Made}
use Rattle.gv_scriptsyntax.specs.declared.generated.script_table.TheConstants as act
use Rattle.gv_termread.specs.TermActs.{is_term, is_token}
use Rattle.gv_scriptsyntax.specs.ScriptActs.{is_atom, is_inst, is_maybe_term, is_terms, made_book_atom, made_cell_atom, made_done_atom, made_each_atom, made_field_atom, made_inst_atom, made_lock_atom, made_one_atom, made_three_atom, made_token_atom, made_two_atom}
use Rattle.gv_scriptsyntax.specs.Nodes.{Parts, built, IsPartAt}
use Rattle.gv_scriptnodes.specs.Places.{IsChild, IsTokenOf}
use Rattle.gv_scriptnodes.proofs.Opened.{opened}
use Rattle.gv_scriptnodes.proofs.Tops.{accepted, top_atom, top_inst, top_maybe_term, top_term, top_terms, top_token}
use Rattle.gv_certnodes.specs.Places.{IsMadeBy}
use Rattle.gv_commandnodes.specs.Atom.{IsOneAtom, IsTwoAtom, IsThreeAtom, IsCellAtom, IsFieldAtom, IsBookAtom, IsLockAtom, IsTokenAtom, IsDoneAtom, IsEachAtom, IsInstAtom}
use Rattle.gv_certnodes.proofs.Opened.{at_part, same_act}

one_atom_end : (text : List ℕ) (nodes : List Node) (at : ℕ) (at_word : SeenToken) (at_a : ℕ) → IsTokenOf text nodes at 3 at_word → IsChild text nodes at 1 at_a
    → (whole : Atom) (parts rest : Parts) (passed_3 : SeenToken) (a : PlacedTerm) (passed_1 : SeenToken) (word : SeenToken) (behind : Parts) → built text (take at nodes) ≡ Some parts → parts ≡ PToken passed_3 ∷ PTerm a ∷ PToken passed_1 ∷ PToken word ∷ behind
    → POther (PAtom whole) ∷ rest ≡ POther (PAtom (made_one_atom parts)) ∷ drop 4 parts → IsOneAtom text nodes at at_word at_a whole
one_atom_end text nodes at at_word at_a known_word known_a whole parts rest passed_3 a passed_1 word behind before shape q =
    let made : whole ≡ made_one_atom parts = cc in
    record {
      of_a = a;
      at_a = at_part text nodes at 1 at_a parts (PToken passed_1 ∷ PToken word ∷ behind) (PTerm a) known_a before (ap (λ (ps : Parts). drop 1 ps) shape);
      made = made ∙ ap (λ (ps : Parts). made_one_atom ps) shape
          ∙ ap (λ (x : SeenToken). (atom.One x a)) (sym (known_word.same parts (behind) word before (ap (λ (ps : Parts). drop 3 ps) shape)));
    }

pub one_atom_is : (text : List ℕ) (nodes : List Node) (at : ℕ) (at_word : SeenToken) (at_a : ℕ) → IsMadeBy nodes at act.ACT_ONE_ATOM → IsTokenOf text nodes at 3 at_word → IsChild text nodes at 1 at_a
    → (whole : Atom) → IsPartAt text nodes at (POther (PAtom whole)) → IsOneAtom text nodes at at_word at_a whole
one_atom_is text nodes at at_word at_a by known_word known_a whole is =
    let o = opened text nodes at (Made by.raw by.from) (POther (PAtom whole)) by.node is in
    let a = accepted text act.ACT_ONE_ATOM o.parts (POther (PAtom whole) ∷ o.rest) (same_act text by.raw act.ACT_ONE_ATOM o.parts by.number ∙ o.done) in
    go o.parts o.rest o.before a.0 a.1
  where
    go : (parts rest : Parts) → built text (take at nodes) ≡ Some parts → has_tops (is_token ∷ is_term ∷ is_token ∷ is_token ∷ []) parts ≡ true → POther (PAtom whole) ∷ rest ≡ POther (PAtom (made_one_atom parts)) ∷ drop 4 parts → IsOneAtom text nodes at at_word at_a whole
    go parts rest before h q =
        top_token (is_term ∷ is_token ∷ is_token ∷ []) parts h (λ x0 r0 e0 h0.
        top_term (is_token ∷ is_token ∷ []) r0 h0 (λ x1 r1 e1 h1.
        top_token (is_token ∷ []) r1 h1 (λ x2 r2 e2 h2.
        top_token ([]) r2 h2 (λ x3 r3 e3 h3.
        one_atom_end text nodes at at_word at_a known_word known_a whole parts rest x0 x1 x2 x3 r3 before (e0 ∙ ap (λ (ps : Parts). PToken x0 ∷ ps) (e1 ∙ ap (λ (ps : Parts). PTerm x1 ∷ ps) (e2 ∙ ap (λ (ps : Parts). PToken x2 ∷ ps) e3))) q))))

two_atom_end : (text : List ℕ) (nodes : List Node) (at : ℕ) (at_word : SeenToken) (at_a : ℕ) (at_b : ℕ) → IsTokenOf text nodes at 5 at_word → IsChild text nodes at 3 at_a → IsChild text nodes at 1 at_b
    → (whole : Atom) (parts rest : Parts) (passed_5 : SeenToken) (b : PlacedTerm) (passed_3 : SeenToken) (a : PlacedTerm) (passed_1 : SeenToken) (word : SeenToken) (behind : Parts) → built text (take at nodes) ≡ Some parts → parts ≡ PToken passed_5 ∷ PTerm b ∷ PToken passed_3 ∷ PTerm a ∷ PToken passed_1 ∷ PToken word ∷ behind
    → POther (PAtom whole) ∷ rest ≡ POther (PAtom (made_two_atom parts)) ∷ drop 6 parts → IsTwoAtom text nodes at at_word at_a at_b whole
two_atom_end text nodes at at_word at_a at_b known_word known_a known_b whole parts rest passed_5 b passed_3 a passed_1 word behind before shape q =
    let made : whole ≡ made_two_atom parts = cc in
    record {
      of_a = a;
      of_b = b;
      at_a = at_part text nodes at 3 at_a parts (PToken passed_1 ∷ PToken word ∷ behind) (PTerm a) known_a before (ap (λ (ps : Parts). drop 3 ps) shape);
      at_b = at_part text nodes at 1 at_b parts (PToken passed_3 ∷ PTerm a ∷ PToken passed_1 ∷ PToken word ∷ behind) (PTerm b) known_b before (ap (λ (ps : Parts). drop 1 ps) shape);
      made = made ∙ ap (λ (ps : Parts). made_two_atom ps) shape
          ∙ ap (λ (x : SeenToken). (atom.Two x a b)) (sym (known_word.same parts (behind) word before (ap (λ (ps : Parts). drop 5 ps) shape)));
    }

pub two_atom_is : (text : List ℕ) (nodes : List Node) (at : ℕ) (at_word : SeenToken) (at_a : ℕ) (at_b : ℕ) → IsMadeBy nodes at act.ACT_TWO_ATOM → IsTokenOf text nodes at 5 at_word → IsChild text nodes at 3 at_a → IsChild text nodes at 1 at_b
    → (whole : Atom) → IsPartAt text nodes at (POther (PAtom whole)) → IsTwoAtom text nodes at at_word at_a at_b whole
two_atom_is text nodes at at_word at_a at_b by known_word known_a known_b whole is =
    let o = opened text nodes at (Made by.raw by.from) (POther (PAtom whole)) by.node is in
    let a = accepted text act.ACT_TWO_ATOM o.parts (POther (PAtom whole) ∷ o.rest) (same_act text by.raw act.ACT_TWO_ATOM o.parts by.number ∙ o.done) in
    go o.parts o.rest o.before a.0 a.1
  where
    go : (parts rest : Parts) → built text (take at nodes) ≡ Some parts → has_tops (is_token ∷ is_term ∷ is_token ∷ is_term ∷ is_token ∷ is_token ∷ []) parts ≡ true → POther (PAtom whole) ∷ rest ≡ POther (PAtom (made_two_atom parts)) ∷ drop 6 parts → IsTwoAtom text nodes at at_word at_a at_b whole
    go parts rest before h q =
        top_token (is_term ∷ is_token ∷ is_term ∷ is_token ∷ is_token ∷ []) parts h (λ x0 r0 e0 h0.
        top_term (is_token ∷ is_term ∷ is_token ∷ is_token ∷ []) r0 h0 (λ x1 r1 e1 h1.
        top_token (is_term ∷ is_token ∷ is_token ∷ []) r1 h1 (λ x2 r2 e2 h2.
        top_term (is_token ∷ is_token ∷ []) r2 h2 (λ x3 r3 e3 h3.
        top_token (is_token ∷ []) r3 h3 (λ x4 r4 e4 h4.
        top_token ([]) r4 h4 (λ x5 r5 e5 h5.
        two_atom_end text nodes at at_word at_a at_b known_word known_a known_b whole parts rest x0 x1 x2 x3 x4 x5 r5 before (e0 ∙ ap (λ (ps : Parts). PToken x0 ∷ ps) (e1 ∙ ap (λ (ps : Parts). PTerm x1 ∷ ps) (e2 ∙ ap (λ (ps : Parts). PToken x2 ∷ ps) (e3 ∙ ap (λ (ps : Parts). PTerm x3 ∷ ps) (e4 ∙ ap (λ (ps : Parts). PToken x4 ∷ ps) e5))))) q))))))

three_atom_end : (text : List ℕ) (nodes : List Node) (at : ℕ) (at_word : SeenToken) (at_a : ℕ) (at_b : ℕ) (at_c : ℕ) → IsTokenOf text nodes at 7 at_word → IsChild text nodes at 5 at_a → IsChild text nodes at 3 at_b → IsChild text nodes at 1 at_c
    → (whole : Atom) (parts rest : Parts) (passed_7 : SeenToken) (c : PlacedTerm) (passed_5 : SeenToken) (b : PlacedTerm) (passed_3 : SeenToken) (a : PlacedTerm) (passed_1 : SeenToken) (word : SeenToken) (behind : Parts) → built text (take at nodes) ≡ Some parts → parts ≡ PToken passed_7 ∷ PTerm c ∷ PToken passed_5 ∷ PTerm b ∷ PToken passed_3 ∷ PTerm a ∷ PToken passed_1 ∷ PToken word ∷ behind
    → POther (PAtom whole) ∷ rest ≡ POther (PAtom (made_three_atom parts)) ∷ drop 8 parts → IsThreeAtom text nodes at at_word at_a at_b at_c whole
three_atom_end text nodes at at_word at_a at_b at_c known_word known_a known_b known_c whole parts rest passed_7 c passed_5 b passed_3 a passed_1 word behind before shape q =
    let made : whole ≡ made_three_atom parts = cc in
    record {
      of_a = a;
      of_b = b;
      of_c = c;
      at_a = at_part text nodes at 5 at_a parts (PToken passed_1 ∷ PToken word ∷ behind) (PTerm a) known_a before (ap (λ (ps : Parts). drop 5 ps) shape);
      at_b = at_part text nodes at 3 at_b parts (PToken passed_3 ∷ PTerm a ∷ PToken passed_1 ∷ PToken word ∷ behind) (PTerm b) known_b before (ap (λ (ps : Parts). drop 3 ps) shape);
      at_c = at_part text nodes at 1 at_c parts (PToken passed_5 ∷ PTerm b ∷ PToken passed_3 ∷ PTerm a ∷ PToken passed_1 ∷ PToken word ∷ behind) (PTerm c) known_c before (ap (λ (ps : Parts). drop 1 ps) shape);
      made = made ∙ ap (λ (ps : Parts). made_three_atom ps) shape
          ∙ ap (λ (x : SeenToken). (atom.Three x a b c)) (sym (known_word.same parts (behind) word before (ap (λ (ps : Parts). drop 7 ps) shape)));
    }

pub three_atom_is : (text : List ℕ) (nodes : List Node) (at : ℕ) (at_word : SeenToken) (at_a : ℕ) (at_b : ℕ) (at_c : ℕ) → IsMadeBy nodes at act.ACT_THREE_ATOM → IsTokenOf text nodes at 7 at_word → IsChild text nodes at 5 at_a → IsChild text nodes at 3 at_b → IsChild text nodes at 1 at_c
    → (whole : Atom) → IsPartAt text nodes at (POther (PAtom whole)) → IsThreeAtom text nodes at at_word at_a at_b at_c whole
three_atom_is text nodes at at_word at_a at_b at_c by known_word known_a known_b known_c whole is =
    let o = opened text nodes at (Made by.raw by.from) (POther (PAtom whole)) by.node is in
    let a = accepted text act.ACT_THREE_ATOM o.parts (POther (PAtom whole) ∷ o.rest) (same_act text by.raw act.ACT_THREE_ATOM o.parts by.number ∙ o.done) in
    go o.parts o.rest o.before a.0 a.1
  where
    go : (parts rest : Parts) → built text (take at nodes) ≡ Some parts → has_tops (is_token ∷ is_term ∷ is_token ∷ is_term ∷ is_token ∷ is_term ∷ is_token ∷ is_token ∷ []) parts ≡ true → POther (PAtom whole) ∷ rest ≡ POther (PAtom (made_three_atom parts)) ∷ drop 8 parts → IsThreeAtom text nodes at at_word at_a at_b at_c whole
    go parts rest before h q =
        top_token (is_term ∷ is_token ∷ is_term ∷ is_token ∷ is_term ∷ is_token ∷ is_token ∷ []) parts h (λ x0 r0 e0 h0.
        top_term (is_token ∷ is_term ∷ is_token ∷ is_term ∷ is_token ∷ is_token ∷ []) r0 h0 (λ x1 r1 e1 h1.
        top_token (is_term ∷ is_token ∷ is_term ∷ is_token ∷ is_token ∷ []) r1 h1 (λ x2 r2 e2 h2.
        top_term (is_token ∷ is_term ∷ is_token ∷ is_token ∷ []) r2 h2 (λ x3 r3 e3 h3.
        top_token (is_term ∷ is_token ∷ is_token ∷ []) r3 h3 (λ x4 r4 e4 h4.
        top_term (is_token ∷ is_token ∷ []) r4 h4 (λ x5 r5 e5 h5.
        top_token (is_token ∷ []) r5 h5 (λ x6 r6 e6 h6.
        top_token ([]) r6 h6 (λ x7 r7 e7 h7.
        three_atom_end text nodes at at_word at_a at_b at_c known_word known_a known_b known_c whole parts rest x0 x1 x2 x3 x4 x5 x6 x7 r7 before (e0 ∙ ap (λ (ps : Parts). PToken x0 ∷ ps) (e1 ∙ ap (λ (ps : Parts). PTerm x1 ∷ ps) (e2 ∙ ap (λ (ps : Parts). PToken x2 ∷ ps) (e3 ∙ ap (λ (ps : Parts). PTerm x3 ∷ ps) (e4 ∙ ap (λ (ps : Parts). PToken x4 ∷ ps) (e5 ∙ ap (λ (ps : Parts). PTerm x5 ∷ ps) (e6 ∙ ap (λ (ps : Parts). PToken x6 ∷ ps) e7))))))) q))))))))

cell_atom_end : (text : List ℕ) (nodes : List Node) (at : ℕ) (at_word : SeenToken) (at_a : ℕ) (at_name : SeenToken) (at_b : ℕ) → IsTokenOf text nodes at 7 at_word → IsChild text nodes at 5 at_a → IsTokenOf text nodes at 3 at_name → IsChild text nodes at 1 at_b
    → (whole : Atom) (parts rest : Parts) (passed_7 : SeenToken) (b : PlacedTerm) (passed_5 : SeenToken) (name : SeenToken) (passed_3 : SeenToken) (a : PlacedTerm) (passed_1 : SeenToken) (word : SeenToken) (behind : Parts) → built text (take at nodes) ≡ Some parts → parts ≡ PToken passed_7 ∷ PTerm b ∷ PToken passed_5 ∷ PToken name ∷ PToken passed_3 ∷ PTerm a ∷ PToken passed_1 ∷ PToken word ∷ behind
    → POther (PAtom whole) ∷ rest ≡ POther (PAtom (made_cell_atom parts)) ∷ drop 8 parts → IsCellAtom text nodes at at_word at_a at_name at_b whole
cell_atom_end text nodes at at_word at_a at_name at_b known_word known_a known_name known_b whole parts rest passed_7 b passed_5 name passed_3 a passed_1 word behind before shape q =
    let made : whole ≡ made_cell_atom parts = cc in
    record {
      of_a = a;
      of_b = b;
      at_a = at_part text nodes at 5 at_a parts (PToken passed_1 ∷ PToken word ∷ behind) (PTerm a) known_a before (ap (λ (ps : Parts). drop 5 ps) shape);
      at_b = at_part text nodes at 1 at_b parts (PToken passed_5 ∷ PToken name ∷ PToken passed_3 ∷ PTerm a ∷ PToken passed_1 ∷ PToken word ∷ behind) (PTerm b) known_b before (ap (λ (ps : Parts). drop 1 ps) shape);
      made = made ∙ ap (λ (ps : Parts). made_cell_atom ps) shape
          ∙ ap (λ (x : SeenToken). (atom.Cell x a name b)) (sym (known_word.same parts (behind) word before (ap (λ (ps : Parts). drop 7 ps) shape)))
          ∙ ap (λ (x : SeenToken). (atom.Cell at_word a x b)) (sym (known_name.same parts (PToken passed_3 ∷ PTerm a ∷ PToken passed_1 ∷ PToken word ∷ behind) name before (ap (λ (ps : Parts). drop 3 ps) shape)));
    }

pub cell_atom_is : (text : List ℕ) (nodes : List Node) (at : ℕ) (at_word : SeenToken) (at_a : ℕ) (at_name : SeenToken) (at_b : ℕ) → IsMadeBy nodes at act.ACT_CELL_ATOM → IsTokenOf text nodes at 7 at_word → IsChild text nodes at 5 at_a → IsTokenOf text nodes at 3 at_name → IsChild text nodes at 1 at_b
    → (whole : Atom) → IsPartAt text nodes at (POther (PAtom whole)) → IsCellAtom text nodes at at_word at_a at_name at_b whole
cell_atom_is text nodes at at_word at_a at_name at_b by known_word known_a known_name known_b whole is =
    let o = opened text nodes at (Made by.raw by.from) (POther (PAtom whole)) by.node is in
    let a = accepted text act.ACT_CELL_ATOM o.parts (POther (PAtom whole) ∷ o.rest) (same_act text by.raw act.ACT_CELL_ATOM o.parts by.number ∙ o.done) in
    go o.parts o.rest o.before a.0 a.1
  where
    go : (parts rest : Parts) → built text (take at nodes) ≡ Some parts → has_tops (is_token ∷ is_term ∷ is_token ∷ is_token ∷ is_token ∷ is_term ∷ is_token ∷ is_token ∷ []) parts ≡ true → POther (PAtom whole) ∷ rest ≡ POther (PAtom (made_cell_atom parts)) ∷ drop 8 parts → IsCellAtom text nodes at at_word at_a at_name at_b whole
    go parts rest before h q =
        top_token (is_term ∷ is_token ∷ is_token ∷ is_token ∷ is_term ∷ is_token ∷ is_token ∷ []) parts h (λ x0 r0 e0 h0.
        top_term (is_token ∷ is_token ∷ is_token ∷ is_term ∷ is_token ∷ is_token ∷ []) r0 h0 (λ x1 r1 e1 h1.
        top_token (is_token ∷ is_token ∷ is_term ∷ is_token ∷ is_token ∷ []) r1 h1 (λ x2 r2 e2 h2.
        top_token (is_token ∷ is_term ∷ is_token ∷ is_token ∷ []) r2 h2 (λ x3 r3 e3 h3.
        top_token (is_term ∷ is_token ∷ is_token ∷ []) r3 h3 (λ x4 r4 e4 h4.
        top_term (is_token ∷ is_token ∷ []) r4 h4 (λ x5 r5 e5 h5.
        top_token (is_token ∷ []) r5 h5 (λ x6 r6 e6 h6.
        top_token ([]) r6 h6 (λ x7 r7 e7 h7.
        cell_atom_end text nodes at at_word at_a at_name at_b known_word known_a known_name known_b whole parts rest x0 x1 x2 x3 x4 x5 x6 x7 r7 before (e0 ∙ ap (λ (ps : Parts). PToken x0 ∷ ps) (e1 ∙ ap (λ (ps : Parts). PTerm x1 ∷ ps) (e2 ∙ ap (λ (ps : Parts). PToken x2 ∷ ps) (e3 ∙ ap (λ (ps : Parts). PToken x3 ∷ ps) (e4 ∙ ap (λ (ps : Parts). PToken x4 ∷ ps) (e5 ∙ ap (λ (ps : Parts). PTerm x5 ∷ ps) (e6 ∙ ap (λ (ps : Parts). PToken x6 ∷ ps) e7))))))) q))))))))

field_atom_end : (text : List ℕ) (nodes : List Node) (at : ℕ) (at_word : SeenToken) (at_name : SeenToken) (at_a : ℕ) → IsTokenOf text nodes at 5 at_word → IsTokenOf text nodes at 3 at_name → IsChild text nodes at 1 at_a
    → (whole : Atom) (parts rest : Parts) (passed_5 : SeenToken) (a : PlacedTerm) (passed_3 : SeenToken) (name : SeenToken) (passed_1 : SeenToken) (word : SeenToken) (behind : Parts) → built text (take at nodes) ≡ Some parts → parts ≡ PToken passed_5 ∷ PTerm a ∷ PToken passed_3 ∷ PToken name ∷ PToken passed_1 ∷ PToken word ∷ behind
    → POther (PAtom whole) ∷ rest ≡ POther (PAtom (made_field_atom parts)) ∷ drop 6 parts → IsFieldAtom text nodes at at_word at_name at_a whole
field_atom_end text nodes at at_word at_name at_a known_word known_name known_a whole parts rest passed_5 a passed_3 name passed_1 word behind before shape q =
    let made : whole ≡ made_field_atom parts = cc in
    record {
      of_a = a;
      at_a = at_part text nodes at 1 at_a parts (PToken passed_3 ∷ PToken name ∷ PToken passed_1 ∷ PToken word ∷ behind) (PTerm a) known_a before (ap (λ (ps : Parts). drop 1 ps) shape);
      made = made ∙ ap (λ (ps : Parts). made_field_atom ps) shape
          ∙ ap (λ (x : SeenToken). (atom.Field x name a)) (sym (known_word.same parts (behind) word before (ap (λ (ps : Parts). drop 5 ps) shape)))
          ∙ ap (λ (x : SeenToken). (atom.Field at_word x a)) (sym (known_name.same parts (PToken passed_1 ∷ PToken word ∷ behind) name before (ap (λ (ps : Parts). drop 3 ps) shape)));
    }

pub field_atom_is : (text : List ℕ) (nodes : List Node) (at : ℕ) (at_word : SeenToken) (at_name : SeenToken) (at_a : ℕ) → IsMadeBy nodes at act.ACT_FIELD_ATOM → IsTokenOf text nodes at 5 at_word → IsTokenOf text nodes at 3 at_name → IsChild text nodes at 1 at_a
    → (whole : Atom) → IsPartAt text nodes at (POther (PAtom whole)) → IsFieldAtom text nodes at at_word at_name at_a whole
field_atom_is text nodes at at_word at_name at_a by known_word known_name known_a whole is =
    let o = opened text nodes at (Made by.raw by.from) (POther (PAtom whole)) by.node is in
    let a = accepted text act.ACT_FIELD_ATOM o.parts (POther (PAtom whole) ∷ o.rest) (same_act text by.raw act.ACT_FIELD_ATOM o.parts by.number ∙ o.done) in
    go o.parts o.rest o.before a.0 a.1
  where
    go : (parts rest : Parts) → built text (take at nodes) ≡ Some parts → has_tops (is_token ∷ is_term ∷ is_token ∷ is_token ∷ is_token ∷ is_token ∷ []) parts ≡ true → POther (PAtom whole) ∷ rest ≡ POther (PAtom (made_field_atom parts)) ∷ drop 6 parts → IsFieldAtom text nodes at at_word at_name at_a whole
    go parts rest before h q =
        top_token (is_term ∷ is_token ∷ is_token ∷ is_token ∷ is_token ∷ []) parts h (λ x0 r0 e0 h0.
        top_term (is_token ∷ is_token ∷ is_token ∷ is_token ∷ []) r0 h0 (λ x1 r1 e1 h1.
        top_token (is_token ∷ is_token ∷ is_token ∷ []) r1 h1 (λ x2 r2 e2 h2.
        top_token (is_token ∷ is_token ∷ []) r2 h2 (λ x3 r3 e3 h3.
        top_token (is_token ∷ []) r3 h3 (λ x4 r4 e4 h4.
        top_token ([]) r4 h4 (λ x5 r5 e5 h5.
        field_atom_end text nodes at at_word at_name at_a known_word known_name known_a whole parts rest x0 x1 x2 x3 x4 x5 r5 before (e0 ∙ ap (λ (ps : Parts). PToken x0 ∷ ps) (e1 ∙ ap (λ (ps : Parts). PTerm x1 ∷ ps) (e2 ∙ ap (λ (ps : Parts). PToken x2 ∷ ps) (e3 ∙ ap (λ (ps : Parts). PToken x3 ∷ ps) (e4 ∙ ap (λ (ps : Parts). PToken x4 ∷ ps) e5))))) q))))))

book_atom_end : (text : List ℕ) (nodes : List Node) (at : ℕ) (at_word : SeenToken) (at_name : SeenToken) (at_a : ℕ) (at_b : ℕ) → IsTokenOf text nodes at 7 at_word → IsTokenOf text nodes at 5 at_name → IsChild text nodes at 3 at_a → IsChild text nodes at 1 at_b
    → (whole : Atom) (parts rest : Parts) (passed_7 : SeenToken) (b : PlacedTerm) (passed_5 : SeenToken) (a : PlacedTerm) (passed_3 : SeenToken) (name : SeenToken) (passed_1 : SeenToken) (word : SeenToken) (behind : Parts) → built text (take at nodes) ≡ Some parts → parts ≡ PToken passed_7 ∷ PTerm b ∷ PToken passed_5 ∷ PTerm a ∷ PToken passed_3 ∷ PToken name ∷ PToken passed_1 ∷ PToken word ∷ behind
    → POther (PAtom whole) ∷ rest ≡ POther (PAtom (made_book_atom parts)) ∷ drop 8 parts → IsBookAtom text nodes at at_word at_name at_a at_b whole
book_atom_end text nodes at at_word at_name at_a at_b known_word known_name known_a known_b whole parts rest passed_7 b passed_5 a passed_3 name passed_1 word behind before shape q =
    let made : whole ≡ made_book_atom parts = cc in
    record {
      of_a = a;
      of_b = b;
      at_a = at_part text nodes at 3 at_a parts (PToken passed_3 ∷ PToken name ∷ PToken passed_1 ∷ PToken word ∷ behind) (PTerm a) known_a before (ap (λ (ps : Parts). drop 3 ps) shape);
      at_b = at_part text nodes at 1 at_b parts (PToken passed_5 ∷ PTerm a ∷ PToken passed_3 ∷ PToken name ∷ PToken passed_1 ∷ PToken word ∷ behind) (PTerm b) known_b before (ap (λ (ps : Parts). drop 1 ps) shape);
      made = made ∙ ap (λ (ps : Parts). made_book_atom ps) shape
          ∙ ap (λ (x : SeenToken). (atom.Book x name a b)) (sym (known_word.same parts (behind) word before (ap (λ (ps : Parts). drop 7 ps) shape)))
          ∙ ap (λ (x : SeenToken). (atom.Book at_word x a b)) (sym (known_name.same parts (PToken passed_1 ∷ PToken word ∷ behind) name before (ap (λ (ps : Parts). drop 5 ps) shape)));
    }

pub book_atom_is : (text : List ℕ) (nodes : List Node) (at : ℕ) (at_word : SeenToken) (at_name : SeenToken) (at_a : ℕ) (at_b : ℕ) → IsMadeBy nodes at act.ACT_BOOK_ATOM → IsTokenOf text nodes at 7 at_word → IsTokenOf text nodes at 5 at_name → IsChild text nodes at 3 at_a → IsChild text nodes at 1 at_b
    → (whole : Atom) → IsPartAt text nodes at (POther (PAtom whole)) → IsBookAtom text nodes at at_word at_name at_a at_b whole
book_atom_is text nodes at at_word at_name at_a at_b by known_word known_name known_a known_b whole is =
    let o = opened text nodes at (Made by.raw by.from) (POther (PAtom whole)) by.node is in
    let a = accepted text act.ACT_BOOK_ATOM o.parts (POther (PAtom whole) ∷ o.rest) (same_act text by.raw act.ACT_BOOK_ATOM o.parts by.number ∙ o.done) in
    go o.parts o.rest o.before a.0 a.1
  where
    go : (parts rest : Parts) → built text (take at nodes) ≡ Some parts → has_tops (is_token ∷ is_term ∷ is_token ∷ is_term ∷ is_token ∷ is_token ∷ is_token ∷ is_token ∷ []) parts ≡ true → POther (PAtom whole) ∷ rest ≡ POther (PAtom (made_book_atom parts)) ∷ drop 8 parts → IsBookAtom text nodes at at_word at_name at_a at_b whole
    go parts rest before h q =
        top_token (is_term ∷ is_token ∷ is_term ∷ is_token ∷ is_token ∷ is_token ∷ is_token ∷ []) parts h (λ x0 r0 e0 h0.
        top_term (is_token ∷ is_term ∷ is_token ∷ is_token ∷ is_token ∷ is_token ∷ []) r0 h0 (λ x1 r1 e1 h1.
        top_token (is_term ∷ is_token ∷ is_token ∷ is_token ∷ is_token ∷ []) r1 h1 (λ x2 r2 e2 h2.
        top_term (is_token ∷ is_token ∷ is_token ∷ is_token ∷ []) r2 h2 (λ x3 r3 e3 h3.
        top_token (is_token ∷ is_token ∷ is_token ∷ []) r3 h3 (λ x4 r4 e4 h4.
        top_token (is_token ∷ is_token ∷ []) r4 h4 (λ x5 r5 e5 h5.
        top_token (is_token ∷ []) r5 h5 (λ x6 r6 e6 h6.
        top_token ([]) r6 h6 (λ x7 r7 e7 h7.
        book_atom_end text nodes at at_word at_name at_a at_b known_word known_name known_a known_b whole parts rest x0 x1 x2 x3 x4 x5 x6 x7 r7 before (e0 ∙ ap (λ (ps : Parts). PToken x0 ∷ ps) (e1 ∙ ap (λ (ps : Parts). PTerm x1 ∷ ps) (e2 ∙ ap (λ (ps : Parts). PToken x2 ∷ ps) (e3 ∙ ap (λ (ps : Parts). PTerm x3 ∷ ps) (e4 ∙ ap (λ (ps : Parts). PToken x4 ∷ ps) (e5 ∙ ap (λ (ps : Parts). PToken x5 ∷ ps) (e6 ∙ ap (λ (ps : Parts). PToken x6 ∷ ps) e7))))))) q))))))))

lock_atom_end : (text : List ℕ) (nodes : List Node) (at : ℕ) (at_word : SeenToken) (at_a : ℕ) (at_inst : ℕ) → IsTokenOf text nodes at 5 at_word → IsChild text nodes at 3 at_a → IsChild text nodes at 1 at_inst
    → (whole : Atom) (parts rest : Parts) (passed_5 : SeenToken) (inst : Inst) (passed_3 : SeenToken) (a : PlacedTerm) (passed_1 : SeenToken) (word : SeenToken) (behind : Parts) → built text (take at nodes) ≡ Some parts → parts ≡ PToken passed_5 ∷ POther (PInst inst) ∷ PToken passed_3 ∷ PTerm a ∷ PToken passed_1 ∷ PToken word ∷ behind
    → POther (PAtom whole) ∷ rest ≡ POther (PAtom (made_lock_atom parts)) ∷ drop 6 parts → IsLockAtom text nodes at at_word at_a at_inst whole
lock_atom_end text nodes at at_word at_a at_inst known_word known_a known_inst whole parts rest passed_5 inst passed_3 a passed_1 word behind before shape q =
    let made : whole ≡ made_lock_atom parts = cc in
    record {
      of_a = a;
      of_inst = inst;
      at_a = at_part text nodes at 3 at_a parts (PToken passed_1 ∷ PToken word ∷ behind) (PTerm a) known_a before (ap (λ (ps : Parts). drop 3 ps) shape);
      at_inst = at_part text nodes at 1 at_inst parts (PToken passed_3 ∷ PTerm a ∷ PToken passed_1 ∷ PToken word ∷ behind) (POther (PInst inst)) known_inst before (ap (λ (ps : Parts). drop 1 ps) shape);
      made = made ∙ ap (λ (ps : Parts). made_lock_atom ps) shape
          ∙ ap (λ (x : SeenToken). (atom.Lock x a inst)) (sym (known_word.same parts (behind) word before (ap (λ (ps : Parts). drop 5 ps) shape)));
    }

pub lock_atom_is : (text : List ℕ) (nodes : List Node) (at : ℕ) (at_word : SeenToken) (at_a : ℕ) (at_inst : ℕ) → IsMadeBy nodes at act.ACT_LOCK_ATOM → IsTokenOf text nodes at 5 at_word → IsChild text nodes at 3 at_a → IsChild text nodes at 1 at_inst
    → (whole : Atom) → IsPartAt text nodes at (POther (PAtom whole)) → IsLockAtom text nodes at at_word at_a at_inst whole
lock_atom_is text nodes at at_word at_a at_inst by known_word known_a known_inst whole is =
    let o = opened text nodes at (Made by.raw by.from) (POther (PAtom whole)) by.node is in
    let a = accepted text act.ACT_LOCK_ATOM o.parts (POther (PAtom whole) ∷ o.rest) (same_act text by.raw act.ACT_LOCK_ATOM o.parts by.number ∙ o.done) in
    go o.parts o.rest o.before a.0 a.1
  where
    go : (parts rest : Parts) → built text (take at nodes) ≡ Some parts → has_tops (is_token ∷ is_inst ∷ is_token ∷ is_term ∷ is_token ∷ is_token ∷ []) parts ≡ true → POther (PAtom whole) ∷ rest ≡ POther (PAtom (made_lock_atom parts)) ∷ drop 6 parts → IsLockAtom text nodes at at_word at_a at_inst whole
    go parts rest before h q =
        top_token (is_inst ∷ is_token ∷ is_term ∷ is_token ∷ is_token ∷ []) parts h (λ x0 r0 e0 h0.
        top_inst (is_token ∷ is_term ∷ is_token ∷ is_token ∷ []) r0 h0 (λ x1 r1 e1 h1.
        top_token (is_term ∷ is_token ∷ is_token ∷ []) r1 h1 (λ x2 r2 e2 h2.
        top_term (is_token ∷ is_token ∷ []) r2 h2 (λ x3 r3 e3 h3.
        top_token (is_token ∷ []) r3 h3 (λ x4 r4 e4 h4.
        top_token ([]) r4 h4 (λ x5 r5 e5 h5.
        lock_atom_end text nodes at at_word at_a at_inst known_word known_a known_inst whole parts rest x0 x1 x2 x3 x4 x5 r5 before (e0 ∙ ap (λ (ps : Parts). PToken x0 ∷ ps) (e1 ∙ ap (λ (ps : Parts). POther (PInst x1) ∷ ps) (e2 ∙ ap (λ (ps : Parts). PToken x2 ∷ ps) (e3 ∙ ap (λ (ps : Parts). PTerm x3 ∷ ps) (e4 ∙ ap (λ (ps : Parts). PToken x4 ∷ ps) e5))))) q))))))

token_atom_end : (text : List ℕ) (nodes : List Node) (at : ℕ) (at_word : SeenToken) (at_a : ℕ) (at_name : SeenToken) (at_terms : ℕ) → IsTokenOf text nodes at 6 at_word → IsChild text nodes at 4 at_a → IsTokenOf text nodes at 2 at_name → IsChild text nodes at 1 at_terms
    → (whole : Atom) (parts rest : Parts) (passed_6 : SeenToken) (terms : List PlacedTerm) (name : SeenToken) (passed_3 : SeenToken) (a : PlacedTerm) (passed_1 : SeenToken) (word : SeenToken) (behind : Parts) → built text (take at nodes) ≡ Some parts → parts ≡ PToken passed_6 ∷ POther (PTerms terms) ∷ PToken name ∷ PToken passed_3 ∷ PTerm a ∷ PToken passed_1 ∷ PToken word ∷ behind
    → POther (PAtom whole) ∷ rest ≡ POther (PAtom (made_token_atom parts)) ∷ drop 7 parts → IsTokenAtom text nodes at at_word at_a at_name at_terms whole
token_atom_end text nodes at at_word at_a at_name at_terms known_word known_a known_name known_terms whole parts rest passed_6 terms name passed_3 a passed_1 word behind before shape q =
    let made : whole ≡ made_token_atom parts = cc in
    record {
      of_a = a;
      of_terms = terms;
      at_a = at_part text nodes at 4 at_a parts (PToken passed_1 ∷ PToken word ∷ behind) (PTerm a) known_a before (ap (λ (ps : Parts). drop 4 ps) shape);
      at_terms = at_part text nodes at 1 at_terms parts (PToken name ∷ PToken passed_3 ∷ PTerm a ∷ PToken passed_1 ∷ PToken word ∷ behind) (POther (PTerms terms)) known_terms before (ap (λ (ps : Parts). drop 1 ps) shape);
      made = made ∙ ap (λ (ps : Parts). made_token_atom ps) shape
          ∙ ap (λ (x : SeenToken). (atom.Token x a name terms)) (sym (known_word.same parts (behind) word before (ap (λ (ps : Parts). drop 6 ps) shape)))
          ∙ ap (λ (x : SeenToken). (atom.Token at_word a x terms)) (sym (known_name.same parts (PToken passed_3 ∷ PTerm a ∷ PToken passed_1 ∷ PToken word ∷ behind) name before (ap (λ (ps : Parts). drop 2 ps) shape)));
    }

pub token_atom_is : (text : List ℕ) (nodes : List Node) (at : ℕ) (at_word : SeenToken) (at_a : ℕ) (at_name : SeenToken) (at_terms : ℕ) → IsMadeBy nodes at act.ACT_TOKEN_ATOM → IsTokenOf text nodes at 6 at_word → IsChild text nodes at 4 at_a → IsTokenOf text nodes at 2 at_name → IsChild text nodes at 1 at_terms
    → (whole : Atom) → IsPartAt text nodes at (POther (PAtom whole)) → IsTokenAtom text nodes at at_word at_a at_name at_terms whole
token_atom_is text nodes at at_word at_a at_name at_terms by known_word known_a known_name known_terms whole is =
    let o = opened text nodes at (Made by.raw by.from) (POther (PAtom whole)) by.node is in
    let a = accepted text act.ACT_TOKEN_ATOM o.parts (POther (PAtom whole) ∷ o.rest) (same_act text by.raw act.ACT_TOKEN_ATOM o.parts by.number ∙ o.done) in
    go o.parts o.rest o.before a.0 a.1
  where
    go : (parts rest : Parts) → built text (take at nodes) ≡ Some parts → has_tops (is_token ∷ is_terms ∷ is_token ∷ is_token ∷ is_term ∷ is_token ∷ is_token ∷ []) parts ≡ true → POther (PAtom whole) ∷ rest ≡ POther (PAtom (made_token_atom parts)) ∷ drop 7 parts → IsTokenAtom text nodes at at_word at_a at_name at_terms whole
    go parts rest before h q =
        top_token (is_terms ∷ is_token ∷ is_token ∷ is_term ∷ is_token ∷ is_token ∷ []) parts h (λ x0 r0 e0 h0.
        top_terms (is_token ∷ is_token ∷ is_term ∷ is_token ∷ is_token ∷ []) r0 h0 (λ x1 r1 e1 h1.
        top_token (is_token ∷ is_term ∷ is_token ∷ is_token ∷ []) r1 h1 (λ x2 r2 e2 h2.
        top_token (is_term ∷ is_token ∷ is_token ∷ []) r2 h2 (λ x3 r3 e3 h3.
        top_term (is_token ∷ is_token ∷ []) r3 h3 (λ x4 r4 e4 h4.
        top_token (is_token ∷ []) r4 h4 (λ x5 r5 e5 h5.
        top_token ([]) r5 h5 (λ x6 r6 e6 h6.
        token_atom_end text nodes at at_word at_a at_name at_terms known_word known_a known_name known_terms whole parts rest x0 x1 x2 x3 x4 x5 x6 r6 before (e0 ∙ ap (λ (ps : Parts). PToken x0 ∷ ps) (e1 ∙ ap (λ (ps : Parts). POther (PTerms x1) ∷ ps) (e2 ∙ ap (λ (ps : Parts). PToken x2 ∷ ps) (e3 ∙ ap (λ (ps : Parts). PToken x3 ∷ ps) (e4 ∙ ap (λ (ps : Parts). PTerm x4 ∷ ps) (e5 ∙ ap (λ (ps : Parts). PToken x5 ∷ ps) e6)))))) q)))))))

done_atom_end : (text : List ℕ) (nodes : List Node) (at : ℕ) (at_word : SeenToken) (at_a : ℕ) (at_reply : ℕ) → IsTokenOf text nodes at 4 at_word → IsChild text nodes at 2 at_a → IsChild text nodes at 1 at_reply
    → (whole : Atom) (parts rest : Parts) (passed_4 : SeenToken) (reply : Option PlacedTerm) (a : PlacedTerm) (passed_1 : SeenToken) (word : SeenToken) (behind : Parts) → built text (take at nodes) ≡ Some parts → parts ≡ PToken passed_4 ∷ POther (PMaybeTerm reply) ∷ PTerm a ∷ PToken passed_1 ∷ PToken word ∷ behind
    → POther (PAtom whole) ∷ rest ≡ POther (PAtom (made_done_atom parts)) ∷ drop 5 parts → IsDoneAtom text nodes at at_word at_a at_reply whole
done_atom_end text nodes at at_word at_a at_reply known_word known_a known_reply whole parts rest passed_4 reply a passed_1 word behind before shape q =
    let made : whole ≡ made_done_atom parts = cc in
    record {
      of_a = a;
      of_reply = reply;
      at_a = at_part text nodes at 2 at_a parts (PToken passed_1 ∷ PToken word ∷ behind) (PTerm a) known_a before (ap (λ (ps : Parts). drop 2 ps) shape);
      at_reply = at_part text nodes at 1 at_reply parts (PTerm a ∷ PToken passed_1 ∷ PToken word ∷ behind) (POther (PMaybeTerm reply)) known_reply before (ap (λ (ps : Parts). drop 1 ps) shape);
      made = made ∙ ap (λ (ps : Parts). made_done_atom ps) shape
          ∙ ap (λ (x : SeenToken). (atom.Done x a reply)) (sym (known_word.same parts (behind) word before (ap (λ (ps : Parts). drop 4 ps) shape)));
    }

pub done_atom_is : (text : List ℕ) (nodes : List Node) (at : ℕ) (at_word : SeenToken) (at_a : ℕ) (at_reply : ℕ) → IsMadeBy nodes at act.ACT_DONE_ATOM → IsTokenOf text nodes at 4 at_word → IsChild text nodes at 2 at_a → IsChild text nodes at 1 at_reply
    → (whole : Atom) → IsPartAt text nodes at (POther (PAtom whole)) → IsDoneAtom text nodes at at_word at_a at_reply whole
done_atom_is text nodes at at_word at_a at_reply by known_word known_a known_reply whole is =
    let o = opened text nodes at (Made by.raw by.from) (POther (PAtom whole)) by.node is in
    let a = accepted text act.ACT_DONE_ATOM o.parts (POther (PAtom whole) ∷ o.rest) (same_act text by.raw act.ACT_DONE_ATOM o.parts by.number ∙ o.done) in
    go o.parts o.rest o.before a.0 a.1
  where
    go : (parts rest : Parts) → built text (take at nodes) ≡ Some parts → has_tops (is_token ∷ is_maybe_term ∷ is_term ∷ is_token ∷ is_token ∷ []) parts ≡ true → POther (PAtom whole) ∷ rest ≡ POther (PAtom (made_done_atom parts)) ∷ drop 5 parts → IsDoneAtom text nodes at at_word at_a at_reply whole
    go parts rest before h q =
        top_token (is_maybe_term ∷ is_term ∷ is_token ∷ is_token ∷ []) parts h (λ x0 r0 e0 h0.
        top_maybe_term (is_term ∷ is_token ∷ is_token ∷ []) r0 h0 (λ x1 r1 e1 h1.
        top_term (is_token ∷ is_token ∷ []) r1 h1 (λ x2 r2 e2 h2.
        top_token (is_token ∷ []) r2 h2 (λ x3 r3 e3 h3.
        top_token ([]) r3 h3 (λ x4 r4 e4 h4.
        done_atom_end text nodes at at_word at_a at_reply known_word known_a known_reply whole parts rest x0 x1 x2 x3 x4 r4 before (e0 ∙ ap (λ (ps : Parts). PToken x0 ∷ ps) (e1 ∙ ap (λ (ps : Parts). POther (PMaybeTerm x1) ∷ ps) (e2 ∙ ap (λ (ps : Parts). PTerm x2 ∷ ps) (e3 ∙ ap (λ (ps : Parts). PToken x3 ∷ ps) e4)))) q)))))

each_atom_end : (text : List ℕ) (nodes : List Node) (at : ℕ) (at_word : SeenToken) (at_name : SeenToken) (at_low : ℕ) (at_high : ℕ) (at_except : ℕ) (at_body : ℕ) → IsTokenOf text nodes at 10 at_word → IsTokenOf text nodes at 8 at_name → IsChild text nodes at 6 at_low → IsChild text nodes at 4 at_high → IsChild text nodes at 3 at_except → IsChild text nodes at 1 at_body
    → (whole : Atom) (parts rest : Parts) (passed_10 : SeenToken) (body : Atom) (passed_8 : SeenToken) (except : List PlacedTerm) (high : PlacedTerm) (passed_5 : SeenToken) (low : PlacedTerm) (passed_3 : SeenToken) (name : SeenToken) (passed_1 : SeenToken) (word : SeenToken) (behind : Parts) → built text (take at nodes) ≡ Some parts → parts ≡ PToken passed_10 ∷ POther (PAtom body) ∷ PToken passed_8 ∷ POther (PTerms except) ∷ PTerm high ∷ PToken passed_5 ∷ PTerm low ∷ PToken passed_3 ∷ PToken name ∷ PToken passed_1 ∷ PToken word ∷ behind
    → POther (PAtom whole) ∷ rest ≡ POther (PAtom (made_each_atom parts)) ∷ drop 11 parts → IsEachAtom text nodes at at_word at_name at_low at_high at_except at_body whole
each_atom_end text nodes at at_word at_name at_low at_high at_except at_body known_word known_name known_low known_high known_except known_body whole parts rest passed_10 body passed_8 except high passed_5 low passed_3 name passed_1 word behind before shape q =
    let made : whole ≡ made_each_atom parts = cc in
    record {
      of_low = low;
      of_high = high;
      of_except = except;
      of_body = body;
      at_low = at_part text nodes at 6 at_low parts (PToken passed_3 ∷ PToken name ∷ PToken passed_1 ∷ PToken word ∷ behind) (PTerm low) known_low before (ap (λ (ps : Parts). drop 6 ps) shape);
      at_high = at_part text nodes at 4 at_high parts (PToken passed_5 ∷ PTerm low ∷ PToken passed_3 ∷ PToken name ∷ PToken passed_1 ∷ PToken word ∷ behind) (PTerm high) known_high before (ap (λ (ps : Parts). drop 4 ps) shape);
      at_except = at_part text nodes at 3 at_except parts (PTerm high ∷ PToken passed_5 ∷ PTerm low ∷ PToken passed_3 ∷ PToken name ∷ PToken passed_1 ∷ PToken word ∷ behind) (POther (PTerms except)) known_except before (ap (λ (ps : Parts). drop 3 ps) shape);
      at_body = at_part text nodes at 1 at_body parts (PToken passed_8 ∷ POther (PTerms except) ∷ PTerm high ∷ PToken passed_5 ∷ PTerm low ∷ PToken passed_3 ∷ PToken name ∷ PToken passed_1 ∷ PToken word ∷ behind) (POther (PAtom body)) known_body before (ap (λ (ps : Parts). drop 1 ps) shape);
      made = made ∙ ap (λ (ps : Parts). made_each_atom ps) shape
          ∙ ap (λ (x : SeenToken). (atom.Each x name low high except body)) (sym (known_word.same parts (behind) word before (ap (λ (ps : Parts). drop 10 ps) shape)))
          ∙ ap (λ (x : SeenToken). (atom.Each at_word x low high except body)) (sym (known_name.same parts (PToken passed_1 ∷ PToken word ∷ behind) name before (ap (λ (ps : Parts). drop 8 ps) shape)));
    }

pub each_atom_is : (text : List ℕ) (nodes : List Node) (at : ℕ) (at_word : SeenToken) (at_name : SeenToken) (at_low : ℕ) (at_high : ℕ) (at_except : ℕ) (at_body : ℕ) → IsMadeBy nodes at act.ACT_EACH_ATOM → IsTokenOf text nodes at 10 at_word → IsTokenOf text nodes at 8 at_name → IsChild text nodes at 6 at_low → IsChild text nodes at 4 at_high → IsChild text nodes at 3 at_except → IsChild text nodes at 1 at_body
    → (whole : Atom) → IsPartAt text nodes at (POther (PAtom whole)) → IsEachAtom text nodes at at_word at_name at_low at_high at_except at_body whole
each_atom_is text nodes at at_word at_name at_low at_high at_except at_body by known_word known_name known_low known_high known_except known_body whole is =
    let o = opened text nodes at (Made by.raw by.from) (POther (PAtom whole)) by.node is in
    let a = accepted text act.ACT_EACH_ATOM o.parts (POther (PAtom whole) ∷ o.rest) (same_act text by.raw act.ACT_EACH_ATOM o.parts by.number ∙ o.done) in
    go o.parts o.rest o.before a.0 a.1
  where
    go : (parts rest : Parts) → built text (take at nodes) ≡ Some parts → has_tops (is_token ∷ is_atom ∷ is_token ∷ is_terms ∷ is_term ∷ is_token ∷ is_term ∷ is_token ∷ is_token ∷ is_token ∷ is_token ∷ []) parts ≡ true → POther (PAtom whole) ∷ rest ≡ POther (PAtom (made_each_atom parts)) ∷ drop 11 parts → IsEachAtom text nodes at at_word at_name at_low at_high at_except at_body whole
    go parts rest before h q =
        top_token (is_atom ∷ is_token ∷ is_terms ∷ is_term ∷ is_token ∷ is_term ∷ is_token ∷ is_token ∷ is_token ∷ is_token ∷ []) parts h (λ x0 r0 e0 h0.
        top_atom (is_token ∷ is_terms ∷ is_term ∷ is_token ∷ is_term ∷ is_token ∷ is_token ∷ is_token ∷ is_token ∷ []) r0 h0 (λ x1 r1 e1 h1.
        top_token (is_terms ∷ is_term ∷ is_token ∷ is_term ∷ is_token ∷ is_token ∷ is_token ∷ is_token ∷ []) r1 h1 (λ x2 r2 e2 h2.
        top_terms (is_term ∷ is_token ∷ is_term ∷ is_token ∷ is_token ∷ is_token ∷ is_token ∷ []) r2 h2 (λ x3 r3 e3 h3.
        top_term (is_token ∷ is_term ∷ is_token ∷ is_token ∷ is_token ∷ is_token ∷ []) r3 h3 (λ x4 r4 e4 h4.
        top_token (is_term ∷ is_token ∷ is_token ∷ is_token ∷ is_token ∷ []) r4 h4 (λ x5 r5 e5 h5.
        top_term (is_token ∷ is_token ∷ is_token ∷ is_token ∷ []) r5 h5 (λ x6 r6 e6 h6.
        top_token (is_token ∷ is_token ∷ is_token ∷ []) r6 h6 (λ x7 r7 e7 h7.
        top_token (is_token ∷ is_token ∷ []) r7 h7 (λ x8 r8 e8 h8.
        top_token (is_token ∷ []) r8 h8 (λ x9 r9 e9 h9.
        top_token ([]) r9 h9 (λ x10 r10 e10 h10.
        each_atom_end text nodes at at_word at_name at_low at_high at_except at_body known_word known_name known_low known_high known_except known_body whole parts rest x0 x1 x2 x3 x4 x5 x6 x7 x8 x9 x10 r10 before (e0 ∙ ap (λ (ps : Parts). PToken x0 ∷ ps) (e1 ∙ ap (λ (ps : Parts). POther (PAtom x1) ∷ ps) (e2 ∙ ap (λ (ps : Parts). PToken x2 ∷ ps) (e3 ∙ ap (λ (ps : Parts). POther (PTerms x3) ∷ ps) (e4 ∙ ap (λ (ps : Parts). PTerm x4 ∷ ps) (e5 ∙ ap (λ (ps : Parts). PToken x5 ∷ ps) (e6 ∙ ap (λ (ps : Parts). PTerm x6 ∷ ps) (e7 ∙ ap (λ (ps : Parts). PToken x7 ∷ ps) (e8 ∙ ap (λ (ps : Parts). PToken x8 ∷ ps) (e9 ∙ ap (λ (ps : Parts). PToken x9 ∷ ps) e10)))))))))) q)))))))))))

inst_atom_end : (text : List ℕ) (nodes : List Node) (at : ℕ) (at_inst : ℕ) → IsChild text nodes at 0 at_inst
    → (whole : Atom) (parts rest : Parts) (inst : Inst) (behind : Parts) → built text (take at nodes) ≡ Some parts → parts ≡ POther (PInst inst) ∷ behind
    → POther (PAtom whole) ∷ rest ≡ POther (PAtom (made_inst_atom parts)) ∷ drop 1 parts → IsInstAtom text nodes at at_inst whole
inst_atom_end text nodes at at_inst known_inst whole parts rest inst behind before shape q =
    let made : whole ≡ made_inst_atom parts = cc in
    record {
      of_inst = inst;
      at_inst = at_part text nodes at 0 at_inst parts (behind) (POther (PInst inst)) known_inst before (ap (λ (ps : Parts). drop 0 ps) shape);
      made = made ∙ ap (λ (ps : Parts). made_inst_atom ps) shape;
    }

pub inst_atom_is : (text : List ℕ) (nodes : List Node) (at : ℕ) (at_inst : ℕ) → IsMadeBy nodes at act.ACT_INST_ATOM → IsChild text nodes at 0 at_inst
    → (whole : Atom) → IsPartAt text nodes at (POther (PAtom whole)) → IsInstAtom text nodes at at_inst whole
inst_atom_is text nodes at at_inst by known_inst whole is =
    let o = opened text nodes at (Made by.raw by.from) (POther (PAtom whole)) by.node is in
    let a = accepted text act.ACT_INST_ATOM o.parts (POther (PAtom whole) ∷ o.rest) (same_act text by.raw act.ACT_INST_ATOM o.parts by.number ∙ o.done) in
    go o.parts o.rest o.before a.0 a.1
  where
    go : (parts rest : Parts) → built text (take at nodes) ≡ Some parts → has_tops (is_inst ∷ []) parts ≡ true → POther (PAtom whole) ∷ rest ≡ POther (PAtom (made_inst_atom parts)) ∷ drop 1 parts → IsInstAtom text nodes at at_inst whole
    go parts rest before h q =
        top_inst ([]) parts h (λ x0 r0 e0 h0.
        inst_atom_end text nodes at at_inst known_inst whole parts rest x0 r0 before e0 q)
