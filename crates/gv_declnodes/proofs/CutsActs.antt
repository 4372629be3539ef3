-- Cuts nodes by the acts that make them. Made by tools/script_nodes.py from script.grammar: edit that.
use Rattle.std.proofs.Common.{◌≡◌, ℕ, true, List, [], ◌∷◌, ◌++◌, Some, refl, sym, ap, ◌∙◌}
use Rattle.std.specs.Prelude.{drop, take}
use Rattle.gv_grammar.specs.Building.{has_tops}
use Rattle.gv_termread.specs.declared.generated.term_acts.Part.TheVariants.{Token as PToken, Other as POther}
use Rattle.gv_scriptsyntax.specs.declared.generated.script_acts.ScriptPart.TheVariants.{Block as PBlock, Cuts as PCuts, Items as PItems, Names as PNames, Pars as PPars}
use Rattle.gv_scriptsyntax.specs.declared.tree.Block.{Block}
use Rattle.gv_scriptsyntax.specs.declared.tree.Cut.{Cut}
use Rattle.gv_scriptsyntax.specs.declared.tree.Item.{Item}
use Rattle.gv_scriptsyntax.specs.declared.tree.Par.{Par}
use Rattle.gv_termread.specs.declared.token.SeenToken.{SeenToken}
use Rattle.gv_scriptsyntax.specs.declared.node.Node.{Node}
use Rattle.gv_scriptsyntax.specs.declared.node.Node.TheVariants.{Made}
use Rattle.gv_scriptsyntax.specs.declared.generated.script_table.TheConstants as act
use Rattle.gv_termread.specs.TermActs.{is_token}
use Rattle.gv_scriptsyntax.specs.ScriptActs.{is_block, is_cuts, is_items, is_names, is_pars, made_cut, made_no_cuts}
use Rattle.gv_scriptsyntax.specs.Nodes.{Parts, built, IsPartAt}
use Rattle.gv_scriptnodes.specs.Places.{IsChild, IsTokenOf}
use Rattle.gv_scriptnodes.proofs.Opened.{opened}
use Rattle.gv_scriptnodes.proofs.Tops.{accepted, top_block, top_cuts, top_items, top_names, top_pars, top_token}
use Rattle.gv_certnodes.specs.Places.{IsMadeBy}
use Rattle.gv_declnodes.specs.Cuts.{IsCut}
use Rattle.gv_certnodes.proofs.Opened.{at_part, same_act}

no_cuts_end : (text : List ℕ) (nodes : List Node) (at : ℕ)
    → (whole : List Cut) (parts rest : Parts) (behind : Parts) → built text (take at nodes) ≡ Some parts → parts ≡ behind
    → POther (PCuts whole) ∷ rest ≡ POther (PCuts (made_no_cuts parts)) ∷ drop 0 parts → whole ≡ []
no_cuts_end text nodes at whole parts rest behind before shape q =
    let made : whole ≡ made_no_cuts parts = cc in
    made ∙ ap (λ (ps : Parts). made_no_cuts ps) shape

pub no_cuts_is : (text : List ℕ) (nodes : List Node) (at : ℕ) → IsMadeBy nodes at act.ACT_NO_CUTS
    → (whole : List Cut) → IsPartAt text nodes at (POther (PCuts whole)) → whole ≡ []
no_cuts_is text nodes at by whole is =
    let o = opened text nodes at (Made by.raw by.from) (POther (PCuts whole)) by.node is in
    let a = accepted text act.ACT_NO_CUTS o.parts (POther (PCuts whole) ∷ o.rest) (same_act text by.raw act.ACT_NO_CUTS o.parts by.number ∙ o.done) in
    go o.parts o.rest o.before a.0 a.1
  where
    go : (parts rest : Parts) → built text (take at nodes) ≡ Some parts → has_tops ([]) parts ≡ true → POther (PCuts whole) ∷ rest ≡ POther (PCuts (made_no_cuts parts)) ∷ drop 0 parts → whole ≡ []
    go parts rest before h q =
        no_cuts_end text nodes at whole parts rest parts before refl q

cut_end : (text : List ℕ) (nodes : List Node) (at : ℕ) (at_cuts : ℕ) (at_name : SeenToken) (at_number : SeenToken) (at_mode : SeenToken) (at_locals : ℕ) (at_vars : ℕ) (at_items : ℕ) (at_block : ℕ) → IsChild text nodes at 11 at_cuts → IsTokenOf text nodes at 9 at_name → IsTokenOf text nodes at 7 at_number → IsTokenOf text nodes at 6 at_mode → IsChild text nodes at 4 at_locals → IsChild text nodes at 2 at_vars → IsChild text nodes at 1 at_items → IsChild text nodes at 0 at_block
    → (whole : List Cut) (parts rest : Parts) (block : Block) (items : List Item) (vars : List Par) (passed_8 : SeenToken) (locals : List SeenToken) (passed_6 : SeenToken) (mode : SeenToken) (number : SeenToken) (passed_3 : SeenToken) (name : SeenToken) (passed_1 : SeenToken) (cuts : List Cut) (behind : Parts) → built text (take at nodes) ≡ Some parts → parts ≡ POther (PBlock block) ∷ POther (PItems items) ∷ POther (PPars vars) ∷ PToken passed_8 ∷ POther (PNames locals) ∷ PToken passed_6 ∷ PToken mode ∷ PToken number ∷ PToken passed_3 ∷ PToken name ∷ PToken passed_1 ∷ POther (PCuts cuts) ∷ behind
    → POther (PCuts whole) ∷ rest ≡ POther (PCuts (made_cut parts)) ∷ drop 12 parts → IsCut text nodes at at_cuts at_name at_number at_mode at_locals at_vars at_items at_block whole
cut_end text nodes at at_cuts at_name at_number at_mode at_locals at_vars at_items at_block known_cuts known_name known_number known_mode known_locals known_vars known_items known_block whole parts rest block items vars passed_8 locals passed_6 mode number passed_3 name passed_1 cuts behind before shape q =
    let made : whole ≡ made_cut parts = cc in
    record {
      of_cuts = cuts;
      of_locals = locals;
      of_vars = vars;
      of_items = items;
      of_block = block;
      at_cuts = at_part text nodes at 11 at_cuts parts (behind) (POther (PCuts cuts)) known_cuts before (ap (λ (ps : Parts). drop 11 ps) shape);
      at_locals = at_part text nodes at 4 at_locals parts (PToken passed_6 ∷ PToken mode ∷ PToken number ∷ PToken passed_3 ∷ PToken name ∷ PToken passed_1 ∷ POther (PCuts cuts) ∷ behind) (POther (PNames locals)) known_locals before (ap (λ (ps : Parts). drop 4 ps) shape);
      at_vars = at_part text nodes at 2 at_vars parts (PToken passed_8 ∷ POther (PNames locals) ∷ PToken passed_6 ∷ PToken mode ∷ PToken number ∷ PToken passed_3 ∷ PToken name ∷ PToken passed_1 ∷ POther (PCuts cuts) ∷ behind) (POther (PPars vars)) known_vars before (ap (λ (ps : Parts). drop 2 ps) shape);
      at_items = at_part text nodes at 1 at_items parts (POther (PPars vars) ∷ PToken passed_8 ∷ POther (PNames locals) ∷ PToken passed_6 ∷ PToken mode ∷ PToken number ∷ PToken passed_3 ∷ PToken name ∷ PToken passed_1 ∷ POther (PCuts cuts) ∷ behind) (POther (PItems items)) known_items before (ap (λ (ps : Parts). drop 1 ps) shape);
      at_block = at_part text nodes at 0 at_block parts (POther (PItems items) ∷ POther (PPars vars) ∷ PToken passed_8 ∷ POther (PNames locals) ∷ PToken passed_6 ∷ PToken mode ∷ PToken number ∷ PToken passed_3 ∷ PToken name ∷ PToken passed_1 ∷ POther (PCuts cuts) ∷ behind) (POther (PBlock block)) known_block before (ap (λ (ps : Parts). drop 0 ps) shape);
      made = made ∙ ap (λ (ps : Parts). made_cut ps) shape
          ∙ ap (λ (x : SeenToken). let y : List Cut = (cuts ++ (record { name = x; number = number; mode = mode; locals = locals; vars = vars; items = items; block = block }) ∷ []) in y) (sym (known_name.same parts (PToken passed_1 ∷ POther (PCuts cuts) ∷ behind) name before (ap (λ (ps : Parts). drop 9 ps) shape)))
          ∙ ap (λ (x : SeenToken). let y : List Cut = (cuts ++ (record { name = at_name; number = x; mode = mode; locals = locals; vars = vars; items = items; block = block }) ∷ []) in y) (sym (known_number.same parts (PToken passed_3 ∷ PToken name ∷ PToken passed_1 ∷ POther (PCuts cuts) ∷ behind) number before (ap (λ (ps : Parts). drop 7 ps) shape)))
          ∙ ap (λ (x : SeenToken). let y : List Cut = (cuts ++ (record { name = at_name; number = at_number; mode = x; locals = locals; vars = vars; items = items; block = block }) ∷ []) in y) (sym (known_mode.same parts (PToken number ∷ PToken passed_3 ∷ PToken name ∷ PToken passed_1 ∷ POther (PCuts cuts) ∷ behind) mode before (ap (λ (ps : Parts). drop 6 ps) shape)));
    }

pub cut_is : (text : List ℕ) (nodes : List Node) (at : ℕ) (at_cuts : ℕ) (at_name : SeenToken) (at_number : SeenToken) (at_mode : SeenToken) (at_locals : ℕ) (at_vars : ℕ) (at_items : ℕ) (at_block : ℕ) → IsMadeBy nodes at act.ACT_CUT → IsChild text nodes at 11 at_cuts → IsTokenOf text nodes at 9 at_name → IsTokenOf text nodes at 7 at_number → IsTokenOf text nodes at 6 at_mode → IsChild text nodes at 4 at_locals → IsChild text nodes at 2 at_vars → IsChild text nodes at 1 at_items → IsChild text nodes at 0 at_block
    → (whole : List Cut) → IsPartAt text nodes at (POther (PCuts whole)) → IsCut text nodes at at_cuts at_name at_number at_mode at_locals at_vars at_items at_block whole
cut_is text nodes at at_cuts at_name at_number at_mode at_locals at_vars at_items at_block by known_cuts known_name known_number known_mode known_locals known_vars known_items known_block whole is =
    let o = opened text nodes at (Made by.raw by.from) (POther (PCuts whole)) by.node is in
    let a = accepted text act.ACT_CUT o.parts (POther (PCuts whole) ∷ o.rest) (same_act text by.raw act.ACT_CUT o.parts by.number ∙ o.done) in
    go o.parts o.rest o.before a.0 a.1
  where
    go : (parts rest : Parts) → built text (take at nodes) ≡ Some parts → has_tops (is_block ∷ is_items ∷ is_pars ∷ is_token ∷ is_names ∷ is_token ∷ is_token ∷ is_token ∷ is_token ∷ is_token ∷ is_token ∷ is_cuts ∷ []) parts ≡ true → POther (PCuts whole) ∷ rest ≡ POther (PCuts (made_cut parts)) ∷ drop 12 parts → IsCut text nodes at at_cuts at_name at_number at_mode at_locals at_vars at_items at_block whole
    go parts rest before h q =
        top_block (is_items ∷ is_pars ∷ is_token ∷ is_names ∷ is_token ∷ is_token ∷ is_token ∷ is_token ∷ is_token ∷ is_token ∷ is_cuts ∷ []) parts h (λ x0 r0 e0 h0.
        top_items (is_pars ∷ is_token ∷ is_names ∷ is_token ∷ is_token ∷ is_token ∷ is_token ∷ is_token ∷ is_token ∷ is_cuts ∷ []) r0 h0 (λ x1 r1 e1 h1.
        top_pars (is_token ∷ is_names ∷ is_token ∷ is_token ∷ is_token ∷ is_token ∷ is_token ∷ is_token ∷ is_cuts ∷ []) r1 h1 (λ x2 r2 e2 h2.
        top_token (is_names ∷ is_token ∷ is_token ∷ is_token ∷ is_token ∷ is_token ∷ is_token ∷ is_cuts ∷ []) r2 h2 (λ x3 r3 e3 h3.
        top_names (is_token ∷ is_token ∷ is_token ∷ is_token ∷ is_token ∷ is_token ∷ is_cuts ∷ []) r3 h3 (λ x4 r4 e4 h4.
        top_token (is_token ∷ is_token ∷ is_token ∷ is_token ∷ is_token ∷ is_cuts ∷ []) r4 h4 (λ x5 r5 e5 h5.
        top_token (is_token ∷ is_token ∷ is_token ∷ is_token ∷ is_cuts ∷ []) r5 h5 (λ x6 r6 e6 h6.
        top_token (is_token ∷ is_token ∷ is_token ∷ is_cuts ∷ []) r6 h6 (λ x7 r7 e7 h7.
        top_token (is_token ∷ is_token ∷ is_cuts ∷ []) r7 h7 (λ x8 r8 e8 h8.
        top_token (is_token ∷ is_cuts ∷ []) r8 h8 (λ x9 r9 e9 h9.
        top_token (is_cuts ∷ []) r9 h9 (λ x10 r10 e10 h10.
        top_cuts ([]) r10 h10 (λ x11 r11 e11 h11.
        cut_end text nodes at at_cuts at_name at_number at_mode at_locals at_vars at_items at_block known_cuts known_name known_number known_mode known_locals known_vars known_items known_block whole parts rest x0 x1 x2 x3 x4 x5 x6 x7 x8 x9 x10 x11 r11 before (e0 ∙ ap (λ (ps : Parts). POther (PBlock x0) ∷ ps) (e1 ∙ ap (λ (ps : Parts). POther (PItems x1) ∷ ps) (e2 ∙ ap (λ (ps : Parts). POther (PPars x2) ∷ ps) (e3 ∙ ap (λ (ps : Parts). PToken x3 ∷ ps) (e4 ∙ ap (λ (ps : Parts). POther (PNames x4) ∷ ps) (e5 ∙ ap (λ (ps : Parts). PToken x5 ∷ ps) (e6 ∙ ap (λ (ps : Parts). PToken x6 ∷ ps) (e7 ∙ ap (λ (ps : Parts). PToken x7 ∷ ps) (e8 ∙ ap (λ (ps : Parts). PToken x8 ∷ ps) (e9 ∙ ap (λ (ps : Parts). PToken x9 ∷ ps) (e10 ∙ ap (λ (ps : Parts). PToken x10 ∷ ps) e11))))))))))) q))))))))))))
