-- Script nodes by the acts that make them. Made by tools/script_nodes.py from script.grammar: edit that.
use Rattle.std.proofs.Common.{◌≡◌, ℕ, true, List, [], ◌∷◌, Some, sym, ap, ◌∙◌}
use Rattle.std.specs.Prelude.{drop, take}
use Rattle.gv_grammar.specs.Building.{has_tops}
use Rattle.gv_termread.specs.declared.generated.term_acts.Part.TheVariants.{Token as PToken, Other as POther}
use Rattle.gv_scriptsyntax.specs.declared.generated.script_acts.ScriptPart.TheVariants.{Block as PBlock, Books as PBooks, Cuts as PCuts, Ops as POps, Preds as PPreds, Procs as PProcs, Script as PScript}
use Rattle.gv_scriptsyntax.specs.declared.tree.Block.{Block}
use Rattle.gv_scriptsyntax.specs.declared.tree.Book.{Book}
use Rattle.gv_scriptsyntax.specs.declared.tree.Cut.{Cut}
use Rattle.gv_scriptsyntax.specs.declared.tree.Op.{Op}
use Rattle.gv_scriptsyntax.specs.declared.tree.Pred.{Pred}
use Rattle.gv_scriptsyntax.specs.declared.tree.Proc.{Proc}
use Rattle.gv_scriptsyntax.specs.declared.tree.Script.{Script}
use Rattle.gv_termread.specs.declared.token.SeenToken.{SeenToken}
use Rattle.gv_scriptsyntax.specs.declared.node.Node.{Node}
use Rattle.gv_scriptsyntax.specs.declared.node.Node.TheVariants.{Made}
use Rattle.gv_scriptsyntax.specs.declared.generated.script_table.TheConstants as act
use Rattle.gv_termread.specs.TermActs.{is_token}
use Rattle.gv_scriptsyntax.specs.ScriptActs.{is_block, is_books, is_cuts, is_ops, is_preds, is_procs, made_script}
use Rattle.gv_scriptsyntax.specs.Nodes.{Parts, built, IsPartAt}
use Rattle.gv_scriptnodes.specs.Places.{IsChild, IsTokenOf}
use Rattle.gv_scriptnodes.proofs.Opened.{opened}
use Rattle.gv_scriptnodes.proofs.Tops.{accepted, top_block, top_books, top_cuts, top_ops, top_preds, top_procs, top_token}
use Rattle.gv_certnodes.specs.Places.{IsMadeBy}
use Rattle.gv_declnodes.specs.Script.{IsScript}
use Rattle.gv_certnodes.proofs.Opened.{at_part, same_act}

script_end : (text : List ℕ) (nodes : List Node) (at : ℕ) (at_books : ℕ) (at_preds : ℕ) (at_crash_word : SeenToken) (at_crash : SeenToken) (at_root_word : SeenToken) (at_root : SeenToken) (at_init : ℕ) (at_recover : ℕ) (at_cuts : ℕ) (at_ops : ℕ) (at_procs : ℕ) → IsChild text nodes at 14 at_books → IsChild text nodes at 13 at_preds → IsTokenOf text nodes at 12 at_crash_word → IsTokenOf text nodes at 11 at_crash → IsTokenOf text nodes at 9 at_root_word → IsTokenOf text nodes at 8 at_root → IsChild text nodes at 5 at_init → IsChild text nodes at 3 at_recover → IsChild text nodes at 2 at_cuts → IsChild text nodes at 1 at_ops → IsChild text nodes at 0 at_procs
    → (whole : Script) (parts rest : Parts) (procs : List Proc) (ops : List Op) (cuts : List Cut) (recover : Block) (passed_10 : SeenToken) (init : Block) (passed_8 : SeenToken) (passed_7 : SeenToken) (root : SeenToken) (root_word : SeenToken) (passed_4 : SeenToken) (crash : SeenToken) (crash_word : SeenToken) (preds : List Pred) (books : List Book) (behind : Parts) → built text (take at nodes) ≡ Some parts → parts ≡ POther (PProcs procs) ∷ POther (POps ops) ∷ POther (PCuts cuts) ∷ POther (PBlock recover) ∷ PToken passed_10 ∷ POther (PBlock init) ∷ PToken passed_8 ∷ PToken passed_7 ∷ PToken root ∷ PToken root_word ∷ PToken passed_4 ∷ PToken crash ∷ PToken crash_word ∷ POther (PPreds preds) ∷ POther (PBooks books) ∷ behind
    → POther (PScript whole) ∷ rest ≡ POther (PScript (made_script parts)) ∷ drop 15 parts → IsScript text nodes at at_books at_preds at_crash_word at_crash at_root_word at_root at_init at_recover at_cuts at_ops at_procs whole
script_end text nodes at at_books at_preds at_crash_word at_crash at_root_word at_root at_init at_recover at_cuts at_ops at_procs known_books known_preds known_crash_word known_crash known_root_word known_root known_init known_recover known_cuts known_ops known_procs whole parts rest procs ops cuts recover passed_10 init passed_8 passed_7 root root_word passed_4 crash crash_word preds books behind before shape q =
    let made : whole ≡ made_script parts = cc in
    record {
      of_books = books;
      of_preds = preds;
      of_init = init;
      of_recover = recover;
      of_cuts = cuts;
      of_ops = ops;
      of_procs = procs;
      at_books = at_part text nodes at 14 at_books parts (behind) (POther (PBooks books)) known_books before (ap (λ (ps : Parts). drop 14 ps) shape);
      at_preds = at_part text nodes at 13 at_preds parts (POther (PBooks books) ∷ behind) (POther (PPreds preds)) known_preds before (ap (λ (ps : Parts). drop 13 ps) shape);
      at_init = at_part text nodes at 5 at_init parts (PToken passed_8 ∷ PToken passed_7 ∷ PToken root ∷ PToken root_word ∷ PToken passed_4 ∷ PToken crash ∷ PToken crash_word ∷ POther (PPreds preds) ∷ POther (PBooks books) ∷ behind) (POther (PBlock init)) known_init before (ap (λ (ps : Parts). drop 5 ps) shape);
      at_recover = at_part text nodes at 3 at_recover parts (PToken passed_10 ∷ POther (PBlock init) ∷ PToken passed_8 ∷ PToken passed_7 ∷ PToken root ∷ PToken root_word ∷ PToken passed_4 ∷ PToken crash ∷ PToken crash_word ∷ POther (PPreds preds) ∷ POther (PBooks books) ∷ behind) (POther (PBlock recover)) known_recover before (ap (λ (ps : Parts). drop 3 ps) shape);
      at_cuts = at_part text nodes at 2 at_cuts parts (POther (PBlock recover) ∷ PToken passed_10 ∷ POther (PBlock init) ∷ PToken passed_8 ∷ PToken passed_7 ∷ PToken root ∷ PToken root_word ∷ PToken passed_4 ∷ PToken crash ∷ PToken crash_word ∷ POther (PPreds preds) ∷ POther (PBooks books) ∷ behind) (POther (PCuts cuts)) known_cuts before (ap (λ (ps : Parts). drop 2 ps) shape);
      at_ops = at_part text nodes at 1 at_ops parts (POther (PCuts cuts) ∷ POther (PBlock recover) ∷ PToken passed_10 ∷ POther (PBlock init) ∷ PToken passed_8 ∷ PToken passed_7 ∷ PToken root ∷ PToken root_word ∷ PToken passed_4 ∷ PToken crash ∷ PToken crash_word ∷ POther (PPreds preds) ∷ POther (PBooks books) ∷ behind) (POther (POps ops)) known_ops before (ap (λ (ps : Parts). drop 1 ps) shape);
      at_procs = at_part text nodes at 0 at_procs parts (POther (POps ops) ∷ POther (PCuts cuts) ∷ POther (PBlock recover) ∷ PToken passed_10 ∷ POther (PBlock init) ∷ PToken passed_8 ∷ PToken passed_7 ∷ PToken root ∷ PToken root_word ∷ PToken passed_4 ∷ PToken crash ∷ PToken crash_word ∷ POther (PPreds preds) ∷ POther (PBooks books) ∷ behind) (POther (PProcs procs)) known_procs before (ap (λ (ps : Parts). drop 0 ps) shape);
      made = made ∙ ap (λ (ps : Parts). made_script ps) shape
          ∙ ap (λ (x : SeenToken). let y : Script = (record { books = books; preds = preds; crash_word = x; crash = crash; root_word = root_word; root = root; init = init; recover = recover; cuts = cuts; ops = ops; procs = procs }) in y) (sym (known_crash_word.same parts (POther (PPreds preds) ∷ POther (PBooks books) ∷ behind) crash_word before (ap (λ (ps : Parts). drop 12 ps) shape)))
          ∙ ap (λ (x : SeenToken). let y : Script = (record { books = books; preds = preds; crash_word = at_crash_word; crash = x; root_word = root_word; root = root; init = init; recover = recover; cuts = cuts; ops = ops; procs = procs }) in y) (sym (known_crash.same parts (PToken crash_word ∷ POther (PPreds preds) ∷ POther (PBooks books) ∷ behind) crash before (ap (λ (ps : Parts). drop 11 ps) shape)))
          ∙ ap (λ (x : SeenToken). let y : Script = (record { books = books; preds = preds; crash_word = at_crash_word; crash = at_crash; root_word = x; root = root; init = init; recover = recover; cuts = cuts; ops = ops; procs = procs }) in y) (sym (known_root_word.same parts (PToken passed_4 ∷ PToken crash ∷ PToken crash_word ∷ POther (PPreds preds) ∷ POther (PBooks books) ∷ behind) root_word before (ap (λ (ps : Parts). drop 9 ps) shape)))
          ∙ ap (λ (x : SeenToken). let y : Script = (record { books = books; preds = preds; crash_word = at_crash_word; crash = at_crash; root_word = at_root_word; root = x; init = init; recover = recover; cuts = cuts; ops = ops; procs = procs }) in y) (sym (known_root.same parts (PToken root_word ∷ PToken passed_4 ∷ PToken crash ∷ PToken crash_word ∷ POther (PPreds preds) ∷ POther (PBooks books) ∷ behind) root before (ap (λ (ps : Parts). drop 8 ps) shape)));
    }

pub script_is : (text : List ℕ) (nodes : List Node) (at : ℕ) (at_books : ℕ) (at_preds : ℕ) (at_crash_word : SeenToken) (at_crash : SeenToken) (at_root_word : SeenToken) (at_root : SeenToken) (at_init : ℕ) (at_recover : ℕ) (at_cuts : ℕ) (at_ops : ℕ) (at_procs : ℕ) → IsMadeBy nodes at act.ACT_SCRIPT → IsChild text nodes at 14 at_books → IsChild text nodes at 13 at_preds → IsTokenOf text nodes at 12 at_crash_word → IsTokenOf text nodes at 11 at_crash → IsTokenOf text nodes at 9 at_root_word → IsTokenOf text nodes at 8 at_root → IsChild text nodes at 5 at_init → IsChild text nodes at 3 at_recover → IsChild text nodes at 2 at_cuts → IsChild text nodes at 1 at_ops → IsChild text nodes at 0 at_procs
    → (whole : Script) → IsPartAt text nodes at (POther (PScript whole)) → IsScript text nodes at at_books at_preds at_crash_word at_crash at_root_word at_root at_init at_recover at_cuts at_ops at_procs whole
script_is text nodes at at_books at_preds at_crash_word at_crash at_root_word at_root at_init at_recover at_cuts at_ops at_procs by known_books known_preds known_crash_word known_crash known_root_word known_root known_init known_recover known_cuts known_ops known_procs whole is =
    let o = opened text nodes at (Made by.raw by.from) (POther (PScript whole)) by.node is in
    let a = accepted text act.ACT_SCRIPT o.parts (POther (PScript whole) ∷ o.rest) (same_act text by.raw act.ACT_SCRIPT o.parts by.number ∙ o.done) in
    go o.parts o.rest o.before a.0 a.1
  where
    go : (parts rest : Parts) → built text (take at nodes) ≡ Some parts → has_tops (is_procs ∷ is_ops ∷ is_cuts ∷ is_block ∷ is_token ∷ is_block ∷ is_token ∷ is_token ∷ is_token ∷ is_token ∷ is_token ∷ is_token ∷ is_token ∷ is_preds ∷ is_books ∷ []) parts ≡ true → POther (PScript whole) ∷ rest ≡ POther (PScript (made_script parts)) ∷ drop 15 parts → IsScript text nodes at at_books at_preds at_crash_word at_crash at_root_word at_root at_init at_recover at_cuts at_ops at_procs whole
    go parts rest before h q =
        top_procs (is_ops ∷ is_cuts ∷ is_block ∷ is_token ∷ is_block ∷ is_token ∷ is_token ∷ is_token ∷ is_token ∷ is_token ∷ is_token ∷ is_token ∷ is_preds ∷ is_books ∷ []) parts h (λ x0 r0 e0 h0.
        top_ops (is_cuts ∷ is_block ∷ is_token ∷ is_block ∷ is_token ∷ is_token ∷ is_token ∷ is_token ∷ is_token ∷ is_token ∷ is_token ∷ is_preds ∷ is_books ∷ []) r0 h0 (λ x1 r1 e1 h1.
        top_cuts (is_block ∷ is_token ∷ is_block ∷ is_token ∷ is_token ∷ is_token ∷ is_token ∷ is_token ∷ is_token ∷ is_token ∷ is_preds ∷ is_books ∷ []) r1 h1 (λ x2 r2 e2 h2.
        top_block (is_token ∷ is_block ∷ is_token ∷ is_token ∷ is_token ∷ is_token ∷ is_token ∷ is_token ∷ is_token ∷ is_preds ∷ is_books ∷ []) r2 h2 (λ x3 r3 e3 h3.
        top_token (is_block ∷ is_token ∷ is_token ∷ is_token ∷ is_token ∷ is_token ∷ is_token ∷ is_token ∷ is_preds ∷ is_books ∷ []) r3 h3 (λ x4 r4 e4 h4.
        top_block (is_token ∷ is_token ∷ is_token ∷ is_token ∷ is_token ∷ is_token ∷ is_token ∷ is_preds ∷ is_books ∷ []) r4 h4 (λ x5 r5 e5 h5.
        top_token (is_token ∷ is_token ∷ is_token ∷ is_token ∷ is_token ∷ is_token ∷ is_preds ∷ is_books ∷ []) r5 h5 (λ x6 r6 e6 h6.
        top_token (is_token ∷ is_token ∷ is_token ∷ is_token ∷ is_token ∷ is_preds ∷ is_books ∷ []) r6 h6 (λ x7 r7 e7 h7.
        top_token (is_token ∷ is_token ∷ is_token ∷ is_token ∷ is_preds ∷ is_books ∷ []) r7 h7 (λ x8 r8 e8 h8.
        top_token (is_token ∷ is_token ∷ is_token ∷ is_preds ∷ is_books ∷ []) r8 h8 (λ x9 r9 e9 h9.
        top_token (is_token ∷ is_token ∷ is_preds ∷ is_books ∷ []) r9 h9 (λ x10 r10 e10 h10.
        top_token (is_token ∷ is_preds ∷ is_books ∷ []) r10 h10 (λ x11 r11 e11 h11.
        top_token (is_preds ∷ is_books ∷ []) r11 h11 (λ x12 r12 e12 h12.
        top_preds (is_books ∷ []) r12 h12 (λ x13 r13 e13 h13.
        top_books ([]) r13 h13 (λ x14 r14 e14 h14.
        script_end text nodes at at_books at_preds at_crash_word at_crash at_root_word at_root at_init at_recover at_cuts at_ops at_procs known_books known_preds known_crash_word known_crash known_root_word known_root known_init known_recover known_cuts known_ops known_procs whole parts rest x0 x1 x2 x3 x4 x5 x6 x7 x8 x9 x10 x11 x12 x13 x14 r14 before (e0 ∙ ap (λ (ps : Parts). POther (PProcs x0) ∷ ps) (e1 ∙ ap (λ (ps : Parts). POther (POps x1) ∷ ps) (e2 ∙ ap (λ (ps : Parts). POther (PCuts x2) ∷ ps) (e3 ∙ ap (λ (ps : Parts). POther (PBlock x3) ∷ ps) (e4 ∙ ap (λ (ps : Parts). PToken x4 ∷ ps) (e5 ∙ ap (λ (ps : Parts). POther (PBlock x5) ∷ ps) (e6 ∙ ap (λ (ps : Parts). PToken x6 ∷ ps) (e7 ∙ ap (λ (ps : Parts). PToken x7 ∷ ps) (e8 ∙ ap (λ (ps : Parts). PToken x8 ∷ ps) (e9 ∙ ap (λ (ps : Parts). PToken x9 ∷ ps) (e10 ∙ ap (λ (ps : Parts). PToken x10 ∷ ps) (e11 ∙ ap (λ (ps : Parts). PToken x11 ∷ ps) (e12 ∙ ap (λ (ps : Parts). PToken x12 ∷ ps) (e13 ∙ ap (λ (ps : Parts). POther (PPreds x13) ∷ ps) e14)))))))))))))) q)))))))))))))))
