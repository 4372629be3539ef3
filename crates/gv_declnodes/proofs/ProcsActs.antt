-- Procs nodes by the acts that make them. Made by tools/script_nodes.py from script.grammar: edit that.
use Rattle.std.proofs.Common.{◌≡◌, ℕ, true, List, [], ◌∷◌, ◌++◌, Option, Some, refl, sym, ap, ◌∙◌}
use Rattle.std.specs.Prelude.{drop, take}
use Rattle.gv_grammar.specs.Building.{has_tops}
use Rattle.gv_termread.specs.declared.generated.term_acts.Part.TheVariants.{Token as PToken, Other as POther}
use Rattle.gv_scriptsyntax.specs.declared.generated.script_acts.ScriptPart.TheVariants.{Block as PBlock, Cuts as PCuts, Items as PItems, MaybeInst as PMaybeInst, Names as PNames, Pars as PPars, Procs as PProcs}
use Rattle.gv_scriptsyntax.specs.declared.tree.Block.{Block}
use Rattle.gv_scriptsyntax.specs.declared.tree.Cut.{Cut}
use Rattle.gv_scriptsyntax.specs.declared.tree.Inst.{Inst}
use Rattle.gv_scriptsyntax.specs.declared.tree.Item.{Item}
use Rattle.gv_scriptsyntax.specs.declared.tree.Par.{Par}
use Rattle.gv_scriptsyntax.specs.declared.tree.Proc.{Proc}
use Rattle.gv_termread.specs.declared.token.SeenToken.{SeenToken}
use Rattle.gv_scriptsyntax.specs.declared.node.Node.{Node}
use Rattle.gv_scriptsyntax.specs.declared.node.Node.TheVariants.{Made}
use Rattle.gv_scriptsyntax.specs.declared.generated.script_table.TheConstants as act
use Rattle.gv_termread.specs.TermActs.{is_token}
use Rattle.gv_scriptsyntax.specs.ScriptActs.{is_block, is_cuts, is_items, is_maybe_inst, is_names, is_pars, is_procs, made_no_procs, made_proc}
use Rattle.gv_scriptsyntax.specs.Nodes.{Parts, built, IsPartAt}
use Rattle.gv_scriptnodes.specs.Places.{IsChild, IsTokenOf}
use Rattle.gv_scriptnodes.proofs.Opened.{opened}
use Rattle.gv_scriptnodes.proofs.Tops.{accepted, top_block, top_cuts, top_items, top_maybe_inst, top_names, top_pars, top_procs, top_token}
use Rattle.gv_certnodes.specs.Places.{IsMadeBy}
use Rattle.gv_declnodes.specs.Procs.{IsProc}
use Rattle.gv_certnodes.proofs.Opened.{at_part, same_act}

no_procs_end : (text : List ℕ) (nodes : List Node) (at : ℕ)
    → (whole : List Proc) (parts rest : Parts) (behind : Parts) → built text (take at nodes) ≡ Some parts → parts ≡ behind
    → POther (PProcs whole) ∷ rest ≡ POther (PProcs (made_no_procs parts)) ∷ drop 0 parts → whole ≡ []
no_procs_end text nodes at whole parts rest behind before shape q =
    let made : whole ≡ made_no_procs parts = cc in
    made ∙ ap (λ (ps : Parts). made_no_procs ps) shape

pub no_procs_is : (text : List ℕ) (nodes : List Node) (at : ℕ) → IsMadeBy nodes at act.ACT_NO_PROCS
    → (whole : List Proc) → IsPartAt text nodes at (POther (PProcs whole)) → whole ≡ []
no_procs_is text nodes at by whole is =
    let o = opened text nodes at (Made by.raw by.from) (POther (PProcs whole)) by.node is in
    let a = accepted text act.ACT_NO_PROCS o.parts (POther (PProcs whole) ∷ o.rest) (same_act text by.raw act.ACT_NO_PROCS o.parts by.number ∙ o.done) in
    go o.parts o.rest o.before a.0 a.1
  where
    go : (parts rest : Parts) → built text (take at nodes) ≡ Some parts → has_tops ([]) parts ≡ true → POther (PProcs whole) ∷ rest ≡ POther (PProcs (made_no_procs parts)) ∷ drop 0 parts → whole ≡ []
    go parts rest before h q =
        no_procs_end text nodes at whole parts rest parts before refl q

proc_end : (text : List ℕ) (nodes : List Node) (at : ℕ) (at_procs : ℕ) (at_name : SeenToken) (at_own : ℕ) (at_vars : ℕ) (at_pre : ℕ) (at_results : ℕ) (at_post : ℕ) (at_block : ℕ) (at_cuts : ℕ) → IsChild text nodes at 12 at_procs → IsTokenOf text nodes at 10 at_name → IsChild text nodes at 9 at_own → IsChild text nodes at 7 at_vars → IsChild text nodes at 5 at_pre → IsChild text nodes at 3 at_results → IsChild text nodes at 2 at_post → IsChild text nodes at 1 at_block → IsChild text nodes at 0 at_cuts
    → (whole : List Proc) (parts rest : Parts) (cuts : List Cut) (block : Block) (post : List Item) (results : List SeenToken) (passed_8 : SeenToken) (pre : List Item) (passed_6 : SeenToken) (vars : List Par) (passed_4 : SeenToken) (own : Option Inst) (name : SeenToken) (passed_1 : SeenToken) (procs : List Proc) (behind : Parts) → built text (take at nodes) ≡ Some parts → parts ≡ POther (PCuts cuts) ∷ POther (PBlock block) ∷ POther (PItems post) ∷ POther (PNames results) ∷ PToken passed_8 ∷ POther (PItems pre) ∷ PToken passed_6 ∷ POther (PPars vars) ∷ PToken passed_4 ∷ POther (PMaybeInst own) ∷ PToken name ∷ PToken passed_1 ∷ POther (PProcs procs) ∷ behind
    → POther (PProcs whole) ∷ rest ≡ POther (PProcs (made_proc parts)) ∷ drop 13 parts → IsProc text nodes at at_procs at_name at_own at_vars at_pre at_results at_post at_block at_cuts whole
proc_end text nodes at at_procs at_name at_own at_vars at_pre at_results at_post at_block at_cuts known_procs known_name known_own known_vars known_pre known_results known_post known_block known_cuts whole parts rest cuts block post results passed_8 pre passed_6 vars passed_4 own name passed_1 procs behind before shape q =
    let made : whole ≡ made_proc parts = cc in
    record {
      of_procs = procs;
      of_own = own;
      of_vars = vars;
      of_pre = pre;
      of_results = results;
      of_post = post;
      of_block = block;
      of_cuts = cuts;
      at_procs = at_part text nodes at 12 at_procs parts (behind) (POther (PProcs procs)) known_procs before (ap (λ (ps : Parts). drop 12 ps) shape);
      at_own = at_part text nodes at 9 at_own parts (PToken name ∷ PToken passed_1 ∷ POther (PProcs procs) ∷ behind) (POther (PMaybeInst own)) known_own before (ap (λ (ps : Parts). drop 9 ps) shape);
      at_vars = at_part text nodes at 7 at_vars parts (PToken passed_4 ∷ POther (PMaybeInst own) ∷ PToken name ∷ PToken passed_1 ∷ POther (PProcs procs) ∷ behind) (POther (PPars vars)) known_vars before (ap (λ (ps : Parts). drop 7 ps) shape);
      at_pre = at_part text nodes at 5 at_pre parts (PToken passed_6 ∷ POther (PPars vars) ∷ PToken passed_4 ∷ POther (PMaybeInst own) ∷ PToken name ∷ PToken passed_1 ∷ POther (PProcs procs) ∷ behind) (POther (PItems pre)) known_pre before (ap (λ (ps : Parts). drop 5 ps) shape);
      at_results = at_part text nodes at 3 at_results parts (PToken passed_8 ∷ POther (PItems pre) ∷ PToken passed_6 ∷ POther (PPars vars) ∷ PToken passed_4 ∷ POther (PMaybeInst own) ∷ PToken name ∷ PToken passed_1 ∷ POther (PProcs procs) ∷ behind) (POther (PNames results)) known_results before (ap (λ (ps : Parts). drop 3 ps) shape);
      at_post = at_part text nodes at 2 at_post parts (POther (PNames results) ∷ PToken passed_8 ∷ POther (PItems pre) ∷ PToken passed_6 ∷ POther (PPars vars) ∷ PToken passed_4 ∷ POther (PMaybeInst own) ∷ PToken name ∷ PToken passed_1 ∷ POther (PProcs procs) ∷ behind) (POther (PItems post)) known_post before (ap (λ (ps : Parts). drop 2 ps) shape);
      at_block = at_part text nodes at 1 at_block parts (POther (PItems post) ∷ POther (PNames results) ∷ PToken passed_8 ∷ POther (PItems pre) ∷ PToken passed_6 ∷ POther (PPars vars) ∷ PToken passed_4 ∷ POther (PMaybeInst own) ∷ PToken name ∷ PToken passed_1 ∷ POther (PProcs procs) ∷ behind) (POther (PBlock block)) known_block before (ap (λ (ps : Parts). drop 1 ps) shape);
      at_cuts = at_part text nodes at 0 at_cuts parts (POther (PBlock block) ∷ POther (PItems post) ∷ POther (PNames results) ∷ PToken passed_8 ∷ POther (PItems pre) ∷ PToken passed_6 ∷ POther (PPars vars) ∷ PToken passed_4 ∷ POther (PMaybeInst own) ∷ PToken name ∷ PToken passed_1 ∷ POther (PProcs procs) ∷ behind) (POther (PCuts cuts)) known_cuts before (ap (λ (ps : Parts). drop 0 ps) shape);
      made = made ∙ ap (λ (ps : Parts). made_proc ps) shape
          ∙ ap (λ (x : SeenToken). let y : List Proc = (procs ++ (record { name = x; own = own; vars = vars; pre = pre; results = results; post = post; block = block; cuts = cuts }) ∷ []) in y) (sym (known_name.same parts (PToken passed_1 ∷ POther (PProcs procs) ∷ behind) name before (ap (λ (ps : Parts). drop 10 ps) shape)));
    }

pub proc_is : (text : List ℕ) (nodes : List Node) (at : ℕ) (at_procs : ℕ) (at_name : SeenToken) (at_own : ℕ) (at_vars : ℕ) (at_pre : ℕ) (at_results : ℕ) (at_post : ℕ) (at_block : ℕ) (at_cuts : ℕ) → IsMadeBy nodes at act.ACT_PROC → IsChild text nodes at 12 at_procs → IsTokenOf text nodes at 10 at_name → IsChild text nodes at 9 at_own → IsChild text nodes at 7 at_vars → IsChild text nodes at 5 at_pre → IsChild text nodes at 3 at_results → IsChild text nodes at 2 at_post → IsChild text nodes at 1 at_block → IsChild text nodes at 0 at_cuts
    → (whole : List Proc) → IsPartAt text nodes at (POther (PProcs whole)) → IsProc text nodes at at_procs at_name at_own at_vars at_pre at_results at_post at_block at_cuts whole
proc_is text nodes at at_procs at_name at_own at_vars at_pre at_results at_post at_block at_cuts by known_procs known_name known_own known_vars known_pre known_results known_post known_block known_cuts whole is =
    let o = opened text nodes at (Made by.raw by.from) (POther (PProcs whole)) by.node is in
    let a = accepted text act.ACT_PROC o.parts (POther (PProcs whole) ∷ o.rest) (same_act text by.raw act.ACT_PROC o.parts by.number ∙ o.done) in
    go o.parts o.rest o.before a.0 a.1
  where
    go : (parts rest : Parts) → built text (take at nodes) ≡ Some parts → has_tops (is_cuts ∷ is_block ∷ is_items ∷ is_names ∷ is_token ∷ is_items ∷ is_token ∷ is_pars ∷ is_token ∷ is_maybe_inst ∷ is_token ∷ is_token ∷ is_procs ∷ []) parts ≡ true → POther (PProcs whole) ∷ rest ≡ POther (PProcs (made_proc parts)) ∷ drop 13 parts → IsProc text nodes at at_procs at_name at_own at_vars at_pre at_results at_post at_block at_cuts whole
    go parts rest before h q =
        top_cuts (is_block ∷ is_items ∷ is_names ∷ is_token ∷ is_items ∷ is_token ∷ is_pars ∷ is_token ∷ is_maybe_inst ∷ is_token ∷ is_token ∷ is_procs ∷ []) parts h (λ x0 r0 e0 h0.
        top_block (is_items ∷ is_names ∷ is_token ∷ is_items ∷ is_token ∷ is_pars ∷ is_token ∷ is_maybe_inst ∷ is_token ∷ is_token ∷ is_procs ∷ []) r0 h0 (λ x1 r1 e1 h1.
        top_items (is_names ∷ is_token ∷ is_items ∷ is_token ∷ is_pars ∷ is_token ∷ is_maybe_inst ∷ is_token ∷ is_token ∷ is_procs ∷ []) r1 h1 (λ x2 r2 e2 h2.
        top_names (is_token ∷ is_items ∷ is_token ∷ is_pars ∷ is_token ∷ is_maybe_inst ∷ is_token ∷ is_token ∷ is_procs ∷ []) r2 h2 (λ x3 r3 e3 h3.
        top_token (is_items ∷ is_token ∷ is_pars ∷ is_token ∷ is_maybe_inst ∷ is_token ∷ is_token ∷ is_procs ∷ []) r3 h3 (λ x4 r4 e4 h4.
        top_items (is_token ∷ is_pars ∷ is_token ∷ is_maybe_inst ∷ is_token ∷ is_token ∷ is_procs ∷ []) r4 h4 (λ x5 r5 e5 h5.
        top_token (is_pars ∷ is_token ∷ is_maybe_inst ∷ is_token ∷ is_token ∷ is_procs ∷ []) r5 h5 (λ x6 r6 e6 h6.
        top_pars (is_token ∷ is_maybe_inst ∷ is_token ∷ is_token ∷ is_procs ∷ []) r6 h6 (λ x7 r7 e7 h7.
        top_token (is_maybe_inst ∷ is_token ∷ is_token ∷ is_procs ∷ []) r7 h7 (λ x8 r8 e8 h8.
        top_maybe_inst (is_token ∷ is_token ∷ is_procs ∷ []) r8 h8 (λ x9 r9 e9 h9.
        top_token (is_token ∷ is_procs ∷ []) r9 h9 (λ x10 r10 e10 h10.
        top_token (is_procs ∷ []) r10 h10 (λ x11 r11 e11 h11.
        top_procs ([]) r11 h11 (λ x12 r12 e12 h12.
        proc_end text nodes at at_procs at_name at_own at_vars at_pre at_results at_post at_block at_cuts known_procs known_name known_own known_vars known_pre known_results known_post known_block known_cuts whole parts rest x0 x1 x2 x3 x4 x5 x6 x7 x8 x9 x10 x11 x12 r12 before (e0 ∙ ap (λ (ps : Parts). POther (PCuts x0) ∷ ps) (e1 ∙ ap (λ (ps : Parts). POther (PBlock x1) ∷ ps) (e2 ∙ ap (λ (ps : Parts). POther (PItems x2) ∷ ps) (e3 ∙ ap (λ (ps : Parts). POther (PNames x3) ∷ ps) (e4 ∙ ap (λ (ps : Parts). PToken x4 ∷ ps) (e5 ∙ ap (λ (ps : Parts). POther (PItems x5) ∷ ps) (e6 ∙ ap (λ (ps : Parts). PToken x6 ∷ ps) (e7 ∙ ap (λ (ps : Parts). POther (PPars x7) ∷ ps) (e8 ∙ ap (λ (ps : Parts). PToken x8 ∷ ps) (e9 ∙ ap (λ (ps : Parts). POther (PMaybeInst x9) ∷ ps) (e10 ∙ ap (λ (ps : Parts). PToken x10 ∷ ps) (e11 ∙ ap (λ (ps : Parts). PToken x11 ∷ ps) e12)))))))))))) q)))))))))))))
