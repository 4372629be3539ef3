-- Nodes of declarations with blocks, by the acts that make them.
use Rattle.std.proofs.Common.{◌≡◌, ℕ, true, List, [], ◌∷◌, ◌++◌, Option, Some, None, ap, ◌∙◌, arith}
use Rattle.std.specs.Prelude.{drop, take}
use Rattle.gv_grammar.specs.Building.{has_tops}
use Rattle.gv_termread.specs.declared.generated.term_acts.Part.TheVariants.{Token as PToken, Other as POther}
use Rattle.gv_termread.specs.declared.token.SeenToken.{SeenToken}
use Rattle.gv_scriptsyntax.specs.declared.generated.script_acts.ScriptPart.TheVariants.{Block as PBlock, Books as PBooks, Cuts as PCuts, Inst as PInst, Items as PItems, MaybeInst as PMaybeInst, Names as PNames, Ops as POps, Pars as PPars, Preds as PPreds, Procs as PProcs, Script as PScript}
use Rattle.gv_scriptsyntax.specs.declared.generated.script_table.TheConstants.{ACT_NO_OWN, ACT_OWN, ACT_NO_CUTS, ACT_CUT, ACT_NO_OPS, ACT_OP, ACT_NO_PROCS, ACT_PROC, ACT_SCRIPT}
use Rattle.gv_scriptsyntax.specs.declared.tree.Block.{Block}
use Rattle.gv_scriptsyntax.specs.declared.tree.Book.{Book}
use Rattle.gv_scriptsyntax.specs.declared.tree.Cut.{Cut}
use Rattle.gv_scriptsyntax.specs.declared.tree.Inst.{Inst}
use Rattle.gv_scriptsyntax.specs.declared.tree.Item.{Item}
use Rattle.gv_scriptsyntax.specs.declared.tree.Op.{Op}
use Rattle.gv_scriptsyntax.specs.declared.tree.Par.{Par}
use Rattle.gv_scriptsyntax.specs.declared.tree.Pred.{Pred}
use Rattle.gv_scriptsyntax.specs.declared.tree.Proc.{Proc}
use Rattle.gv_scriptsyntax.specs.declared.tree.Script.{Script}
use Rattle.gv_scriptsyntax.specs.declared.node.Node.{Node}
use Rattle.gv_scriptsyntax.specs.Nodes.{Parts, built, IsPartAt}
use Rattle.gv_scriptnodes.specs.Places.{IsChild, IsTokenOf, act_at}
use Rattle.gv_scriptnodes.proofs.Opened.{opened_act, part_at}
use Rattle.gv_termread.specs.TermActs.{is_token}
use Rattle.gv_scriptsyntax.specs.ScriptActs.{is_block, is_books, is_cuts, is_inst, is_items, is_maybe_inst, is_names, is_ops, is_pars, is_preds, is_procs, made_own, made_cut, made_op, made_proc, made_script}
use Rattle.gv_scriptnodes.proofs.Tops.{accepted, same_cuts, same_maybeinst, same_ops, same_procs, same_script, top_block, top_books, top_cuts, top_inst, top_items, top_maybe_inst, top_names, top_ops, top_pars, top_preds, top_procs, top_token}

pub no_own_is : (text : List ℕ) (nodes : List Node) (at : ℕ) → act_at nodes at ≡ ACT_NO_OWN → (whole : Option Inst) → IsPartAt text nodes at (POther (PMaybeInst whole)) → whole ≡ None
no_own_is text nodes at e whole is =
    let o = opened_act text nodes at ACT_NO_OWN (POther (PMaybeInst whole)) e (omega arith) is in
    let a = accepted text ACT_NO_OWN o.parts (POther (PMaybeInst whole) ∷ o.rest) o.done in
    let q : POther (PMaybeInst whole) ∷ o.rest ≡ POther (PMaybeInst None) ∷ o.parts = a.1 in
    same_maybeinst whole None o.rest o.parts q

pub record OwnIs (text : List ℕ) (nodes : List Node) (at : ℕ) (whole : Option Inst) : Type 0 where
  pub inst : Inst
  pub at_inst : (place : ℕ) → IsChild text nodes at 0 place → IsPartAt text nodes place (POther (PInst inst))
  pub made : whole ≡ (Some inst)

own_end : (text : List ℕ) (nodes : List Node) (at : ℕ) (whole : Option Inst) (parts rest : Parts) (x0 : Inst) (x1 : SeenToken) (behind : Parts) → built text (take at nodes) ≡ Some parts → parts ≡ POther (PInst x0) ∷ PToken x1 ∷ behind
    → POther (PMaybeInst whole) ∷ rest ≡ POther (PMaybeInst (made_own parts)) ∷ drop 2 parts → OwnIs text nodes at whole
own_end text nodes at whole parts rest x0 x1 behind before shape q = record {
  inst = x0;
  at_inst = λ place c. part_at text nodes at 0 place parts (PToken x1 ∷ behind) (POther (PInst x0)) c before (ap (λ (ps : Parts). drop 0 ps) shape);
  made = same_maybeinst whole (made_own parts) rest (drop 2 parts) q ∙ ap (λ (ps : Parts). made_own ps) shape;
}

pub own_is : (text : List ℕ) (nodes : List Node) (at : ℕ) → act_at nodes at ≡ ACT_OWN → (whole : Option Inst) → IsPartAt text nodes at (POther (PMaybeInst whole)) → OwnIs text nodes at whole
own_is text nodes at e whole is =
    let o = opened_act text nodes at ACT_OWN (POther (PMaybeInst whole)) e (omega arith) is in
    let a = accepted text ACT_OWN o.parts (POther (PMaybeInst whole) ∷ o.rest) o.done in
    go o.parts o.rest o.before a.0 a.1
  where
    go : (parts rest : Parts) → built text (take at nodes) ≡ Some parts → has_tops (is_inst ∷ is_token ∷ []) parts ≡ true
        → POther (PMaybeInst whole) ∷ rest ≡ POther (PMaybeInst (made_own parts)) ∷ drop 2 parts → OwnIs text nodes at whole
    go parts rest before h q =
        top_inst (is_token ∷ []) parts h (λ x0 r0 e0 h0.
        top_token ([]) r0 h0 (λ x1 r1 e1 h1.
        own_end text nodes at whole parts rest x0 x1 r1 before (e0 ∙ ap (λ (ps : Parts). POther (PInst x0) ∷ ps) (e1)) q))

pub no_cuts_is : (text : List ℕ) (nodes : List Node) (at : ℕ) → act_at nodes at ≡ ACT_NO_CUTS → (whole : List Cut) → IsPartAt text nodes at (POther (PCuts whole)) → whole ≡ []
no_cuts_is text nodes at e whole is =
    let o = opened_act text nodes at ACT_NO_CUTS (POther (PCuts whole)) e (omega arith) is in
    let a = accepted text ACT_NO_CUTS o.parts (POther (PCuts whole) ∷ o.rest) o.done in
    let q : POther (PCuts whole) ∷ o.rest ≡ POther (PCuts []) ∷ o.parts = a.1 in
    same_cuts whole [] o.rest o.parts q

pub record CutIs (text : List ℕ) (nodes : List Node) (at : ℕ) (whole : List Cut) : Type 0 where
  pub block : Block
  pub items : List Item
  pub vars : List Par
  pub locals : List SeenToken
  pub mode : SeenToken
  pub number : SeenToken
  pub name : SeenToken
  pub cuts : List Cut
  pub at_block : (place : ℕ) → IsChild text nodes at 0 place → IsPartAt text nodes place (POther (PBlock block))
  pub at_items : (place : ℕ) → IsChild text nodes at 1 place → IsPartAt text nodes place (POther (PItems items))
  pub at_vars : (place : ℕ) → IsChild text nodes at 2 place → IsPartAt text nodes place (POther (PPars vars))
  pub at_locals : (place : ℕ) → IsChild text nodes at 4 place → IsPartAt text nodes place (POther (PNames locals))
  pub at_mode : (t : SeenToken) → IsTokenOf text nodes at 6 t → t ≡ mode
  pub at_number : (t : SeenToken) → IsTokenOf text nodes at 7 t → t ≡ number
  pub at_name : (t : SeenToken) → IsTokenOf text nodes at 9 t → t ≡ name
  pub at_cuts : (place : ℕ) → IsChild text nodes at 11 place → IsPartAt text nodes place (POther (PCuts cuts))
  pub made : whole ≡ (cuts ++ (record { name = name; number = number; mode = mode; locals = locals; vars = vars; items = items; block = block }) ∷ [])

cut_end : (text : List ℕ) (nodes : List Node) (at : ℕ) (whole : List Cut) (parts rest : Parts) (x0 : Block) (x1 : List Item) (x2 : List Par) (x3 : SeenToken) (x4 : List SeenToken) (x5 : SeenToken) (x6 : SeenToken) (x7 : SeenToken) (x8 : SeenToken) (x9 : SeenToken) (x10 : SeenToken) (x11 : List Cut) (behind : Parts) → built text (take at nodes) ≡ Some parts → parts ≡ POther (PBlock x0) ∷ POther (PItems x1) ∷ POther (PPars x2) ∷ PToken x3 ∷ POther (PNames x4) ∷ PToken x5 ∷ PToken x6 ∷ PToken x7 ∷ PToken x8 ∷ PToken x9 ∷ PToken x10 ∷ POther (PCuts x11) ∷ behind
    → POther (PCuts whole) ∷ rest ≡ POther (PCuts (made_cut parts)) ∷ drop 12 parts → CutIs text nodes at whole
cut_end text nodes at whole parts rest x0 x1 x2 x3 x4 x5 x6 x7 x8 x9 x10 x11 behind before shape q = record {
  block = x0;
  items = x1;
  vars = x2;
  locals = x4;
  mode = x6;
  number = x7;
  name = x9;
  cuts = x11;
  at_block = λ place c. part_at text nodes at 0 place parts (POther (PItems x1) ∷ POther (PPars x2) ∷ PToken x3 ∷ POther (PNames x4) ∷ PToken x5 ∷ PToken x6 ∷ PToken x7 ∷ PToken x8 ∷ PToken x9 ∷ PToken x10 ∷ POther (PCuts x11) ∷ behind) (POther (PBlock x0)) c before (ap (λ (ps : Parts). drop 0 ps) shape);
  at_items = λ place c. part_at text nodes at 1 place parts (POther (PPars x2) ∷ PToken x3 ∷ POther (PNames x4) ∷ PToken x5 ∷ PToken x6 ∷ PToken x7 ∷ PToken x8 ∷ PToken x9 ∷ PToken x10 ∷ POther (PCuts x11) ∷ behind) (POther (PItems x1)) c before (ap (λ (ps : Parts). drop 1 ps) shape);
  at_vars = λ place c. part_at text nodes at 2 place parts (PToken x3 ∷ POther (PNames x4) ∷ PToken x5 ∷ PToken x6 ∷ PToken x7 ∷ PToken x8 ∷ PToken x9 ∷ PToken x10 ∷ POther (PCuts x11) ∷ behind) (POther (PPars x2)) c before (ap (λ (ps : Parts). drop 2 ps) shape);
  at_locals = λ place c. part_at text nodes at 4 place parts (PToken x5 ∷ PToken x6 ∷ PToken x7 ∷ PToken x8 ∷ PToken x9 ∷ PToken x10 ∷ POther (PCuts x11) ∷ behind) (POther (PNames x4)) c before (ap (λ (ps : Parts). drop 4 ps) shape);
  at_mode = λ t c. c.same parts (PToken x7 ∷ PToken x8 ∷ PToken x9 ∷ PToken x10 ∷ POther (PCuts x11) ∷ behind) x6 before (ap (λ (ps : Parts). drop 6 ps) shape);
  at_number = λ t c. c.same parts (PToken x8 ∷ PToken x9 ∷ PToken x10 ∷ POther (PCuts x11) ∷ behind) x7 before (ap (λ (ps : Parts). drop 7 ps) shape);
  at_name = λ t c. c.same parts (PToken x10 ∷ POther (PCuts x11) ∷ behind) x9 before (ap (λ (ps : Parts). drop 9 ps) shape);
  at_cuts = λ place c. part_at text nodes at 11 place parts (behind) (POther (PCuts x11)) c before (ap (λ (ps : Parts). drop 11 ps) shape);
  made = same_cuts whole (made_cut parts) rest (drop 12 parts) q ∙ ap (λ (ps : Parts). made_cut ps) shape;
}

pub cut_is : (text : List ℕ) (nodes : List Node) (at : ℕ) → act_at nodes at ≡ ACT_CUT → (whole : List Cut) → IsPartAt text nodes at (POther (PCuts whole)) → CutIs text nodes at whole
cut_is text nodes at e whole is =
    let o = opened_act text nodes at ACT_CUT (POther (PCuts whole)) e (omega arith) is in
    let a = accepted text ACT_CUT o.parts (POther (PCuts whole) ∷ o.rest) o.done in
    go o.parts o.rest o.before a.0 a.1
  where
    go : (parts rest : Parts) → built text (take at nodes) ≡ Some parts → has_tops (is_block ∷ is_items ∷ is_pars ∷ is_token ∷ is_names ∷ is_token ∷ is_token ∷ is_token ∷ is_token ∷ is_token ∷ is_token ∷ is_cuts ∷ []) parts ≡ true
        → POther (PCuts whole) ∷ rest ≡ POther (PCuts (made_cut parts)) ∷ drop 12 parts → CutIs text nodes at whole
    go parts rest before h q =
        top_block (is_items ∷ is_pars ∷ is_token ∷ is_names ∷ is_token ∷ is_token ∷ is_token ∷ is_token ∷ is_token ∷ is_token ∷ is_cuts ∷ []) parts h (λ x0 r0 e0 h0.
        top_items (is_pars ∷ is_token ∷ is_names ∷ is_token ∷ is_token ∷ is_token ∷ is_token ∷ is_token ∷ is_token ∷ is_cuts ∷ []) r0 h0 (λ x1 r1 e1 h1.
        top_pars (is_token ∷ is_names ∷ is_token ∷ is_token ∷ is_token ∷ is_token ∷ is_token ∷ is_token ∷ is_cuts ∷ []) r1 h1 (λ x2 r2 e2 h2.
        top_token (is_names ∷ is_token ∷ is_token ∷ is_token ∷ is_token ∷ is_token ∷ is_token ∷ is_cuts ∷ []) r2 h2 (λ x3 r3 e3 h3.
        top_names (is_token ∷ is_token ∷ is_token ∷ is_token ∷ is_token ∷ is_token ∷ is_cuts ∷ []) r3 h3 (λ x4 r4 e4 h4.
        top_token (is_token ∷ is_token ∷ is_token ∷ is_token ∷ is_token ∷ is_cuts ∷ []) r4 h4 (λ x5 r5 e5 h5.
        top_token (is_token ∷ is_token ∷ is_token ∷ is_token ∷ is_cuts ∷ []) r5 h5 (λ x6 r6 e6 h6.
        top_token (is_token ∷ is_token ∷ is_token ∷ is_cuts ∷ []) r6 h6 (λ x7 r7 e7 h7.
        top_token (is_token ∷ is_token ∷ is_cuts ∷ []) r7 h7 (λ x8 r8 e8 h8.
        top_token (is_token ∷ is_cuts ∷ []) r8 h8 (λ x9 r9 e9 h9.
        top_token (is_cuts ∷ []) r9 h9 (λ x10 r10 e10 h10.
        top_cuts ([]) r10 h10 (λ x11 r11 e11 h11.
        cut_end text nodes at whole parts rest x0 x1 x2 x3 x4 x5 x6 x7 x8 x9 x10 x11 r11 before (e0 ∙ ap (λ (ps : Parts). POther (PBlock x0) ∷ ps) (e1 ∙ ap (λ (ps : Parts). POther (PItems x1) ∷ ps) (e2 ∙ ap (λ (ps : Parts). POther (PPars x2) ∷ ps) (e3 ∙ ap (λ (ps : Parts). PToken x3 ∷ ps) (e4 ∙ ap (λ (ps : Parts). POther (PNames x4) ∷ ps) (e5 ∙ ap (λ (ps : Parts). PToken x5 ∷ ps) (e6 ∙ ap (λ (ps : Parts). PToken x6 ∷ ps) (e7 ∙ ap (λ (ps : Parts). PToken x7 ∷ ps) (e8 ∙ ap (λ (ps : Parts). PToken x8 ∷ ps) (e9 ∙ ap (λ (ps : Parts). PToken x9 ∷ ps) (e10 ∙ ap (λ (ps : Parts). PToken x10 ∷ ps) (e11)))))))))))) q))))))))))))

pub no_ops_is : (text : List ℕ) (nodes : List Node) (at : ℕ) → act_at nodes at ≡ ACT_NO_OPS → (whole : List Op) → IsPartAt text nodes at (POther (POps whole)) → whole ≡ []
no_ops_is text nodes at e whole is =
    let o = opened_act text nodes at ACT_NO_OPS (POther (POps whole)) e (omega arith) is in
    let a = accepted text ACT_NO_OPS o.parts (POther (POps whole) ∷ o.rest) o.done in
    let q : POther (POps whole) ∷ o.rest ≡ POther (POps []) ∷ o.parts = a.1 in
    same_ops whole [] o.rest o.parts q

pub record OpIs (text : List ℕ) (nodes : List Node) (at : ℕ) (whole : List Op) : Type 0 where
  pub cuts : List Cut
  pub block : Block
  pub name : SeenToken
  pub ops : List Op
  pub at_cuts : (place : ℕ) → IsChild text nodes at 0 place → IsPartAt text nodes place (POther (PCuts cuts))
  pub at_block : (place : ℕ) → IsChild text nodes at 1 place → IsPartAt text nodes place (POther (PBlock block))
  pub at_name : (t : SeenToken) → IsTokenOf text nodes at 2 t → t ≡ name
  pub at_ops : (place : ℕ) → IsChild text nodes at 4 place → IsPartAt text nodes place (POther (POps ops))
  pub made : whole ≡ (ops ++ (record { name = name; block = block; cuts = cuts }) ∷ [])

op_end : (text : List ℕ) (nodes : List Node) (at : ℕ) (whole : List Op) (parts rest : Parts) (x0 : List Cut) (x1 : Block) (x2 : SeenToken) (x3 : SeenToken) (x4 : List Op) (behind : Parts) → built text (take at nodes) ≡ Some parts → parts ≡ POther (PCuts x0) ∷ POther (PBlock x1) ∷ PToken x2 ∷ PToken x3 ∷ POther (POps x4) ∷ behind
    → POther (POps whole) ∷ rest ≡ POther (POps (made_op parts)) ∷ drop 5 parts → OpIs text nodes at whole
op_end text nodes at whole parts rest x0 x1 x2 x3 x4 behind before shape q = record {
  cuts = x0;
  block = x1;
  name = x2;
  ops = x4;
  at_cuts = λ place c. part_at text nodes at 0 place parts (POther (PBlock x1) ∷ PToken x2 ∷ PToken x3 ∷ POther (POps x4) ∷ behind) (POther (PCuts x0)) c before (ap (λ (ps : Parts). drop 0 ps) shape);
  at_block = λ place c. part_at text nodes at 1 place parts (PToken x2 ∷ PToken x3 ∷ POther (POps x4) ∷ behind) (POther (PBlock x1)) c before (ap (λ (ps : Parts). drop 1 ps) shape);
  at_name = λ t c. c.same parts (PToken x3 ∷ POther (POps x4) ∷ behind) x2 before (ap (λ (ps : Parts). drop 2 ps) shape);
  at_ops = λ place c. part_at text nodes at 4 place parts (behind) (POther (POps x4)) c before (ap (λ (ps : Parts). drop 4 ps) shape);
  made = same_ops whole (made_op parts) rest (drop 5 parts) q ∙ ap (λ (ps : Parts). made_op ps) shape;
}

pub op_is : (text : List ℕ) (nodes : List Node) (at : ℕ) → act_at nodes at ≡ ACT_OP → (whole : List Op) → IsPartAt text nodes at (POther (POps whole)) → OpIs text nodes at whole
op_is text nodes at e whole is =
    let o = opened_act text nodes at ACT_OP (POther (POps whole)) e (omega arith) is in
    let a = accepted text ACT_OP o.parts (POther (POps whole) ∷ o.rest) o.done in
    go o.parts o.rest o.before a.0 a.1
  where
    go : (parts rest : Parts) → built text (take at nodes) ≡ Some parts → has_tops (is_cuts ∷ is_block ∷ is_token ∷ is_token ∷ is_ops ∷ []) parts ≡ true
        → POther (POps whole) ∷ rest ≡ POther (POps (made_op parts)) ∷ drop 5 parts → OpIs text nodes at whole
    go parts rest before h q =
        top_cuts (is_block ∷ is_token ∷ is_token ∷ is_ops ∷ []) parts h (λ x0 r0 e0 h0.
        top_block (is_token ∷ is_token ∷ is_ops ∷ []) r0 h0 (λ x1 r1 e1 h1.
        top_token (is_token ∷ is_ops ∷ []) r1 h1 (λ x2 r2 e2 h2.
        top_token (is_ops ∷ []) r2 h2 (λ x3 r3 e3 h3.
        top_ops ([]) r3 h3 (λ x4 r4 e4 h4.
        op_end text nodes at whole parts rest x0 x1 x2 x3 x4 r4 before (e0 ∙ ap (λ (ps : Parts). POther (PCuts x0) ∷ ps) (e1 ∙ ap (λ (ps : Parts). POther (PBlock x1) ∷ ps) (e2 ∙ ap (λ (ps : Parts). PToken x2 ∷ ps) (e3 ∙ ap (λ (ps : Parts). PToken x3 ∷ ps) (e4))))) q)))))

pub no_procs_is : (text : List ℕ) (nodes : List Node) (at : ℕ) → act_at nodes at ≡ ACT_NO_PROCS → (whole : List Proc) → IsPartAt text nodes at (POther (PProcs whole)) → whole ≡ []
no_procs_is text nodes at e whole is =
    let o = opened_act text nodes at ACT_NO_PROCS (POther (PProcs whole)) e (omega arith) is in
    let a = accepted text ACT_NO_PROCS o.parts (POther (PProcs whole) ∷ o.rest) o.done in
    let q : POther (PProcs whole) ∷ o.rest ≡ POther (PProcs []) ∷ o.parts = a.1 in
    same_procs whole [] o.rest o.parts q

pub record ProcIs (text : List ℕ) (nodes : List Node) (at : ℕ) (whole : List Proc) : Type 0 where
  pub cuts : List Cut
  pub block : Block
  pub post : List Item
  pub results : List SeenToken
  pub pre : List Item
  pub vars : List Par
  pub own : Option Inst
  pub name : SeenToken
  pub procs : List Proc
  pub at_cuts : (place : ℕ) → IsChild text nodes at 0 place → IsPartAt text nodes place (POther (PCuts cuts))
  pub at_block : (place : ℕ) → IsChild text nodes at 1 place → IsPartAt text nodes place (POther (PBlock block))
  pub at_post : (place : ℕ) → IsChild text nodes at 2 place → IsPartAt text nodes place (POther (PItems post))
  pub at_results : (place : ℕ) → IsChild text nodes at 3 place → IsPartAt text nodes place (POther (PNames results))
  pub at_pre : (place : ℕ) → IsChild text nodes at 5 place → IsPartAt text nodes place (POther (PItems pre))
  pub at_vars : (place : ℕ) → IsChild text nodes at 7 place → IsPartAt text nodes place (POther (PPars vars))
  pub at_own : (place : ℕ) → IsChild text nodes at 9 place → IsPartAt text nodes place (POther (PMaybeInst own))
  pub at_name : (t : SeenToken) → IsTokenOf text nodes at 10 t → t ≡ name
  pub at_procs : (place : ℕ) → IsChild text nodes at 12 place → IsPartAt text nodes place (POther (PProcs procs))
  pub made : whole ≡ (procs ++ (record { name = name; own = own; vars = vars; pre = pre; results = results; post = post; block = block; cuts = cuts }) ∷ [])

proc_end : (text : List ℕ) (nodes : List Node) (at : ℕ) (whole : List Proc) (parts rest : Parts) (x0 : List Cut) (x1 : Block) (x2 : List Item) (x3 : List SeenToken) (x4 : SeenToken) (x5 : List Item) (x6 : SeenToken) (x7 : List Par) (x8 : SeenToken) (x9 : Option Inst) (x10 : SeenToken) (x11 : SeenToken) (x12 : List Proc) (behind : Parts) → built text (take at nodes) ≡ Some parts → parts ≡ POther (PCuts x0) ∷ POther (PBlock x1) ∷ POther (PItems x2) ∷ POther (PNames x3) ∷ PToken x4 ∷ POther (PItems x5) ∷ PToken x6 ∷ POther (PPars x7) ∷ PToken x8 ∷ POther (PMaybeInst x9) ∷ PToken x10 ∷ PToken x11 ∷ POther (PProcs x12) ∷ behind
    → POther (PProcs whole) ∷ rest ≡ POther (PProcs (made_proc parts)) ∷ drop 13 parts → ProcIs text nodes at whole
proc_end text nodes at whole parts rest x0 x1 x2 x3 x4 x5 x6 x7 x8 x9 x10 x11 x12 behind before shape q = record {
  cuts = x0;
  block = x1;
  post = x2;
  results = x3;
  pre = x5;
  vars = x7;
  own = x9;
  name = x10;
  procs = x12;
  at_cuts = λ place c. part_at text nodes at 0 place parts (POther (PBlock x1) ∷ POther (PItems x2) ∷ POther (PNames x3) ∷ PToken x4 ∷ POther (PItems x5) ∷ PToken x6 ∷ POther (PPars x7) ∷ PToken x8 ∷ POther (PMaybeInst x9) ∷ PToken x10 ∷ PToken x11 ∷ POther (PProcs x12) ∷ behind) (POther (PCuts x0)) c before (ap (λ (ps : Parts). drop 0 ps) shape);
  at_block = λ place c. part_at text nodes at 1 place parts (POther (PItems x2) ∷ POther (PNames x3) ∷ PToken x4 ∷ POther (PItems x5) ∷ PToken x6 ∷ POther (PPars x7) ∷ PToken x8 ∷ POther (PMaybeInst x9) ∷ PToken x10 ∷ PToken x11 ∷ POther (PProcs x12) ∷ behind) (POther (PBlock x1)) c before (ap (λ (ps : Parts). drop 1 ps) shape);
  at_post = λ place c. part_at text nodes at 2 place parts (POther (PNames x3) ∷ PToken x4 ∷ POther (PItems x5) ∷ PToken x6 ∷ POther (PPars x7) ∷ PToken x8 ∷ POther (PMaybeInst x9) ∷ PToken x10 ∷ PToken x11 ∷ POther (PProcs x12) ∷ behind) (POther (PItems x2)) c before (ap (λ (ps : Parts). drop 2 ps) shape);
  at_results = λ place c. part_at text nodes at 3 place parts (PToken x4 ∷ POther (PItems x5) ∷ PToken x6 ∷ POther (PPars x7) ∷ PToken x8 ∷ POther (PMaybeInst x9) ∷ PToken x10 ∷ PToken x11 ∷ POther (PProcs x12) ∷ behind) (POther (PNames x3)) c before (ap (λ (ps : Parts). drop 3 ps) shape);
  at_pre = λ place c. part_at text nodes at 5 place parts (PToken x6 ∷ POther (PPars x7) ∷ PToken x8 ∷ POther (PMaybeInst x9) ∷ PToken x10 ∷ PToken x11 ∷ POther (PProcs x12) ∷ behind) (POther (PItems x5)) c before (ap (λ (ps : Parts). drop 5 ps) shape);
  at_vars = λ place c. part_at text nodes at 7 place parts (PToken x8 ∷ POther (PMaybeInst x9) ∷ PToken x10 ∷ PToken x11 ∷ POther (PProcs x12) ∷ behind) (POther (PPars x7)) c before (ap (λ (ps : Parts). drop 7 ps) shape);
  at_own = λ place c. part_at text nodes at 9 place parts (PToken x10 ∷ PToken x11 ∷ POther (PProcs x12) ∷ behind) (POther (PMaybeInst x9)) c before (ap (λ (ps : Parts). drop 9 ps) shape);
  at_name = λ t c. c.same parts (PToken x11 ∷ POther (PProcs x12) ∷ behind) x10 before (ap (λ (ps : Parts). drop 10 ps) shape);
  at_procs = λ place c. part_at text nodes at 12 place parts (behind) (POther (PProcs x12)) c before (ap (λ (ps : Parts). drop 12 ps) shape);
  made = same_procs whole (made_proc parts) rest (drop 13 parts) q ∙ ap (λ (ps : Parts). made_proc ps) shape;
}

pub proc_is : (text : List ℕ) (nodes : List Node) (at : ℕ) → act_at nodes at ≡ ACT_PROC → (whole : List Proc) → IsPartAt text nodes at (POther (PProcs whole)) → ProcIs text nodes at whole
proc_is text nodes at e whole is =
    let o = opened_act text nodes at ACT_PROC (POther (PProcs whole)) e (omega arith) is in
    let a = accepted text ACT_PROC o.parts (POther (PProcs whole) ∷ o.rest) o.done in
    go o.parts o.rest o.before a.0 a.1
  where
    go : (parts rest : Parts) → built text (take at nodes) ≡ Some parts → has_tops (is_cuts ∷ is_block ∷ is_items ∷ is_names ∷ is_token ∷ is_items ∷ is_token ∷ is_pars ∷ is_token ∷ is_maybe_inst ∷ is_token ∷ is_token ∷ is_procs ∷ []) parts ≡ true
        → POther (PProcs whole) ∷ rest ≡ POther (PProcs (made_proc parts)) ∷ drop 13 parts → ProcIs text nodes at whole
    go parts rest before h q =
        top_cuts (is_block ∷ is_items ∷ is_names ∷ is_token ∷ is_items ∷ is_token ∷ is_pars ∷ is_token ∷ is_maybe_inst ∷ is_token ∷ is_token ∷ is_procs ∷ []) parts h (λ x0 r0 e0 h0.
        top_block (is_items ∷ is_names ∷ is_token ∷ is_items ∷ is_token ∷ is_pars ∷ is_token ∷ is_maybe_inst ∷ is_token ∷ is_token ∷ is_procs ∷ []) r0 h0 (λ x1 r1 e1 h1.
        top_items (is_names ∷ is_token ∷ is_items ∷ is_token ∷ is_pars ∷ is_token ∷ is_maybe_inst ∷ is_token ∷ is_token ∷ is_procs ∷ []) r1 h1 (λ x2 r2 e2 h2.
        top_names (is_token ∷ is_items ∷ is_token ∷ is_pars ∷ is_token ∷ is_maybe_inst ∷ is_token ∷ is_token ∷ is_procs ∷ []) r2 h2 (λ x3 r3 e3 h3.
        top_token (is_items ∷ is_token ∷ is_pars ∷ is_token ∷ is_maybe_inst ∷ is_token ∷ is_token ∷ is_procs ∷ []) r3 h3 (λ x4 r4 e4 h4.
        top_items (is_token ∷ is_pars ∷ is_token ∷ is_maybe_inst ∷ is_token ∷ is_token ∷ is_procs ∷ []) r4 h4 (λ x5 r5 e5 h5.
        top_token (is_pars ∷ is_token ∷ is_maybe_inst ∷ is_token ∷ is_token ∷ is_procs ∷ []) r5 h5 (λ x6 r6 e6 h6.
        top_pars (is_token ∷ is_maybe_inst ∷ is_token ∷ is_token ∷ is_procs ∷ []) r6 h6 (λ x7 r7 e7 h7.
        top_token (is_maybe_inst ∷ is_token ∷ is_token ∷ is_procs ∷ []) r7 h7 (λ x8 r8 e8 h8.
        top_maybe_inst (is_token ∷ is_token ∷ is_procs ∷ []) r8 h8 (λ x9 r9 e9 h9.
        top_token (is_token ∷ is_procs ∷ []) r9 h9 (λ x10 r10 e10 h10.
        top_token (is_procs ∷ []) r10 h10 (λ x11 r11 e11 h11.
        top_procs ([]) r11 h11 (λ x12 r12 e12 h12.
        proc_end text nodes at whole parts rest x0 x1 x2 x3 x4 x5 x6 x7 x8 x9 x10 x11 x12 r12 before (e0 ∙ ap (λ (ps : Parts). POther (PCuts x0) ∷ ps) (e1 ∙ ap (λ (ps : Parts). POther (PBlock x1) ∷ ps) (e2 ∙ ap (λ (ps : Parts). POther (PItems x2) ∷ ps) (e3 ∙ ap (λ (ps : Parts). POther (PNames x3) ∷ ps) (e4 ∙ ap (λ (ps : Parts). PToken x4 ∷ ps) (e5 ∙ ap (λ (ps : Parts). POther (PItems x5) ∷ ps) (e6 ∙ ap (λ (ps : Parts). PToken x6 ∷ ps) (e7 ∙ ap (λ (ps : Parts). POther (PPars x7) ∷ ps) (e8 ∙ ap (λ (ps : Parts). PToken x8 ∷ ps) (e9 ∙ ap (λ (ps : Parts). POther (PMaybeInst x9) ∷ ps) (e10 ∙ ap (λ (ps : Parts). PToken x10 ∷ ps) (e11 ∙ ap (λ (ps : Parts). PToken x11 ∷ ps) (e12))))))))))))) q)))))))))))))

pub record ScriptIs (text : List ℕ) (nodes : List Node) (at : ℕ) (whole : Script) : Type 0 where
  pub procs : List Proc
  pub ops : List Op
  pub cuts : List Cut
  pub recover : Block
  pub init : Block
  pub root : SeenToken
  pub root_word : SeenToken
  pub crash : SeenToken
  pub crash_word : SeenToken
  pub preds : List Pred
  pub books : List Book
  pub at_procs : (place : ℕ) → IsChild text nodes at 0 place → IsPartAt text nodes place (POther (PProcs procs))
  pub at_ops : (place : ℕ) → IsChild text nodes at 1 place → IsPartAt text nodes place (POther (POps ops))
  pub at_cuts : (place : ℕ) → IsChild text nodes at 2 place → IsPartAt text nodes place (POther (PCuts cuts))
  pub at_recover : (place : ℕ) → IsChild text nodes at 3 place → IsPartAt text nodes place (POther (PBlock recover))
  pub at_init : (place : ℕ) → IsChild text nodes at 5 place → IsPartAt text nodes place (POther (PBlock init))
  pub at_root : (t : SeenToken) → IsTokenOf text nodes at 8 t → t ≡ root
  pub at_root_word : (t : SeenToken) → IsTokenOf text nodes at 9 t → t ≡ root_word
  pub at_crash : (t : SeenToken) → IsTokenOf text nodes at 11 t → t ≡ crash
  pub at_crash_word : (t : SeenToken) → IsTokenOf text nodes at 12 t → t ≡ crash_word
  pub at_preds : (place : ℕ) → IsChild text nodes at 13 place → IsPartAt text nodes place (POther (PPreds preds))
  pub at_books : (place : ℕ) → IsChild text nodes at 14 place → IsPartAt text nodes place (POther (PBooks books))
  pub made : whole ≡ (record { books = books; preds = preds; crash_word = crash_word; crash = crash; root_word = root_word; root = root; init = init; recover = recover; cuts = cuts; ops = ops; procs = procs })

script_end : (text : List ℕ) (nodes : List Node) (at : ℕ) (whole : Script) (parts rest : Parts) (x0 : List Proc) (x1 : List Op) (x2 : List Cut) (x3 : Block) (x4 : SeenToken) (x5 : Block) (x6 : SeenToken) (x7 : SeenToken) (x8 : SeenToken) (x9 : SeenToken) (x10 : SeenToken) (x11 : SeenToken) (x12 : SeenToken) (x13 : List Pred) (x14 : List Book) (behind : Parts) → built text (take at nodes) ≡ Some parts → parts ≡ POther (PProcs x0) ∷ POther (POps x1) ∷ POther (PCuts x2) ∷ POther (PBlock x3) ∷ PToken x4 ∷ POther (PBlock x5) ∷ PToken x6 ∷ PToken x7 ∷ PToken x8 ∷ PToken x9 ∷ PToken x10 ∷ PToken x11 ∷ PToken x12 ∷ POther (PPreds x13) ∷ POther (PBooks x14) ∷ behind
    → POther (PScript whole) ∷ rest ≡ POther (PScript (made_script parts)) ∷ drop 15 parts → ScriptIs text nodes at whole
script_end text nodes at whole parts rest x0 x1 x2 x3 x4 x5 x6 x7 x8 x9 x10 x11 x12 x13 x14 behind before shape q = record {
  procs = x0;
  ops = x1;
  cuts = x2;
  recover = x3;
  init = x5;
  root = x8;
  root_word = x9;
  crash = x11;
  crash_word = x12;
  preds = x13;
  books = x14;
  at_procs = λ place c. part_at text nodes at 0 place parts (POther (POps x1) ∷ POther (PCuts x2) ∷ POther (PBlock x3) ∷ PToken x4 ∷ POther (PBlock x5) ∷ PToken x6 ∷ PToken x7 ∷ PToken x8 ∷ PToken x9 ∷ PToken x10 ∷ PToken x11 ∷ PToken x12 ∷ POther (PPreds x13) ∷ POther (PBooks x14) ∷ behind) (POther (PProcs x0)) c before (ap (λ (ps : Parts). drop 0 ps) shape);
  at_ops = λ place c. part_at text nodes at 1 place parts (POther (PCuts x2) ∷ POther (PBlock x3) ∷ PToken x4 ∷ POther (PBlock x5) ∷ PToken x6 ∷ PToken x7 ∷ PToken x8 ∷ PToken x9 ∷ PToken x10 ∷ PToken x11 ∷ PToken x12 ∷ POther (PPreds x13) ∷ POther (PBooks x14) ∷ behind) (POther (POps x1)) c before (ap (λ (ps : Parts). drop 1 ps) shape);
  at_cuts = λ place c. part_at text nodes at 2 place parts (POther (PBlock x3) ∷ PToken x4 ∷ POther (PBlock x5) ∷ PToken x6 ∷ PToken x7 ∷ PToken x8 ∷ PToken x9 ∷ PToken x10 ∷ PToken x11 ∷ PToken x12 ∷ POther (PPreds x13) ∷ POther (PBooks x14) ∷ behind) (POther (PCuts x2)) c before (ap (λ (ps : Parts). drop 2 ps) shape);
  at_recover = λ place c. part_at text nodes at 3 place parts (PToken x4 ∷ POther (PBlock x5) ∷ PToken x6 ∷ PToken x7 ∷ PToken x8 ∷ PToken x9 ∷ PToken x10 ∷ PToken x11 ∷ PToken x12 ∷ POther (PPreds x13) ∷ POther (PBooks x14) ∷ behind) (POther (PBlock x3)) c before (ap (λ (ps : Parts). drop 3 ps) shape);
  at_init = λ place c. part_at text nodes at 5 place parts (PToken x6 ∷ PToken x7 ∷ PToken x8 ∷ PToken x9 ∷ PToken x10 ∷ PToken x11 ∷ PToken x12 ∷ POther (PPreds x13) ∷ POther (PBooks x14) ∷ behind) (POther (PBlock x5)) c before (ap (λ (ps : Parts). drop 5 ps) shape);
  at_root = λ t c. c.same parts (PToken x9 ∷ PToken x10 ∷ PToken x11 ∷ PToken x12 ∷ POther (PPreds x13) ∷ POther (PBooks x14) ∷ behind) x8 before (ap (λ (ps : Parts). drop 8 ps) shape);
  at_root_word = λ t c. c.same parts (PToken x10 ∷ PToken x11 ∷ PToken x12 ∷ POther (PPreds x13) ∷ POther (PBooks x14) ∷ behind) x9 before (ap (λ (ps : Parts). drop 9 ps) shape);
  at_crash = λ t c. c.same parts (PToken x12 ∷ POther (PPreds x13) ∷ POther (PBooks x14) ∷ behind) x11 before (ap (λ (ps : Parts). drop 11 ps) shape);
  at_crash_word = λ t c. c.same parts (POther (PPreds x13) ∷ POther (PBooks x14) ∷ behind) x12 before (ap (λ (ps : Parts). drop 12 ps) shape);
  at_preds = λ place c. part_at text nodes at 13 place parts (POther (PBooks x14) ∷ behind) (POther (PPreds x13)) c before (ap (λ (ps : Parts). drop 13 ps) shape);
  at_books = λ place c. part_at text nodes at 14 place parts (behind) (POther (PBooks x14)) c before (ap (λ (ps : Parts). drop 14 ps) shape);
  made = same_script whole (made_script parts) rest (drop 15 parts) q ∙ ap (λ (ps : Parts). made_script ps) shape;
}

pub script_is : (text : List ℕ) (nodes : List Node) (at : ℕ) → act_at nodes at ≡ ACT_SCRIPT → (whole : Script) → IsPartAt text nodes at (POther (PScript whole)) → ScriptIs text nodes at whole
script_is text nodes at e whole is =
    let o = opened_act text nodes at ACT_SCRIPT (POther (PScript whole)) e (omega arith) is in
    let a = accepted text ACT_SCRIPT o.parts (POther (PScript whole) ∷ o.rest) o.done in
    go o.parts o.rest o.before a.0 a.1
  where
    go : (parts rest : Parts) → built text (take at nodes) ≡ Some parts → has_tops (is_procs ∷ is_ops ∷ is_cuts ∷ is_block ∷ is_token ∷ is_block ∷ is_token ∷ is_token ∷ is_token ∷ is_token ∷ is_token ∷ is_token ∷ is_token ∷ is_preds ∷ is_books ∷ []) parts ≡ true
        → POther (PScript whole) ∷ rest ≡ POther (PScript (made_script parts)) ∷ drop 15 parts → ScriptIs text nodes at whole
    go parts rest before h q =
        top_procs (is_ops ∷ is_cuts ∷ is_block ∷ is_token ∷ is_block ∷ is_token ∷ is_token ∷ is_token ∷ is_token ∷ is_token ∷ is_token ∷ is_token ∷ is_preds ∷ is_books ∷ []) parts h (λ x0 r0 e0 h0.
        top_ops (is_cuts ∷ is_block ∷ is_token ∷ is_block ∷ is_token ∷ is_token ∷ is_token ∷ is_token ∷ is_token ∷ is_token ∷ is_token ∷ is_preds ∷ is_books ∷ []) r0 h0 (λ x1 r1 e1 h1.
        top_cuts (is_block ∷ is_token ∷ is_block ∷ is_token ∷ is_token ∷ is_token ∷ is_token ∷ is_token ∷ is_token ∷ is_token ∷ is_preds ∷ is_books ∷ []) r1 h1 (λ x2 r2 e2 h2.
        top_block (is_token ∷ is_block ∷ is_token ∷ is_token ∷ is_token ∷ is_token ∷ is_token ∷ is_token ∷ is_token ∷ is_preds ∷ is_books ∷ []) r2 h2 (λ x3 r3 e3 h3.
        top_token (is_block ∷ is_token ∷ is_token ∷ is_token ∷ is_token ∷ is_token ∷ is_token ∷ is_token ∷ is_preds ∷ is_books ∷ []) r3 h3 (λ x4 r4 e4 h4.
        top_block (is_token ∷ is_token ∷ is_token ∷ is_token ∷ is_token ∷ is_token ∷ is_token ∷ is_preds ∷ is_books ∷ []) r4 h4 (λ x5 r5 e5 h5.
        top_token (is_token ∷ is_token ∷ is_token ∷ is_token ∷ is_token ∷ is_token ∷ is_preds ∷ is_books ∷ []) r5 h5 (λ x6 r6 e6 h6.
        top_token (is_token ∷ is_token ∷ is_token ∷ is_token ∷ is_token ∷ is_preds ∷ is_books ∷ []) r6 h6 (λ x7 r7 e7 h7.
        top_token (is_token ∷ is_token ∷ is_token ∷ is_token ∷ is_preds ∷ is_books ∷ []) r7 h7 (λ x8 r8 e8 h8.
        top_token (is_token ∷ is_token ∷ is_token ∷ is_preds ∷ is_books ∷ []) r8 h8 (λ x9 r9 e9 h9.
        top_token (is_token ∷ is_token ∷ is_preds ∷ is_books ∷ []) r9 h9 (λ x10 r10 e10 h10.
        top_token (is_token ∷ is_preds ∷ is_books ∷ []) r10 h10 (λ x11 r11 e11 h11.
        top_token (is_preds ∷ is_books ∷ []) r11 h11 (λ x12 r12 e12 h12.
        top_preds (is_books ∷ []) r12 h12 (λ x13 r13 e13 h13.
        top_books ([]) r13 h13 (λ x14 r14 e14 h14.
        script_end text nodes at whole parts rest x0 x1 x2 x3 x4 x5 x6 x7 x8 x9 x10 x11 x12 x13 x14 r14 before (e0 ∙ ap (λ (ps : Parts). POther (PProcs x0) ∷ ps) (e1 ∙ ap (λ (ps : Parts). POther (POps x1) ∷ ps) (e2 ∙ ap (λ (ps : Parts). POther (PCuts x2) ∷ ps) (e3 ∙ ap (λ (ps : Parts). POther (PBlock x3) ∷ ps) (e4 ∙ ap (λ (ps : Parts). PToken x4 ∷ ps) (e5 ∙ ap (λ (ps : Parts). POther (PBlock x5) ∷ ps) (e6 ∙ ap (λ (ps : Parts). PToken x6 ∷ ps) (e7 ∙ ap (λ (ps : Parts). PToken x7 ∷ ps) (e8 ∙ ap (λ (ps : Parts). PToken x8 ∷ ps) (e9 ∙ ap (λ (ps : Parts). PToken x9 ∷ ps) (e10 ∙ ap (λ (ps : Parts). PToken x10 ∷ ps) (e11 ∙ ap (λ (ps : Parts). PToken x11 ∷ ps) (e12 ∙ ap (λ (ps : Parts). PToken x12 ∷ ps) (e13 ∙ ap (λ (ps : Parts). POther (PPreds x13) ∷ ps) (e14))))))))))))))) q)))))))))))))))
