-- Ops nodes by the acts that make them. Made by tools/script_nodes.py from script.grammar: edit that.
use Rattle.std.proofs.Common.{◌≡◌, ℕ, true, List, [], ◌∷◌, ◌++◌, Some, refl, sym, ap, ◌∙◌}
use Rattle.std.specs.Prelude.{drop, take}
use Rattle.gv_grammar.specs.Building.{has_tops}
use Rattle.gv_termread.specs.declared.generated.term_acts.Part.TheVariants.{Token as PToken, Other as POther}
use Rattle.gv_scriptsyntax.specs.declared.generated.script_acts.ScriptPart.TheVariants.{Block as PBlock, Cuts as PCuts, Ops as POps}
use Rattle.gv_scriptsyntax.specs.declared.tree.Block.{Block}
use Rattle.gv_scriptsyntax.specs.declared.tree.Cut.{Cut}
use Rattle.gv_scriptsyntax.specs.declared.tree.Op.{Op}
use Rattle.gv_termread.specs.declared.token.SeenToken.{SeenToken}
use Rattle.gv_scriptsyntax.specs.declared.node.Node.{Node}
use Rattle.gv_scriptsyntax.specs.declared.node.Node.TheVariants.{Made}
use Rattle.gv_scriptsyntax.specs.declared.generated.script_table.TheConstants as act
use Rattle.gv_termread.specs.TermActs.{is_token}
use Rattle.gv_scriptsyntax.specs.ScriptActs.{is_block, is_cuts, is_ops, made_no_ops, made_op}
use Rattle.gv_scriptsyntax.specs.Nodes.{Parts, built, IsPartAt}
use Rattle.gv_scriptnodes.specs.Places.{IsChild, IsTokenOf}
use Rattle.gv_scriptnodes.proofs.Opened.{opened}
use Rattle.gv_scriptnodes.proofs.Tops.{accepted, top_block, top_cuts, top_ops, top_token}
use Rattle.gv_certnodes.specs.Places.{IsMadeBy}
use Rattle.gv_declnodes.specs.Ops.{IsOp}
use Rattle.gv_certnodes.proofs.Opened.{at_part, same_act}

no_ops_end : (text : List ℕ) (nodes : List Node) (at : ℕ)
    → (whole : List Op) (parts rest : Parts) (behind : Parts) → built text (take at nodes) ≡ Some parts → parts ≡ behind
    → POther (POps whole) ∷ rest ≡ POther (POps (made_no_ops parts)) ∷ drop 0 parts → whole ≡ []
no_ops_end text nodes at whole parts rest behind before shape q =
    let made : whole ≡ made_no_ops parts = cc in
    made ∙ ap (λ (ps : Parts). made_no_ops ps) shape

pub no_ops_is : (text : List ℕ) (nodes : List Node) (at : ℕ) → IsMadeBy nodes at act.ACT_NO_OPS
    → (whole : List Op) → IsPartAt text nodes at (POther (POps whole)) → whole ≡ []
no_ops_is text nodes at by whole is =
    let o = opened text nodes at (Made by.raw by.from) (POther (POps whole)) by.node is in
    let a = accepted text act.ACT_NO_OPS o.parts (POther (POps whole) ∷ o.rest) (same_act text by.raw act.ACT_NO_OPS o.parts by.number ∙ o.done) in
    go o.parts o.rest o.before a.0 a.1
  where
    go : (parts rest : Parts) → built text (take at nodes) ≡ Some parts → has_tops ([]) parts ≡ true → POther (POps whole) ∷ rest ≡ POther (POps (made_no_ops parts)) ∷ drop 0 parts → whole ≡ []
    go parts rest before h q =
        no_ops_end text nodes at whole parts rest parts before refl q

op_end : (text : List ℕ) (nodes : List Node) (at : ℕ) (at_ops : ℕ) (at_name : SeenToken) (at_block : ℕ) (at_cuts : ℕ) → IsChild text nodes at 4 at_ops → IsTokenOf text nodes at 2 at_name → IsChild text nodes at 1 at_block → IsChild text nodes at 0 at_cuts
    → (whole : List Op) (parts rest : Parts) (cuts : List Cut) (block : Block) (name : SeenToken) (passed_1 : SeenToken) (ops : List Op) (behind : Parts) → built text (take at nodes) ≡ Some parts → parts ≡ POther (PCuts cuts) ∷ POther (PBlock block) ∷ PToken name ∷ PToken passed_1 ∷ POther (POps ops) ∷ behind
    → POther (POps whole) ∷ rest ≡ POther (POps (made_op parts)) ∷ drop 5 parts → IsOp text nodes at at_ops at_name at_block at_cuts whole
op_end text nodes at at_ops at_name at_block at_cuts known_ops known_name known_block known_cuts whole parts rest cuts block name passed_1 ops behind before shape q =
    let made : whole ≡ made_op parts = cc in
    record {
      of_ops = ops;
      of_block = block;
      of_cuts = cuts;
      at_ops = at_part text nodes at 4 at_ops parts (behind) (POther (POps ops)) known_ops before (ap (λ (ps : Parts). drop 4 ps) shape);
      at_block = at_part text nodes at 1 at_block parts (PToken name ∷ PToken passed_1 ∷ POther (POps ops) ∷ behind) (POther (PBlock block)) known_block before (ap (λ (ps : Parts). drop 1 ps) shape);
      at_cuts = at_part text nodes at 0 at_cuts parts (POther (PBlock block) ∷ PToken name ∷ PToken passed_1 ∷ POther (POps ops) ∷ behind) (POther (PCuts cuts)) known_cuts before (ap (λ (ps : Parts). drop 0 ps) shape);
      made = made ∙ ap (λ (ps : Parts). made_op ps) shape
          ∙ ap (λ (x : SeenToken). let y : List Op = (ops ++ (record { name = x; block = block; cuts = cuts }) ∷ []) in y) (sym (known_name.same parts (PToken passed_1 ∷ POther (POps ops) ∷ behind) name before (ap (λ (ps : Parts). drop 2 ps) shape)));
    }

pub op_is : (text : List ℕ) (nodes : List Node) (at : ℕ) (at_ops : ℕ) (at_name : SeenToken) (at_block : ℕ) (at_cuts : ℕ) → IsMadeBy nodes at act.ACT_OP → IsChild text nodes at 4 at_ops → IsTokenOf text nodes at 2 at_name → IsChild text nodes at 1 at_block → IsChild text nodes at 0 at_cuts
    → (whole : List Op) → IsPartAt text nodes at (POther (POps whole)) → IsOp text nodes at at_ops at_name at_block at_cuts whole
op_is text nodes at at_ops at_name at_block at_cuts by known_ops known_name known_block known_cuts whole is =
    let o = opened text nodes at (Made by.raw by.from) (POther (POps whole)) by.node is in
    let a = accepted text act.ACT_OP o.parts (POther (POps whole) ∷ o.rest) (same_act text by.raw act.ACT_OP o.parts by.number ∙ o.done) in
    go o.parts o.rest o.before a.0 a.1
  where
    go : (parts rest : Parts) → built text (take at nodes) ≡ Some parts → has_tops (is_cuts ∷ is_block ∷ is_token ∷ is_token ∷ is_ops ∷ []) parts ≡ true → POther (POps whole) ∷ rest ≡ POther (POps (made_op parts)) ∷ drop 5 parts → IsOp text nodes at at_ops at_name at_block at_cuts whole
    go parts rest before h q =
        top_cuts (is_block ∷ is_token ∷ is_token ∷ is_ops ∷ []) parts h (λ x0 r0 e0 h0.
        top_block (is_token ∷ is_token ∷ is_ops ∷ []) r0 h0 (λ x1 r1 e1 h1.
        top_token (is_token ∷ is_ops ∷ []) r1 h1 (λ x2 r2 e2 h2.
        top_token (is_ops ∷ []) r2 h2 (λ x3 r3 e3 h3.
        top_ops ([]) r3 h3 (λ x4 r4 e4 h4.
        op_end text nodes at at_ops at_name at_block at_cuts known_ops known_name known_block known_cuts whole parts rest x0 x1 x2 x3 x4 r4 before (e0 ∙ ap (λ (ps : Parts). POther (PCuts x0) ∷ ps) (e1 ∙ ap (λ (ps : Parts). POther (PBlock x1) ∷ ps) (e2 ∙ ap (λ (ps : Parts). PToken x2 ∷ ps) (e3 ∙ ap (λ (ps : Parts). PToken x3 ∷ ps) e4)))) q)))))
