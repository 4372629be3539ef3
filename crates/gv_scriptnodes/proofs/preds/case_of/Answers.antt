use Rattle.std.proofs.Common.{◌≡◌, ◌∙◌, arith}
use Rattle.gv_termread.specs.declared.generated.term_acts.Part.TheVariants.{Other as POther}
use Rattle.gv_scriptsyntax.specs.declared.generated.script_acts.ScriptPart.TheVariants.{Items as PItems}
use Rattle.gv_scriptsyntax.specs.declared.generated.script_table.TheConstants.{ACT_CASE}
use Rattle.gv_scriptnodes.specs.Places.{act_at}
use Rattle.gv_scriptnodes.proofs.DeclActs.{case_is}
use Rattle.gv_scriptnodes.proofs.Ends.{case_act}
use Rattle.gv_scriptnodes.proofs.Whole.{case_same}
use Rattle.gv_scriptnodes.proofs.preds.case_of.Goals as goal

pub returns : goal.returns
returns c = λ case is.
    let e : act_at c.args.nodes.now c.args.at ≡ ACT_CASE = case_act c.args.text.now c.args.nodes.now c.args.at c.requires.within case is in
    let n = case_is c.args.text.now c.args.nodes.now c.args.at e case is in
    case_same c.from_vec.result n.vars c.from_vec-2.result n.items case
    (c.from_vec.ensures ∙ c.in_ok-vars.ensures n.vars (n.at_vars c.place_of-vars_at.result c.place_of-vars_at.ensures))
    (c.from_vec-2.ensures ∙ c.in_ok-items.ensures (POther (PItems n.items)) (n.at_items c.place_of-items_at.result c.place_of-items_at.ensures))
    n.made

pub returns-then-act_of-ne-ACT_CASE : goal.returns-then-act_of-ne-ACT_CASE
returns-then-act_of-ne-ACT_CASE c = λ case is.
    let e : act_at c.args.nodes.now c.args.at ≡ ACT_CASE = case_act c.args.text.now c.args.nodes.now c.args.at c.requires.within case is in
    let never : ⊥ = grind (arith, c.if-act_of-ne-ACT_CASE.true, c.act_of.ensures, e) in
    absurd never
