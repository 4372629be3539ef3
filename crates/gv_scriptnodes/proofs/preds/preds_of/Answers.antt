use Rattle.std.proofs.Common.{ℕ, List, sym, subst, ◌∙◌, arith}
use Rattle.gv_termread.specs.declared.generated.term_acts.Part.TheVariants.{Other as POther}
use Rattle.gv_scriptsyntax.specs.declared.tree.Pred.{Pred}
use Rattle.gv_scriptsyntax.specs.declared.generated.script_acts.ScriptPart.TheVariants.{Preds as PPreds}
use Rattle.gv_scriptsyntax.specs.Nodes.{IsPartAt}
use Rattle.gv_scriptnames.specs.Outlines.{of_pred}
use Rattle.gv_scriptnames.specs.declared.outline.PredOutline.{PredOutline}
use Rattle.gv_scriptnodes.specs.Lasts.{IsLeft}
use Rattle.gv_scriptnodes.proofs.Ends.{preds_end}
use Rattle.gv_scriptnodes.proofs.Taken.{none_taken, one_taken, all_taken}
use Rattle.gv_scriptnodes.proofs.preds.preds_of.Goals as goal

pub loop-alloc-init : goal.loop-alloc-init
loop-alloc-init c = record {
  within = c.requires.within;
  left = λ whole is.
      subst (λ (taken : List PredOutline). IsLeft (λ (place : ℕ) (preds : List Pred). IsPartAt c.args.text.now c.args.nodes.now place (POther (PPreds preds))) of_pred c.args.at taken whole) (sym c.new-preds.ensures.items) (none_taken (λ (place : ℕ) (preds : List Pred). IsPartAt c.args.text.now c.args.nodes.now place (POther (PPreds preds))) of_pred c.args.at whole is);
}

pub loop-alloc-preserved : goal.loop-alloc-preserved
loop-alloc-preserved c = let b = c.place_of-place.ensures.before in let w = c.loop-alloc.invariant.within in record {
  within = omega (arith, b, w);
  left = λ whole is.
      subst (λ (taken : List PredOutline). IsLeft (λ (place : ℕ) (preds : List Pred). IsPartAt c.args.text.now c.args.nodes.now place (POther (PPreds preds))) of_pred c.place_of-place.result taken whole) (sym c.in_ok-push.ensures.items)
      (one_taken (λ (place : ℕ) (preds : List Pred). IsPartAt c.args.text.now c.args.nodes.now place (POther (PPreds preds))) of_pred c.loop-alloc.place c.place_of-place.result c.in_ok-pred.pred c.loop-alloc.preds.items whole (c.loop-alloc.invariant.left whole is)
      (λ rest at. let e = c.in_ok-pred.ensures rest at in record { rest = e.rest; last = e.last; at = e.left c.place_of-place.result c.place_of-place.ensures; same = e.same; made = e.made }));
}

pub returns : goal.returns
returns c = λ whole is.
    c.reverse.ensures.items
    ∙ all_taken (λ (place : ℕ) (preds : List Pred). IsPartAt c.args.text.now c.args.nodes.now place (POther (PPreds preds))) of_pred c.loop-alloc.place c.loop-alloc.preds.items whole (c.loop-alloc.invariant.left whole is)
    (λ rest at. preds_end c.args.text.now c.args.nodes.now c.loop-alloc.place c.loop-alloc.invariant.within rest at (grind (arith, c.act_of.ensures, c.loop-alloc-test.false)))
