use Rattle.std.proofs.Common.{ℕ, List, sym, subst, ◌∙◌, arith}
use Rattle.gv_termread.specs.declared.generated.term_acts.Part.TheVariants.{Other as POther}
use Rattle.gv_scriptsyntax.specs.declared.tree.Cut.{Cut}
use Rattle.gv_scriptsyntax.specs.declared.generated.script_acts.ScriptPart.TheVariants.{Cuts as PCuts}
use Rattle.gv_scriptsyntax.specs.Nodes.{IsPartAt}
use Rattle.gv_scriptnames.specs.Outlines.{of_cut}
use Rattle.gv_scriptnames.specs.declared.outline.CutOutline.{CutOutline}
use Rattle.gv_scriptnodes.specs.Lasts.{IsLeft}
use Rattle.gv_scriptnodes.proofs.Ends.{cuts_end}
use Rattle.gv_scriptnodes.proofs.Taken.{none_taken, one_taken, all_taken}
use Rattle.gv_scriptnodes.proofs.blocks.cuts_of.Goals as goal

pub loop-alloc-init : goal.loop-alloc-init
loop-alloc-init c = record {
  within = c.requires.within;
  left = λ whole is.
      subst (λ (taken : List CutOutline). IsLeft (λ (place : ℕ) (cuts : List Cut). IsPartAt c.args.text.now c.args.nodes.now place (POther (PCuts cuts))) of_cut c.args.at taken whole) (sym c.new-cuts.ensures.items) (none_taken (λ (place : ℕ) (cuts : List Cut). IsPartAt c.args.text.now c.args.nodes.now place (POther (PCuts cuts))) of_cut c.args.at whole is);
}

pub loop-alloc-preserved : goal.loop-alloc-preserved
loop-alloc-preserved c = let b = c.place_of-place.ensures.before in let w = c.loop-alloc.invariant.within in record {
  within = omega (arith, b, w);
  left = λ whole is.
      subst (λ (taken : List CutOutline). IsLeft (λ (place : ℕ) (cuts : List Cut). IsPartAt c.args.text.now c.args.nodes.now place (POther (PCuts cuts))) of_cut c.place_of-place.result taken whole) (sym c.in_ok-push.ensures.items)
      (one_taken (λ (place : ℕ) (cuts : List Cut). IsPartAt c.args.text.now c.args.nodes.now place (POther (PCuts cuts))) of_cut c.loop-alloc.place c.place_of-place.result c.in_ok-cut.cut c.loop-alloc.cuts.items whole (c.loop-alloc.invariant.left whole is)
      (λ rest at. let e = c.in_ok-cut.ensures rest at in record { rest = e.rest; last = e.last; at = e.left c.place_of-place.result c.place_of-place.ensures; same = e.same; made = e.made }));
}

pub returns : goal.returns
returns c = λ whole is.
    c.reverse.ensures.items
    ∙ all_taken (λ (place : ℕ) (cuts : List Cut). IsPartAt c.args.text.now c.args.nodes.now place (POther (PCuts cuts))) of_cut c.loop-alloc.place c.loop-alloc.cuts.items whole (c.loop-alloc.invariant.left whole is)
    (λ rest at. cuts_end c.args.text.now c.args.nodes.now c.loop-alloc.place c.loop-alloc.invariant.within rest at (grind (arith, c.act_of.ensures, c.loop-alloc-test.false)))
