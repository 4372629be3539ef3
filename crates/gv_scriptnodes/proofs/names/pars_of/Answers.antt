use Rattle.std.proofs.Common.{ℕ, List, sym, subst, ◌∙◌, arith}
use Rattle.gv_termread.specs.declared.generated.term_acts.Part.TheVariants.{Other as POther}
use Rattle.gv_scriptsyntax.specs.declared.tree.Par.{Par}
use Rattle.gv_scriptsyntax.specs.declared.generated.script_acts.ScriptPart.TheVariants.{Pars as PPars}
use Rattle.gv_scriptsyntax.specs.Nodes.{IsPartAt}
use Rattle.gv_scriptnodes.specs.Lasts.{IsLeft}
use Rattle.gv_scriptnodes.proofs.Taken.{one_taken, same_taken, all_taken, map_same}
use Rattle.gv_scriptnodes.proofs.names.pars_of.Goals as goal

pub loop-item-preserved-in-Item : goal.loop-item-preserved-in-Item
loop-item-preserved-in-Item c = let b = c.in-Item.ensures.below in let w = c.loop-item.invariant.within in record {
  within = omega (arith, b, w);
  left = λ whole is.
      subst (λ (taken : List Par). IsLeft (λ (place : ℕ) (pars : List Par). IsPartAt c.args.text.now c.args.nodes.now place (POther (PPars pars))) (λ (item : Par). item) c.in-Item.before taken whole) (sym c.in_ok-push-in-Item.ensures.items)
      (one_taken (λ (place : ℕ) (pars : List Par). IsPartAt c.args.text.now c.args.nodes.now place (POther (PPars pars))) (λ (item : Par). item) c.loop-item.place c.in-Item.before c.in-Item.item c.loop-item.pars.items whole (c.loop-item.invariant.left whole is) c.in-Item.ensures.is);
}

pub loop-item-preserved : goal.loop-item-preserved
loop-item-preserved c = let b = c.in-Same.ensures.below in let w = c.loop-item.invariant.within in record {
  within = omega (arith, b, w);
  left = λ whole is.
      same_taken (λ (place : ℕ) (pars : List Par). IsPartAt c.args.text.now c.args.nodes.now place (POther (PPars pars))) (λ (item : Par). item) c.loop-item.place c.in-Same.same c.loop-item.pars.items whole (c.loop-item.invariant.left whole is) c.in-Same.ensures.is;
}

pub returns : goal.returns
returns c = λ whole is.
    c.reverse.ensures.items
    ∙ (all_taken (λ (place : ℕ) (pars : List Par). IsPartAt c.args.text.now c.args.nodes.now place (POther (PPars pars))) (λ (item : Par). item) c.loop-item.place c.loop-item.pars.items whole (c.loop-item.invariant.left whole is) c.in-Empty.ensures.is ∙ map_same whole)
