use Rattle.std.proofs.Common.{◌≡◌, ℕ, List, arith}
use Rattle.gv_termread.specs.declared.generated.term_acts.Part.TheVariants.{Other as POther}
use Rattle.gv_termread.specs.declared.placed.PlacedTerm.{PlacedTerm}
use Rattle.gv_scriptsyntax.specs.declared.generated.script_acts.ScriptPart.TheVariants.{Terms as PTerms}
use Rattle.gv_scriptsyntax.specs.Nodes.{IsPartAt}
use Rattle.gv_scriptnodes.proofs.Taken.{one_counted, same_counted, all_counted}
use Rattle.gv_scriptnodes.proofs.names.count_terms.Goals as goal

pub loop-before-preserved-in-Item : goal.loop-before-preserved-in-Item
loop-before-preserved-in-Item c =
    let b = c.in-Item.ensures.below in
    let w = c.loop-before.invariant.within in
    let r = c.loop-before.invariant.room in
    record {
      within = omega (arith, b, w);
      room = omega (arith, b, r);
      left = λ whole is.
          one_counted (λ (place : ℕ) (terms : List PlacedTerm). IsPartAt c.args.text.now c.args.nodes.now place (POther (PTerms terms))) (λ item term. item ≡ item) c.loop-before.place c.in-Item.before
          c.in-Item.item c.loop-before.count whole (c.loop-before.invariant.left whole is) c.in-Item.ensures.is;
    }

pub loop-before-preserved : goal.loop-before-preserved
loop-before-preserved c =
    let b = c.in-Same.ensures.below in
    let w = c.loop-before.invariant.within in
    let r = c.loop-before.invariant.room in
    record {
      within = omega (arith, b, w);
      room = omega (arith, b, r);
      left = λ whole is.
          same_counted (λ (place : ℕ) (terms : List PlacedTerm). IsPartAt c.args.text.now c.args.nodes.now place (POther (PTerms terms))) c.loop-before.place c.in-Same.same c.loop-before.count whole
          (c.loop-before.invariant.left whole is) c.in-Same.ensures.is;
    }

pub returns : goal.returns
returns c = λ whole is.
    all_counted (λ (place : ℕ) (terms : List PlacedTerm). IsPartAt c.args.text.now c.args.nodes.now place (POther (PTerms terms))) c.loop-before.place c.loop-before.count whole
    (c.loop-before.invariant.left whole is) c.in-Empty.ensures.is
