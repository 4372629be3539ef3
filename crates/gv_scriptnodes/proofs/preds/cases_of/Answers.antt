use Rattle.std.proofs.Common.{◌≡◌, ℕ, List, sym, subst, ◌∙◌, arith}
use Rattle.gv_termread.specs.declared.generated.term_acts.Part.TheVariants.{Other as POther}
use Rattle.gv_scriptsyntax.specs.declared.tree.Case.{Case}
use Rattle.gv_scriptsyntax.specs.declared.generated.script_acts.ScriptPart.TheVariants.{Cases as PCases}
use Rattle.gv_scriptsyntax.specs.Nodes.{IsPartAt}
use Rattle.gv_scriptnames.specs.Outlines.{of_case}
use Rattle.gv_scriptnames.specs.declared.outline.CaseOutline.{CaseOutline}
use Rattle.gv_scriptnodes.specs.Lasts.{IsLeft}
use Rattle.gv_scriptsyntax.specs.declared.generated.script_table.TheConstants.{ACT_NEXT_CASE}
use Rattle.gv_scriptnodes.specs.Places.{act_at}
use Rattle.gv_scriptnodes.proofs.DeclActs.{next_case_is}
use Rattle.gv_scriptnodes.proofs.Ends.{cases_end}
use Rattle.gv_scriptnodes.proofs.Taken.{none_taken, one_taken, all_taken}
use Rattle.gv_scriptnodes.proofs.preds.cases_of.Goals as goal

pub loop-alloc-init : goal.loop-alloc-init
loop-alloc-init c = record {
  within = c.requires.within;
  left = λ whole is.
      subst (λ (taken : List CaseOutline). IsLeft (λ (place : ℕ) (cases : List Case). IsPartAt c.args.text.now c.args.nodes.now place (POther (PCases cases))) of_case c.args.at taken whole) (sym c.new-cases.ensures.items) (none_taken (λ (place : ℕ) (cases : List Case). IsPartAt c.args.text.now c.args.nodes.now place (POther (PCases cases))) of_case c.args.at whole is);
}

pub loop-alloc-preserved : goal.loop-alloc-preserved
loop-alloc-preserved c = let b = c.place_of-place.ensures.before in let w = c.loop-alloc.invariant.within in record {
  within = omega (arith, b, w);
  left = λ whole is.
      subst (λ (taken : List CaseOutline). IsLeft (λ (place : ℕ) (cases : List Case). IsPartAt c.args.text.now c.args.nodes.now place (POther (PCases cases))) of_case c.place_of-place.result taken whole) (sym c.in_ok-push.ensures.items)
      (one_taken (λ (place : ℕ) (cases : List Case). IsPartAt c.args.text.now c.args.nodes.now place (POther (PCases cases))) of_case c.loop-alloc.place c.place_of-place.result c.in_ok-case.case c.loop-alloc.cases.items whole (c.loop-alloc.invariant.left whole is)
      (λ rest at.
      let e : act_at c.args.nodes.now c.loop-alloc.place ≡ ACT_NEXT_CASE = grind (arith, c.act_of.ensures, c.loop-alloc-test.true) in
      let n = next_case_is c.args.text.now c.args.nodes.now c.loop-alloc.place e rest at in
      record {
        rest = n.cases;
        last = n.next;
        at = n.at_cases c.place_of-place.result c.place_of-place.ensures;
        same = c.in_ok-case.ensures n.next (n.at_next c.place_of-case_at.result c.place_of-case_at.ensures);
        made = n.made;
      }));
}

pub returns : goal.returns
returns c = λ whole is.
    c.reverse.ensures.items
    ∙ all_taken (λ (place : ℕ) (cases : List Case). IsPartAt c.args.text.now c.args.nodes.now place (POther (PCases cases))) of_case c.loop-alloc.place c.loop-alloc.cases.items whole (c.loop-alloc.invariant.left whole is)
    (λ rest at. cases_end c.args.text.now c.args.nodes.now c.loop-alloc.place c.loop-alloc.invariant.within rest at (grind (arith, c.act_of.ensures, c.loop-alloc-test.false)))
