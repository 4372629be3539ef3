use Rattle.std.proofs.Common.{◌≡◌, ◌-◌, take, length, ◌∷◌, [], ◌++◌, get_or, sym, ap, ◌∙◌}
use Rattle.std.specs.Prelude.{slice_get, option_map}
use Rattle.std.proofs.lemmas.List.{get_or_default}
use Rattle.gv_terms.specs.Store.{tree_at, trees_at}
use Rattle.gv_terms.proofs.RawParts.{grows_on}
use Rattle.gv_axioms.specs.declared.step.Step.TheVariants as step
use Rattle.gv_axioms.specs.Steps.{step_tree, taken, made_by}
use Rattle.gv_axioms.proofs.Refused.{bad_kept}
use Rattle.gv_axioms.proofs.Stacks.{step_there, step_made, step_none, steps_end, pushed_in}
use Rattle.gv_axioms.proofs.building.build.Goals as goal

pub returns-in_err-term-clause-cause : goal.returns-in_err-term-clause-cause
returns-in_err-term-clause-cause c =
    let ts = trees_at c.args.store.now c.args.parts.now in
    let steps = c.args.steps.now in
    let s = get_or steps c.loop-i.i (step.Part 0) in
    let stack = trees_at c.loop-i.store c.loop-i.stack.items in
    bad_kept c.from_residual.result c.in_err-term.field-0.0 (step_tree ts s stack) (made_by ts steps) c.from_residual.ensures.1
    (λ bad. step_there c.args.store.now c.loop-i.store c.args.parts.now c.as_slice.result.now c.loop-i.stack.items s c.requires c.loop-i.invariant.grows c.as_slice.ensures.value
    ∙ c.in_err-term.ensures.cause bad)
    (λ none. step_none ts steps c.loop-i.i s stack c.loop-i-test.true (get_or_default steps c.loop-i.i (step.Part 0) s c.loop-i-test.true) c.loop-i.invariant.stand none)

pub loop-i-preserved : goal.loop-i-preserved
loop-i-preserved c =
    let ts = trees_at c.args.store.now c.args.parts.now in
    let steps = c.args.steps.now in
    let s = get_or steps c.loop-i.i (step.Part 0) in
    let items = c.loop-i.stack.items in
    let new = c.term_of.new.store in
    let kept = c.saturating_sub-kept.result in
    let counted : kept ≡ length items - taken s = c.saturating_sub-kept.ensures ∙ ap (λ k. k - c.from.result) (c.len.ensures ∙ c.loop-i.stack.ok.0) ∙ ap (λ k. length items - k) (c.from.ensures ∙ c.taken.ensures) in
    let more : c.push.new.self.items ≡ take kept items ++ c.in_ok-term.term ∷ [] = c.in_ok-push.ensures.items ∙ ap (λ us. us ++ c.in_ok-term.term ∷ []) c.truncate.ensures.items in
    record {
      grows = grows_on c.args.store.now c.loop-i.store new c.loop-i.invariant.grows c.term_of.ensures.grows;
      within = pushed_in c.loop-i.store new items c.push.new.self.items kept c.in_ok-term.term c.loop-i.invariant.within c.term_of.ensures.grows c.in_ok-term.ensures.within more;
      stand =
          step_made ts steps c.loop-i.i s c.loop-i.store new items c.push.new.self.items kept c.in_ok-term.term c.loop-i-test.true
          (get_or_default steps c.loop-i.i (step.Part 0) s c.loop-i-test.true) c.loop-i.invariant.within c.term_of.ensures.grows c.loop-i.invariant.stand
          (step_there c.args.store.now c.loop-i.store c.args.parts.now c.as_slice.result.now items s c.requires c.loop-i.invariant.grows c.as_slice.ensures.value ∙ c.in_ok-term.ensures.made)
          counted more;
    }

pub returns-in-Some-clause-made : goal.returns-in-Some-clause-made
returns-in-Some-clause-made c =
    let ts = trees_at c.args.store.now c.args.parts.now in
    steps_end ts c.args.steps.now c.loop-i.i c.loop-i.store c.loop-i.stack.items c.loop-i-test.false c.loop-i.invariant.stand
    ∙ ap (option_map (λ t. tree_at c.loop-i.store t.id)) (sym (ap (λ vs. slice_get vs (length vs - 1)) c.deref.ensures.value) ∙ sym c.in-Some.ensures.value)
