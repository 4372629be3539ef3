use Rattle.std.proofs.Common.{◌≡◌, None, Some, cond, true, false, sym, ap, ◌∙◌}
use Rattle.std.specs.Prelude.{slice_range}
use Rattle.gv_terms.specs.Store.{tree_at, trees_at}
use Rattle.gv_terms.specs.Trees.{sort_of}
use Rattle.gv_terms.specs.Values.{is_sort}
use Rattle.gv_terms.specs.declared.sort.Sort.TheVariants as sort
use Rattle.gv_axioms.specs.declared.generated.table.TheConstants.{STEPS}
use Rattle.gv_axioms.specs.Filling.{with_some, as_formula}
use Rattle.gv_axioms.specs.Steps.{formula_by, made_by}
use Rattle.gv_axioms.proofs.Refused.{bad_kept, same_bool}
use Rattle.gv_axioms.proofs.instances.formula.Goals as goal

pub returns-in_err-term-clause-cause : goal.returns-in_err-term-clause-cause
returns-in_err-term-clause-cause c =
    let ts = trees_at c.args.store.now c.args.parts.now in
    let at : c.of.result.now ≡ slice_range STEPS c.args.steps.from c.args.steps.to = c.of.ensures in
    bad_kept c.from_residual.result c.in_err-term.field-0.0 (made_by ts c.of.result.now) (formula_by ts c.args.steps) c.from_residual.ensures.1 c.in_err-term.ensures.cause
    (λ none. ap (λ s. with_some (made_by ts s) as_formula) (sym at) ∙ ap (λ o. with_some o as_formula) none)

pub returns-then-eq-clause-made : goal.returns-then-eq-clause-made
returns-then-eq-clause-made c =
    let ts = trees_at c.args.store.now c.args.parts.now in
    let t = tree_at c.build.new.store c.in_ok-term.term.id in
    let at : c.of.result.now ≡ slice_range STEPS c.args.steps.from c.args.steps.to = c.of.ensures in
    let is : is_sort sort.Bool (sort_of t) ≡ true = ap (is_sort sort.Bool) c.sort_of.ensures ∙ same_bool c.sort_of.result c.eq.result c.eq.ensures ∙ c.if-eq.true in
    ap (λ s. with_some (made_by ts s) as_formula) (sym at) ∙ ap (λ o. with_some o as_formula) c.in_ok-term.ensures.made ∙ ap (λ b. cond b (Some t) None) is

pub returns-else-eq-clause-cause : goal.returns-else-eq-clause-cause
returns-else-eq-clause-cause c bad =
    let ts = trees_at c.args.store.now c.args.parts.now in
    let t = tree_at c.build.new.store c.in_ok-term.term.id in
    let at : c.of.result.now ≡ slice_range STEPS c.args.steps.from c.args.steps.to = c.of.ensures in
    let is : is_sort sort.Bool (sort_of t) ≡ false = ap (is_sort sort.Bool) c.sort_of.ensures ∙ same_bool c.sort_of.result c.eq.result c.eq.ensures ∙ c.if-eq.false in
    ap (λ s. with_some (made_by ts s) as_formula) (sym at) ∙ ap (λ o. with_some o as_formula) c.in_ok-term.ensures.made ∙ ap (λ b. cond b (Some t) None) is
