use Rattle.std.proofs.Common.{◌≡◌, length, sym, ap, ◌∙◌, subst, arith}
use Rattle.std.proofs.lemmas.Result.{IfOk-weaker}
use Rattle.gv_terms.specs.Ranges.{IsInRange, IsValuation}
use Rattle.gv_terms.specs.Values.{sort_of_value}
use Rattle.gv_terms.specs.Trees.{sort_of, value_under}
use Rattle.gv_terms.specs.Store.{tree_at, trees_of}
use Rattle.gv_terms.proofs.Grown.{length_trees}
use Rattle.gv_terms.proofs.ValueSorts.{term_sort}
use Rattle.gv_terms.proofs.ValueRanges.{term_range}
use Rattle.gv_terms.proofs.valuation.eval.Goals as goal

pub value_of-requires-clause-within : goal.value_of-requires-clause-within
value_of-requires-clause-within c =
    omega (arith, c.requires, length_trees c.nodes.result.now, ap length c.nodes.ensures.trees)

pub returns-clause-sort : goal.returns-clause-sort
returns-clause-sort c =
    let ns = c.nodes.result.now in
    let env = c.args.env.now in
    let i = c.args.t.id in
    let here = term_sort env ns i c.nodes.ensures.sound (omega (arith, c.requires, length_trees ns, ap length c.nodes.ensures.trees)) in
    IfOk-weaker c.value_of.result (λ v. v ≡ value_under env (tree_at (trees_of ns) i)) (λ v. sort_of_value v ≡ sort_of (tree_at c.args.store.now i))
    (λ v e. ap sort_of_value e ∙ here ∙ ap (λ ts. sort_of (tree_at ts i)) c.nodes.ensures.trees)
    c.value_of.ensures

pub returns-clause-range : goal.returns-clause-range
returns-clause-range c =
    let ns = c.nodes.result.now in
    let env = c.args.env.now in
    let i = c.args.t.id in
    IfOk-weaker c.value_of.result (λ v. v ≡ value_under env (tree_at (trees_of ns) i)) (λ v. IsValuation env → IsInRange v)
    (λ v e all. subst IsInRange (sym e) (term_range env ns i c.nodes.ensures.sound (omega (arith, c.requires, length_trees ns, ap length c.nodes.ensures.trees)) all))
    c.value_of.ensures
