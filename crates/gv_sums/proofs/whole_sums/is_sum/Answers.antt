use Rattle.std.proofs.Common.{◌≡◌, sym, ap, ◌∙◌}
use Rattle.gv_terms.specs.Store.{tree_at, trees_at}
use Rattle.gv_terms.specs.declared.operator.Operator.TheVariants as op
use Rattle.gv_certs.specs.Trees.{over_two, parts_under, and_pass}
use Rattle.gv_certs.specs.Known.{is_known}
use Rattle.gv_certs.specs.Sums.{is_sum}
use Rattle.gv_known.proofs.Nodes.{tree_kept}
use Rattle.gv_side.proofs.Lists.{trees_same}
use Rattle.gv_sums.proofs.Results.{if_ok}
use Rattle.gv_sums.proofs.Parts.{second_test, minus_test}
use Rattle.gv_sums.proofs.whole_sums.is_sum.Goals as goal

pub returns-clause-told : goal.returns-clause-told
returns-clause-told c =
    let st = c.args.store.now in
    let new = c.is_plus.new.store in
    let facts = c.args.facts.now in
    let t = tree_at st c.args.term.id in
    let first = and_pass (parts_under op.Plus t) (λ a b. is_known (trees_at st facts) (over_two op.Fits a b)) in
    if_ok c.is_minus.result (λ k. k ≡ minus_test (trees_at new facts) (tree_at new c.args.term.id)) (λ k. k ≡ is_sum (trees_at st facts) t) c.is_minus.ensures.told
    (λ k e. e ∙ ap (λ fs. minus_test fs (tree_at new c.args.term.id)) (trees_same st new facts c.requires.facts c.is_plus.ensures.grows)
    ∙ ap (minus_test (trees_at st facts)) (tree_kept st new c.args.term c.requires.term c.is_plus.ensures.grows)
    ∙ second_test first (minus_test (trees_at st facts) t) (sym c.in_ok-is_plus.ensures.told ∙ c.if-branch.false))
