use Rattle.std.proofs.Common.{◌≡◌, ◌∙◌, ap}
use Rattle.gv_terms.specs.Store.{tree_at, trees_at}
use Rattle.gv_certs.specs.Trees.{over_two}
use Rattle.gv_certs.specs.Known.{is_known}
use Rattle.gv_side.proofs.Lists.{trees_same}
use Rattle.gv_sums.proofs.Results.{if_ok}
use Rattle.gv_sums.proofs.whole_sums.is_known_over.Goals as goal

pub returns-clause-told : goal.returns-clause-told
returns-clause-told c =
    let st = c.args.store.now in
    let new = c.over_two.new.store in
    let facts = c.args.facts.now in
    let formula = tree_at new c.in_ok-formula.formula.id in
    let whole = over_two c.args.operator (tree_at st c.args.a.id) (tree_at st c.args.b.id) in
    if_ok c.known.result (λ k. k ≡ is_known (trees_at new facts) formula) (λ k. k ≡ is_known (trees_at st facts) whole) c.known.ensures
    (λ k e. e ∙ ap (λ fs. is_known fs formula) (trees_same st new facts c.requires.facts c.over_two.ensures.grows) ∙ ap (is_known (trees_at st facts)) c.in_ok-formula.ensures.made)
