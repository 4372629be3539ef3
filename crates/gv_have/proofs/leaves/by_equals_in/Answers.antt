use Rattle.gv_terms.specs.Store.{tree_at, trees_at}
use Rattle.gv_terms.proofs.RawParts.{grows_on}
use Rattle.gv_known.proofs.Nodes.{tree_kept}
use Rattle.gv_side.specs.Telling.{IsFault}
use Rattle.gv_side.proofs.Lists.{trees_same}
use Rattle.gv_sums.proofs.Results.{if_ok, if_err}
use Rattle.gv_have.specs.Telling.{IsProof, IsNoProof}
use Rattle.gv_certs.specs.Proving.{AllHold, premises, by, subst_in}
use Rattle.gv_have.specs.Scoping.{sides_of, formula_of, equals_in}
use Rattle.gv_have.proofs.Proofs.{some_both, of_fault, is_proof, is_no_proof}
use Rattle.gv_have.proofs.Scoped.{sides_kept}
use Rattle.gv_have.proofs.leaves.by_equals_in.Goals as goal

pub returns-clause-holds : goal.returns-clause-holds
returns-clause-holds c =
    let st = c.args.store.now in
    let new = c.formula.new.store in
    let facts = c.args.facts.now in
    let F = trees_at st facts in
    let G = trees_at new facts in
    let f = tree_at st c.args.goal.id in
    let g = tree_at new c.args.goal.id in
    let grows = grows_on st c.sides.new.store new c.sides.ensures.grows c.formula.ensures.grows in
    let p = c.in_ok-pair.pair in
    let a = tree_at new p.first.id in
    let b = tree_at new p.second.id in
    let d = tree_at new c.in_ok-within.within.id in
    let leaf = subst_in a b d in
    let sides = sides_kept c.args.scope.now c.args.from.now c.args.to.now c.sides.new.store new p.first p.second c.in_ok-pair.ensures.trees c.in_ok-pair.ensures.within.0 c.in_ok-pair.ensures.within.1 c.formula.ensures.grows in
    let o = equals_in c.args.scope.now c.args.from.now c.args.to.now c.args.within.now in
    let there = some_both (sides_of c.args.scope.now c.args.from.now c.args.to.now) (formula_of c.args.scope.now c.args.within.now) (a, b) d (λ p f. by (subst_in p.0 p.1 f)) sides c.in_ok-within.ensures.tree in
    if_ok c.subst_in.result (λ _. AllHold (premises G g leaf)) (λ _. IsProof o F f) c.subst_in.ensures.holds
    (λ _ h. is_proof o (by leaf) F G f g there (trees_same st new facts c.requires.facts grows) (tree_kept st new c.args.goal c.requires.goal grows) h)

pub returns-clause-cause : goal.returns-clause-cause
returns-clause-cause c =
    let st = c.args.store.now in
    let new = c.formula.new.store in
    let facts = c.args.facts.now in
    let F = trees_at st facts in
    let G = trees_at new facts in
    let f = tree_at st c.args.goal.id in
    let g = tree_at new c.args.goal.id in
    let grows = grows_on st c.sides.new.store new c.sides.ensures.grows c.formula.ensures.grows in
    let p = c.in_ok-pair.pair in
    let a = tree_at new p.first.id in
    let b = tree_at new p.second.id in
    let d = tree_at new c.in_ok-within.within.id in
    let leaf = subst_in a b d in
    let sides = sides_kept c.args.scope.now c.args.from.now c.args.to.now c.sides.new.store new p.first p.second c.in_ok-pair.ensures.trees c.in_ok-pair.ensures.within.0 c.in_ok-pair.ensures.within.1 c.formula.ensures.grows in
    let o = equals_in c.args.scope.now c.args.from.now c.args.to.now c.args.within.now in
    let there = some_both (sides_of c.args.scope.now c.args.from.now c.args.to.now) (formula_of c.args.scope.now c.args.within.now) (a, b) d (λ p f. by (subst_in p.0 p.1 f)) sides c.in_ok-within.ensures.tree in
    if_err c.subst_in.result (IsFault (premises G g leaf)) (IsNoProof o F f) c.subst_in.ensures.cause
    (λ e h. is_no_proof o (by leaf) F G f g there (trees_same st new facts c.requires.facts grows) (tree_kept st new c.args.goal c.requires.goal grows) e (of_fault G g leaf e h))
