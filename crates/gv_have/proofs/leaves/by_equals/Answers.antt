use Rattle.gv_terms.specs.Store.{tree_at, trees_at}
use Rattle.gv_known.proofs.Nodes.{tree_kept}
use Rattle.gv_side.specs.Telling.{IsFault}
use Rattle.gv_side.proofs.Lists.{trees_same}
use Rattle.gv_sums.proofs.Results.{if_ok, if_err}
use Rattle.gv_have.specs.Telling.{IsProof, IsNoProof}
use Rattle.gv_certs.specs.Proving.{AllHold, premises, by, subst as leaf_subst}
use Rattle.gv_have.specs.Scoping.{sides_of, equals}
use Rattle.gv_have.proofs.Proofs.{some_map, of_fault, is_proof, is_no_proof}
use Rattle.gv_have.proofs.leaves.by_equals.Goals as goal

pub returns-clause-holds : goal.returns-clause-holds
returns-clause-holds c =
    let st = c.args.store.now in
    let new = c.sides.new.store in
    let facts = c.args.facts.now in
    let F = trees_at st facts in
    let G = trees_at new facts in
    let f = tree_at st c.args.goal.id in
    let g = tree_at new c.args.goal.id in
    let grows = c.sides.ensures.grows in
    let a = tree_at new c.in_ok-pair.pair.first.id in
    let b = tree_at new c.in_ok-pair.pair.second.id in
    let leaf = leaf_subst a b in
    let o = equals c.args.scope.now c.args.from.now c.args.to.now in
    let there = some_map (sides_of c.args.scope.now c.args.from.now c.args.to.now) (a, b) (λ p. by (leaf_subst p.0 p.1)) c.in_ok-pair.ensures.trees in
    if_ok c.subst.result (λ _. AllHold (premises G g leaf)) (λ _. IsProof o F f) c.subst.ensures.holds
    (λ _ h. is_proof o (by leaf) F G f g there (trees_same st new facts c.requires.facts grows) (tree_kept st new c.args.goal c.requires.goal grows) h)

pub returns-clause-cause : goal.returns-clause-cause
returns-clause-cause c =
    let st = c.args.store.now in
    let new = c.sides.new.store in
    let facts = c.args.facts.now in
    let F = trees_at st facts in
    let G = trees_at new facts in
    let f = tree_at st c.args.goal.id in
    let g = tree_at new c.args.goal.id in
    let grows = c.sides.ensures.grows in
    let a = tree_at new c.in_ok-pair.pair.first.id in
    let b = tree_at new c.in_ok-pair.pair.second.id in
    let leaf = leaf_subst a b in
    let o = equals c.args.scope.now c.args.from.now c.args.to.now in
    let there = some_map (sides_of c.args.scope.now c.args.from.now c.args.to.now) (a, b) (λ p. by (leaf_subst p.0 p.1)) c.in_ok-pair.ensures.trees in
    if_err c.subst.result (IsFault (premises G g leaf)) (IsNoProof o F f) c.subst.ensures.cause
    (λ e h. is_no_proof o (by leaf) F G f g there (trees_same st new facts c.requires.facts grows) (tree_kept st new c.args.goal c.requires.goal grows) e (of_fault G g leaf e h))
