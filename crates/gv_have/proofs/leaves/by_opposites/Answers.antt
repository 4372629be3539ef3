use Rattle.gv_terms.specs.declared.tree.TermTree.{TermTree}
use Rattle.gv_terms.specs.Store.{tree_at, trees_at}
use Rattle.gv_known.proofs.Nodes.{tree_kept}
use Rattle.gv_side.specs.Telling.{IsFault}
use Rattle.gv_side.proofs.Lists.{trees_same}
use Rattle.gv_sums.proofs.Results.{if_ok, if_err}
use Rattle.gv_have.specs.Telling.{IsProof, IsNoProof}
use Rattle.gv_certs.specs.Proving.{AllHold, premises, by, contra}
use Rattle.gv_have.specs.Scoping.{formula_of, opposites}
use Rattle.gv_have.proofs.Proofs.{some_map, of_fault, is_proof, is_no_proof}
use Rattle.gv_have.proofs.leaves.by_opposites.Goals as goal

pub returns-clause-holds : goal.returns-clause-holds
returns-clause-holds c =
    let st = c.args.store.now in
    let new = c.formula.new.store in
    let facts = c.args.facts.now in
    let F = trees_at st facts in
    let G = trees_at new facts in
    let f = tree_at st c.args.goal.id in
    let g = tree_at new c.args.goal.id in
    let grows = c.formula.ensures.grows in
    let d = tree_at new c.in_ok-opposite.opposite.id in
    let leaf = contra d in
    let o = opposites c.args.scope.now c.args.opposite.now in
    let there = some_map (formula_of c.args.scope.now c.args.opposite.now) d (λ f. by (contra f)) c.in_ok-opposite.ensures.tree in
    if_ok c.contra.result (λ _. (t : TermTree) → AllHold (premises G t leaf)) (λ _. IsProof o F f) c.contra.ensures.holds
    (λ _ h. is_proof o (by leaf) F G f g there (trees_same st new facts c.requires.facts grows) (tree_kept st new c.args.goal c.requires.goal grows) (h g))

pub returns-clause-cause : goal.returns-clause-cause
returns-clause-cause c =
    let st = c.args.store.now in
    let new = c.formula.new.store in
    let facts = c.args.facts.now in
    let F = trees_at st facts in
    let G = trees_at new facts in
    let f = tree_at st c.args.goal.id in
    let g = tree_at new c.args.goal.id in
    let grows = c.formula.ensures.grows in
    let d = tree_at new c.in_ok-opposite.opposite.id in
    let leaf = contra d in
    let o = opposites c.args.scope.now c.args.opposite.now in
    let there = some_map (formula_of c.args.scope.now c.args.opposite.now) d (λ f. by (contra f)) c.in_ok-opposite.ensures.tree in
    if_err c.contra.result (λ e. (t : TermTree) → IsFault (premises G t leaf) e) (IsNoProof o F f) c.contra.ensures.cause
    (λ e h. is_no_proof o (by leaf) F G f g there (trees_same st new facts c.requires.facts grows) (tree_kept st new c.args.goal c.requires.goal grows) e (of_fault G g leaf e (h g)))
