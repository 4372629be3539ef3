use Rattle.std.proofs.Common.{◌∙◌, Some, ap, sym}
use Rattle.gv_terms.specs.Store.{tree_at, trees_at}
use Rattle.gv_known.proofs.Nodes.{tree_kept}
use Rattle.gv_certs.specs.Proving.{AllHold, premises, by, by_axiom}
use Rattle.gv_side.specs.Telling.{IsFault}
use Rattle.gv_side.proofs.Lists.{trees_same}
use Rattle.gv_sums.proofs.Results.{if_ok, if_err}
use Rattle.gv_have.specs.Scoping.{terms_of, axiom_in}
use Rattle.gv_have.specs.Telling.{IsProof, IsNoProof}
use Rattle.gv_have.proofs.Proofs.{some_map, of_fault, is_proof, is_no_proof}
use Rattle.gv_have.proofs.leaves.by_instance.Goals as goal

pub returns-clause-holds : goal.returns-clause-holds
returns-clause-holds c =
    let st = c.args.store.now in
    let new = c.all_terms.new.store in
    let grows = c.all_terms.ensures.grows in
    let facts = c.args.facts.now in
    let F = trees_at st facts in
    let G = trees_at new facts in
    let f = tree_at st c.args.goal.id in
    let g = tree_at new c.args.goal.id in
    let ts = trees_at new c.as_slice.result.now in
    let leaf = by_axiom c.args.number ts in
    let o = axiom_in c.args.scope.now c.args.number c.args.parts.now in
    let there = some_map (terms_of c.args.scope.now c.args.parts.now) ts (λ ts. by (by_axiom c.args.number ts)) (c.in_ok-parts.ensures.trees ∙ ap (λ ps. Some (trees_at new ps)) (sym c.as_slice.ensures.value)) in
    if_ok c.by_axiom.result (λ _. AllHold (premises G g leaf)) (λ _. IsProof o F f) c.by_axiom.ensures.holds
    (λ _ h. is_proof o (by leaf) F G f g there (trees_same st new facts c.requires.facts grows) (tree_kept st new c.args.goal c.requires.goal grows) h)

pub returns-clause-cause : goal.returns-clause-cause
returns-clause-cause c =
    let st = c.args.store.now in
    let new = c.all_terms.new.store in
    let grows = c.all_terms.ensures.grows in
    let facts = c.args.facts.now in
    let F = trees_at st facts in
    let G = trees_at new facts in
    let f = tree_at st c.args.goal.id in
    let g = tree_at new c.args.goal.id in
    let ts = trees_at new c.as_slice.result.now in
    let leaf = by_axiom c.args.number ts in
    let o = axiom_in c.args.scope.now c.args.number c.args.parts.now in
    let there = some_map (terms_of c.args.scope.now c.args.parts.now) ts (λ ts. by (by_axiom c.args.number ts)) (c.in_ok-parts.ensures.trees ∙ ap (λ ps. Some (trees_at new ps)) (sym c.as_slice.ensures.value)) in
    if_err c.by_axiom.result (IsFault (premises G g leaf)) (IsNoProof o F f) c.by_axiom.ensures.cause
    (λ e h. is_no_proof o (by leaf) F G f g there (trees_same st new facts c.requires.facts grows) (tree_kept st new c.args.goal c.requires.goal grows) e (of_fault G g leaf e h))
