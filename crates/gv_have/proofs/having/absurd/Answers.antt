use Rattle.std.proofs.Common.{◌∙◌}
use Rattle.gv_terms.specs.Store.{tree_at, trees_at}
use Rattle.gv_terms.proofs.RawParts.{grows_on}
use Rattle.gv_certs.specs.Laws.{falsum}
use Rattle.gv_known.proofs.Nodes.{tree_kept}
use Rattle.gv_side.proofs.Lists.{trees_same}
use Rattle.gv_sums.proofs.Results.{if_ok, if_err}
use Rattle.gv_have.specs.Scoping.{certificate_of, ShowsAbsurd}
use Rattle.gv_have.specs.Telling.{IsProof, IsNoProof, IsAbsurdFault, AreContradictory}
use Rattle.gv_have.proofs.Proofs.{moved, moved_fault}
use Rattle.gv_have.proofs.Shown.{absurd_shown, absurd_meant, absurd_refused}
use Rattle.gv_have.proofs.having.absurd.Goals as goal

pub returns-clause-shown : goal.returns-clause-shown
returns-clause-shown c =
    let vars = c.args.scope.now in
    let st = c.args.store.now in
    let one = c.falsum.new.store in
    let two = c.check_scope.new.store in
    let facts = c.args.facts.now in
    let F = trees_at st facts in
    let G = trees_at two facts in
    let g = tree_at two c.in_ok-goal.goal.id in
    let o = certificate_of vars c.args.cert.now in
    let grows = grows_on st one two c.falsum.ensures.grows c.check_scope.ensures.grows in
    let known = trees_same st two facts c.requires.facts grows in
    let goal_is = tree_kept one two c.in_ok-goal.goal c.in_ok-goal.ensures.within c.check_scope.ensures.grows ∙ c.in_ok-goal.ensures.made in
    if_ok c.prove-proved.result (λ _. IsProof o G g) (λ _. ShowsAbsurd vars F c.args.cert.now) c.prove-proved.ensures.holds
    (λ _ p. absurd_shown vars F c.args.cert.now c.in_ok-check_scope.ensures.scoped (moved o F G falsum g known goal_is p))

pub returns-clause-meant : goal.returns-clause-meant
returns-clause-meant c =
    let vars = c.args.scope.now in
    let st = c.args.store.now in
    let one = c.falsum.new.store in
    let two = c.check_scope.new.store in
    let facts = c.args.facts.now in
    let F = trees_at st facts in
    let G = trees_at two facts in
    let g = tree_at two c.in_ok-goal.goal.id in
    let o = certificate_of vars c.args.cert.now in
    let grows = grows_on st one two c.falsum.ensures.grows c.check_scope.ensures.grows in
    let known = trees_same st two facts c.requires.facts grows in
    let goal_is = tree_kept one two c.in_ok-goal.goal c.in_ok-goal.ensures.within c.check_scope.ensures.grows ∙ c.in_ok-goal.ensures.made in
    if_ok c.prove-proved.result (λ _. IsProof o G g) (λ _. AreContradictory F) c.prove-proved.ensures.holds
    (λ _ p. absurd_meant vars F c.args.cert.now c.in_ok-check_scope.ensures.scoped (moved o F G falsum g known goal_is p))

pub returns-clause-cause : goal.returns-clause-cause
returns-clause-cause c =
    let vars = c.args.scope.now in
    let st = c.args.store.now in
    let one = c.falsum.new.store in
    let two = c.check_scope.new.store in
    let facts = c.args.facts.now in
    let F = trees_at st facts in
    let G = trees_at two facts in
    let g = tree_at two c.in_ok-goal.goal.id in
    let o = certificate_of vars c.args.cert.now in
    let grows = grows_on st one two c.falsum.ensures.grows c.check_scope.ensures.grows in
    let known = trees_same st two facts c.requires.facts grows in
    let goal_is = tree_kept one two c.in_ok-goal.goal c.in_ok-goal.ensures.within c.check_scope.ensures.grows ∙ c.in_ok-goal.ensures.made in
    if_err c.prove-proved.result (IsNoProof o G g) (IsAbsurdFault vars F c.args.cert.now) c.prove-proved.ensures.cause
    (λ e p. absurd_refused vars F c.args.cert.now e c.in_ok-check_scope.ensures.scoped (moved_fault o F G falsum g e known goal_is p))
