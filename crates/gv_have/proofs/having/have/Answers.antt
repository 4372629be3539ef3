use Rattle.std.proofs.Common.{◌≡◌, ◌∙◌, ◌∷◌, [], ◌++◌, length, sym, ap, subst, arith}
use Rattle.gv_terms.specs.Store.{tree_at, trees_at, AreIn}
use Rattle.gv_terms.proofs.Grown.{one_more_in}
use Rattle.gv_terms.proofs.RawParts.{grows_on}
use Rattle.gv_certs.specs.Proving.{with_fact}
use Rattle.gv_known.proofs.Nodes.{tree_kept}
use Rattle.gv_side.proofs.Lists.{handed_on, trees_same}
use Rattle.gv_have.specs.Scoping.{certificate_of}
use Rattle.gv_have.specs.Telling.{IsFault}
use Rattle.gv_have.proofs.Proofs.{moved, moved_fault, cut_back, with_one, grows_within}
use Rattle.gv_have.proofs.Shown.{shown, meant, refused, within_grown, some_same}
use Rattle.gv_have.proofs.having.have.Goals as goal

pub returns-in_err-proved-clause-cause : goal.returns-in_err-proved-clause-cause
returns-in_err-proved-clause-cause c =
    let vars = c.args.scope.now in
    let st = c.args.store.now in
    let one = c.formula.new.store in
    let two = c.check_scope.new.store in
    let three = c.prove-proved.new.store in
    let facts = c.args.facts.now in
    let F = trees_at st facts in
    let G = trees_at two facts in
    let f = tree_at one c.in_ok-goal.goal.id in
    let g = tree_at two c.in_ok-goal.goal.id in
    let o = certificate_of vars c.args.cert.now in
    let grows = grows_on st one two c.formula.ensures.grows c.check_scope.ensures.grows in
    let all = grows_on st two three grows c.prove-proved.ensures.grows in
    let known = trees_same st two facts c.requires.facts grows in
    let goal_is = tree_kept one two c.in_ok-goal.goal c.in_ok-goal.ensures.within c.check_scope.ensures.grows in
    let n : c.len-known.result ≡ length facts = omega (arith, c.len-known.ensures) in
    let back = cut_back facts c.prove-proved.new.facts c.truncate.new.self c.len-known.result c.prove-proved.ensures.kept n c.truncate.ensures in
    let e = c.in_err-proved.field-0.0 in
    handed_on c.from_residual-in_err-proved.result e (IsFault vars F c.args.goal.now c.args.cert.now) c.from_residual-in_err-proved.ensures.1
    (refused vars F c.args.cert.now c.args.goal.now f e c.in_ok-goal.ensures.tree c.in_ok-check_scope.ensures.scoped (moved_fault o F G f g e known goal_is c.in_err-proved.ensures.cause))

pub returns-in_err-push-clause-within : goal.returns-in_err-push-clause-within
returns-in_err-push-clause-within c =
    let vars = c.args.scope.now in
    let st = c.args.store.now in
    let one = c.formula.new.store in
    let two = c.check_scope.new.store in
    let three = c.prove-proved.new.store in
    let facts = c.args.facts.now in
    let F = trees_at st facts in
    let G = trees_at two facts in
    let f = tree_at one c.in_ok-goal.goal.id in
    let g = tree_at two c.in_ok-goal.goal.id in
    let o = certificate_of vars c.args.cert.now in
    let grows = grows_on st one two c.formula.ensures.grows c.check_scope.ensures.grows in
    let all = grows_on st two three grows c.prove-proved.ensures.grows in
    let known = trees_same st two facts c.requires.facts grows in
    let goal_is = tree_kept one two c.in_ok-goal.goal c.in_ok-goal.ensures.within c.check_scope.ensures.grows in
    let n : c.len-known.result ≡ length facts = omega (arith, c.len-known.ensures) in
    let back = cut_back facts c.prove-proved.new.facts c.truncate.new.self c.len-known.result c.prove-proved.ensures.kept n c.truncate.ensures in
    subst (AreIn three) (sym (c.in_err-push.ensures.kept ∙ back)) (within_grown st three facts c.requires.facts all)

pub returns-clause-shown : goal.returns-clause-shown
returns-clause-shown c =
    let vars = c.args.scope.now in
    let st = c.args.store.now in
    let one = c.formula.new.store in
    let two = c.check_scope.new.store in
    let three = c.prove-proved.new.store in
    let facts = c.args.facts.now in
    let F = trees_at st facts in
    let G = trees_at two facts in
    let f = tree_at one c.in_ok-goal.goal.id in
    let g = tree_at two c.in_ok-goal.goal.id in
    let o = certificate_of vars c.args.cert.now in
    let grows = grows_on st one two c.formula.ensures.grows c.check_scope.ensures.grows in
    let all = grows_on st two three grows c.prove-proved.ensures.grows in
    let known = trees_same st two facts c.requires.facts grows in
    let goal_is = tree_kept one two c.in_ok-goal.goal c.in_ok-goal.ensures.within c.check_scope.ensures.grows in
    let n : c.len-known.result ≡ length facts = omega (arith, c.len-known.ensures) in
    let back = cut_back facts c.prove-proved.new.facts c.truncate.new.self c.len-known.result c.prove-proved.ensures.kept n c.truncate.ensures in
    shown vars F c.args.cert.now c.args.goal.now f c.in_ok-goal.ensures.tree c.in_ok-check_scope.ensures.scoped (moved o F G f g known goal_is c.in_ok-proved.ensures.holds)

pub returns-clause-meant : goal.returns-clause-meant
returns-clause-meant c =
    let vars = c.args.scope.now in
    let st = c.args.store.now in
    let one = c.formula.new.store in
    let two = c.check_scope.new.store in
    let three = c.prove-proved.new.store in
    let facts = c.args.facts.now in
    let F = trees_at st facts in
    let G = trees_at two facts in
    let f = tree_at one c.in_ok-goal.goal.id in
    let g = tree_at two c.in_ok-goal.goal.id in
    let o = certificate_of vars c.args.cert.now in
    let grows = grows_on st one two c.formula.ensures.grows c.check_scope.ensures.grows in
    let all = grows_on st two three grows c.prove-proved.ensures.grows in
    let known = trees_same st two facts c.requires.facts grows in
    let goal_is = tree_kept one two c.in_ok-goal.goal c.in_ok-goal.ensures.within c.check_scope.ensures.grows in
    let n : c.len-known.result ≡ length facts = omega (arith, c.len-known.ensures) in
    let back = cut_back facts c.prove-proved.new.facts c.truncate.new.self c.len-known.result c.prove-proved.ensures.kept n c.truncate.ensures in
    meant vars F c.args.cert.now c.args.goal.now f c.in_ok-goal.ensures.tree c.in_ok-check_scope.ensures.scoped (moved o F G f g known goal_is c.in_ok-proved.ensures.holds)

pub returns-clause-added : goal.returns-clause-added
returns-clause-added c h also =
    let vars = c.args.scope.now in
    let st = c.args.store.now in
    let one = c.formula.new.store in
    let two = c.check_scope.new.store in
    let three = c.prove-proved.new.store in
    let facts = c.args.facts.now in
    let F = trees_at st facts in
    let G = trees_at two facts in
    let f = tree_at one c.in_ok-goal.goal.id in
    let g = tree_at two c.in_ok-goal.goal.id in
    let o = certificate_of vars c.args.cert.now in
    let grows = grows_on st one two c.formula.ensures.grows c.check_scope.ensures.grows in
    let all = grows_on st two three grows c.prove-proved.ensures.grows in
    let known = trees_same st two facts c.requires.facts grows in
    let goal_is = tree_kept one two c.in_ok-goal.goal c.in_ok-goal.ensures.within c.check_scope.ensures.grows in
    let n : c.len-known.result ≡ length facts = omega (arith, c.len-known.ensures) in
    let back = cut_back facts c.prove-proved.new.facts c.truncate.new.self c.len-known.result c.prove-proved.ensures.kept n c.truncate.ensures in
    let added = c.in_ok-push.ensures.added ∙ ap (λ ts. ts ++ c.in_ok-goal.goal ∷ []) back in
    let whole = tree_kept two three c.in_ok-goal.goal (grows_within one two c.in_ok-goal.goal c.in_ok-goal.ensures.within c.check_scope.ensures.grows) c.prove-proved.ensures.grows ∙ goal_is in
    let same : f ≡ h = some_same f h (sym c.in_ok-goal.ensures.tree ∙ also) in
    with_one st three facts c.push.new.self c.in_ok-goal.goal c.requires.facts all added ∙ ap (with_fact F) (whole ∙ same)

pub returns-clause-within : goal.returns-clause-within
returns-clause-within c =
    let vars = c.args.scope.now in
    let st = c.args.store.now in
    let one = c.formula.new.store in
    let two = c.check_scope.new.store in
    let three = c.prove-proved.new.store in
    let facts = c.args.facts.now in
    let F = trees_at st facts in
    let G = trees_at two facts in
    let f = tree_at one c.in_ok-goal.goal.id in
    let g = tree_at two c.in_ok-goal.goal.id in
    let o = certificate_of vars c.args.cert.now in
    let grows = grows_on st one two c.formula.ensures.grows c.check_scope.ensures.grows in
    let all = grows_on st two three grows c.prove-proved.ensures.grows in
    let known = trees_same st two facts c.requires.facts grows in
    let goal_is = tree_kept one two c.in_ok-goal.goal c.in_ok-goal.ensures.within c.check_scope.ensures.grows in
    let n : c.len-known.result ≡ length facts = omega (arith, c.len-known.ensures) in
    let back = cut_back facts c.prove-proved.new.facts c.truncate.new.self c.len-known.result c.prove-proved.ensures.kept n c.truncate.ensures in
    let added = c.in_ok-push.ensures.added ∙ ap (λ ts. ts ++ c.in_ok-goal.goal ∷ []) back in
    let lt = grows_within one three c.in_ok-goal.goal c.in_ok-goal.ensures.within (grows_on one two three c.check_scope.ensures.grows c.prove-proved.ensures.grows) in
    subst (AreIn three) (sym added) (one_more_in st three facts c.in_ok-goal.goal c.requires.facts all lt)
