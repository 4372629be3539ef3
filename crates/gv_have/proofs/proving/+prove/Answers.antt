use Rattle.std.proofs.Common.{◌≡◌, ◌∙◌, ◌+◌, ◌≤◌, ◌∷◌, [], ◌++◌, drop, take, length, refl, sym, ap, subst, arith, rules}
use Rattle.gv_terms.specs.Store.{tree_at, trees_at, AreIn}
use Rattle.gv_terms.proofs.Grown.{one_more_in}
use Rattle.gv_terms.proofs.RawParts.{grows_on}
use Rattle.gv_certs.specs.Trees.{negation}
use Rattle.gv_certs.specs.Proving.{with_fact}
use Rattle.gv_known.proofs.Nodes.{tree_kept}
use Rattle.gv_side.proofs.Lists.{handed_on, trees_same}
use Rattle.gv_sums.proofs.Results.{if_ok, if_err}
use Rattle.gv_certs.specs.declared.cert.Cert.{the_lemmas}
use Rattle.gv_sums.proofs.Results.{one_more_here}
use Rattle.gv_have.specs.Scoping.{formula_of, certificate_of, cases_in}
use Rattle.gv_have.specs.Telling.{IsProof, IsNoProof}
use Rattle.gv_have.proofs.Forms.{stepped, rest_of, cases_is, steps_is, step_here, no_more}
use Rattle.gv_have.proofs.Proofs.{by_cases, first_case, second_case, step_proves, step_fails, later_fails, step_unscoped, kept_behind, kept_through, with_one, moved, moved_fault, same_proof, same_fault, restored, cut_back, whole_kept, grows_within}
use Rattle.gv_have.proofs.Shown.{within_grown}
use Rattle.gv_have.proofs.proving.+prove.Goals as goal

pub returns-in_err-prove-in-Cases-clause-cause : goal.returns-in_err-prove-in-Cases-clause-cause
returns-in_err-prove-in-Cases-clause-cause t c =
    let vars = c.args.scope.now in
    let st = c.args.store.now in
    let one = c.formula.new.store in
    let facts = c.args.facts.now in
    let split = c.in_ok-split-in-Cases.split in
    let more = c.push.new.self in
    let F = trees_at st facts in
    let f = tree_at st c.args.goal.id in
    let u = tree_at one split.id in
    let x = formula_of vars c.in-Cases.split in
    let first = certificate_of vars c.deref.result.now in
    let known = with_one st one facts more split c.requires.facts c.formula.ensures.grows c.in_ok-push-in-Cases.ensures.added in
    let goal_is = tree_kept st one c.args.goal c.requires.goal c.formula.ensures.grows in
    let second = certificate_of vars c.in-Cases.fails.value in
    let e = c.in_err-prove-in-Cases.field-0.0 in
    let whole : certificate_of vars c.args.cert.now ≡ cases_in x first second =
    ap (certificate_of vars) c.in-Cases.is ∙ cases_is vars c.in-Cases.split c.in-Cases.holds c.in-Cases.fails
    ∙ ap (λ k. cases_in x (certificate_of vars k) second) (sym c.deref.ensures) in
    handed_on c.from_residual-in_err-prove-in-Cases.result e (IsNoProof (certificate_of vars c.args.cert.now) F f) c.from_residual-in_err-prove-in-Cases.ensures.1
    (same_fault (certificate_of vars c.args.cert.now) (cases_in x first second) F f e whole
    (first_case F f x first second u e c.in_ok-split-in-Cases.ensures.tree
    (moved_fault first (with_fact F u) (trees_at one more) f (tree_at one c.args.goal.id) e known goal_is c.in_err-prove-in-Cases.ensures.cause)))

pub returns-in_err-prove-in-Cases-clause-kept : goal.returns-in_err-prove-in-Cases-clause-kept
returns-in_err-prove-in-Cases-clause-kept t c =
    let facts = c.args.facts.now in
    let more = c.push.new.self in
    kept_through facts more c.prove.new.facts (kept_behind facts facts more c.in_ok-split-in-Cases.split (whole_kept facts) c.in_ok-push-in-Cases.ensures.added) c.prove.ensures.kept

pub returns-in_err-denied-in-Cases-clause-kept : goal.returns-in_err-denied-in-Cases-clause-kept
returns-in_err-denied-in-Cases-clause-kept t c =
    let facts = c.args.facts.now in
    let more = c.push.new.self in
    kept_through facts more c.prove.new.facts (kept_behind facts facts more c.in_ok-split-in-Cases.split (whole_kept facts) c.in_ok-push-in-Cases.ensures.added) c.prove.ensures.kept

pub cut_to-requires : goal.cut_to-requires
cut_to-requires t c =
    let st = c.args.store.now in
    let one = c.formula.new.store in
    let two = c.prove.new.store in
    let three = c.negation.new.store in
    let facts = c.args.facts.now in
    let more = c.push.new.self in
    let n : c.len-known.result ≡ length facts = omega (arith, c.len-known.ensures) in
    let grows = grows_on st one three c.formula.ensures.grows (grows_on one two three c.prove.ensures.grows c.negation.ensures.grows) in
    let back = restored facts more c.prove.new.facts (take c.len-known.result c.prove.new.facts) c.in_ok-split-in-Cases.split c.len-known.result c.in_ok-push-in-Cases.ensures.added c.prove.ensures.kept n refl in
    subst (AreIn three) (sym back) (within_grown st three facts c.requires.facts grows)

pub returns-in_err-push-in-Cases-2-clause-kept : goal.returns-in_err-push-in-Cases-2-clause-kept
returns-in_err-push-in-Cases-2-clause-kept t c =
    let facts = c.args.facts.now in
    let more = c.push.new.self in
    let n : c.len-known.result ≡ length facts = omega (arith, c.len-known.ensures) in
    let back = restored facts more c.prove.new.facts c.cut_to.new.facts c.in_ok-split-in-Cases.split c.len-known.result c.in_ok-push-in-Cases.ensures.added c.prove.ensures.kept n c.cut_to.ensures.kept in
    ap (take (length facts)) (c.in_err-push-in-Cases-2.ensures.kept ∙ back) ∙ whole_kept facts

pub prove-requires-in-Cases : goal.prove-requires-in-Cases
prove-requires-in-Cases t c =
    let st = c.args.store.now in
    let one = c.formula.new.store in
    let two = c.prove.new.store in
    let three = c.negation.new.store in
    let last = c.push-in-Cases.new.self in
    let grows = grows_on st one three c.formula.ensures.grows (grows_on one two three c.prove.ensures.grows c.negation.ensures.grows) in
    let within : AreIn three last = subst (AreIn three) (sym c.in_ok-push-in-Cases-2.ensures.added) (one_more_here three c.cut_to.new.facts c.in_ok-denied-in-Cases.denied c.cut_to.ensures.within c.in_ok-denied-in-Cases.ensures.within) in
    (first_of (search (rules, the_lemmas), grind (arith, the_lemmas)), (within, grows_within st three c.args.goal c.requires.goal grows))

pub prove-requires-in-loop-i : goal.prove-requires-in-loop-i
prove-requires-in-loop-i t c =
    let here_st = c.loop-i.store in
    let one = c.formula-in-loop-i.new.store in
    (first_of (search (rules, the_lemmas), grind (arith, the_lemmas)), (within_grown here_st one c.loop-i.facts c.loop-i.invariant.within c.formula-in-loop-i.ensures.grows, c.in_ok-shown-in-Steps.ensures.within))

pub returns-in_err-shown-in-Steps-clause-cause : goal.returns-in_err-shown-in-Steps-clause-cause
returns-in_err-shown-in-Steps-clause-cause t c =
    let vars = c.args.scope.now in
    let st = c.args.store.now in
    let here_st = c.loop-i.store in
    let one = c.formula-in-loop-i.new.store in
    let facts = c.loop-i.facts in
    let F = trees_at st c.args.facts.now in
    let L = trees_at here_st facts in
    let f = tree_at st c.args.goal.id in
    let steps = c.as_slice-steps.result.now in
    let last = c.in-Steps.last.value in
    let i = c.loop-i.i in
    let h = c.index-steps-i.result in
    let x = formula_of vars h.formula in
    let k = certificate_of vars h.cert in
    let r = rest_of vars (drop (i + 1) steps) last in
    let here = step_here vars steps last i h c.loop-i-test.true c.index-steps-i.is in
    let whole : certificate_of vars c.args.cert.now ≡ rest_of vars steps last =
    ap (certificate_of vars) c.in-Steps.is ∙ steps_is vars c.in-Steps.steps c.in-Steps.last ∙ ap (λ hs. rest_of vars hs last) (sym c.as_slice-steps.ensures) in
    let e = c.in_err-shown-in-Steps.field-0.0 in
    handed_on c.from_residual-in_err-shown-in-Steps.result e (IsNoProof (certificate_of vars c.args.cert.now) F f) c.from_residual-in_err-shown-in-Steps.ensures.1
    (same_fault (certificate_of vars c.args.cert.now) (rest_of vars steps last) F f e whole
    (c.loop-i.invariant.fault e (same_fault (rest_of vars (drop i steps) last) (stepped x k r) L f e here (step_unscoped L f x k r e c.in_err-shown-in-Steps.ensures.cause))))

pub returns-in_err-prove-in-Steps-clause-cause : goal.returns-in_err-prove-in-Steps-clause-cause
returns-in_err-prove-in-Steps-clause-cause t c =
    let vars = c.args.scope.now in
    let st = c.args.store.now in
    let here_st = c.loop-i.store in
    let one = c.formula-in-loop-i.new.store in
    let facts = c.loop-i.facts in
    let F = trees_at st c.args.facts.now in
    let L = trees_at here_st facts in
    let f = tree_at st c.args.goal.id in
    let steps = c.as_slice-steps.result.now in
    let last = c.in-Steps.last.value in
    let i = c.loop-i.i in
    let h = c.index-steps-i.result in
    let x = formula_of vars h.formula in
    let k = certificate_of vars h.cert in
    let r = rest_of vars (drop (i + 1) steps) last in
    let here = step_here vars steps last i h c.loop-i-test.true c.index-steps-i.is in
    let whole : certificate_of vars c.args.cert.now ≡ rest_of vars steps last =
    ap (certificate_of vars) c.in-Steps.is ∙ steps_is vars c.in-Steps.steps c.in-Steps.last ∙ ap (λ hs. rest_of vars hs last) (sym c.as_slice-steps.ensures) in
    let e = c.in_err-prove-in-Steps.field-0.0 in
    let shown = c.in_ok-shown-in-Steps.shown in
    let u = tree_at one shown.id in
    let known = trees_same here_st one facts c.loop-i.invariant.within c.formula-in-loop-i.ensures.grows in
    handed_on c.from_residual-in_err-prove-in-Steps.result e (IsNoProof (certificate_of vars c.args.cert.now) F f) c.from_residual-in_err-prove-in-Steps.ensures.1
    (same_fault (certificate_of vars c.args.cert.now) (rest_of vars steps last) F f e whole
    (c.loop-i.invariant.fault e
    (same_fault (rest_of vars (drop i steps) last) (stepped x k r) L f e here
    (step_fails L f x k r u e c.in_ok-shown-in-Steps.ensures.tree (moved_fault k L (trees_at one facts) u u e known refl c.in_err-prove-in-Steps.ensures.cause)))))

pub loop-i-preserved : goal.loop-i-preserved
loop-i-preserved t c =
    let vars = c.args.scope.now in
    let st = c.args.store.now in
    let here_st = c.loop-i.store in
    let one = c.formula-in-loop-i.new.store in
    let facts = c.loop-i.facts in
    let F = trees_at st c.args.facts.now in
    let L = trees_at here_st facts in
    let f = tree_at st c.args.goal.id in
    let steps = c.as_slice-steps.result.now in
    let last = c.in-Steps.last.value in
    let i = c.loop-i.i in
    let h = c.index-steps-i.result in
    let x = formula_of vars h.formula in
    let k = certificate_of vars h.cert in
    let r = rest_of vars (drop (i + 1) steps) last in
    let here = step_here vars steps last i h c.loop-i-test.true c.index-steps-i.is in
    let two = c.prove-in-loop-i.new.store in
    let shown = c.in_ok-shown-in-Steps.shown in
    let u = tree_at one shown.id in
    let known = trees_same here_st one facts c.loop-i.invariant.within c.formula-in-loop-i.ensures.grows in
    let grows = grows_on here_st one two c.formula-in-loop-i.ensures.grows c.prove-in-loop-i.ensures.grows in
    let more = c.push-in-loop-i.new.self in
    let n : c.len-known-in-loop-i.result ≡ length facts = omega (arith, c.len-known-in-loop-i.ensures) in
    let back = cut_back facts c.prove-in-loop-i.new.facts c.truncate.new.self c.len-known-in-loop-i.result c.prove-in-loop-i.ensures.kept n c.truncate.ensures in
    let added : more ≡ facts ++ shown ∷ [] = c.in_ok-push-in-Steps.ensures.added ∙ ap (λ ts. ts ++ shown ∷ []) back in
    let is_shown : tree_at two shown.id ≡ u = tree_kept one two shown c.in_ok-shown-in-Steps.ensures.within c.prove-in-loop-i.ensures.grows in
    let later : trees_at two more ≡ with_fact L u = with_one here_st two facts more shown c.loop-i.invariant.within grows added ∙ ap (with_fact L) is_shown in
    let proof = moved k L (trees_at one facts) u u known refl c.in_ok-prove-in-Steps.ensures.holds in
    record {
      grows = grows_on st here_st two c.loop-i.invariant.grows grows;
      within = subst (AreIn two) (sym added) (one_more_in here_st two facts shown c.loop-i.invariant.within grows (grows_within one two shown c.in_ok-shown-in-Steps.ensures.within c.prove-in-loop-i.ensures.grows));
      kept = kept_behind c.args.facts.now facts more shown c.loop-i.invariant.kept added;
      holds = λ p. c.loop-i.invariant.holds
          (same_proof (rest_of vars (drop i steps) last) (stepped x k r) L f here (step_proves L f x k r u c.in_ok-shown-in-Steps.ensures.tree proof (moved r (with_fact L u) (trees_at two more) f f later refl p)));
      fault = λ e p. c.loop-i.invariant.fault e
          (same_fault (rest_of vars (drop i steps) last) (stepped x k r) L f e here
          (later_fails L f x k r u e c.in_ok-shown-in-Steps.ensures.tree proof (moved_fault r (with_fact L u) (trees_at two more) f f e later refl p)));
    }

pub returns-in_ok-push-in-Cases-2-clause-holds : goal.returns-in_ok-push-in-Cases-2-clause-holds
returns-in_ok-push-in-Cases-2-clause-holds t c =
    let vars = c.args.scope.now in
    let st = c.args.store.now in
    let one = c.formula.new.store in
    let facts = c.args.facts.now in
    let split = c.in_ok-split-in-Cases.split in
    let more = c.push.new.self in
    let F = trees_at st facts in
    let f = tree_at st c.args.goal.id in
    let u = tree_at one split.id in
    let x = formula_of vars c.in-Cases.split in
    let first = certificate_of vars c.deref.result.now in
    let known = with_one st one facts more split c.requires.facts c.formula.ensures.grows c.in_ok-push-in-Cases.ensures.added in
    let goal_is = tree_kept st one c.args.goal c.requires.goal c.formula.ensures.grows in
    let two = c.prove.new.store in
    let three = c.negation.new.store in
    let cut = c.cut_to.new.facts in
    let last = c.push-in-Cases.new.self in
    let denied = c.in_ok-denied-in-Cases.denied in
    let n : c.len-known.result ≡ length facts = omega (arith, c.len-known.ensures) in
    let back = restored facts more c.prove.new.facts cut split c.len-known.result c.in_ok-push-in-Cases.ensures.added c.prove.ensures.kept n c.cut_to.ensures.kept in
    let added : last ≡ facts ++ denied ∷ [] = c.in_ok-push-in-Cases-2.ensures.added ∙ ap (λ ts. ts ++ denied ∷ []) back in
    let grows = grows_on st one three c.formula.ensures.grows (grows_on one two three c.prove.ensures.grows c.negation.ensures.grows) in
    let second = certificate_of vars c.deref-in-Cases.result.now in
    let is_denied : tree_at three denied.id ≡ negation u = c.in_ok-denied-in-Cases.ensures.made ∙ ap negation (tree_kept one two split c.in_ok-split-in-Cases.ensures.within c.prove.ensures.grows) in
    let later = with_one st three facts last denied c.requires.facts grows added ∙ ap (with_fact F) is_denied in
    let goal_later = tree_kept st three c.args.goal c.requires.goal grows in
    let whole : certificate_of vars c.args.cert.now ≡ cases_in x first second =
    ap (certificate_of vars) c.in-Cases.is ∙ cases_is vars c.in-Cases.split c.in-Cases.holds c.in-Cases.fails
    ∙ ap (λ k. cases_in x (certificate_of vars k) (certificate_of vars c.in-Cases.fails.value)) (sym c.deref.ensures)
    ∙ ap (λ k. cases_in x first (certificate_of vars k)) (sym c.deref-in-Cases.ensures) in
    let shown = moved first (with_fact F u) (trees_at one more) f (tree_at one c.args.goal.id) known goal_is c.in_ok-prove-in-Cases.ensures.holds in
    if_ok c.prove-in-Cases.result (λ _. IsProof second (trees_at three last) (tree_at three c.args.goal.id)) (λ _. IsProof (certificate_of vars c.args.cert.now) F f) c.prove-in-Cases.ensures.holds
    (λ _ p. same_proof (certificate_of vars c.args.cert.now) (cases_in x first second) F f whole
    (by_cases F f x first second u c.in_ok-split-in-Cases.ensures.tree shown (moved second (with_fact F (negation u)) (trees_at three last) f (tree_at three c.args.goal.id) later goal_later p)))

pub returns-in_ok-push-in-Cases-2-clause-cause : goal.returns-in_ok-push-in-Cases-2-clause-cause
returns-in_ok-push-in-Cases-2-clause-cause t c =
    let vars = c.args.scope.now in
    let st = c.args.store.now in
    let one = c.formula.new.store in
    let facts = c.args.facts.now in
    let split = c.in_ok-split-in-Cases.split in
    let more = c.push.new.self in
    let F = trees_at st facts in
    let f = tree_at st c.args.goal.id in
    let u = tree_at one split.id in
    let x = formula_of vars c.in-Cases.split in
    let first = certificate_of vars c.deref.result.now in
    let known = with_one st one facts more split c.requires.facts c.formula.ensures.grows c.in_ok-push-in-Cases.ensures.added in
    let goal_is = tree_kept st one c.args.goal c.requires.goal c.formula.ensures.grows in
    let two = c.prove.new.store in
    let three = c.negation.new.store in
    let cut = c.cut_to.new.facts in
    let last = c.push-in-Cases.new.self in
    let denied = c.in_ok-denied-in-Cases.denied in
    let n : c.len-known.result ≡ length facts = omega (arith, c.len-known.ensures) in
    let back = restored facts more c.prove.new.facts cut split c.len-known.result c.in_ok-push-in-Cases.ensures.added c.prove.ensures.kept n c.cut_to.ensures.kept in
    let added : last ≡ facts ++ denied ∷ [] = c.in_ok-push-in-Cases-2.ensures.added ∙ ap (λ ts. ts ++ denied ∷ []) back in
    let grows = grows_on st one three c.formula.ensures.grows (grows_on one two three c.prove.ensures.grows c.negation.ensures.grows) in
    let second = certificate_of vars c.deref-in-Cases.result.now in
    let is_denied : tree_at three denied.id ≡ negation u = c.in_ok-denied-in-Cases.ensures.made ∙ ap negation (tree_kept one two split c.in_ok-split-in-Cases.ensures.within c.prove.ensures.grows) in
    let later = with_one st three facts last denied c.requires.facts grows added ∙ ap (with_fact F) is_denied in
    let goal_later = tree_kept st three c.args.goal c.requires.goal grows in
    let whole : certificate_of vars c.args.cert.now ≡ cases_in x first second =
    ap (certificate_of vars) c.in-Cases.is ∙ cases_is vars c.in-Cases.split c.in-Cases.holds c.in-Cases.fails
    ∙ ap (λ k. cases_in x (certificate_of vars k) (certificate_of vars c.in-Cases.fails.value)) (sym c.deref.ensures)
    ∙ ap (λ k. cases_in x first (certificate_of vars k)) (sym c.deref-in-Cases.ensures) in
    let shown = moved first (with_fact F u) (trees_at one more) f (tree_at one c.args.goal.id) known goal_is c.in_ok-prove-in-Cases.ensures.holds in
    if_err c.prove-in-Cases.result (IsNoProof second (trees_at three last) (tree_at three c.args.goal.id)) (IsNoProof (certificate_of vars c.args.cert.now) F f) c.prove-in-Cases.ensures.cause
    (λ e p. same_fault (certificate_of vars c.args.cert.now) (cases_in x first second) F f e whole
    (second_case F f x first second u e c.in_ok-split-in-Cases.ensures.tree shown (moved_fault second (with_fact F (negation u)) (trees_at three last) f (tree_at three c.args.goal.id) e later goal_later p)))

pub returns-in_ok-push-in-Cases-2-clause-kept : goal.returns-in_ok-push-in-Cases-2-clause-kept
returns-in_ok-push-in-Cases-2-clause-kept t c =
    let facts = c.args.facts.now in
    let split = c.in_ok-split-in-Cases.split in
    let more = c.push.new.self in
    let cut = c.cut_to.new.facts in
    let last = c.push-in-Cases.new.self in
    let denied = c.in_ok-denied-in-Cases.denied in
    let n : c.len-known.result ≡ length facts = omega (arith, c.len-known.ensures) in
    let back = restored facts more c.prove.new.facts cut split c.len-known.result c.in_ok-push-in-Cases.ensures.added c.prove.ensures.kept n c.cut_to.ensures.kept in
    let added : last ≡ facts ++ denied ∷ [] = c.in_ok-push-in-Cases-2.ensures.added ∙ ap (λ ts. ts ++ denied ∷ []) back in
    kept_through facts last c.prove-in-Cases.new.facts (kept_behind facts facts last denied (whole_kept facts) added) c.prove-in-Cases.ensures.kept

pub returns-after-loop-i-clause-holds : goal.returns-after-loop-i-clause-holds
returns-after-loop-i-clause-holds t c =
    let vars = c.args.scope.now in
    let st = c.args.store.now in
    let here_st = c.loop-i.store in
    let facts = c.loop-i.facts in
    let F = trees_at st c.args.facts.now in
    let L = trees_at here_st facts in
    let f = tree_at st c.args.goal.id in
    let g = tree_at here_st c.args.goal.id in
    let steps = c.as_slice-steps.result.now in
    let last = c.in-Steps.last.value in
    let i = c.loop-i.i in
    let le : length steps ≤ i = omega (arith, c.loop-i-test.false) in
    let k = certificate_of vars c.deref-in-Steps.result.now in
    let end = no_more vars steps last i le ∙ ap (certificate_of vars) (sym c.deref-in-Steps.ensures) in
    let goal_is = tree_kept st here_st c.args.goal c.requires.goal c.loop-i.invariant.grows in
    let whole : certificate_of vars c.args.cert.now ≡ rest_of vars steps last =
    ap (certificate_of vars) c.in-Steps.is ∙ steps_is vars c.in-Steps.steps c.in-Steps.last ∙ ap (λ hs. rest_of vars hs last) (sym c.as_slice-steps.ensures) in
    if_ok c.prove-in-Steps.result (λ _. IsProof k L g) (λ _. IsProof (certificate_of vars c.args.cert.now) F f) c.prove-in-Steps.ensures.holds
    (λ _ p. same_proof (certificate_of vars c.args.cert.now) (rest_of vars steps last) F f whole
    (c.loop-i.invariant.holds (same_proof (rest_of vars (drop i steps) last) k L f end (moved k L L f g refl goal_is p))))

pub returns-after-loop-i-clause-cause : goal.returns-after-loop-i-clause-cause
returns-after-loop-i-clause-cause t c =
    let vars = c.args.scope.now in
    let st = c.args.store.now in
    let here_st = c.loop-i.store in
    let facts = c.loop-i.facts in
    let F = trees_at st c.args.facts.now in
    let L = trees_at here_st facts in
    let f = tree_at st c.args.goal.id in
    let g = tree_at here_st c.args.goal.id in
    let steps = c.as_slice-steps.result.now in
    let last = c.in-Steps.last.value in
    let i = c.loop-i.i in
    let le : length steps ≤ i = omega (arith, c.loop-i-test.false) in
    let k = certificate_of vars c.deref-in-Steps.result.now in
    let end = no_more vars steps last i le ∙ ap (certificate_of vars) (sym c.deref-in-Steps.ensures) in
    let goal_is = tree_kept st here_st c.args.goal c.requires.goal c.loop-i.invariant.grows in
    let whole : certificate_of vars c.args.cert.now ≡ rest_of vars steps last =
    ap (certificate_of vars) c.in-Steps.is ∙ steps_is vars c.in-Steps.steps c.in-Steps.last ∙ ap (λ hs. rest_of vars hs last) (sym c.as_slice-steps.ensures) in
    if_err c.prove-in-Steps.result (IsNoProof k L g) (IsNoProof (certificate_of vars c.args.cert.now) F f) c.prove-in-Steps.ensures.cause
    (λ e p. same_fault (certificate_of vars c.args.cert.now) (rest_of vars steps last) F f e whole
    (c.loop-i.invariant.fault e (same_fault (rest_of vars (drop i steps) last) k L f e end (moved_fault k L L f g e refl goal_is p))))
