use Rattle.std.proofs.Common.{◌≡◌, ◌∙◌, ◌+◌, ◌≤◌, drop, length, sym, ap, subst, arith}
use Rattle.gv_terms.specs.Store.{tree_at}
use Rattle.gv_terms.proofs.RawParts.{grows_on}
use Rattle.gv_side.proofs.Lists.{handed_on}
use Rattle.gv_sums.proofs.Results.{if_ok, if_err}
use Rattle.gv_have.specs.Scoping.{formula_of, certificate_of, cases_in}
use Rattle.gv_have.specs.Telling.{IsUnscoped, IsScoped}
use Rattle.gv_have.proofs.Forms.{rest_of, known_is, compute_is, cases_is, steps_is, step_here, no_more}
use Rattle.gv_have.proofs.Termed.{scoped_known, scoped_compute, scoped_cases, scoped_step, no_step_formula, no_step_cert, no_later, unscoped_through}
use Rattle.gv_have.proofs.scoping.+check_scope.Goals as goal

pub returns-in_err-formula-in-Steps-clause-cause : goal.returns-in_err-formula-in-Steps-clause-cause
returns-in_err-formula-in-Steps-clause-cause t c =
    let vars = c.args.scope.now in
    let steps = c.as_slice-steps.result.now in
    let last = c.in-Steps.last.value in
    let i = c.loop-i.i in
    let h = c.index-steps-i.result in
    let e = c.in_err-formula-in-Steps.field-0.0 in
    let x = formula_of vars h.formula in
    let r = rest_of vars (drop (i + 1) steps) last in
    let whole : certificate_of vars c.args.cert.now ≡ rest_of vars steps last =
    ap (certificate_of vars) c.in-Steps.is ∙ steps_is vars c.in-Steps.steps c.in-Steps.last ∙ ap (λ hs. rest_of vars hs last) (sym c.as_slice-steps.ensures) in
    let here = step_here vars steps last i h c.loop-i-test.true c.index-steps-i.is in
    handed_on c.from_residual-in_err-formula-in-Steps.result e (IsUnscoped (certificate_of vars c.args.cert.now)) c.from_residual-in_err-formula-in-Steps.ensures.1
    (unscoped_through x (certificate_of vars c.args.cert.now) e (λ n. whole ∙ c.loop-i.invariant.none (here ∙ no_step_formula x (certificate_of vars h.cert) r n)) c.in_err-formula-in-Steps.ensures.cause)

pub returns-in_err-check_scope-in-Steps-clause-cause : goal.returns-in_err-check_scope-in-Steps-clause-cause
returns-in_err-check_scope-in-Steps-clause-cause t c =
    let vars = c.args.scope.now in
    let steps = c.as_slice-steps.result.now in
    let last = c.in-Steps.last.value in
    let i = c.loop-i.i in
    let h = c.index-steps-i.result in
    let e = c.in_err-check_scope-in-Steps.field-0.0 in
    let k = certificate_of vars h.cert in
    let r = rest_of vars (drop (i + 1) steps) last in
    let whole : certificate_of vars c.args.cert.now ≡ rest_of vars steps last =
    ap (certificate_of vars) c.in-Steps.is ∙ steps_is vars c.in-Steps.steps c.in-Steps.last ∙ ap (λ hs. rest_of vars hs last) (sym c.as_slice-steps.ensures) in
    let here = step_here vars steps last i h c.loop-i-test.true c.index-steps-i.is in
    handed_on c.from_residual-in_err-check_scope-in-Steps.result e (IsUnscoped (certificate_of vars c.args.cert.now)) c.from_residual-in_err-check_scope-in-Steps.ensures.1
    (unscoped_through k (certificate_of vars c.args.cert.now) e (λ n. whole ∙ c.loop-i.invariant.none (here ∙ no_step_cert (formula_of vars h.formula) k r n)) c.in_err-check_scope-in-Steps.ensures.cause)

pub returns-in-Known-clause-scoped : goal.returns-in-Known-clause-scoped
returns-in-Known-clause-scoped t c =
    let vars = c.args.scope.now in
    subst IsScoped (sym (ap (certificate_of vars) c.in-Known.is ∙ known_is vars)) scoped_known

pub returns-in-Compute-clause-scoped : goal.returns-in-Compute-clause-scoped
returns-in-Compute-clause-scoped t c =
    let vars = c.args.scope.now in
    subst IsScoped (sym (ap (certificate_of vars) c.in-Compute.is ∙ compute_is vars)) scoped_compute

pub returns-in_ok-check_scope-in-Cases-clause-scoped : goal.returns-in_ok-check_scope-in-Cases-clause-scoped
returns-in_ok-check_scope-in-Cases-clause-scoped t c =
    let vars = c.args.scope.now in
    let first = certificate_of vars c.deref.result.now in
    let second = certificate_of vars c.deref-in-Cases.result.now in
    let x = formula_of vars c.in-Cases.split in
    let whole : certificate_of vars c.args.cert.now ≡ cases_in x first second =
    ap (certificate_of vars) c.in-Cases.is ∙ cases_is vars c.in-Cases.split c.in-Cases.holds c.in-Cases.fails
    ∙ ap (λ k. cases_in x (certificate_of vars k) (certificate_of vars c.in-Cases.fails.value)) (sym c.deref.ensures)
    ∙ ap (λ k. cases_in x first (certificate_of vars k)) (sym c.deref-in-Cases.ensures) in
    if_ok c.check_scope-in-Cases.result (λ _. IsScoped second) (λ _. IsScoped (certificate_of vars c.args.cert.now)) c.check_scope-in-Cases.ensures.scoped
    (λ _ s. subst IsScoped (sym whole)
    (scoped_cases x first second (tree_at c.formula.new.store c.in_ok-formula-in-Cases.field-0.id) c.in_ok-formula-in-Cases.ensures.tree c.in_ok-formula-in-Cases.ensures.terms
    c.in_ok-check_scope-in-Cases.ensures.scoped s))

pub returns-after-loop-i-clause-scoped : goal.returns-after-loop-i-clause-scoped
returns-after-loop-i-clause-scoped t c =
    let vars = c.args.scope.now in
    let steps = c.as_slice-steps.result.now in
    let last = c.in-Steps.last.value in
    let whole : certificate_of vars c.args.cert.now ≡ rest_of vars steps last =
    ap (certificate_of vars) c.in-Steps.is ∙ steps_is vars c.in-Steps.steps c.in-Steps.last ∙ ap (λ hs. rest_of vars hs last) (sym c.as_slice-steps.ensures) in
    let le : length steps ≤ c.loop-i.i = omega (arith, c.loop-i-test.false) in
    let end = no_more vars steps last c.loop-i.i le ∙ ap (certificate_of vars) (sym c.deref-in-Steps.ensures) in
    if_ok c.check_scope-in-Steps.result (λ _. IsScoped (certificate_of vars c.deref-in-Steps.result.now)) (λ _. IsScoped (certificate_of vars c.args.cert.now)) c.check_scope-in-Steps.ensures.scoped
    (λ _ s. subst IsScoped (sym whole) (c.loop-i.invariant.scoped (subst IsScoped (sym end) s)))

pub returns-after-loop-i-clause-cause : goal.returns-after-loop-i-clause-cause
returns-after-loop-i-clause-cause t c =
    let vars = c.args.scope.now in
    let steps = c.as_slice-steps.result.now in
    let last = c.in-Steps.last.value in
    let whole : certificate_of vars c.args.cert.now ≡ rest_of vars steps last =
    ap (certificate_of vars) c.in-Steps.is ∙ steps_is vars c.in-Steps.steps c.in-Steps.last ∙ ap (λ hs. rest_of vars hs last) (sym c.as_slice-steps.ensures) in
    let le : length steps ≤ c.loop-i.i = omega (arith, c.loop-i-test.false) in
    let end = no_more vars steps last c.loop-i.i le ∙ ap (certificate_of vars) (sym c.deref-in-Steps.ensures) in
    if_err c.check_scope-in-Steps.result (IsUnscoped (certificate_of vars c.deref-in-Steps.result.now)) (IsUnscoped (certificate_of vars c.args.cert.now)) c.check_scope-in-Steps.ensures.cause
    (λ e h. unscoped_through (certificate_of vars c.deref-in-Steps.result.now) (certificate_of vars c.args.cert.now) e (λ n. whole ∙ c.loop-i.invariant.none (end ∙ n)) h)

pub loop-i-preserved : goal.loop-i-preserved
loop-i-preserved t c =
    let vars = c.args.scope.now in
    let steps = c.as_slice-steps.result.now in
    let last = c.in-Steps.last.value in
    let i = c.loop-i.i in
    let h = c.index-steps-i.result in
    let x = formula_of vars h.formula in
    let k = certificate_of vars h.cert in
    let r = rest_of vars (drop (i + 1) steps) last in
    let here = step_here vars steps last i h c.loop-i-test.true c.index-steps-i.is in
    record {
      grows = grows_on c.args.store.now c.loop-i.store c.check_scope-in-loop-i.new.store c.loop-i.invariant.grows
          (grows_on c.loop-i.store c.formula-in-loop-i.new.store c.check_scope-in-loop-i.new.store c.formula-in-loop-i.ensures.grows c.check_scope-in-loop-i.ensures.grows);
      scoped = λ s. c.loop-i.invariant.scoped
          (subst IsScoped (sym here)
          (scoped_step x k r (tree_at c.formula-in-loop-i.new.store c.in_ok-formula-in-Steps.field-0.id) c.in_ok-formula-in-Steps.ensures.tree c.in_ok-formula-in-Steps.ensures.terms
          c.in_ok-check_scope-in-Steps.ensures.scoped s));
      none = λ n. c.loop-i.invariant.none (here ∙ no_later x k r n);
    }
