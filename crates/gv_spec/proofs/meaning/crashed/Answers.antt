use Rattle.std.proofs.Common.{◌≡◌, ◌<◌, List, IsTrue, length, sym, subst, rules}
use Rattle.std.specs.List.{All}
use Rattle.gv_terms.specs.declared.value.Value.{Value}
use Rattle.gv_atomic.specs.Specification.{crash_fields}
use Rattle.gv_spec.specs.Atomic.{are_of, field_vars, EachOfCrash}
use Rattle.gv_spec.proofs.Atomic.{crash_each, crash_sorts}
use Rattle.gv_spec.proofs.meaning.crashed.Goals as goal

pub returns-clause-each : goal.returns-clause-each
returns-clause-each c =
    let s = c.args.spec.now in
    let choices = c.args.choices.now in
    let old = c.args.s.now.values in
    let same : c.in_ok-after.after.values ≡ crash_fields s choices old = search rules in
    subst (λ (vs : List Value). EachOfCrash s choices old vs) (sym same) (crash_each s choices old)

pub returns-clause-sorts : goal.returns-clause-sorts
returns-clause-sorts c =
    let s = c.args.spec.now in
    let choices = c.args.choices.now in
    let old = c.args.s.now.values in
    let same : c.in_ok-after.after.values ≡ crash_fields s choices old = search rules in
    λ given. subst (λ (vs : List Value). IsTrue (are_of (field_vars s) vs)) (sym same) (crash_sorts s choices old given)
