use Rattle.std.proofs.Common.{◌≡◌, List, IsTrue, sym, subst, arith}
use Rattle.std.proofs.lemmas.Grind.{common_steps}
use Rattle.gv_terms.specs.declared.value.Value.{Value}
use Rattle.gv_atomic.specs.Specification.{first_fields}
use Rattle.gv_spec.specs.Atomic.{are_of, field_vars}
use Rattle.gv_spec.proofs.Atomic.{first_sorts}
use Rattle.gv_spec.proofs.meaning.init.Goals as goal

pub returns-clause-sorts : goal.returns-clause-sorts
returns-clause-sorts c =
    let s = c.args.spec.now in
    let same : c.from_vec.result ≡ first_fields s = grind (arith, common_steps) in
    subst (λ (vs : List Value). IsTrue (are_of (field_vars s) vs)) (sym same) (first_sorts s)
