use Rattle.std.proofs.Common.{◌≡◌, IfOk, subst, arith}
use Rattle.gv_terms.specs.Meaning.{operate}
use Rattle.gv_terms.proofs.Living.{one_held, two_held}
use Rattle.gv_terms.proofs.live.over.Goals as goal

pub returns-in-len1-clause-value : goal.returns-in-len1-clause-value
returns-in-len1-clause-value c =
    subst (λ l. IfOk c.over_one.result (λ v. v ≡ operate c.args.operator l))
    (one_held c.args.live.now c.args.parts.now _ c.value_of.result.now (omega (arith, c.in-len1.len_at_least, c.in-len1.len_below)) c.value_of.ensures)
    c.over_one.ensures

pub returns-in-len2-clause-value : goal.returns-in-len2-clause-value
returns-in-len2-clause-value c =
    subst (λ l. IfOk c.over_two.result (λ v. v ≡ operate c.args.operator l))
    (two_held c.args.live.now c.args.parts.now _ _ c.value_of-in-len2.result.now c.value_of-in-len2-2.result.now
    (omega (arith, c.in-len2.len_at_least, c.in-len2.len_below)) c.value_of-in-len2.ensures c.value_of-in-len2-2.ensures)
    c.over_two.ensures
