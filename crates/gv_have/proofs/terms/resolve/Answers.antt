use Rattle.std.proofs.Common.{refl, subst}
use Rattle.gv_terms.specs.Resolving.{IsFirstFault, IsCause}
use Rattle.gv_terms.proofs.RawFaults.{unresolved}
use Rattle.gv_have.proofs.terms.resolve.Goals as goal

pub returns-clause-cause : goal.returns-clause-cause
returns-clause-cause c =
    let vars = c.args.scope.now in
    let term = c.args.term.now in
    let first : IsFirstFault vars term c.in-Err-At.field-0-0 c.in-Err-At.field-0-1 = subst (IsCause vars term) c.in-Err-At.field-0-is c.in-Err-At.ensures.cause in
    (refl, unresolved vars first.there)
