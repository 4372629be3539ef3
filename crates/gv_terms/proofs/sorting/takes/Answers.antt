use Rattle.std.proofs.Common.{◌≡◌, None, Some, cond, subst}
use Rattle.gv_terms.specs.Sorts.{takes}
use Rattle.gv_terms.proofs.SortTests.{tested}
use Rattle.gv_terms.proofs.sorting.takes.Goals as goal

pub returns-then-eq : goal.returns-then-eq
returns-then-eq c =
    subst (λ r. cond r (Some c.args.sort) None ≡ takes c.args.wanted.now c.args.sort c.args.parts.now) c.if-eq.true
    (tested c.eq.result c.args.wanted.now c.args.parts.now c.args.sort c.eq.ensures)

pub returns-else-eq : goal.returns-else-eq
returns-else-eq c =
    subst (λ r. cond r (Some c.args.sort) None ≡ takes c.args.wanted.now c.args.sort c.args.parts.now) c.if-eq.false
    (tested c.eq.result c.args.wanted.now c.args.parts.now c.args.sort c.eq.ensures)
