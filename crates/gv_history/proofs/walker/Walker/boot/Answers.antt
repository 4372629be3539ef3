use Rattle.std.proofs.Common.{◌≡◌, ◌∙◌, Some, refl, sym, ap, rules}
use Rattle.gv_spec.specs.Atomic.{atomic_of}
use Rattle.gv_spec.specs.Walks.{dropped, booted_to}
use Rattle.gv_history.specs.Table.{standing_in}
use Rattle.gv_history.specs.Walker.{walk_in}
use Rattle.gv_history.proofs.WalkerLemmas.{stood_same}
use Rattle.gv_history.proofs.walker.Walker.boot.Goals as goal

pub returns-in-Some-clause-step : goal.returns-in-Some-clause-step
returns-in-Some-clause-step c =
    let old = c.args.self.now in
    let atomic = atomic_of c.args.spec.now in
    let fields = c.in-Some.fields in
    let allowed : atomic.crashed c.args.choices.now old.fields.values ≡ Some fields.values = search rules in
    ap (booted_to atomic (walk_in old)) allowed
    ∙ stood_same fields.values fields.values (λ n. dropped (standing_in old.table n)) (standing_in c.boot.new.self) refl (sym c.boot.ensures.standings)
