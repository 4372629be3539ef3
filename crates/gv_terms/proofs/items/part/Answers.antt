use Rattle.std.proofs.Common.{◌≡◌, subst, IfOk}
use Rattle.gv_terms.proofs.Parts.{part_is}
use Rattle.gv_terms.proofs.items.part.Goals as goal

pub returns : goal.returns
returns g c =
    subst (λ l. IfOk c.copy_items.result (λ v. v.items ≡ l))
    (part_is c.args.items.now c.args.from c.args.to c.min-to.result c.min-from.result c.min-to.ensures c.min-from.ensures)
    c.copy_items.ensures
