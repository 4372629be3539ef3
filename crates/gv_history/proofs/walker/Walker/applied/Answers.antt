use Rattle.std.proofs.Common.{◌≡◌, ◌∙◌, Some, sym, ap, nat_eq}
use Rattle.std.specs.HashMap.{get}
use Rattle.gv_history.specs.declared.seen.Standing.TheVariants as stands
use Rattle.gv_history.specs.Table.{present_in}
use Rattle.gv_history.proofs.TableLemmas.{present_stands}
use Rattle.gv_history.proofs.walker.Walker.applied.Goals as goal

pub apply-requires : goal.apply-requires
apply-requires c =
    let t = c.args.self.now.table in
    let k = stands.Called c.in-Some-Called.op c.in-Some-Called.args in
    let here : present_in t c.args.number ≡ Some k = sym c.in-Some-Called.ensures ∙ ap (λ x. Some x) c.in-Some-Called.field-0-is in
    c.requires c.args.number c.in-Some-Called.op c.in-Some-Called.args (present_stands t.boots (get nat_eq t.calls c.args.number) k here)
