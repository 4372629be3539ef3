use Rattle.std.proofs.Common.{◌≡◌, None, sym}
use Rattle.std.specs.Prelude.{slice_get}
use Rattle.gv_linear.proofs.RowLemmas.{coefficient_before, coefficient_behind}
use Rattle.gv_linear.proofs.row.Row.unknown_from.Goals as goal

pub returns-in-Some-clause-before : goal.returns-in-Some-clause-before
returns-in-Some-clause-before c u low high = coefficient_before u c.args.from c.args.self.now.items c.place.result c.in-Some.item.now c.requires.ascending (sym c.in-Some.ensures.value) c.place.ensures.before low high

pub returns-in-None-clause-none : goal.returns-in-None-clause-none
returns-in-None-clause-none c u low =
    let is : slice_get c.args.self.now.items c.place.result ≡ None = sym c.in-None.ensures.value in
    coefficient_behind u c.args.from c.args.self.now.items c.place.result is c.place.ensures.before low
