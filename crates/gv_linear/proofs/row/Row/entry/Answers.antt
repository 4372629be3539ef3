use Rattle.std.proofs.Common.{rules, ◌≡◌, ◌<◌, Some, None, sym, get_or, arith}
use Rattle.std.proofs.Math.IntN.{pos}
use Rattle.std.specs.Prelude.{slice_get, FitsSigned}
use Rattle.std.specs.Int.{w128}
use Rattle.std.proofs.lemmas.Int.{to_z-of_z}
use Rattle.std.proofs.lemmas.Option.{get_or_from_slice_get}
use Rattle.gv_linear.specs.Row.{coefficient}
use Rattle.gv_linear.proofs.RowLemmas.{coefficient_of_item, coefficient_before, coefficient_behind}
use Rattle.gv_linear.proofs.row.Row.entry.Goals as goal

pub returns-in-Some : goal.returns-in-Some
returns-in-Some c =
    let item = c.in-Some.item.now in
    let items = c.args.self.now.items in
    let is : slice_get items c.place.result ≡ Some item = sym c.in-Some.ensures.value in
    let value : coefficient c.args.column items ≡ item.1 = coefficient_of_item c.args.column items c.place.result item is c.place.ensures.before c.if-item-column.true in
    let fits : FitsSigned w128 item.1 = search rules in
    grind (arith, to_z-of_z w128 item.1 fits, value, c.if-column-unknowns.false)

pub returns-in_default : goal.returns-in_default
returns-in_default c =
    let item = c.in-Some.item.now in
    let items = c.args.self.now.items in
    let is : slice_get items c.place.result ≡ Some item = sym c.in-Some.ensures.value in
    let at : get_or items c.place.result item ≡ item = get_or_from_slice_get items c.place.result item item is in
    let above : c.args.column < item.0 = grind (arith, at, c.place.ensures.behind c.place.result item, c.in-Some.ensures.within, c.if-item-column.false) in
    let value : coefficient c.args.column items ≡ pos 0 = coefficient_before c.args.column c.args.column items c.place.result item c.requires.ascending is c.place.ensures.before (omega arith) above in
    grind (arith, value, c.if-column-unknowns.false)

pub returns-in_default-2 : goal.returns-in_default-2
returns-in_default-2 c =
    let items = c.args.self.now.items in
    let is : slice_get items c.place.result ≡ None = grind (arith, c.in_default.is, c.get.ensures.value) in
    let value : coefficient c.args.column items ≡ pos 0 = coefficient_behind c.args.column c.args.column items c.place.result is c.place.ensures.before (omega arith) in
    grind (arith, value, c.if-column-unknowns.false)
