use Rattle.std.proofs.Common.{◌+◌, ◌^◌, ◌<◌, true, false, refl, arith, rules}
use Rattle.gv_store.proofs.Appends.{append_over}
use Rattle.gv_store.proofs.store.Store.append_grow.Goals as goal

pub returns-then-not-has_room : goal.returns-then-not-has_room
returns-then-not-has_room c =
    let lt : c.args.slice.length + 1 + c.args.extra < 2 ^ 63 = omega arith in
    (append_over c.args.self.now c.args.slice c.args.item c.args.extra c.in-Ok.cells.now false lt c.in-Ok.ensures.answer c.in-Ok.ensures.whole (search rules), refl)

pub returns-in-Err-grown_cells : goal.returns-in-Err-grown_cells
returns-in-Err-grown_cells c =
    let lt : c.args.slice.length + 1 + c.args.extra < 2 ^ 63 = omega arith in
    (append_over c.args.self.now c.args.slice c.args.item c.args.extra c.in-Ok.cells.now true lt c.in-Ok.ensures.answer c.in-Ok.ensures.whole (search rules), refl)
