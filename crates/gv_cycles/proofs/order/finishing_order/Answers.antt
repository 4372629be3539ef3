use Rattle.std.proofs.Common.{List, reverse, subst, arith}
use Rattle.std.proofs.lemmas.List.{length-map}
use Rattle.gv_cycles.specs.Leading.{items_of, lists_of}
use Rattle.gv_cycles.specs.declared.search.Open.{Open}
use Rattle.gv_cycles.specs.Search.{IsSearchedBy}
use Rattle.gv_cycles.proofs.Searches.{all_done}
use Rattle.gv_cycles.proofs.order.finishing_order.Goals as goal

pub returns : goal.returns
returns c =
    let s = c.loop-root.search in
    let i = c.loop-root.invariant in
    let rows = lists_of c.args.rows.now in
    let n = length-map c.args.rows.now items_of in
    let last = c.loop-root-test.false in
    all_done rows s.is_seen.items s.order.items
    (subst (λ (os : List Open). IsSearchedBy rows s.is_seen.items (reverse os) s.order.items) i.none i.searched)
    (λ m l. i.all m (omega (arith, n, l, last)))
