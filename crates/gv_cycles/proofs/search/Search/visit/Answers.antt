use Rattle.std.proofs.Common.{◌∷◌, [], List, length, reverse, ap, arith}
use Rattle.std.proofs.lemmas.List.{length-append, length-map, length-reverse}
use Rattle.gv_cycles.specs.Leading.{items_of, lists_of}
use Rattle.gv_cycles.specs.declared.search.Open.{Open}
use Rattle.gv_cycles.proofs.Searches.{few, nearer}
use Rattle.gv_cycles.proofs.search.Search.visit.Goals as goal

pub loop-top-smaller : goal.loop-top-smaller
loop-top-smaller c =
    let s = c.step.new.self in
    let m = few (lists_of c.args.rows.now) s.is_seen.items (reverse s.path.items) s.order.items c.in_ok-step.ensures.searched in
    let n = length-map c.args.rows.now items_of in
    let k = length-reverse s.path.items in
    nearer (length c.args.rows.now) (length c.loop-top.self.path.items) (length c.loop-top.self.order.items) (length c.pop.new.self.items) (length s.path.items) (length s.order.items)
    (let e = length-append c.pop.new.self.items (c.in-Some.top ∷ []) in let q = ap (λ (xs : List Open). length xs) c.in-Some.ensures.items in omega (arith, e, q)) c.in_ok-step.ensures.nearer (omega (arith, m, n, k))
