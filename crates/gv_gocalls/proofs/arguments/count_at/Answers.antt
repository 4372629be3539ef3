use Rattle.std.proofs.Common.{[], ◌∷◌, ◌++◌, length, ap, ◌∙◌, arith}
use Rattle.gv_gocalls.proofs.ArgumentLemmas.{Counted, exprs_there, counted_more}
use Rattle.gv_gocalls.proofs.arguments.count_at.Goals as goal

pub returns-in-NoExprs : goal.returns-in-NoExprs
returns-in-NoExprs c = λ es h.
    let r = c.loop-exprs.invariant.rest es h in
    let e = r.same in
    let q = ap length (c.in-NoExprs.ensures r.lefts r.there) in
    omega (arith, e, q)

pub loop-exprs-smaller-in-Expr : goal.loop-exprs-smaller-in-Expr
loop-exprs-smaller-in-Expr c = let i = c.loop-exprs.invariant in let m = c.in-Expr.ensures i.some.whole i.some.part in m.at_exprs.before

pub loop-exprs-preserved-in-Expr : goal.loop-exprs-preserved-in-Expr
loop-exprs-preserved-in-Expr c =
    let i = c.loop-exprs.invariant in
    let m = c.in-Expr.ensures i.some.whole i.some.part in
    let l = m.at_exprs.before in
    let b = i.below in
    record {
      below = omega (arith, l, b);
      some = exprs_there c.args.nodes.now c.loop-exprs.place c.in-Expr.exprs m.of_exprs i.some.within m.at_exprs;
      rest = λ es h.
          let r = i.rest es h in
          let n = c.in-Expr.ensures r.lefts r.there in
          record { lefts = n.of_exprs; there = n.at_exprs.is; same = counted_more es r.lefts n.of_exprs n.of_last c.loop-exprs.count r.same n.made };
    }

pub loop-exprs-smaller : goal.loop-exprs-smaller
loop-exprs-smaller c = let i = c.loop-exprs.invariant in let m = c.in-PastExprs.ensures i.some.whole i.some.part in m.at_exprs.before

pub loop-exprs-preserved : goal.loop-exprs-preserved
loop-exprs-preserved c =
    let i = c.loop-exprs.invariant in
    let m = c.in-PastExprs.ensures i.some.whole i.some.part in
    let l = m.at_exprs.before in
    let b = i.below in
    record {
      below = omega (arith, l, b);
      some = exprs_there c.args.nodes.now c.loop-exprs.place c.in-PastExprs.exprs m.of_exprs i.some.within m.at_exprs;
      rest = λ es h.
          let r = i.rest es h in
          let n = c.in-PastExprs.ensures r.lefts r.there in
          let e = r.same in
          let q = ap length n.made in
          record { lefts = n.of_exprs; there = n.at_exprs.is; same = omega (arith, e, q) };
    }

pub returns-in-Left : goal.returns-in-Left
returns-in-Left c = λ es h.
    let r = c.loop-exprs.invariant.rest es h in
    let m = c.in-Left.ensures r.lefts r.there in
    let e = r.same in
    let q = ap length m.made in
    omega (arith, e, q)
