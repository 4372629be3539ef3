use Rattle.std.proofs.Common.{ℕ, suc, List, [], ◌∷◌, ◌++◌, length, drop, ◌-◌, refl, sym, ap, ◌∙◌, arith}
use Rattle.std.specs.Prelude.{map}
use Rattle.gv_gosyntax.specs.declared.tree.Expr.{Expr as DeclaredExpr}
use Rattle.gv_gotypes.specs.Trees.{expr_of}
use Rattle.gv_gotypes.specs.Calls.{arguments}
use Rattle.gv_gotyped.specs.First.{first_of}
use Rattle.gv_gowalk.proofs.Steps.{expr_there}
use Rattle.gv_gocalls.proofs.ArgumentLemmas.{exprs_there, one_more, argument_told, argued_more}
use Rattle.gv_gocalls.proofs.arguments.arguments_at.Goals as goal

pub returns-in-NoExprs : goal.returns-in-NoExprs
returns-in-NoExprs g c = λ es h.
    let env = g.N.Names.env c.args.names.now in
    let ps = c.args.params.now in
    let r = c.loop-first.invariant.rest es h in
    let q = c.in-NoExprs.ensures r.lefts r.there in
    r.told
    ∙ ap (λ (n : ℕ). first_of (arguments env (drop n ps) (map expr_of r.done))) (r.many ∙ ap length q)
    ∙ sym (ap (λ (ys : List DeclaredExpr). first_of (arguments env ps (map expr_of ys))) (r.same ∙ ap (λ (ys : List DeclaredExpr). ys ++ r.done) q))

pub overflow_sub-left : goal.overflow_sub-left
overflow_sub-left g c =
    let r = c.loop-first.invariant.rest c.requires.some.whole c.requires.some.part in
    let m = c.in-Expr.ensures r.lefts r.there in
    let a = r.many in
    let b = ap length m.made in
    let d = one_more m.of_exprs m.of_last in
    omega (arith, a, b, d)

pub placed_at-fault-requires-clause-some : goal.placed_at-fault-requires-clause-some
placed_at-fault-requires-clause-some g c =
    let i = c.loop-first.invariant in
    let m = c.in-Expr.ensures i.some.whole i.some.part in
    expr_there c.args.nodes.now c.loop-first.place c.in-Expr.last m.of_last i.some.within m.at_last

pub loop-first-smaller-in-Expr : goal.loop-first-smaller-in-Expr
loop-first-smaller-in-Expr g c = let i = c.loop-first.invariant in let m = c.in-Expr.ensures i.some.whole i.some.part in m.at_exprs.before

pub loop-first-preserved-in-Expr : goal.loop-first-preserved-in-Expr
loop-first-preserved-in-Expr g c =
    let i = c.loop-first.invariant in
    let m = c.in-Expr.ensures i.some.whole i.some.part in
    record {
      some = exprs_there c.args.nodes.now c.loop-first.place c.in-Expr.exprs m.of_exprs i.some.within m.at_exprs;
      rest = λ es h.
          let r = i.rest es h in
          let n = c.in-Expr.ensures r.lefts r.there in
          let a = r.many in
          let b = ap length n.made in
          let d = one_more n.of_exprs n.of_last in
          argued_more (g.N.Names.env c.args.names.now) c.args.params.now c.args.nodes.now c.loop-first.place c.in-Expr.exprs c.loop-first.left (c.loop-first.left - 1)
          c.wanted-want.result n.of_last n.of_exprs c.placed_at-fault.result c.loop-first.first c.earliest-first.result es r n.made n.at_exprs.is
          (omega (arith, a, b, d)) c.wanted-want.ensures (c.placed_at-fault.ensures n.of_last n.at_last.is) c.earliest-first.ensures;
    }

pub loop-first-smaller : goal.loop-first-smaller
loop-first-smaller g c = let i = c.loop-first.invariant in let m = c.in-PastExprs.ensures i.some.whole i.some.part in m.at_exprs.before

pub loop-first-preserved : goal.loop-first-preserved
loop-first-preserved g c =
    let i = c.loop-first.invariant in
    let m = c.in-PastExprs.ensures i.some.whole i.some.part in
    record {
      some = exprs_there c.args.nodes.now c.loop-first.place c.in-PastExprs.exprs m.of_exprs i.some.within m.at_exprs;
      rest = λ es h.
          let r = i.rest es h in
          let n = c.in-PastExprs.ensures r.lefts r.there in
          record {
            lefts = n.of_exprs;
            there = n.at_exprs.is;
            many = r.many ∙ ap length n.made;
            done = r.done;
            same = r.same ∙ ap (λ (ys : List DeclaredExpr). ys ++ r.done) n.made;
            told = r.told;
          };
    }

pub placed_at-fault-requires-in-Left-clause-some : goal.placed_at-fault-requires-in-Left-clause-some
placed_at-fault-requires-in-Left-clause-some g c =
    let i = c.loop-first.invariant in
    let m = c.in-Left.ensures i.some.whole i.some.part in
    expr_there c.args.nodes.now c.loop-first.place c.in-Left.only m.of_left i.some.within m.at_left

pub returns-in-Left : goal.returns-in-Left
returns-in-Left g c = λ es h.
    let env = g.N.Names.env c.args.names.now in
    let ps = c.args.params.now in
    let r = c.loop-first.invariant.rest es h in
    let m = c.in-Left.ensures r.lefts r.there in
    argument_told env ps 0 c.wanted-want-in-Left.result m.of_left r.done c.placed_at-fault-in-Left.result c.loop-first.first c.earliest.result
    c.wanted-want-in-Left.ensures (c.placed_at-fault-in-Left.ensures m.of_left m.at_left.is)
    (r.told ∙ ap (λ (n : ℕ). first_of (arguments env (drop n ps) (map expr_of r.done))) (r.many ∙ ap length m.made))
    c.earliest.ensures
    ∙ sym (ap (λ (ys : List DeclaredExpr). first_of (arguments env ps (map expr_of ys))) (r.same ∙ ap (λ (ys : List DeclaredExpr). ys ++ r.done) m.made))
