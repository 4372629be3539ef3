use Rattle.std.proofs.Common.{◌++◌, ap, ◌∙◌}
use Rattle.gv_gotypes.specs.Trees.{Expr, expr_of}
use Rattle.gv_gotypes.specs.Expressions.{operand}
use Rattle.gv_gowalk.proofs.Steps.{expr_there}
use Rattle.gv_gosimple.specs.Lefts.{by_side}
use Rattle.gv_gouses.specs.Uses.{uses_of}
use Rattle.gv_gouses.proofs.UseLemmas.{adds_as, adds_two, then_so}
use Rattle.gv_gouses.proofs.SideForms.{select_side_uses, item_side_uses}
use Rattle.gv_gouses.proofs.sides.note_side.Goals as goal

pub note_operand-requires-clause-some : goal.note_operand-requires-clause-some
note_operand-requires-clause-some g c =
    let m = c.in-Member.ensures c.requires.some.whole c.requires.some.part in
    expr_there c.args.nodes.now c.args.at c.in-Member.inner m.of_inner c.requires.some.within m.at_inner

pub note_operand-requires-in-Item-clause-some : goal.note_operand-requires-in-Item-clause-some
note_operand-requires-in-Item-clause-some g c =
    let m = c.in-Item.ensures c.requires.some.whole c.requires.some.part in
    expr_there c.args.nodes.now c.args.at c.in-Item.inner m.of_inner c.requires.some.within m.at_inner

pub note_operand-requires-in-Item-2-clause-some : goal.note_operand-requires-in-Item-2-clause-some
note_operand-requires-in-Item-2-clause-some g c =
    let m = c.in-Item.ensures c.requires.some.whole c.requires.some.part in
    expr_there c.args.nodes.now c.args.at c.in-Item.index m.of_index c.requires.some.within m.at_index

pub returns-in-Member : goal.returns-in-Member
returns-in-Member g c = then_so c.note_operand.result c.note_operand.ensures (λ a. λ e h.
    let env = g.N.Names.env c.args.names.now in
    let m = c.in-Member.ensures e h in
    adds_as c.args.uses.now.items c.note_operand.new.uses.items (operand env (expr_of m.of_inner)).findings (by_side env c.args.side (expr_of e)).findings (a m.of_inner m.at_inner.is)
    (ap (λ (x : Expr). uses_of (by_side env c.args.side x).findings) m.made ∙ select_side_uses env c.args.side (expr_of m.of_inner) _))

pub returns-in_ok-note_operand-in-Item : goal.returns-in_ok-note_operand-in-Item
returns-in_ok-note_operand-in-Item g c = then_so c.note_operand-in-Item-2.result c.note_operand-in-Item-2.ensures (λ a. λ e h.
    let env = g.N.Names.env c.args.names.now in
    let old = c.args.uses.now.items in
    let m = c.in-Item.ensures e h in
    let x = (operand env (expr_of m.of_inner)).findings in
    let y = (operand env (expr_of m.of_index)).findings in
    adds_as old c.note_operand-in-Item-2.new.uses.items (x ++ y) (by_side env c.args.side (expr_of e)).findings
    (adds_two old c.note_operand-in-Item.new.uses.items c.note_operand-in-Item-2.new.uses.items x y (c.in_ok-note_operand-in-Item.ensures m.of_inner m.at_inner.is) (a m.of_index m.at_index.is))
    (ap (λ (z : Expr). uses_of (by_side env c.args.side z).findings) m.made ∙ item_side_uses env c.args.side (expr_of m.of_inner) (expr_of m.of_index)))
