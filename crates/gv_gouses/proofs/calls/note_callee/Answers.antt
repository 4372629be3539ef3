use Rattle.std.proofs.Common.{ap, ◌∙◌}
use Rattle.gv_gotypes.specs.Trees.{Expr, expr_of}
use Rattle.gv_gotypes.specs.Expressions.{operand}
use Rattle.gv_gotypes.specs.Calls.{callee}
use Rattle.gv_gowalk.proofs.Steps.{expr_there}
use Rattle.gv_gouses.specs.Uses.{uses_of}
use Rattle.gv_gouses.proofs.UseLemmas.{adds_as, adds_nothing, then_so}
use Rattle.gv_gouses.proofs.CallUses.{select_callee_uses}
use Rattle.gv_gouses.proofs.calls.note_callee.Goals as goal

pub note_operand-requires-clause-some : goal.note_operand-requires-clause-some
note_operand-requires-clause-some g c =
    let m = c.in-Member.ensures c.requires.some.whole c.requires.some.part in
    expr_there c.args.nodes.now c.args.at c.in-Member.inner m.of_inner c.requires.some.within m.at_inner

pub returns-in-Member : goal.returns-in-Member
returns-in-Member g c = then_so c.note_operand.result c.note_operand.ensures (λ a. λ e h.
    let env = g.N.Names.env c.args.names.now in
    let m = c.in-Member.ensures e h in
    adds_as c.args.uses.now.items c.note_operand.new.uses.items (operand env (expr_of m.of_inner)).findings (callee env (expr_of e)).findings (a m.of_inner m.at_inner.is)
    (ap (λ (x : Expr). uses_of (callee env x).findings) m.made ∙ select_callee_uses env (expr_of m.of_inner) _))

pub returns-in-Item : goal.returns-in-Item
returns-in-Item g c = λ e h.
    let env = g.N.Names.env c.args.names.now in
    adds_nothing c.args.uses.now.items (callee env (expr_of e)).findings (ap (λ (x : Expr). uses_of (callee env x).findings) (c.in-Item.ensures e h).made)
