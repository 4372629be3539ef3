use Rattle.std.proofs.Common.{[], ◌++◌, Some, None, refl, arith}
use Rattle.std.specs.Prelude.{option_map}
use Rattle.gv_gosyntax.specs.declared.tree.Expr.TheVariants as expr
use Rattle.gv_gotypes.specs.Trees.{Constant, Name, Paren, Convert, Select, Index, Slice, Unary, Binary, bound, left_out, bound_of, expr_of}
use Rattle.gv_gotypes.specs.Expressions.{operand, name_outcome, bound_findings}
use Rattle.gv_gowalk.proofs.Trees.{constant_of, name_of, paren_of, convert_of, select_of, index_of, slice_of, unary_of, binary_of}
use Rattle.gv_gowalk.proofs.Steps.{expr_there, bound_there}
use Rattle.gv_gouses.proofs.UseLemmas.{adds_nothing, adds_two, then_so}
use Rattle.gv_gouses.proofs.Outcomes.{convert_uses, select_uses, index_uses, slice_uses, unary_uses, binary_uses, adds_form, adds_bound}
use Rattle.gv_gouses.proofs.operands.+operands.Goals as goal

pub note_bound-note_operand-requires : goal.note_bound-note_operand-requires
note_bound-note_operand-requires g t c = λ κs outlives.
    let m = c.in-Bound.ensures c.requires.some.whole c.requires.some.part in
    let l = m.at_inner.before in
    let d = c.decreases in
    (omega (arith, l, d), (outlives, (c.requires.formed, expr_there c.args.nodes.now c.args.at c.in-Bound.inner m.of_inner c.requires.some.within m.at_inner)))

pub note_operand-note_operand-requires : goal.note_operand-note_operand-requires
note_operand-note_operand-requires g t c = λ κs outlives.
    let m = c.in-Paren.ensures c.requires.some.whole c.requires.some.part in
    let l = m.at_inner.before in
    let d = c.decreases in
    (omega (arith, l, d), (outlives, (c.requires.formed, expr_there c.args.nodes.now c.args.at c.in-Paren.inner m.of_inner c.requires.some.within m.at_inner)))

pub note_operand-note_operand-requires-in-Convert : goal.note_operand-note_operand-requires-in-Convert
note_operand-note_operand-requires-in-Convert g t c = λ κs outlives.
    let m = c.in-Convert.ensures c.requires.some.whole c.requires.some.part in
    let l = m.at_inner.before in
    let d = c.decreases in
    (omega (arith, l, d), (outlives, (c.requires.formed, expr_there c.args.nodes.now c.args.at c.in-Convert.inner m.of_inner c.requires.some.within m.at_inner)))

pub note_operand-note_operand-requires-in-Select : goal.note_operand-note_operand-requires-in-Select
note_operand-note_operand-requires-in-Select g t c = λ κs outlives.
    let m = c.in-Select.ensures c.requires.some.whole c.requires.some.part in
    let l = m.at_inner.before in
    let d = c.decreases in
    (omega (arith, l, d), (outlives, (c.requires.formed, expr_there c.args.nodes.now c.args.at c.in-Select.inner m.of_inner c.requires.some.within m.at_inner)))

pub note_operand-note_operand-requires-in-Unary : goal.note_operand-note_operand-requires-in-Unary
note_operand-note_operand-requires-in-Unary g t c = λ κs outlives.
    let m = c.in-Unary.ensures c.requires.some.whole c.requires.some.part in
    let l = m.at_inner.before in
    let d = c.decreases in
    (omega (arith, l, d), (outlives, (c.requires.formed, expr_there c.args.nodes.now c.args.at c.in-Unary.inner m.of_inner c.requires.some.within m.at_inner)))

pub note_operand-note_operand-requires-in-Index : goal.note_operand-note_operand-requires-in-Index
note_operand-note_operand-requires-in-Index g t c = λ κs outlives.
    let m = c.in-Index.ensures c.requires.some.whole c.requires.some.part in
    let l = m.at_inner.before in
    let d = c.decreases in
    (omega (arith, l, d), (outlives, (c.requires.formed, expr_there c.args.nodes.now c.args.at c.in-Index.inner m.of_inner c.requires.some.within m.at_inner)))

pub note_operand-note_operand-requires-in-Index-2 : goal.note_operand-note_operand-requires-in-Index-2
note_operand-note_operand-requires-in-Index-2 g t c = λ κs outlives.
    let m = c.in-Index.ensures c.requires.some.whole c.requires.some.part in
    let l = m.at_index.before in
    let d = c.decreases in
    (omega (arith, l, d), (outlives, (c.requires.formed, expr_there c.args.nodes.now c.args.at c.in-Index.index m.of_index c.requires.some.within m.at_index)))

pub note_operand-note_operand-requires-in-SliceTo : goal.note_operand-note_operand-requires-in-SliceTo
note_operand-note_operand-requires-in-SliceTo g t c = λ κs outlives.
    let m = c.in-SliceTo.ensures c.requires.some.whole c.requires.some.part in
    let l = m.at_inner.before in
    let d = c.decreases in
    (omega (arith, l, d), (outlives, (c.requires.formed, expr_there c.args.nodes.now c.args.at c.in-SliceTo.inner m.of_inner c.requires.some.within m.at_inner)))

pub note_operand-note_bound-requires : goal.note_operand-note_bound-requires
note_operand-note_bound-requires g t c = λ κs outlives.
    let m = c.in-SliceTo.ensures c.requires.some.whole c.requires.some.part in
    let l = m.at_high.before in
    let d = c.decreases in
    (omega (arith, l, d), (outlives, (c.requires.formed, bound_there c.args.nodes.now c.args.at c.in-SliceTo.high m.of_high c.requires.some.within m.at_high)))

pub note_operand-note_operand-requires-in-SliceFrom : goal.note_operand-note_operand-requires-in-SliceFrom
note_operand-note_operand-requires-in-SliceFrom g t c = λ κs outlives.
    let m = c.in-SliceFrom.ensures c.requires.some.whole c.requires.some.part in
    let l = m.at_inner.before in
    let d = c.decreases in
    (omega (arith, l, d), (outlives, (c.requires.formed, expr_there c.args.nodes.now c.args.at c.in-SliceFrom.inner m.of_inner c.requires.some.within m.at_inner)))

pub note_operand-note_operand-requires-in-SliceFrom-2 : goal.note_operand-note_operand-requires-in-SliceFrom-2
note_operand-note_operand-requires-in-SliceFrom-2 g t c = λ κs outlives.
    let m = c.in-SliceFrom.ensures c.requires.some.whole c.requires.some.part in
    let l = m.at_low.before in
    let d = c.decreases in
    (omega (arith, l, d), (outlives, (c.requires.formed, expr_there c.args.nodes.now c.args.at c.in-SliceFrom.low m.of_low c.requires.some.within m.at_low)))

pub note_operand-note_bound-requires-in-SliceFrom : goal.note_operand-note_bound-requires-in-SliceFrom
note_operand-note_bound-requires-in-SliceFrom g t c = λ κs outlives.
    let m = c.in-SliceFrom.ensures c.requires.some.whole c.requires.some.part in
    let l = m.at_high.before in
    let d = c.decreases in
    (omega (arith, l, d), (outlives, (c.requires.formed, bound_there c.args.nodes.now c.args.at c.in-SliceFrom.high m.of_high c.requires.some.within m.at_high)))

pub note_operand-note_operand-requires-in-Binary : goal.note_operand-note_operand-requires-in-Binary
note_operand-note_operand-requires-in-Binary g t c = λ κs outlives.
    let m = c.in-Binary.ensures c.requires.some.whole c.requires.some.part in
    let l = m.at_left.before in
    let d = c.decreases in
    (omega (arith, l, d), (outlives, (c.requires.formed, expr_there c.args.nodes.now c.args.at c.in-Binary.left m.of_left c.requires.some.within m.at_left)))

pub note_operand-note_operand-requires-in-Binary-2 : goal.note_operand-note_operand-requires-in-Binary-2
note_operand-note_operand-requires-in-Binary-2 g t c = λ κs outlives.
    let m = c.in-Binary.ensures c.requires.some.whole c.requires.some.part in
    let l = m.at_right.before in
    let d = c.decreases in
    (omega (arith, l, d), (outlives, (c.requires.formed, expr_there c.args.nodes.now c.args.at c.in-Binary.right m.of_right c.requires.some.within m.at_right)))

pub note_bound-returns-in-NoBound : goal.note_bound-returns-in-NoBound
note_bound-returns-in-NoBound g t c = λ b h.
    let old = c.args.uses.now.items in
    adds_bound (g.N.Names.env c.args.names.now) b None old old (c.in-NoBound.ensures b h) (adds_nothing old [] refl)

pub note_bound-returns-in-Bound : goal.note_bound-returns-in-Bound
note_bound-returns-in-Bound g t c = then_so c.note_operand.result c.note_operand.ensures (λ a. λ b h.
    let m = c.in-Bound.ensures b h in
    adds_bound (g.N.Names.env c.args.names.now) b (Some m.of_inner) c.args.uses.now.items c.note_operand.new.uses.items m.made (a m.of_inner m.at_inner.is))

pub note_operand-returns-in-Constant : goal.note_operand-returns-in-Constant
note_operand-returns-in-Constant g t c = λ e h.
    let old = c.args.uses.now.items in
    adds_form (g.N.Names.env c.args.names.now) e (expr.Constant c.in-Constant.token) (Constant c.in-Constant.token) old old [] (c.in-Constant.ensures e h) (constant_of c.in-Constant.token) refl (adds_nothing old [] refl)

pub note_operand-returns-in-Operand : goal.note_operand-returns-in-Operand
note_operand-returns-in-Operand g t c = then_so c.note_name.result c.note_name.ensures (λ a. λ e h.
    let env = g.N.Names.env c.args.names.now in
    adds_form env e (expr.Name c.in-Operand.name) (Name c.in-Operand.name) c.args.uses.now.items c.note_name.new.uses.items (name_outcome env c.in-Operand.name).findings
    (c.in-Operand.ensures e h) (name_of c.in-Operand.name) refl a)

pub note_operand-returns-in-Paren : goal.note_operand-returns-in-Paren
note_operand-returns-in-Paren g t c = then_so c.note_operand.result c.note_operand.ensures (λ a. λ e h.
    let env = g.N.Names.env c.args.names.now in
    let m = c.in-Paren.ensures e h in
    adds_form env e (expr.Paren c.in-Paren.start m.of_inner) (Paren c.in-Paren.start (expr_of m.of_inner)) c.args.uses.now.items c.note_operand.new.uses.items (operand env (expr_of m.of_inner)).findings
    m.made (paren_of c.in-Paren.start m.of_inner) refl (a m.of_inner m.at_inner.is))

pub note_operand-returns-in-Convert : goal.note_operand-returns-in-Convert
note_operand-returns-in-Convert g t c = then_so c.note_operand-in-Convert.result c.note_operand-in-Convert.ensures (λ a. λ e h.
    let env = g.N.Names.env c.args.names.now in
    let m = c.in-Convert.ensures e h in
    adds_form env e (expr.Convert c.in-Convert.word m.of_inner) (Convert c.in-Convert.word (expr_of m.of_inner)) c.args.uses.now.items c.note_operand-in-Convert.new.uses.items (operand env (expr_of m.of_inner)).findings
    m.made (convert_of c.in-Convert.word m.of_inner) (convert_uses env c.in-Convert.word (expr_of m.of_inner)) (a m.of_inner m.at_inner.is))

pub note_operand-returns-in-Select : goal.note_operand-returns-in-Select
note_operand-returns-in-Select g t c = then_so c.note_operand-in-Select.result c.note_operand-in-Select.ensures (λ a. λ e h.
    let env = g.N.Names.env c.args.names.now in
    let m = c.in-Select.ensures e h in
    adds_form env e (expr.Select m.of_inner c.in-Select.name) (Select (expr_of m.of_inner) c.in-Select.name) c.args.uses.now.items c.note_operand-in-Select.new.uses.items (operand env (expr_of m.of_inner)).findings
    m.made (select_of m.of_inner c.in-Select.name) (select_uses env (expr_of m.of_inner) c.in-Select.name) (a m.of_inner m.at_inner.is))

pub note_operand-returns-in-Unary : goal.note_operand-returns-in-Unary
note_operand-returns-in-Unary g t c = then_so c.note_operand-in-Unary.result c.note_operand-in-Unary.ensures (λ a. λ e h.
    let env = g.N.Names.env c.args.names.now in
    let m = c.in-Unary.ensures e h in
    adds_form env e (expr.Unary c.in-Unary.sign m.of_inner) (Unary c.in-Unary.sign (expr_of m.of_inner)) c.args.uses.now.items c.note_operand-in-Unary.new.uses.items (operand env (expr_of m.of_inner)).findings
    m.made (unary_of c.in-Unary.sign m.of_inner) (unary_uses env c.in-Unary.sign (expr_of m.of_inner)) (a m.of_inner m.at_inner.is))

pub note_operand-returns-in_ok-note_operand-in-Index : goal.note_operand-returns-in_ok-note_operand-in-Index
note_operand-returns-in_ok-note_operand-in-Index g t c = then_so c.note_operand-in-Index-2.result c.note_operand-in-Index-2.ensures (λ a. λ e h.
    let env = g.N.Names.env c.args.names.now in
    let m = c.in-Index.ensures e h in
    let first = (operand env (expr_of m.of_inner)).findings in
    let second = (operand env (expr_of m.of_index)).findings in
    adds_form env e (expr.Index m.of_inner m.of_index) (Index (expr_of m.of_inner) (expr_of m.of_index)) c.args.uses.now.items c.note_operand-in-Index-2.new.uses.items (first ++ second)
    m.made (index_of m.of_inner m.of_index) (index_uses env (expr_of m.of_inner) (expr_of m.of_index))
    (adds_two c.args.uses.now.items c.note_operand-in-Index.new.uses.items c.note_operand-in-Index-2.new.uses.items first second
    (c.in_ok-note_operand-in-Index.ensures m.of_inner m.at_inner.is) (a m.of_index m.at_index.is)))

pub note_operand-returns-in_ok-note_operand-in-SliceTo : goal.note_operand-returns-in_ok-note_operand-in-SliceTo
note_operand-returns-in_ok-note_operand-in-SliceTo g t c = then_so c.note_bound.result c.note_bound.ensures (λ a. λ e h.
    let env = g.N.Names.env c.args.names.now in
    let m = c.in-SliceTo.ensures e h in
    let first = (operand env (expr_of m.of_inner)).findings in
    let second = bound_findings env (bound_of (option_map expr_of m.of_high)) in
    adds_form env e (expr.Slice m.of_inner None m.of_high) (Slice (expr_of m.of_inner) left_out (bound_of (option_map expr_of m.of_high))) c.args.uses.now.items c.note_bound.new.uses.items (first ++ second)
    m.made (slice_of m.of_inner None m.of_high) (slice_uses env (expr_of m.of_inner) left_out (bound_of (option_map expr_of m.of_high)))
    (adds_two c.args.uses.now.items c.note_operand-in-SliceTo.new.uses.items c.note_bound.new.uses.items first second
    (c.in_ok-note_operand-in-SliceTo.ensures m.of_inner m.at_inner.is) (a m.of_high m.at_high.is)))

pub note_operand-returns-in_ok-note_operand-in-Binary : goal.note_operand-returns-in_ok-note_operand-in-Binary
note_operand-returns-in_ok-note_operand-in-Binary g t c = then_so c.note_operand-in-Binary-2.result c.note_operand-in-Binary-2.ensures (λ a. λ e h.
    let env = g.N.Names.env c.args.names.now in
    let m = c.in-Binary.ensures e h in
    let first = (operand env (expr_of m.of_left)).findings in
    let second = (operand env (expr_of m.of_right)).findings in
    adds_form env e (expr.Binary m.of_left c.in-Binary.sign m.of_right) (Binary (expr_of m.of_left) c.in-Binary.sign (expr_of m.of_right)) c.args.uses.now.items c.note_operand-in-Binary-2.new.uses.items (first ++ second)
    m.made (binary_of m.of_left c.in-Binary.sign m.of_right) (binary_uses env (expr_of m.of_left) c.in-Binary.sign (expr_of m.of_right))
    (adds_two c.args.uses.now.items c.note_operand-in-Binary.new.uses.items c.note_operand-in-Binary-2.new.uses.items first second
    (c.in_ok-note_operand-in-Binary.ensures m.of_left m.at_left.is) (a m.of_right m.at_right.is)))

pub note_operand-returns-in_ok-note_operand-in-SliceFrom-2 : goal.note_operand-returns-in_ok-note_operand-in-SliceFrom-2
note_operand-returns-in_ok-note_operand-in-SliceFrom-2 g t c = then_so c.note_bound-in-SliceFrom.result c.note_bound-in-SliceFrom.ensures (λ a. λ e h.
    let env = g.N.Names.env c.args.names.now in
    let m = c.in-SliceFrom.ensures e h in
    let first = (operand env (expr_of m.of_inner)).findings in
    let second = (operand env (expr_of m.of_low)).findings in
    let third = bound_findings env (bound_of (option_map expr_of m.of_high)) in
    adds_form env e (expr.Slice m.of_inner (Some m.of_low) m.of_high) (Slice (expr_of m.of_inner) (bound (expr_of m.of_low)) (bound_of (option_map expr_of m.of_high)))
    c.args.uses.now.items c.note_bound-in-SliceFrom.new.uses.items (first ++ (second ++ third))
    m.made (slice_of m.of_inner (Some m.of_low) m.of_high) (slice_uses env (expr_of m.of_inner) (bound (expr_of m.of_low)) (bound_of (option_map expr_of m.of_high)))
    (adds_two c.args.uses.now.items c.note_operand-in-SliceFrom.new.uses.items c.note_bound-in-SliceFrom.new.uses.items first (second ++ third)
    (c.in_ok-note_operand-in-SliceFrom.ensures m.of_inner m.at_inner.is)
    (adds_two c.note_operand-in-SliceFrom.new.uses.items c.note_operand-in-SliceFrom-2.new.uses.items c.note_bound-in-SliceFrom.new.uses.items second third
    (c.in_ok-note_operand-in-SliceFrom-2.ensures m.of_low m.at_low.is) (a m.of_high m.at_high.is))))
