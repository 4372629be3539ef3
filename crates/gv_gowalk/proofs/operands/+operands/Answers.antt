use Rattle.std.proofs.Common.{Some, None, sym, subst, arith}
use Rattle.std.specs.Prelude.{option_map}
use Rattle.gv_gosyntax.specs.declared.tree.Expr.TheVariants as expr
use Rattle.gv_gotypes.specs.Trees.{Constant, Name, Paren, Convert, Select, Index, Slice, Unary, Binary, bound, left_out, bound_of, expr_of, Expr}
use Rattle.gv_gotyped.specs.Operands.{IsOperand}
use Rattle.gv_gowalk.proofs.Trees.{constant_of, name_of, paren_of, convert_of, select_of, index_of, slice_of, unary_of, binary_of}
use Rattle.gv_gowalk.proofs.Steps.{expr_there, bound_there, of_plain, of_bound}
use Rattle.gv_gowalk.proofs.operands.+operands.Goals as goal

pub bound_at-operand_at-requires : goal.bound_at-operand_at-requires
bound_at-operand_at-requires g t c = λ κs outlives.
    let m = c.in-Bound.ensures c.requires.some.whole c.requires.some.part in
    let l = m.at_inner.before in
    let d = c.decreases in
    (omega (arith, l, d), (outlives, (c.requires.formed, expr_there c.args.nodes.now c.args.at c.in-Bound.inner m.of_inner c.requires.some.within m.at_inner)))

pub bound_at-returns-in-NoBound : goal.bound_at-returns-in-NoBound
bound_at-returns-in-NoBound g t c = λ b h. of_bound (g.N.Names.env c.args.names.now) b None None (c.in-NoBound.ensures b h) tt

pub bound_at-returns-in-Bound : goal.bound_at-returns-in-Bound
bound_at-returns-in-Bound g t c = λ b h.
    let m = c.in-Bound.ensures b h in
    of_bound (g.N.Names.env c.args.names.now) b (Some m.of_inner) (Some c.operand_at.result) m.made (c.operand_at.ensures m.of_inner m.at_inner.is)

pub operand_at-operand_at-known-requires : goal.operand_at-operand_at-known-requires
operand_at-operand_at-known-requires g t c = λ κs outlives.
    let m = c.in-Paren.ensures c.requires.some.whole c.requires.some.part in
    let l = m.at_inner.before in
    let d = c.decreases in
    (omega (arith, l, d), (outlives, (c.requires.formed, expr_there c.args.nodes.now c.args.at c.in-Paren.inner m.of_inner c.requires.some.within m.at_inner)))

pub operand_at-operand_at-known-requires-in-Convert : goal.operand_at-operand_at-known-requires-in-Convert
operand_at-operand_at-known-requires-in-Convert g t c = λ κs outlives.
    let m = c.in-Convert.ensures c.requires.some.whole c.requires.some.part in
    let l = m.at_inner.before in
    let d = c.decreases in
    (omega (arith, l, d), (outlives, (c.requires.formed, expr_there c.args.nodes.now c.args.at c.in-Convert.inner m.of_inner c.requires.some.within m.at_inner)))

pub operand_at-library_at-requires-clause-some : goal.operand_at-library_at-requires-clause-some
operand_at-library_at-requires-clause-some g t c =
    let m = c.in-Select.ensures c.requires.some.whole c.requires.some.part in
    expr_there c.args.nodes.now c.args.at c.in-Select.inner m.of_inner c.requires.some.within m.at_inner

pub operand_at-operand_at-known-requires-in-None : goal.operand_at-operand_at-known-requires-in-None
operand_at-operand_at-known-requires-in-None g t c = λ κs outlives.
    let m = c.in-Select.ensures c.requires.some.whole c.requires.some.part in
    let l = m.at_inner.before in
    let d = c.decreases in
    (omega (arith, l, d), (outlives, (c.requires.formed, expr_there c.args.nodes.now c.args.at c.in-Select.inner m.of_inner c.requires.some.within m.at_inner)))

pub operand_at-operand_at-known-requires-in-Index : goal.operand_at-operand_at-known-requires-in-Index
operand_at-operand_at-known-requires-in-Index g t c = λ κs outlives.
    let m = c.in-Index.ensures c.requires.some.whole c.requires.some.part in
    let l = m.at_inner.before in
    let d = c.decreases in
    (omega (arith, l, d), (outlives, (c.requires.formed, expr_there c.args.nodes.now c.args.at c.in-Index.inner m.of_inner c.requires.some.within m.at_inner)))

pub operand_at-operand_at-place-requires : goal.operand_at-operand_at-place-requires
operand_at-operand_at-place-requires g t c = λ κs outlives.
    let m = c.in-Index.ensures c.requires.some.whole c.requires.some.part in
    let l = m.at_index.before in
    let d = c.decreases in
    (omega (arith, l, d), (outlives, (c.requires.formed, expr_there c.args.nodes.now c.args.at c.in-Index.index m.of_index c.requires.some.within m.at_index)))

pub operand_at-operand_at-known-requires-in-SliceTo : goal.operand_at-operand_at-known-requires-in-SliceTo
operand_at-operand_at-known-requires-in-SliceTo g t c = λ κs outlives.
    let m = c.in-SliceTo.ensures c.requires.some.whole c.requires.some.part in
    let l = m.at_inner.before in
    let d = c.decreases in
    (omega (arith, l, d), (outlives, (c.requires.formed, expr_there c.args.nodes.now c.args.at c.in-SliceTo.inner m.of_inner c.requires.some.within m.at_inner)))

pub operand_at-bound_at-above-requires : goal.operand_at-bound_at-above-requires
operand_at-bound_at-above-requires g t c = λ κs outlives.
    let m = c.in-SliceTo.ensures c.requires.some.whole c.requires.some.part in
    let l = m.at_high.before in
    let d = c.decreases in
    (omega (arith, l, d), (outlives, (c.requires.formed, bound_there c.args.nodes.now c.args.at c.in-SliceTo.high m.of_high c.requires.some.within m.at_high)))

pub operand_at-operand_at-known-requires-in-SliceFrom : goal.operand_at-operand_at-known-requires-in-SliceFrom
operand_at-operand_at-known-requires-in-SliceFrom g t c = λ κs outlives.
    let m = c.in-SliceFrom.ensures c.requires.some.whole c.requires.some.part in
    let l = m.at_inner.before in
    let d = c.decreases in
    (omega (arith, l, d), (outlives, (c.requires.formed, expr_there c.args.nodes.now c.args.at c.in-SliceFrom.inner m.of_inner c.requires.some.within m.at_inner)))

pub operand_at-operand_at-below-requires : goal.operand_at-operand_at-below-requires
operand_at-operand_at-below-requires g t c = λ κs outlives.
    let m = c.in-SliceFrom.ensures c.requires.some.whole c.requires.some.part in
    let l = m.at_low.before in
    let d = c.decreases in
    (omega (arith, l, d), (outlives, (c.requires.formed, expr_there c.args.nodes.now c.args.at c.in-SliceFrom.low m.of_low c.requires.some.within m.at_low)))

pub operand_at-bound_at-above-requires-in-SliceFrom : goal.operand_at-bound_at-above-requires-in-SliceFrom
operand_at-bound_at-above-requires-in-SliceFrom g t c = λ κs outlives.
    let m = c.in-SliceFrom.ensures c.requires.some.whole c.requires.some.part in
    let l = m.at_high.before in
    let d = c.decreases in
    (omega (arith, l, d), (outlives, (c.requires.formed, bound_there c.args.nodes.now c.args.at c.in-SliceFrom.high m.of_high c.requires.some.within m.at_high)))

pub operand_at-operand_at-known-requires-in-Unary : goal.operand_at-operand_at-known-requires-in-Unary
operand_at-operand_at-known-requires-in-Unary g t c = λ κs outlives.
    let m = c.in-Unary.ensures c.requires.some.whole c.requires.some.part in
    let l = m.at_inner.before in
    let d = c.decreases in
    (omega (arith, l, d), (outlives, (c.requires.formed, expr_there c.args.nodes.now c.args.at c.in-Unary.inner m.of_inner c.requires.some.within m.at_inner)))

pub operand_at-operand_at-first-requires : goal.operand_at-operand_at-first-requires
operand_at-operand_at-first-requires g t c = λ κs outlives.
    let m = c.in-Binary.ensures c.requires.some.whole c.requires.some.part in
    let l = m.at_left.before in
    let d = c.decreases in
    (omega (arith, l, d), (outlives, (c.requires.formed, expr_there c.args.nodes.now c.args.at c.in-Binary.left m.of_left c.requires.some.within m.at_left)))

pub operand_at-operand_at-second-requires : goal.operand_at-operand_at-second-requires
operand_at-operand_at-second-requires g t c = λ κs outlives.
    let m = c.in-Binary.ensures c.requires.some.whole c.requires.some.part in
    let l = m.at_right.before in
    let d = c.decreases in
    (omega (arith, l, d), (outlives, (c.requires.formed, expr_there c.args.nodes.now c.args.at c.in-Binary.right m.of_right c.requires.some.within m.at_right)))

pub operand_at-returns-in-Constant : goal.operand_at-returns-in-Constant
operand_at-returns-in-Constant g t c = λ e h.
    let env = g.N.Names.env c.args.names.now in
    let m = c.in-Constant.ensures e h in
    of_plain env e (expr.Constant c.in-Constant.token) (Constant c.in-Constant.token) c.literal_at.result m (constant_of c.in-Constant.token)
    (c.literal_at.ensures)

pub operand_at-returns-in-Operand : goal.operand_at-returns-in-Operand
operand_at-returns-in-Operand g t c = λ e h.
    let env = g.N.Names.env c.args.names.now in
    let m = c.in-Operand.ensures e h in
    of_plain env e (expr.Name c.in-Operand.name) (Name c.in-Operand.name) c.name_at.result m (name_of c.in-Operand.name)
    (c.name_at.ensures)

pub operand_at-returns-in-Paren : goal.operand_at-returns-in-Paren
operand_at-returns-in-Paren g t c = λ e h.
    let env = g.N.Names.env c.args.names.now in
    let m = c.in-Paren.ensures e h in
    of_plain env e (expr.Paren c.in-Paren.start m.of_inner) (Paren c.in-Paren.start (expr_of m.of_inner)) c.paren_operand.result m.made (paren_of c.in-Paren.start m.of_inner)
    (c.paren_operand.ensures env (expr_of m.of_inner) (c.operand_at-known.ensures m.of_inner m.at_inner.is))

pub operand_at-returns-in-Convert : goal.operand_at-returns-in-Convert
operand_at-returns-in-Convert g t c = λ e h.
    let env = g.N.Names.env c.args.names.now in
    let m = c.in-Convert.ensures e h in
    of_plain env e (expr.Convert c.in-Convert.word m.of_inner) (Convert c.in-Convert.word (expr_of m.of_inner)) c.convert_operand.result m.made (convert_of c.in-Convert.word m.of_inner)
    (c.convert_operand.ensures env (expr_of m.of_inner) (c.operand_at-known-in-Convert.ensures m.of_inner m.at_inner.is))

pub operand_at-returns-in-Some : goal.operand_at-returns-in-Some
operand_at-returns-in-Some g t c = λ e h.
    let env = g.N.Names.env c.args.names.now in
    let m = c.in-Select.ensures e h in
    of_plain env e (expr.Select m.of_inner c.in-Select.name) (Select (expr_of m.of_inner) c.in-Select.name) c.package_member_at.result m.made (select_of m.of_inner c.in-Select.name)
    (let n = c.in-Some.ensures m.of_inner m.at_inner.is in subst (λ (x : Expr). IsOperand env (Select x c.in-Select.name) c.package_member_at.result) (sym n.same) (c.package_member_at.ensures n.named))

pub operand_at-returns-in-None : goal.operand_at-returns-in-None
operand_at-returns-in-None g t c = λ e h.
    let env = g.N.Names.env c.args.names.now in
    let m = c.in-Select.ensures e h in
    of_plain env e (expr.Select m.of_inner c.in-Select.name) (Select (expr_of m.of_inner) c.in-Select.name) c.select_at.result m.made (select_of m.of_inner c.in-Select.name)
    (c.select_at.ensures (expr_of m.of_inner) (c.operand_at-known-in-None.ensures m.of_inner m.at_inner.is) (c.in-None.ensures m.of_inner m.at_inner.is))

pub operand_at-returns-in-Index : goal.operand_at-returns-in-Index
operand_at-returns-in-Index g t c = λ e h.
    let env = g.N.Names.env c.args.names.now in
    let m = c.in-Index.ensures e h in
    of_plain env e (expr.Index m.of_inner m.of_index) (Index (expr_of m.of_inner) (expr_of m.of_index)) c.index_operand.result m.made (index_of m.of_inner m.of_index)
    (c.index_operand.ensures env (expr_of m.of_inner) (expr_of m.of_index) (c.operand_at-known-in-Index.ensures m.of_inner m.at_inner.is) (c.operand_at-place.ensures m.of_index m.at_index.is))

pub operand_at-returns-in-SliceTo : goal.operand_at-returns-in-SliceTo
operand_at-returns-in-SliceTo g t c = λ e h.
    let env = g.N.Names.env c.args.names.now in
    let m = c.in-SliceTo.ensures e h in
    of_plain env e (expr.Slice m.of_inner None m.of_high) (Slice (expr_of m.of_inner) left_out (bound_of (option_map expr_of m.of_high))) c.slice_operand.result m.made (slice_of m.of_inner None m.of_high)
    (c.slice_operand.ensures env (expr_of m.of_inner) left_out (bound_of (option_map expr_of m.of_high)) (c.operand_at-known-in-SliceTo.ensures m.of_inner m.at_inner.is) tt (c.bound_at-above.ensures m.of_high m.at_high.is))

pub operand_at-returns-in-SliceFrom : goal.operand_at-returns-in-SliceFrom
operand_at-returns-in-SliceFrom g t c = λ e h.
    let env = g.N.Names.env c.args.names.now in
    let m = c.in-SliceFrom.ensures e h in
    of_plain env e (expr.Slice m.of_inner (Some m.of_low) m.of_high) (Slice (expr_of m.of_inner) (bound (expr_of m.of_low)) (bound_of (option_map expr_of m.of_high))) c.slice_operand-in-SliceFrom.result m.made (slice_of m.of_inner (Some m.of_low) m.of_high)
    (c.slice_operand-in-SliceFrom.ensures env (expr_of m.of_inner) (bound (expr_of m.of_low)) (bound_of (option_map expr_of m.of_high)) (c.operand_at-known-in-SliceFrom.ensures m.of_inner m.at_inner.is) (c.operand_at-below.ensures m.of_low m.at_low.is) (c.bound_at-above-in-SliceFrom.ensures m.of_high m.at_high.is))

pub operand_at-returns-in-Unary : goal.operand_at-returns-in-Unary
operand_at-returns-in-Unary g t c = λ e h.
    let env = g.N.Names.env c.args.names.now in
    let m = c.in-Unary.ensures e h in
    of_plain env e (expr.Unary c.in-Unary.sign m.of_inner) (Unary c.in-Unary.sign (expr_of m.of_inner)) c.unary_operand.result m.made (unary_of c.in-Unary.sign m.of_inner)
    (c.unary_operand.ensures env (expr_of m.of_inner) (c.operand_at-known-in-Unary.ensures m.of_inner m.at_inner.is))

pub operand_at-returns-in-Binary : goal.operand_at-returns-in-Binary
operand_at-returns-in-Binary g t c = λ e h.
    let env = g.N.Names.env c.args.names.now in
    let m = c.in-Binary.ensures e h in
    of_plain env e (expr.Binary m.of_left c.in-Binary.sign m.of_right) (Binary (expr_of m.of_left) c.in-Binary.sign (expr_of m.of_right)) c.binary_operand.result m.made (binary_of m.of_left c.in-Binary.sign m.of_right)
    (c.binary_operand.ensures env (expr_of m.of_left) (expr_of m.of_right) (c.operand_at-first.ensures m.of_left m.at_left.is) (c.operand_at-second.ensures m.of_right m.at_right.is))
