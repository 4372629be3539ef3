use Rattle.std.proofs.Common.{◌++◌, Some, None, sym, arith, append-nil}
use Rattle.std.specs.Prelude.{option_map}
use Rattle.gv_gosyntax.specs.declared.tree.Expr.TheVariants as expr
use Rattle.gv_gotypes.specs.Trees.{Constant, Name, Paren, Convert, Select, Index, Slice, Unary, Binary, bound, left_out, bound_of, expr_of}
use Rattle.gv_gotypes.specs.Constants.{named_by, named_by_bound}
use Rattle.gv_gowalk.proofs.Trees.{constant_of, name_of, paren_of, convert_of, select_of, index_of, slice_of, unary_of, binary_of}
use Rattle.gv_gowalk.proofs.Steps.{expr_there, bound_there}
use Rattle.std.proofs.lemmas.Result.{on_ok_weaker}
use Rattle.gv_gonamed.proofs.Steps.{of_plain, of_bound, both}
use Rattle.gv_gonamed.proofs.named.+named.Goals as goal

pub push_bound-push_named-requires : goal.push_bound-push_named-requires
push_bound-push_named-requires g t c = λ κs outlives.
    let m = c.in-Bound.ensures c.requires.some.whole c.requires.some.part in
    let l = m.at_inner.before in
    let d = c.decreases in
    (omega (arith, l, d), (outlives, (c.requires.formed, expr_there c.args.nodes.now c.args.at c.in-Bound.inner m.of_inner c.requires.some.within m.at_inner)))

pub push_bound-returns-in-NoBound : goal.push_bound-returns-in-NoBound
push_bound-returns-in-NoBound g t c = λ b h.
    of_bound (g.N.Names.env c.args.names.now) b None c.args.named.now.items c.args.named.now.items (c.in-NoBound.ensures b h) (sym (append-nil c.args.named.now.items))

pub push_bound-returns-in-Bound : goal.push_bound-returns-in-Bound
push_bound-returns-in-Bound g t c = on_ok_weaker c.push_named.result (λ k b h.
    let m = c.in-Bound.ensures b h in
    of_bound (g.N.Names.env c.args.names.now) b (Some m.of_inner) c.args.named.now.items c.push_named.new.named.items m.made (k m.of_inner m.at_inner.is))
    c.push_named.ensures

pub push_named-push_named-requires : goal.push_named-push_named-requires
push_named-push_named-requires g t c = λ κs outlives.
    let m = c.in-Paren.ensures c.requires.some.whole c.requires.some.part in
    let l = m.at_inner.before in
    let d = c.decreases in
    (omega (arith, l, d), (outlives, (c.requires.formed, expr_there c.args.nodes.now c.args.at c.in-Paren.inner m.of_inner c.requires.some.within m.at_inner)))

pub push_named-push_named-requires-in-Convert : goal.push_named-push_named-requires-in-Convert
push_named-push_named-requires-in-Convert g t c = λ κs outlives.
    let m = c.in-Convert.ensures c.requires.some.whole c.requires.some.part in
    let l = m.at_inner.before in
    let d = c.decreases in
    (omega (arith, l, d), (outlives, (c.requires.formed, expr_there c.args.nodes.now c.args.at c.in-Convert.inner m.of_inner c.requires.some.within m.at_inner)))

pub push_named-push_named-requires-in-Select : goal.push_named-push_named-requires-in-Select
push_named-push_named-requires-in-Select g t c = λ κs outlives.
    let m = c.in-Select.ensures c.requires.some.whole c.requires.some.part in
    let l = m.at_inner.before in
    let d = c.decreases in
    (omega (arith, l, d), (outlives, (c.requires.formed, expr_there c.args.nodes.now c.args.at c.in-Select.inner m.of_inner c.requires.some.within m.at_inner)))

pub push_named-push_named-requires-in-Index : goal.push_named-push_named-requires-in-Index
push_named-push_named-requires-in-Index g t c = λ κs outlives.
    let m = c.in-Index.ensures c.requires.some.whole c.requires.some.part in
    let l = m.at_inner.before in
    let d = c.decreases in
    (omega (arith, l, d), (outlives, (c.requires.formed, expr_there c.args.nodes.now c.args.at c.in-Index.inner m.of_inner c.requires.some.within m.at_inner)))

pub push_named-push_named-requires-in-Index-2 : goal.push_named-push_named-requires-in-Index-2
push_named-push_named-requires-in-Index-2 g t c = λ κs outlives.
    let m = c.in-Index.ensures c.requires.some.whole c.requires.some.part in
    let l = m.at_index.before in
    let d = c.decreases in
    (omega (arith, l, d), (outlives, (c.requires.formed, expr_there c.args.nodes.now c.args.at c.in-Index.index m.of_index c.requires.some.within m.at_index)))

pub push_named-push_named-requires-in-SliceTo : goal.push_named-push_named-requires-in-SliceTo
push_named-push_named-requires-in-SliceTo g t c = λ κs outlives.
    let m = c.in-SliceTo.ensures c.requires.some.whole c.requires.some.part in
    let l = m.at_inner.before in
    let d = c.decreases in
    (omega (arith, l, d), (outlives, (c.requires.formed, expr_there c.args.nodes.now c.args.at c.in-SliceTo.inner m.of_inner c.requires.some.within m.at_inner)))

pub push_named-push_named-requires-in-SliceFrom : goal.push_named-push_named-requires-in-SliceFrom
push_named-push_named-requires-in-SliceFrom g t c = λ κs outlives.
    let m = c.in-SliceFrom.ensures c.requires.some.whole c.requires.some.part in
    let l = m.at_inner.before in
    let d = c.decreases in
    (omega (arith, l, d), (outlives, (c.requires.formed, expr_there c.args.nodes.now c.args.at c.in-SliceFrom.inner m.of_inner c.requires.some.within m.at_inner)))

pub push_named-push_named-requires-in-SliceFrom-2 : goal.push_named-push_named-requires-in-SliceFrom-2
push_named-push_named-requires-in-SliceFrom-2 g t c = λ κs outlives.
    let m = c.in-SliceFrom.ensures c.requires.some.whole c.requires.some.part in
    let l = m.at_low.before in
    let d = c.decreases in
    (omega (arith, l, d), (outlives, (c.requires.formed, expr_there c.args.nodes.now c.args.at c.in-SliceFrom.low m.of_low c.requires.some.within m.at_low)))

pub push_named-push_named-requires-in-Unary : goal.push_named-push_named-requires-in-Unary
push_named-push_named-requires-in-Unary g t c = λ κs outlives.
    let m = c.in-Unary.ensures c.requires.some.whole c.requires.some.part in
    let l = m.at_inner.before in
    let d = c.decreases in
    (omega (arith, l, d), (outlives, (c.requires.formed, expr_there c.args.nodes.now c.args.at c.in-Unary.inner m.of_inner c.requires.some.within m.at_inner)))

pub push_named-push_named-requires-in-Binary : goal.push_named-push_named-requires-in-Binary
push_named-push_named-requires-in-Binary g t c = λ κs outlives.
    let m = c.in-Binary.ensures c.requires.some.whole c.requires.some.part in
    let l = m.at_left.before in
    let d = c.decreases in
    (omega (arith, l, d), (outlives, (c.requires.formed, expr_there c.args.nodes.now c.args.at c.in-Binary.left m.of_left c.requires.some.within m.at_left)))

pub push_named-push_named-requires-in-Binary-2 : goal.push_named-push_named-requires-in-Binary-2
push_named-push_named-requires-in-Binary-2 g t c = λ κs outlives.
    let m = c.in-Binary.ensures c.requires.some.whole c.requires.some.part in
    let l = m.at_right.before in
    let d = c.decreases in
    (omega (arith, l, d), (outlives, (c.requires.formed, expr_there c.args.nodes.now c.args.at c.in-Binary.right m.of_right c.requires.some.within m.at_right)))

pub push_named-push_bound-requires : goal.push_named-push_bound-requires
push_named-push_bound-requires g t c = λ κs outlives.
    let m = c.in-SliceTo.ensures c.requires.some.whole c.requires.some.part in
    let l = m.at_high.before in
    let d = c.decreases in
    (omega (arith, l, d), (outlives, (c.requires.formed, bound_there c.args.nodes.now c.args.at c.in-SliceTo.high m.of_high c.requires.some.within m.at_high)))

pub push_named-push_bound-requires-in-SliceFrom : goal.push_named-push_bound-requires-in-SliceFrom
push_named-push_bound-requires-in-SliceFrom g t c = λ κs outlives.
    let m = c.in-SliceFrom.ensures c.requires.some.whole c.requires.some.part in
    let l = m.at_high.before in
    let d = c.decreases in
    (omega (arith, l, d), (outlives, (c.requires.formed, bound_there c.args.nodes.now c.args.at c.in-SliceFrom.high m.of_high c.requires.some.within m.at_high)))

pub push_named-returns-in-Constant : goal.push_named-returns-in-Constant
push_named-returns-in-Constant g t c = λ e h.
    let env = g.N.Names.env c.args.names.now in
    let old = c.args.named.now.items in
    let m = c.in-Constant.ensures e h in
    of_plain env e (expr.Constant c.in-Constant.token) (Constant c.in-Constant.token) old old m (constant_of c.in-Constant.token) (sym (append-nil old))

pub push_named-returns-in-Operand : goal.push_named-returns-in-Operand
push_named-returns-in-Operand g t c =
    let env = g.N.Names.env c.args.names.now in
    let old = c.args.named.now.items in
    on_ok_weaker c.push_name.result (λ k e h.
    let m = c.in-Operand.ensures e h in
    of_plain env e (expr.Name c.in-Operand.name) (Name c.in-Operand.name) old c.push_name.new.named.items m (name_of c.in-Operand.name) k)
    c.push_name.ensures

pub push_named-returns-in-Paren : goal.push_named-returns-in-Paren
push_named-returns-in-Paren g t c =
    let env = g.N.Names.env c.args.names.now in
    let old = c.args.named.now.items in
    on_ok_weaker c.push_named.result (λ k e h.
    let m = c.in-Paren.ensures e h in
    of_plain env e (expr.Paren c.in-Paren.start m.of_inner) (Paren c.in-Paren.start (expr_of m.of_inner)) old c.push_named.new.named.items m.made (paren_of c.in-Paren.start m.of_inner) (k m.of_inner m.at_inner.is))
    c.push_named.ensures

pub push_named-returns-in-Convert : goal.push_named-returns-in-Convert
push_named-returns-in-Convert g t c =
    let env = g.N.Names.env c.args.names.now in
    let old = c.args.named.now.items in
    on_ok_weaker c.push_named-in-Convert.result (λ k e h.
    let m = c.in-Convert.ensures e h in
    of_plain env e (expr.Convert c.in-Convert.word m.of_inner) (Convert c.in-Convert.word (expr_of m.of_inner)) old c.push_named-in-Convert.new.named.items m.made (convert_of c.in-Convert.word m.of_inner) (k m.of_inner m.at_inner.is))
    c.push_named-in-Convert.ensures

pub push_named-returns-in-Unary : goal.push_named-returns-in-Unary
push_named-returns-in-Unary g t c =
    let env = g.N.Names.env c.args.names.now in
    let old = c.args.named.now.items in
    on_ok_weaker c.push_named-in-Unary.result (λ k e h.
    let m = c.in-Unary.ensures e h in
    of_plain env e (expr.Unary c.in-Unary.sign m.of_inner) (Unary c.in-Unary.sign (expr_of m.of_inner)) old c.push_named-in-Unary.new.named.items m.made (unary_of c.in-Unary.sign m.of_inner) (k m.of_inner m.at_inner.is))
    c.push_named-in-Unary.ensures

pub push_named-returns-in-Select : goal.push_named-returns-in-Select
push_named-returns-in-Select g t c =
    let env = g.N.Names.env c.args.names.now in
    let old = c.args.named.now.items in
    on_ok_weaker c.push_named-in-Select.result (λ k e h.
    let m = c.in-Select.ensures e h in
    of_plain env e (expr.Select m.of_inner c.in-Select.name) (Select (expr_of m.of_inner) c.in-Select.name) old c.push_named-in-Select.new.named.items m.made (select_of m.of_inner c.in-Select.name) (k m.of_inner m.at_inner.is))
    c.push_named-in-Select.ensures

pub push_named-returns-in_ok-push_named-in-Index : goal.push_named-returns-in_ok-push_named-in-Index
push_named-returns-in_ok-push_named-in-Index g t c =
    let env = g.N.Names.env c.args.names.now in
    let old = c.args.named.now.items in
    on_ok_weaker c.push_named-in-Index-2.result (λ k e h.
    let m = c.in-Index.ensures e h in
    of_plain env e (expr.Index m.of_inner m.of_index) (Index (expr_of m.of_inner) (expr_of m.of_index)) old c.push_named-in-Index-2.new.named.items m.made (index_of m.of_inner m.of_index)
    (both old c.push_named-in-Index.new.named.items c.push_named-in-Index-2.new.named.items (named_by env (expr_of m.of_inner)) (named_by env (expr_of m.of_index))
    (c.in_ok-push_named-in-Index.ensures m.of_inner m.at_inner.is) (k m.of_index m.at_index.is)))
    c.push_named-in-Index-2.ensures

pub push_named-returns-in_ok-push_named-in-SliceTo : goal.push_named-returns-in_ok-push_named-in-SliceTo
push_named-returns-in_ok-push_named-in-SliceTo g t c =
    let env = g.N.Names.env c.args.names.now in
    let old = c.args.named.now.items in
    on_ok_weaker c.push_bound.result (λ k e h.
    let m = c.in-SliceTo.ensures e h in
    of_plain env e (expr.Slice m.of_inner None m.of_high) (Slice (expr_of m.of_inner) left_out (bound_of (option_map expr_of m.of_high))) old c.push_bound.new.named.items m.made (slice_of m.of_inner None m.of_high)
    (both old c.push_named-in-SliceTo.new.named.items c.push_bound.new.named.items (named_by env (expr_of m.of_inner)) (named_by_bound env (bound_of (option_map expr_of m.of_high)))
    (c.in_ok-push_named-in-SliceTo.ensures m.of_inner m.at_inner.is) (k m.of_high m.at_high.is)))
    c.push_bound.ensures

pub push_named-returns-in_ok-push_named-in-SliceFrom-2 : goal.push_named-returns-in_ok-push_named-in-SliceFrom-2
push_named-returns-in_ok-push_named-in-SliceFrom-2 g t c =
    let env = g.N.Names.env c.args.names.now in
    let old = c.args.named.now.items in
    on_ok_weaker c.push_bound-in-SliceFrom.result (λ k e h.
    let m = c.in-SliceFrom.ensures e h in
    let ns = named_by env (expr_of m.of_inner) in
    let ms = named_by env (expr_of m.of_low) in
    let os = named_by_bound env (bound_of (option_map expr_of m.of_high)) in
    let first = c.push_named-in-SliceFrom.new.named.items in
    let second = c.push_named-in-SliceFrom-2.new.named.items in
    let last = c.push_bound-in-SliceFrom.new.named.items in
    of_plain env e (expr.Slice m.of_inner (Some m.of_low) m.of_high) (Slice (expr_of m.of_inner) (bound (expr_of m.of_low)) (bound_of (option_map expr_of m.of_high))) old last m.made (slice_of m.of_inner (Some m.of_low) m.of_high)
    (both old first last ns (ms ++ os) (c.in_ok-push_named-in-SliceFrom.ensures m.of_inner m.at_inner.is)
    (both first second last ms os (c.in_ok-push_named-in-SliceFrom-2.ensures m.of_low m.at_low.is) (k m.of_high m.at_high.is))))
    c.push_bound-in-SliceFrom.ensures

pub push_named-returns-in_ok-push_named-in-Binary : goal.push_named-returns-in_ok-push_named-in-Binary
push_named-returns-in_ok-push_named-in-Binary g t c =
    let env = g.N.Names.env c.args.names.now in
    let old = c.args.named.now.items in
    on_ok_weaker c.push_named-in-Binary-2.result (λ k e h.
    let m = c.in-Binary.ensures e h in
    of_plain env e (expr.Binary m.of_left c.in-Binary.sign m.of_right) (Binary (expr_of m.of_left) c.in-Binary.sign (expr_of m.of_right)) old c.push_named-in-Binary-2.new.named.items m.made (binary_of m.of_left c.in-Binary.sign m.of_right)
    (both old c.push_named-in-Binary.new.named.items c.push_named-in-Binary-2.new.named.items (named_by env (expr_of m.of_left)) (named_by env (expr_of m.of_right))
    (c.in_ok-push_named-in-Binary.ensures m.of_left m.at_left.is) (k m.of_right m.at_right.is)))
    c.push_named-in-Binary-2.ensures
