use Rattle.std.proofs.Common.{◌+◌, [], Some, None, IfOk, length, sym, ap, subst, ◌∙◌, arith}
use Rattle.std.specs.Prelude.{option_map}
use Rattle.gv_lang.specs.Plain.{expr_of as lang_expr_of}
use Rattle.gv_lang.specs.Tree as lang
use Rattle.gv_lang.specs.declared.program.LocalKind.TheVariants as kind
use Rattle.gv_lang.proofs.Trees.{expr_word}
use Rattle.gv_gosyntax.specs.declared.tree.Expr.TheVariants as expr
use Rattle.gv_gotypes.specs.Trees.{Expr, Bound, Constant, Name, Paren, Convert, Select, Index, Slice, Unary, Binary, bound, left_out, bound_of, expr_of}
use Rattle.gv_gotyped.specs.Operands.{IsOperand}
use Rattle.gv_gotyped.specs.declared.outcomes.Operand.{Operand}
use Rattle.gv_gowalk.proofs.Trees.{constant_of, name_of, paren_of, convert_of, select_of, index_of, slice_of, unary_of, binary_of}
use Rattle.gv_gowalk.proofs.Steps.{expr_there, bound_there}
use Rattle.gv_lowering.specs.Operands as lower
use Rattle.gv_lowerops.specs.Tails.{IsTail, IsHigh, IsTailBehind}
use Rattle.gv_lowerops.proofs.Along.{along, along_bound}
use Rattle.gv_lowerops.proofs.Behind.{behind_same}
use Rattle.gv_lowerops.proofs.Steady.{read_steady, joined_plain}
use Rattle.gv_lowerops.proofs.Wholes.{moved_read}
use Rattle.gv_lowerops.proofs.operands.+operands.Goals as goal

pub high_at-read_at-requires : goal.high_at-read_at-requires
high_at-read_at-requires g t c κs within =
    let m = c.in-Bound.ensures c.requires.some.whole c.requires.some.part in
    let l = m.at_inner.before in
    let d = c.decreases in
    (omega (arith, l, d), (within.0, (within.1, (c.requires.formed, expr_there c.args.nodes.now c.args.at c.in-Bound.inner m.of_inner c.requires.some.within m.at_inner))))

pub high_at-returns-in_ok-read-in-NoBound : goal.high_at-returns-in_ok-read-in-NoBound
high_at-returns-in_ok-read-in-NoBound g t c = λ b h.
    let d = g.P.Places.context c.args.places.now in
    let env = g.N.Names.env c.args.names.now in
    let whole = lang_expr_of c.args.whole.now in
    along_bound (λ (x : Bound). IsHigh d c.args.place env c.args.draft x c.args.whole.now (record { read = c.in_ok-read-in-NoBound.read; known = None })) b None (c.in-NoBound.ensures b h) (record {
      read = c.in_ok-read-in-NoBound.ensures c.args.draft (record { before = []; temps = []; last = lower.Reads kind.Word (λ x. lang.Len x whole) })
          (record { behind = behind_same c.args.draft; last = ap (λ (v : lang.Expr). lower.Reads kind.Word (λ x. lang.Len x v)) c.in_ok-s-in-NoBound.ensures });
      known = tt;
    })

pub high_at-returns-in_ok-made-in-Bound : goal.high_at-returns-in_ok-made-in-Bound
high_at-returns-in_ok-made-in-Bound g t c = λ b h.
    let d = g.P.Places.context c.args.places.now in
    let env = g.N.Names.env c.args.names.now in
    let m = c.in-Bound.ensures b h in
    let k = c.in_ok-made-in-Bound.ensures m.of_inner m.at_inner.is in
    along_bound (λ (x : Bound). IsHigh d c.args.place env c.args.draft x c.args.whole.now (record { read = c.in_ok-made-in-Bound.made.read; known = Some c.in_ok-made-in-Bound.made.known })) b (Some m.of_inner) m.made
    (record { read = k.read; known = k.known })

pub right_at-returns-in_ok-tail : goal.right_at-returns-in_ok-tail
right_at-returns-in_ok-tail g t c = λ old a b h k.
    let d = g.P.Places.context c.args.places.now in
    let env = g.N.Names.env c.args.names.now in
    let n = length old.temps.items in
    let r = lower.read d c.args.place env a None n in
    let q = c.in_ok-right.ensures b k in
    record {
      tail = c.in_ok-tail.ensures old c.args.left.read.draft c.in_ok-aside.aside.block r (λ m. lower.read d c.args.place env (expr_of b) None m) h.read c.in_ok-aside.ensures q.read
          (read_steady d c.args.place env (expr_of b) None);
      known = c.binary_operand-known.ensures env a (expr_of b) h.known q.known;
    }

pub right_at-returns-in_ok-tail-2 : goal.right_at-returns-in_ok-tail-2
right_at-returns-in_ok-tail-2 g t c = λ old a b h k.
    let d = g.P.Places.context c.args.places.now in
    let env = g.N.Names.env c.args.names.now in
    let n = length old.temps.items in
    let r = lower.read d c.args.place env a None n in
    let mid = c.args.left.read.draft in
    let q = c.in_ok-right-2.ensures b k in
    record {
      tail = subst (λ (x : lower.Tail). IsTailBehind old c.in_ok-tail-2.tail x)
          (joined_plain d c.args.place n c.args.sign.class r (λ m. lower.read d c.args.place env (expr_of b) None m) (sym c.is_short.ensures ∙ c.if-is_short.false))
          (c.in_ok-tail-2.ensures old mid r (lower.read d c.args.place env (expr_of b) None (n + length r.temps)) h.read
          (moved_read old mid r.cmds r.temps c.in_ok-right-2.right.read (λ m. lower.read d c.args.place env (expr_of b) None m) h.read.behind q.read));
      known = c.binary_operand-known-else-is_short.ensures env a (expr_of b) h.known q.known;
    }

pub tail_at-tail_at-requires : goal.tail_at-tail_at-requires
tail_at-tail_at-requires g t c κs within =
    let m = c.in-Paren.ensures c.requires.some.whole c.requires.some.part in
    let l = m.at_inner.before in
    let d = c.decreases in
    (omega (arith, l, d), (within.0, (within.1, (c.requires.formed, expr_there c.args.nodes.now c.args.at c.in-Paren.inner m.of_inner c.requires.some.within m.at_inner))))

pub tail_at-tail_at-requires-in-Convert : goal.tail_at-tail_at-requires-in-Convert
tail_at-tail_at-requires-in-Convert g t c κs within =
    let m = c.in-Convert.ensures c.requires.some.whole c.requires.some.part in
    let l = m.at_inner.before in
    let d = c.decreases in
    (omega (arith, l, d), (within.0, (within.1, (c.requires.formed, expr_there c.args.nodes.now c.args.at c.in-Convert.inner m.of_inner c.requires.some.within m.at_inner))))

pub tail_at-library_at-requires-clause-some : goal.tail_at-library_at-requires-clause-some
tail_at-library_at-requires-clause-some g t c =
    let m = c.in-Select.ensures c.requires.some.whole c.requires.some.part in
    expr_there c.args.nodes.now c.args.at c.in-Select.inner m.of_inner c.requires.some.within m.at_inner

pub tail_at-read_at-requires : goal.tail_at-read_at-requires
tail_at-read_at-requires g t c κs within =
    let m = c.in-Select.ensures c.requires.some.whole c.requires.some.part in
    let l = m.at_inner.before in
    let d = c.decreases in
    (omega (arith, l, d), (within.0, (within.1, (c.requires.formed, expr_there c.args.nodes.now c.args.at c.in-Select.inner m.of_inner c.requires.some.within m.at_inner))))

pub tail_at-read_at-requires-in-Index : goal.tail_at-read_at-requires-in-Index
tail_at-read_at-requires-in-Index g t c κs within =
    let m = c.in-Index.ensures c.requires.some.whole c.requires.some.part in
    let l = m.at_inner.before in
    let d = c.decreases in
    (omega (arith, l, d), (within.0, (within.1, (c.requires.formed, expr_there c.args.nodes.now c.args.at c.in-Index.inner m.of_inner c.requires.some.within m.at_inner))))

pub tail_at-read_at-requires-in-Index-2 : goal.tail_at-read_at-requires-in-Index-2
tail_at-read_at-requires-in-Index-2 g t c κs within =
    let m = c.in-Index.ensures c.requires.some.whole c.requires.some.part in
    let l = m.at_index.before in
    let d = c.decreases in
    (omega (arith, l, d), (within.0, (within.1, (c.requires.formed, expr_there c.args.nodes.now c.args.at c.in-Index.index m.of_index c.requires.some.within m.at_index))))

pub tail_at-read_at-requires-in-SliceTo : goal.tail_at-read_at-requires-in-SliceTo
tail_at-read_at-requires-in-SliceTo g t c κs within =
    let m = c.in-SliceTo.ensures c.requires.some.whole c.requires.some.part in
    let l = m.at_inner.before in
    let d = c.decreases in
    (omega (arith, l, d), (within.0, (within.1, (c.requires.formed, expr_there c.args.nodes.now c.args.at c.in-SliceTo.inner m.of_inner c.requires.some.within m.at_inner))))

pub tail_at-high_at-requires : goal.tail_at-high_at-requires
tail_at-high_at-requires g t c κs within =
    let m = c.in-SliceTo.ensures c.requires.some.whole c.requires.some.part in
    let l = m.at_high.before in
    let d = c.decreases in
    (omega (arith, l, d), (within.0, (within.1, (c.requires.formed, bound_there c.args.nodes.now c.args.at c.in-SliceTo.high m.of_high c.requires.some.within m.at_high))))

pub tail_at-read_at-requires-in-SliceFrom : goal.tail_at-read_at-requires-in-SliceFrom
tail_at-read_at-requires-in-SliceFrom g t c κs within =
    let m = c.in-SliceFrom.ensures c.requires.some.whole c.requires.some.part in
    let l = m.at_inner.before in
    let d = c.decreases in
    (omega (arith, l, d), (within.0, (within.1, (c.requires.formed, expr_there c.args.nodes.now c.args.at c.in-SliceFrom.inner m.of_inner c.requires.some.within m.at_inner))))

pub tail_at-read_at-requires-in-SliceFrom-2 : goal.tail_at-read_at-requires-in-SliceFrom-2
tail_at-read_at-requires-in-SliceFrom-2 g t c κs within =
    let m = c.in-SliceFrom.ensures c.requires.some.whole c.requires.some.part in
    let l = m.at_low.before in
    let d = c.decreases in
    (omega (arith, l, d), (within.0, (within.1, (c.requires.formed, expr_there c.args.nodes.now c.args.at c.in-SliceFrom.low m.of_low c.requires.some.within m.at_low))))

pub tail_at-high_at-requires-in-SliceFrom : goal.tail_at-high_at-requires-in-SliceFrom
tail_at-high_at-requires-in-SliceFrom g t c κs within =
    let m = c.in-SliceFrom.ensures c.requires.some.whole c.requires.some.part in
    let l = m.at_high.before in
    let d = c.decreases in
    (omega (arith, l, d), (within.0, (within.1, (c.requires.formed, bound_there c.args.nodes.now c.args.at c.in-SliceFrom.high m.of_high c.requires.some.within m.at_high))))

pub tail_at-read_at-requires-in-Unary : goal.tail_at-read_at-requires-in-Unary
tail_at-read_at-requires-in-Unary g t c κs within =
    let m = c.in-Unary.ensures c.requires.some.whole c.requires.some.part in
    let l = m.at_inner.before in
    let d = c.decreases in
    (omega (arith, l, d), (within.0, (within.1, (c.requires.formed, expr_there c.args.nodes.now c.args.at c.in-Unary.inner m.of_inner c.requires.some.within m.at_inner))))

pub tail_at-read_at-requires-in-Binary : goal.tail_at-read_at-requires-in-Binary
tail_at-read_at-requires-in-Binary g t c κs within =
    let m = c.in-Binary.ensures c.requires.some.whole c.requires.some.part in
    let l = m.at_left.before in
    let d = c.decreases in
    (omega (arith, l, d), (within.0, (within.1, (c.requires.formed, expr_there c.args.nodes.now c.args.at c.in-Binary.left m.of_left c.requires.some.within m.at_left))))

pub tail_at-right_at-requires : goal.tail_at-right_at-requires
tail_at-right_at-requires g t c κs within =
    let m = c.in-Binary.ensures c.requires.some.whole c.requires.some.part in
    let l = m.at_right.before in
    let d = c.decreases in
    (omega (arith, l, d), (within.0, (within.1, (c.requires.formed, expr_there c.args.nodes.now c.args.at c.in-Binary.right m.of_right c.requires.some.within m.at_right))))

pub tail_at-returns-in-Constant : goal.tail_at-returns-in-Constant
tail_at-returns-in-Constant g t c = λ e h.
    let d = g.P.Places.context c.args.places.now in
    let env = g.N.Names.env c.args.names.now in
    let m = c.in-Constant.ensures e h in
    along (λ (x : Expr). IsTail d c.args.place env c.args.draft x c.args.want c.constant_at.result) e (expr.Constant c.in-Constant.token) (Constant c.in-Constant.token) m (constant_of c.in-Constant.token)
    (c.constant_at.ensures d c.args.place)

pub tail_at-returns-in-Operand : goal.tail_at-returns-in-Operand
tail_at-returns-in-Operand g t c = λ e h.
    let d = g.P.Places.context c.args.places.now in
    let env = g.N.Names.env c.args.names.now in
    let m = c.in-Operand.ensures e h in
    along (λ (x : Expr). IfOk c.name_at.result (λ made. IsTail d c.args.place env c.args.draft x c.args.want made)) e (expr.Name c.in-Operand.name) (Name c.in-Operand.name) m (name_of c.in-Operand.name)
    (c.name_at.ensures c.args.place c.args.want)

pub tail_at-returns-in_ok-made-in-Paren : goal.tail_at-returns-in_ok-made-in-Paren
tail_at-returns-in_ok-made-in-Paren g t c = λ e h.
    let d = g.P.Places.context c.args.places.now in
    let env = g.N.Names.env c.args.names.now in
    let m = c.in-Paren.ensures e h in
    let k = c.in_ok-made-in-Paren.ensures m.of_inner m.at_inner.is in
    along (λ (x : Expr). IsTail d c.args.place env c.args.draft x c.args.want (record { tail = c.in_ok-made-in-Paren.made.tail; known = c.paren_operand.result })) e (expr.Paren c.in-Paren.start m.of_inner) (Paren c.in-Paren.start (expr_of m.of_inner)) m.made (paren_of c.in-Paren.start m.of_inner)
    (record { tail = k.tail; known = c.paren_operand.ensures env (expr_of m.of_inner) k.known })

pub tail_at-returns-in_ok-made-in-Convert : goal.tail_at-returns-in_ok-made-in-Convert
tail_at-returns-in_ok-made-in-Convert g t c = λ e h.
    let d = g.P.Places.context c.args.places.now in
    let env = g.N.Names.env c.args.names.now in
    let m = c.in-Convert.ensures e h in
    along (λ (x : Expr). IfOk c.converted.result (λ made. IsTail d c.args.place env c.args.draft x c.args.want made)) e (expr.Convert c.in-Convert.word m.of_inner) (Convert c.in-Convert.word (expr_of m.of_inner)) m.made (convert_of c.in-Convert.word m.of_inner)
    (c.converted.ensures env c.args.draft (expr_of m.of_inner) c.args.want (record { cmds = c.mark-mark.ensures.cmds; temps = c.mark-mark.ensures.temps }) (c.in_ok-made-in-Convert.ensures m.of_inner m.at_inner.is))

pub tail_at-returns-in-Some : goal.tail_at-returns-in-Some
tail_at-returns-in-Some g t c = λ e h.
    let d = g.P.Places.context c.args.places.now in
    let env = g.N.Names.env c.args.names.now in
    let m = c.in-Select.ensures e h in
    let n = c.in-Some.ensures m.of_inner m.at_inner.is in
    along (λ (x : Expr). IsTail d c.args.place env c.args.draft x c.args.want c.package_member_at.result) e (expr.Select m.of_inner c.in-Select.name) (Select (expr_of m.of_inner) c.in-Select.name) m.made (select_of m.of_inner c.in-Select.name)
    (subst (λ (x : Expr). IsTail d c.args.place env c.args.draft (Select x c.in-Select.name) c.args.want c.package_member_at.result) (sym n.same) (c.package_member_at.ensures d c.args.place c.args.want n.named))

pub tail_at-returns-in_ok-whole-in-None : goal.tail_at-returns-in_ok-whole-in-None
tail_at-returns-in_ok-whole-in-None g t c = λ e h.
    let d = g.P.Places.context c.args.places.now in
    let env = g.N.Names.env c.args.names.now in
    let m = c.in-Select.ensures e h in
    along (λ (x : Expr). IsTail d c.args.place env c.args.draft x c.args.want c.selected_at.result) e (expr.Select m.of_inner c.in-Select.name) (Select (expr_of m.of_inner) c.in-Select.name) m.made (select_of m.of_inner c.in-Select.name)
    (c.selected_at.ensures d c.args.place c.args.draft (expr_of m.of_inner) c.args.want (record { cmds = c.mark-mark.ensures.cmds; temps = c.mark-mark.ensures.temps }) (c.in_ok-whole-in-None.ensures m.of_inner m.at_inner.is) (c.in-None.ensures m.of_inner m.at_inner.is))

pub tail_at-returns-in_ok-item-in-Index : goal.tail_at-returns-in_ok-item-in-Index
tail_at-returns-in_ok-item-in-Index g t c = λ e h.
    let d = g.P.Places.context c.args.places.now in
    let env = g.N.Names.env c.args.names.now in
    let m = c.in-Index.ensures e h in
    along (λ (x : Expr). IsTail d c.args.place env c.args.draft x c.args.want c.indexed_at.result) e (expr.Index m.of_inner m.of_index) (Index (expr_of m.of_inner) (expr_of m.of_index)) m.made (index_of m.of_inner m.of_index)
    (c.indexed_at.ensures d c.args.place env c.args.draft c.in_ok-whole-in-Index.whole.read.draft (expr_of m.of_inner) (expr_of m.of_index) c.args.want (c.in_ok-whole-in-Index.ensures m.of_inner m.at_inner.is) (c.in_ok-item-in-Index.ensures m.of_index m.at_index.is))

pub tail_at-returns-in_ok-above-in-SliceTo : goal.tail_at-returns-in_ok-above-in-SliceTo
tail_at-returns-in_ok-above-in-SliceTo g t c = λ e h.
    let d = g.P.Places.context c.args.places.now in
    let env = g.N.Names.env c.args.names.now in
    let m = c.in-SliceTo.ensures e h in
    let first = c.in_ok-whole-in-SliceTo.whole.read.draft in
    along (λ (x : Expr). IsTail d c.args.place env c.args.draft x c.args.want c.sliced.result) e (expr.Slice m.of_inner None m.of_high) (Slice (expr_of m.of_inner) left_out (bound_of (option_map expr_of m.of_high))) m.made (slice_of m.of_inner None m.of_high)
    (c.sliced.ensures d c.args.place env c.args.draft first first (expr_of m.of_inner) left_out (bound_of (option_map expr_of m.of_high)) c.args.want (c.in_ok-whole-in-SliceTo.ensures m.of_inner m.at_inner.is) (record { read = record { behind = behind_same first; value = expr_word 0 }; known = tt }) (c.in_ok-above-in-SliceTo.ensures m.of_high m.at_high.is))

pub tail_at-returns-in_ok-above-in-SliceFrom : goal.tail_at-returns-in_ok-above-in-SliceFrom
tail_at-returns-in_ok-above-in-SliceFrom g t c = λ e h.
    let d = g.P.Places.context c.args.places.now in
    let env = g.N.Names.env c.args.names.now in
    let m = c.in-SliceFrom.ensures e h in
    let k = c.in_ok-below-in-SliceFrom.ensures m.of_low m.at_low.is in
    along (λ (x : Expr). IsTail d c.args.place env c.args.draft x c.args.want c.sliced-in-SliceFrom.result) e (expr.Slice m.of_inner (Some m.of_low) m.of_high) (Slice (expr_of m.of_inner) (bound (expr_of m.of_low)) (bound_of (option_map expr_of m.of_high))) m.made (slice_of m.of_inner (Some m.of_low) m.of_high)
    (c.sliced-in-SliceFrom.ensures d c.args.place env c.args.draft c.in_ok-whole-in-SliceFrom.whole.read.draft c.in_ok-below-in-SliceFrom.below.read.draft (expr_of m.of_inner) (bound (expr_of m.of_low)) (bound_of (option_map expr_of m.of_high)) c.args.want (c.in_ok-whole-in-SliceFrom.ensures m.of_inner m.at_inner.is) (record { read = k.read; known = k.known }) (c.in_ok-above-in-SliceFrom.ensures m.of_high m.at_high.is))

pub tail_at-returns-in_ok-made-in-Unary : goal.tail_at-returns-in_ok-made-in-Unary
tail_at-returns-in_ok-made-in-Unary g t c = λ e h.
    let d = g.P.Places.context c.args.places.now in
    let env = g.N.Names.env c.args.names.now in
    let m = c.in-Unary.ensures e h in
    along (λ (x : Expr). IfOk c.unary_at.result (λ made. IsTail d c.args.place env c.args.draft x c.args.want made)) e (expr.Unary c.in-Unary.sign m.of_inner) (Unary c.in-Unary.sign (expr_of m.of_inner)) m.made (unary_of c.in-Unary.sign m.of_inner)
    (c.unary_at.ensures d c.args.place env c.args.draft (expr_of m.of_inner) c.args.want (record { cmds = c.mark-mark.ensures.cmds; temps = c.mark-mark.ensures.temps }) (c.in_ok-made-in-Unary.ensures m.of_inner m.at_inner.is))

pub tail_at-returns-in_ok-made-in-Binary : goal.tail_at-returns-in_ok-made-in-Binary
tail_at-returns-in_ok-made-in-Binary g t c = λ e h.
    let d = g.P.Places.context c.args.places.now in
    let env = g.N.Names.env c.args.names.now in
    let m = c.in-Binary.ensures e h in
    let whole = Binary (expr_of m.of_left) c.in-Binary.sign (expr_of m.of_right) in
    let k = c.in_ok-made-in-Binary.ensures c.args.draft (expr_of m.of_left) m.of_right (c.in_ok-first-in-Binary.ensures m.of_left m.at_left.is) m.at_right.is in
    along (λ (x : Expr). IsTail d c.args.place env c.args.draft x c.args.want c.or_constant.result) e (expr.Binary m.of_left c.in-Binary.sign m.of_right) (whole) m.made (binary_of m.of_left c.in-Binary.sign m.of_right)
    (record {
      tail = c.or_constant.ensures.tail env whole c.args.draft _ (record { cmds = c.mark-mark.ensures.cmds; temps = c.mark-mark.ensures.temps }) k.known k.tail;
      known = subst (λ (x : Operand). IsOperand env whole x) (sym c.or_constant.ensures.known) k.known;
    })
