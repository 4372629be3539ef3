use Rattle.std.proofs.Common.{arith}
use Rattle.gv_terms.specs.Store.{tree_at}
use Rattle.gv_known.proofs.Nodes.{root_unfit, part_unfit, all_fit}
use Rattle.gv_known.proofs.plain.+is_plain.Goals as goal

pub returns-then-not-is_plain_head : goal.returns-then-not-is_plain_head
returns-then-not-is_plain_head t c =
    root_unfit (tree_at c.args.store.now c.args.term.id) c.is_plain_head.result c.head_of.result.now c.is_plain_head.ensures c.head_of.ensures c.if-not-is_plain_head.true

pub returns-then-not-is_plain : goal.returns-then-not-is_plain
returns-then-not-is_plain t c =
    part_unfit c.args.store.now (tree_at c.args.store.now c.args.term.id) c.parts_of-parts.result.now c.loop-i.i c.is_plain.result c.is_plain_head.result c.head_of.result.now
    c.is_plain_head.ensures c.head_of.ensures c.parts_of-parts.ensures.trees c.loop-i.invariant c.loop-i-test.true c.is_plain.ensures c.if-not-is_plain.true

pub returns : goal.returns
returns t c =
    all_fit c.args.store.now (tree_at c.args.store.now c.args.term.id) c.parts_of-parts.result.now c.loop-i.i c.is_plain_head.result c.head_of.result.now
    c.is_plain_head.ensures c.head_of.ensures c.if-not-is_plain_head.false c.parts_of-parts.ensures.trees c.loop-i.invariant (omega (arith, c.loop-i-test.false))
