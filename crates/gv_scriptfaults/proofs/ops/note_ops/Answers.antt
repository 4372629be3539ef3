use Rattle.std.proofs.Common.{◌<◌, ℕ, List, length, map, take, subst, arith}
use Rattle.gv_scriptnames.specs.declared.outline.OpOutline.{OpOutline}
use Rattle.gv_scriptnames.specs.Names.{names_in}
use Rattle.gv_scriptnames.specs.Found.{of_op}
use Rattle.gv_scriptfaults.specs.Tables.{Holds}
use Rattle.gv_scriptfaults.proofs.Meeting.{each_noted, each_through}
use Rattle.gv_scriptfaults.proofs.Declaring.{named_more}
use Rattle.gv_scriptfaults.proofs.ops.note_ops.Goals as goal

pub loop-op-preserved : goal.loop-op-preserved
loop-op-preserved c =
    let text = c.args.text.now in
    let all = c.args.ops.now in
    let i = c.loop-op.op-index in
    let x = c.op-item.result in
    let lt : i < length all = omega arith in
    record {
      noted = λ spec program sc known is. each_noted (of_op text spec program sc) all i x c.args.first.now c.loop-op.first c.note_op.new.first lt c.op-item.is
          (c.loop-op.invariant.noted spec program sc known is) (c.in_ok-note_op.ensures.noted spec program sc (take i all) known is c.loop-op.invariant.names);
      names = subst (λ (ns : List (List ℕ)). Holds ns c.note_op.new.names) (named_more text (λ (d : OpOutline). d.name) all i x lt c.op-item.is)
          (c.in_ok-note_op.ensures.added (names_in text (map (λ (d : OpOutline). d.name) (take i all))) c.loop-op.invariant.names);
    }

pub returns : goal.returns
returns c = λ spec program sc known is.
    each_through (of_op c.args.text.now spec program sc) c.args.ops.now c.loop-op.op-index c.args.first.now c.loop-op.first (omega arith) (c.loop-op.invariant.noted spec program sc known is)
