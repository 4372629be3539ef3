use Rattle.std.proofs.Common.{◌<◌, List, length, take, sym, subst, arith}
use Rattle.gv_atomic.specs.declared.spec.Op.{Op}
use Rattle.gv_scriptfaults.specs.Tables.{IsTable}
use Rattle.gv_scriptfaults.proofs.Meeting.{taken}
use Rattle.gv_scriptfaults.proofs.Tables.{table_more}
use Rattle.gv_scriptfaults.proofs.known.ops_of.Goals as goal

pub loop-op-preserved : goal.loop-op-preserved
loop-op-preserved c =
    let ops = c.args.ops.now in
    let k = c.loop-op.op-index in
    let x = c.op-item.result in
    let lt : k < length ops = omega arith in
    subst (λ (os : List Op). IsTable (λ (o : Op). o.name) (λ (o : Op). length o.params) os c.keep.new.self) (sym (taken ops k x lt c.op-item.is))
    (table_more (λ (o : Op). o.name) (λ (o : Op). length o.params) (take k ops) x _ _ c.loop-op.table c.keep.new.self c.in_ok-copy.ensures c.len.ensures c.in_ok-keep.ensures c.loop-op.invariant)
