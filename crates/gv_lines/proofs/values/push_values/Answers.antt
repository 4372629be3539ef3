use Rattle.gv_lines.proofs.LineLemmas.{values_next}
use Rattle.gv_lines.proofs.values.push_values.Goals as goal

pub loop-value-preserved : goal.loop-value-preserved
loop-value-preserved c =
    values_next c.args.out.now.items c.loop-value.out.items c.push_value.new.out.items c.args.values.now c.loop-value.value-index c.value-item.result
    c.loop-value-test.true c.value-item.is c.loop-value.invariant c.in_ok-push_value.ensures
