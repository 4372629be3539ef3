use Rattle.std.proofs.Common.{rules, ◌∙◌}
use Rattle.std.specs.Prelude.{FitsSigned}
use Rattle.std.specs.Int.{w128}
use Rattle.gv_linear.proofs.CheckLemmas.{on_tested, on_kept}
use Rattle.gv_linear.proofs.check.columns_tell.Goals as goal
use Rattle.gv_linear.proofs.check.columns_tell.Goals.{then-zero, else-zero}

pub loop-column-preserved : goal.loop-column-preserved
loop-column-preserved c =
    let sum = c.in-Ok.ensures in
    let next = c.next_column-column.ensures in
    let fits : FitsSigned w128 c.in-Ok.sum = search rules in
    elim c.if-zero.branch [
      | then-zero w ↦ on_tested c.args.rows.now c.args.factors.now c.args.unknowns c.loop-column.column c.next_column-column.result c.loop-column.zero c.loop-column-test.true next.low next.high next.between sum.narrow c.in-Ok.sum c.if-zero.zero w.zero-is sum.sum fits w.if-zero.true c.loop-column.invariant
      | else-zero w ↦ on_kept c.args.rows.now c.args.factors.now c.args.unknowns c.loop-column.column c.next_column-column.result c.loop-column.zero c.loop-column-test.true next.low next.high next.between sum.narrow c.if-zero.zero (w.zero-is ∙ w.if-zero.false) w.if-zero.false c.loop-column.invariant
    ]
