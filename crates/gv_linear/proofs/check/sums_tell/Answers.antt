use Rattle.std.proofs.Common.{Bool, subst, sym, ◌∙◌}
use Rattle.gv_linear.specs.Answer.{IsSummedTo}
use Rattle.gv_linear.proofs.WindowLemmas.{window_zero, window_other}
use Rattle.gv_linear.proofs.check.sums_tell.Goals as goal
use Rattle.gv_linear.proofs.check.sums_tell.Goals.{then-zero, else-zero}

pub loop-column-preserved : goal.loop-column-preserved
loop-column-preserved c =
    let next = c.next_column-column.ensures in
    let is : Bool → Type 0 = λ z. IsSummedTo c.args.rows.now c.args.factors.now c.args.unknowns c.next_column-column.result z in
    let was : Bool → Type 0 = λ z. IsSummedTo c.args.rows.now c.args.factors.now c.args.unknowns c.loop-column.column z in
    elim c.if-zero.branch [
      | then-zero w ↦ subst is (sym w.zero-is)
          (window_zero c.args.rows.now c.args.factors.now c.args.unknowns c.loop-column.column c.min-width.result c.next_column-column.result c.in-Some.zeros
          next.low next.high next.between c.in-Some.ensures (subst was w.if-zero.true c.loop-column.invariant))
      | else-zero w ↦ subst is (sym (w.zero-is ∙ w.if-zero.false))
          (window_other c.args.rows.now c.args.factors.now c.args.unknowns c.loop-column.column c.min-width.result c.next_column-column.result c.in-Some.zeros
          next.low next.high next.between c.in-Some.ensures (subst was w.if-zero.false c.loop-column.invariant))
    ]
