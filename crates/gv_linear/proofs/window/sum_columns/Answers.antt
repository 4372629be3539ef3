use Rattle.std.proofs.Common.{rules, ◌+◌, List, Some, subst, sym, arith, get_or}
use Rattle.std.proofs.Math.IntN.{ℤ, pos, ◌*ℤ◌}
use Rattle.std.proofs.lemmas.Int.{to_z-of_z}
use Rattle.gv_linear.specs.Row.{entry}
use Rattle.std.specs.Prelude.{FitsSigned}
use Rattle.std.specs.Int.{w128}
use Rattle.gv_linear.specs.Columns.{IsAdded, AreColumnsTo}
use Rattle.gv_linear.proofs.ColumnLemmas.{row_in_order}
use Rattle.gv_linear.proofs.WindowLemmas.{row_more, row_passed}
use Rattle.gv_linear.proofs.window.sum_columns.Goals as goal
use Rattle.gv_linear.proofs.window.sum_columns.Goals.{else-occurs-via-then-occurs+else-not-add_row, else-occurs-via-else-occurs}

pub occurs-requires-clause-in_order : goal.occurs-requires-clause-in_order
occurs-requires-clause-in_order c = row_in_order c.args.unknowns c.args.rows.now c.loop-i.i c.index-rows-i.result c.requires.in_order c.loop-i-test.true c.index-rows-i.is

pub add_row-requires-clause-in_order : goal.add_row-requires-clause-in_order
add_row-requires-clause-in_order c = row_in_order c.args.unknowns c.args.rows.now c.loop-i.i c.index-rows-i.result c.requires.in_order c.loop-i-test.true c.index-rows-i.is

pub loop-i-preserved : goal.loop-i-preserved
loop-i-preserved c =
    let factor : ℤ = get_or c.args.factors.now c.loop-i.i (pos 0) in
    let fits : FitsSigned w128 factor = search rules in
    elim c.else-occurs.branch [
      | else-occurs-via-then-occurs+else-not-add_row w ↦
          let told = w.add_row.ensures.added w.if-not-add_row.false in
          let next = row_more c.args.rows.now c.args.factors.now c.requires.lengths c.args.unknowns c.args.from c.loop-i.i c.index-rows-i.result c.loop-i-test.true c.index-rows-i.is
          c.loop-i.sums w.add_row.new.sums c.loop-i.invariant w.add_row.ensures.length
          (λ k l. subst (λ (f : ℤ). IsAdded (get_or c.loop-i.sums k (pos 0)) (f *ℤ entry c.args.unknowns (c.args.from + k) c.index-rows-i.result) (Some (get_or w.add_row.new.sums k (pos 0)))) (to_z-of_z w128 factor fits) (told k l)) in
          subst (λ (sums : List ℤ). AreColumnsTo c.args.rows.now c.args.factors.now c.args.unknowns c.args.from (c.loop-i.i + 1) sums) (sym w.sums-is) next
      | else-occurs-via-else-occurs w ↦
          let next = row_passed c.args.rows.now c.args.factors.now c.requires.lengths c.args.unknowns c.args.from c.loop-i.i c.index-rows-i.result c.loop-i-test.true c.index-rows-i.is
          c.loop-i.sums (omega (arith, c.loop-i.auto.sums, c.requires.within)) c.loop-i.invariant
          (λ column low high. c.occurs.ensures.none w.if-occurs.false column low (omega (arith, c.loop-i.auto.sums))) in
          subst (λ (sums : List ℤ). AreColumnsTo c.args.rows.now c.args.factors.now c.args.unknowns c.args.from (c.loop-i.i + 1) sums) (sym w.sums-is) next
    ]
