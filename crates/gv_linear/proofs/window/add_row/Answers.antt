use Rattle.std.proofs.Common.{rules, ℕ, ◌+◌, get_or, to_z, of_z, arith}
use Rattle.std.proofs.Math.IntN.{ℤ, pos, ◌*ℤ◌}
use Rattle.std.specs.Prelude.{FitsSigned}
use Rattle.std.specs.Int.{w128}
use Rattle.gv_linear.specs.Row.{entry}
use Rattle.gv_linear.proofs.WindowLemmas.{left_more, added_more, told_added}
use Rattle.gv_linear.proofs.window.add_row.Goals as goal

pub loop-k-preserved : goal.loop-k-preserved
loop-k-preserved c =
    let ps : ℕ → ℤ = λ j. to_z w128 (of_z w128 c.args.factor) *ℤ entry c.args.unknowns (c.args.from + j) c.args.row.now in
    let sum_fits : FitsSigned w128 (get_or c.loop-k.sums c.loop-k.k (pos 0)) = search rules in
    let entry_fits : FitsSigned w128 c.entry.result = search rules in
    let now = told_added (get_or c.loop-k.sums c.loop-k.k (pos 0)) _ c.entry.result (entry c.args.unknowns (c.args.from + c.loop-k.k) c.args.row.now) c.in-Some.more sum_fits entry_fits c.entry.ensures c.in-Some.ensures in
    record {
      added = added_more c.args.sums.now c.loop-k.sums c.loop-k.k ps _ (omega (arith, c.loop-k.auto.sums)) c.loop-k.invariant.left c.loop-k.invariant.added now;
      left = left_more c.args.sums.now c.loop-k.sums c.loop-k.k ps _ (omega (arith, c.loop-k.auto.sums)) c.loop-k.invariant.left;
    }
