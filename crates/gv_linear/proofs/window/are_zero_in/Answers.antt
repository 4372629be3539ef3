use Rattle.std.proofs.Common.{arith}
use Rattle.gv_linear.proofs.WindowLemmas.{window_summed}
use Rattle.gv_linear.proofs.window.are_zero_in.Goals as goal

pub returns-then-sum_columns : goal.returns-then-sum_columns
returns-then-sum_columns c =
    window_summed c.args.rows.now c.args.factors.now c.requires.lengths c.args.unknowns c.args.from _ c.sum_columns.new.sums
    c.sum_columns.ensures.length (c.sum_columns.ensures.summed c.if-sum_columns.true) c.all_zero.result c.all_zero.ensures.zero c.all_zero.ensures.other
