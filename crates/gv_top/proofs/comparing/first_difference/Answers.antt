use Rattle.std.proofs.Common.{arith}
use Rattle.std.proofs.lemmas.Grind.{common_steps}
use Rattle.gv_top.proofs.ComparingLemmas.{first_difference_at}
use Rattle.gv_top.proofs.comparing.first_difference.Goals as goal

pub returns-then-not-same_sum-clause-some : goal.returns-then-not-same_sum-clause-some
returns-then-not-same_sum-clause-some c =
    first_difference_at c.args.ops.now c.args.others.now c.args.blocks.now c.loop-at.at c.index-ops-at.result c.index-others-at.result c.index-blocks-at.result c.same_sum.result
    c.loop-at-test.true (grind (arith, common_steps)) (grind (arith, common_steps)) c.index-ops-at.is c.index-others-at.is c.index-blocks-at.is c.loop-at.invariant c.same_sum.ensures c.if-not-same_sum.true
