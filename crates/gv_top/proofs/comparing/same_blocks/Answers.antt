use Rattle.std.proofs.Common.{arith}
use Rattle.std.proofs.lemmas.Grind.{common_steps}
use Rattle.gv_top.proofs.ComparingLemmas.{at_both, not_then}
use Rattle.gv_top.proofs.comparing.same_blocks.Goals as goal

pub returns-then-not-same_name : goal.returns-then-not-same_name
returns-then-not-same_name c =
    not_then _ _ c.same_name.result c.same_name.ensures c.if-not-same_name.true
    (λ e. at_both (λ op. op.name) (λ b. b.name) c.args.ops.now c.args.blocks.now c.loop-at.at c.index-ops-at.result c.index-blocks-at.result c.loop-at-test.true (grind (arith, common_steps)) c.index-ops-at.is e)
