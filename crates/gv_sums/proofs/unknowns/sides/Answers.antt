use Rattle.gv_sums.proofs.Finding.{sides_more}
use Rattle.gv_sums.proofs.unknowns.sides.Goals as goal

pub loop-i-preserved : goal.loop-i-preserved
loop-i-preserved c =
    sides_more c.args.comparisons.now c.loop-i.i c.loop-i.terms.items c.push.new.self.items c.push-in-loop-i.new.self.items c.loop-i-test.true c.loop-i.invariant
    c.in_ok-push.ensures.items c.in_ok-push-2.ensures.items
