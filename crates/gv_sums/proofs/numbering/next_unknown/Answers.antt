use Rattle.std.proofs.Common.{arith}
use Rattle.std.proofs.lemmas.Int.{ints}
use Rattle.gv_sums.proofs.Numbers.{coefficient_more}
use Rattle.gv_sums.proofs.numbering.next_unknown.Goals as goal

pub loop-i-preserved : goal.loop-i-preserved
loop-i-preserved c =
    let here = c.earlier-next.ensures in
    let stand = c.loop-i.invariant in
    record {
      low = here.low;
      high = omega (arith, here.high, stand.high);
      between = λ u low high.
          let more = coefficient_more u c.args.summands.now c.loop-i.i c.loop-i-test.true in
          let before = stand.between u low (omega (arith, high, here.high)) in
          let now = here.between u low high in
          omega (arith, ints, more, before, now);
    }
