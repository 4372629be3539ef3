use Rattle.std.proofs.Common.{◌+◌, arith}
use Rattle.std.proofs.lemmas.Int.{ints}
use Rattle.gv_sums.proofs.Numbers.{coefficient_more}
use Rattle.gv_sums.proofs.Narrow.{coefficient_taken}
use Rattle.gv_sums.proofs.numbering.coefficient.Goals as goal

pub overflow_add-sum : goal.overflow_add-sum
overflow_add-sum c =
    let ns = c.args.summands.now in
    let more = coefficient_more c.args.unknown ns c.loop-i.i c.loop-i-test.true in
    let after = coefficient_taken c.args.unknown (c.loop-i.i + 1) ns c.requires in
    let before = coefficient_taken c.args.unknown c.loop-i.i ns c.requires in
    let low = after.low in
    let high = after.high in
    let l = before.low in
    let h = before.high in
    omega (arith, ints, more, low, high, l, h)

pub loop-i-preserved : goal.loop-i-preserved
loop-i-preserved c =
    let ns = c.args.summands.now in
    let more = coefficient_more c.args.unknown ns c.loop-i.i c.loop-i-test.true in
    let after = coefficient_taken c.args.unknown (c.loop-i.i + 1) ns c.requires in
    let before = coefficient_taken c.args.unknown c.loop-i.i ns c.requires in
    let low = after.low in
    let high = after.high in
    let l = before.low in
    let h = before.high in
    omega (arith, ints, more, low, high, l, h)
