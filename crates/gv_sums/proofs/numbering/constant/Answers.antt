use Rattle.std.proofs.Common.{◌+◌, arith}
use Rattle.std.proofs.lemmas.Int.{ints}
use Rattle.gv_sums.proofs.Numbers.{constant_more}
use Rattle.gv_sums.proofs.Narrow.{constant_taken}
use Rattle.gv_sums.proofs.numbering.constant.Goals as goal

pub overflow_add-sum : goal.overflow_add-sum
overflow_add-sum c =
    let ns = c.args.summands.now in
    let more = constant_more ns c.loop-i.i c.loop-i-test.true in
    let after = constant_taken (c.loop-i.i + 1) ns c.requires.few c.requires.words in
    let before = constant_taken c.loop-i.i ns c.requires.few c.requires.words in
    let low = after.low in
    let high = after.high in
    let l = before.low in
    let h = before.high in
    omega (arith, ints, more, low, high, l, h)

pub loop-i-preserved : goal.loop-i-preserved
loop-i-preserved c =
    let ns = c.args.summands.now in
    let more = constant_more ns c.loop-i.i c.loop-i-test.true in
    let after = constant_taken (c.loop-i.i + 1) ns c.requires.few c.requires.words in
    let before = constant_taken c.loop-i.i ns c.requires.few c.requires.words in
    let low = after.low in
    let high = after.high in
    let l = before.low in
    let h = before.high in
    omega (arith, ints, more, low, high, l, h)
