use Rattle.std.proofs.Common.{◌≡◌, ap, arith}
use Rattle.std.proofs.Math.IntN.{pos}
use Rattle.gv_certs.specs.Sums.{one_if}
use Rattle.std.proofs.lemmas.Int.{ints}
use Rattle.gv_sums.proofs.Narrow.{constant_small}
use Rattle.gv_sums.proofs.numbering.row_constant.Goals as goal

pub overflow_sub-result : goal.overflow_sub-result
overflow_sub-result c =
    let small = constant_small c.args.summands.now c.requires.few c.requires.words in
    let low = small.low in
    let high = small.high in
    omega (arith, ints, low, high)

pub returns-then-strict : goal.returns-then-strict
returns-then-strict c =
    let small = constant_small c.args.summands.now c.requires.few c.requires.words in
    let low = small.low in
    let high = small.high in
    let one : one_if c.args.strict ≡ pos 1 = ap one_if c.if-strict.true in
    let sum = c.constant-sum.ensures in
    omega (arith, ints, low, high, one, sum)
