use Rattle.std.proofs.Common.{arith}
use Rattle.gv_text.proofs.Values.{value_overflows, value_ends}
use Rattle.gv_text.proofs.digits.value_of.Goals as goal

pub returns-in-None : goal.returns-in-None
returns-in-None c =
    value_overflows c.args.radix c.args.most c.args.digits.now c.loop-byte.byte-index c.loop-byte.value (omega arith) c.loop-byte-test.true c.loop-byte.invariant.same c.in-None.ensures

pub returns : goal.returns
returns c = value_ends c.args.radix c.args.most c.args.digits.now c.loop-byte.byte-index c.loop-byte.value (omega arith) c.loop-byte.invariant.same c.loop-byte.invariant.small
