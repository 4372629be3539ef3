use Rattle.std.proofs.Common.{◌≡◌, ◌∷◌, ◌++◌, [], Some, None, rules}
use Rattle.gv_smallspec.specs.SmallSpec.{small_op}
use Rattle.gv_smallspec.proofs.OpsLemmas.{next_value, no_value}
use Rattle.gv_smallspec.proofs.forms.small_ops.Goals as goal

pub returns-in_default-clause-none : goal.returns-in_default-clause-none
returns-in_default-clause-none c =
    let s = c.args.spec.now in
    let o = c.operation.result.now in
    let none : small_op s.store o ≡ None = search rules in
    λ ops e. no_value (small_op s.store) s.ops ops c.loop-number.number o c.operation.ensures.is none e

pub loop-number-preserved : goal.loop-number-preserved
loop-number-preserved c =
    let s = c.args.spec.now in
    let o = c.operation.result.now in
    let some : small_op s.store o ≡ Some c.in-Some.op = search rules in
    let more : c.push.new.self ≡ c.loop-number.ops ++ c.in-Some.op ∷ [] = search rules in
    next_value (small_op s.store) s.ops c.loop-number.ops c.push.new.self c.loop-number.number
    o c.in-Some.op c.operation.ensures.is some more c.loop-number.invariant
