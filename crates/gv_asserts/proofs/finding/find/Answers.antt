use Rattle.std.proofs.Common.{arith}
use Rattle.gv_asserts.proofs.First.{found_there, first_there, not_there}
use Rattle.gv_asserts.proofs.finding.find.Goals as goal

pub has_key-requires-clause-atom : goal.has_key-requires-clause-atom
has_key-requires-clause-atom g c =
    found_there c.args.cx.now.store c.as_slice-items.result.now c.args.heap.now.atoms.items c.loop-i.i c.index-items-i.result c.as_slice-items.ensures
    c.requires.atoms (omega (arith, c.loop-i-test.true)) c.index-items-i.is

pub returns-then-has_key-clause-first : goal.returns-then-has_key-clause-first
returns-then-has_key-clause-first g c =
    first_there c.args.cx.now.store c.args.key.now c.as_slice-items.result.now c.args.heap.now.atoms.items c.loop-i.i c.index-items-i.result
    c.as_slice-items.ensures (omega (arith, c.loop-i-test.true)) c.index-items-i.is (c.has_key.ensures.0 c.if-has_key.true) c.loop-i.invariant.none

pub loop-i-preserved : goal.loop-i-preserved
loop-i-preserved g c = record {
  none = not_there c.args.cx.now.store c.args.key.now c.as_slice-items.result.now c.loop-i.i c.index-items-i.result (omega (arith, c.loop-i-test.true))
      c.index-items-i.is (λ h. let yes = c.has_key.ensures.1 h in let no = c.if-has_key.false in absurd cc) c.loop-i.invariant.none;
  steps = omega (arith, c.tick.ensures, c.loop-i.invariant.steps);
}
