use Rattle.std.proofs.Common.{◌+◌, ◌-◌, ◌/◌, ◌<◌, length, arith}
use Rattle.gv_words.proofs.Placed.{holds_here, low_more, high_other}
use Rattle.gv_words.proofs.entries.find.Goals as goal

pub returns-then-here-key-clause-found : goal.returns-then-here-key-clause-found
returns-then-here-key-clause-found g c =
    let m = c.args.entries.now in
    let i = c.loop-low.low + (c.loop-low.high - c.loop-low.low) / 2 in
    let inside : i < length m = omega (arith, c.loop-low-test.true, c.loop-low.invariant.within) in
    holds_here m i c.args.key _ inside c.requires c.if-here-key.true

pub loop-low-preserved-then-here-key-2 : goal.loop-low-preserved-then-here-key-2
loop-low-preserved-then-here-key-2 g c =
    let m = c.args.entries.now in
    let i = c.loop-low.low + (c.loop-low.high - c.loop-low.low) / 2 in
    let inside : i < length m = omega (arith, c.loop-low-test.true, c.loop-low.invariant.within) in
    record {
      ordered = omega (arith, c.loop-low-test.true);
      within = c.loop-low.invariant.within;
      below = low_more m i c.args.key _ inside c.requires c.if-here-key-2.true;
      above = c.loop-low.invariant.above;
    }

pub loop-low-preserved : goal.loop-low-preserved
loop-low-preserved g c =
    let m = c.args.entries.now in
    let i = c.loop-low.low + (c.loop-low.high - c.loop-low.low) / 2 in
    let inside : i < length m = omega (arith, c.loop-low-test.true, c.loop-low.invariant.within) in
    record {
      ordered = omega arith;
      within = omega (arith, c.loop-low-test.true, c.loop-low.invariant.within);
      below = c.loop-low.invariant.below;
      above = high_other m i c.args.key _ inside c.requires c.if-here-key.false c.if-here-key-2.false;
    }
