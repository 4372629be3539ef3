use Rattle.std.proofs.Common.{arith, ◌+◌, ◌-◌, ◌/◌}
use Rattle.gv_base.proofs.LineStarts.{line_reached, line_ahead}
use Rattle.gv_base.proofs.lines.Lines.place.Goals as goal

pub loop-high-preserved-then-starts-middle : goal.loop-high-preserved-then-starts-middle
loop-high-preserved-then-starts-middle c = record {
  starts = c.loop-high.invariant.starts;
  within = c.loop-high.invariant.within;
  above = line_reached c.args.self.now c.as_slice-starts.result.now (c.loop-high.low + (c.loop-high.high - c.loop-high.low) / 2) c.args.at
      c.loop-high.invariant.starts (omega arith) (omega arith);
  below = c.loop-high.invariant.below;
}

pub loop-high-preserved : goal.loop-high-preserved
loop-high-preserved c = record {
  starts = c.loop-high.invariant.starts;
  within = omega arith;
  above = c.loop-high.invariant.above;
  below = line_ahead c.args.self.now c.as_slice-starts.result.now (c.loop-high.low + (c.loop-high.high - c.loop-high.low) / 2) c.args.at
      c.loop-high.invariant.starts (omega arith) (omega arith) (omega arith);
}
