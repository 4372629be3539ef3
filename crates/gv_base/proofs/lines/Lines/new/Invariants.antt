use Rattle.std.proofs.Common.{◌≡◌}
use Rattle.gv_base.specs.Lines.{AreStarts}
use Rattle.gv_base.proofs.lines.Lines.new.Given as goal

abbrev pub invariant-loop-byte : goal.invariant-loop-byte
invariant-loop-byte l = record {
  end : l.end ≡ l.byte-index;
  starts : AreStarts l.text l.byte-index l.starts.items;
}
