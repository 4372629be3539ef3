use Rattle.std.proofs.Common.{◌≡◌, ◌+◌, take}
use Rattle.gv_base.specs.Places.{lines_ended, bytes_on_line}
use Rattle.gv_base.proofs.places.place_of.Given as goal

abbrev pub invariant-loop-byte : goal.invariant-loop-byte
invariant-loop-byte l = record {
  line : l.line ≡ 1 + lines_ended (take l.byte-index l.byte-items);
  column : l.column ≡ 1 + bytes_on_line (take l.byte-index l.byte-items);
}
