use Rattle.std.proofs.Common.{◌≡◌, true, take}
use Rattle.gv_lines.specs.Lines.{are_all}
use Rattle.gv_lines.proofs.bytes.are_all.Given as goal

abbrev pub invariant-loop-byte : goal.invariant-loop-byte
invariant-loop-byte l = are_all l.one (take l.byte-index l.bytes) ≡ true
