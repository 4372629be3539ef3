use Rattle.std.proofs.Common.{◌≡◌, ◌++◌, take}
use Rattle.gv_lines.specs.Lines.{hex_of}
use Rattle.gv_lines.proofs.bytes.push_hex.Given as goal

abbrev pub invariant-loop-byte : goal.invariant-loop-byte
invariant-loop-byte l = l.out.items ≡ l.fn.out.items ++ hex_of (take l.byte-index l.bytes)
