use Rattle.std.proofs.Common.{◌≡◌, ◌+◌, drop}
use Rattle.gv_tokens.specs.Bytes.{run}
use Rattle.gv_tokens.proofs.bytes.run_len.Given as goal

abbrev pub invariant-loop-i : goal.invariant-loop-i
invariant-loop-i l = l.i + run l.class (drop l.i l.text) ≡ run l.class l.text
