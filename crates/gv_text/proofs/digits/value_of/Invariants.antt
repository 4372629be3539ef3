use Rattle.std.proofs.Common.{◌≡◌, ◌≤◌, drop, fold}
use Rattle.gv_text.specs.Digits.{with_digit}
use Rattle.gv_text.proofs.digits.value_of.Given as goal

abbrev pub invariant-loop-byte : goal.invariant-loop-byte
invariant-loop-byte l = record {
  small : l.value ≤ l.most;
  same : fold (with_digit l.radix) l.value (drop l.byte-index l.digits) ≡ fold (with_digit l.radix) 0 l.digits;
}
