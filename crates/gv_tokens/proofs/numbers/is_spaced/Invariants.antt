use Rattle.std.proofs.Common.{◌≡◌, drop}
use Rattle.gv_tokens.specs.Numbers.{is_spaced}
use Rattle.gv_tokens.proofs.numbers.is_spaced.Given as goal

abbrev pub invariant-loop-byte : goal.invariant-loop-byte
invariant-loop-byte l = is_spaced l.radix l.after (drop l.byte-index l.digits) ≡ is_spaced l.radix l.fn.after l.digits
