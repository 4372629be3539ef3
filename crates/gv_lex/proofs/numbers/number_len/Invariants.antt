use Rattle.std.proofs.Common.{◌≡◌, ◌+◌, drop}
use Rattle.gv_lex.specs.Numbers.{number_length}
use Rattle.gv_lex.proofs.numbers.number_len.Given as goal

abbrev pub invariant-loop-i : goal.invariant-loop-i
invariant-loop-i l = l.i + number_length (drop l.i l.text) ≡ number_length l.text
