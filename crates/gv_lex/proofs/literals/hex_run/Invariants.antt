use Rattle.std.proofs.Common.{◌≡◌, ◌+◌, drop}
use Rattle.gv_lex.specs.Literals.{hex_run}
use Rattle.gv_lex.proofs.literals.hex_run.Given as goal

abbrev pub invariant-loop-i : goal.invariant-loop-i
invariant-loop-i l = l.i + hex_run (drop l.i l.text) ≡ hex_run l.text
