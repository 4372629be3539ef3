use Rattle.std.proofs.Common.{◌≡◌, ◌+◌, drop}
use Rattle.gv_lex.specs.Names.{name_rest}
use Rattle.gv_lex.proofs.names.name_rest.Given as goal

abbrev pub invariant-loop-i : goal.invariant-loop-i
invariant-loop-i l = l.i + name_rest (drop l.i l.text) ≡ name_rest l.text
