use Rattle.std.proofs.Common.{◌≡◌, take}
use Rattle.gv_lines.specs.Lines.{entry_lines}
use Rattle.gv_lines.proofs.entries.entry_lines.Given as goal

abbrev pub invariant-loop-e : goal.invariant-loop-e
invariant-loop-e l = l.made.items ≡ entry_lines l.spec (take l.e-index l.history)
