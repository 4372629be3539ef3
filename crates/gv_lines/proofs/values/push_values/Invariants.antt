use Rattle.std.proofs.Common.{◌≡◌, ◌++◌, take}
use Rattle.gv_lines.specs.Lines.{values_text}
use Rattle.gv_lines.proofs.values.push_values.Given as goal

abbrev pub invariant-loop-value : goal.invariant-loop-value
invariant-loop-value l = l.out.items ≡ l.fn.out.items ++ values_text (take l.value-index l.values)
