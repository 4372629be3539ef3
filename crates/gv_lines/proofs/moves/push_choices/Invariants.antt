use Rattle.std.proofs.Common.{◌≡◌, ◌++◌, take}
use Rattle.gv_lines.specs.Moves.{choices_text}
use Rattle.gv_lines.proofs.moves.push_choices.Given as goal

abbrev pub invariant-loop-choice : goal.invariant-loop-choice
invariant-loop-choice l = l.out.items ≡ l.fn.out.items ++ choices_text (take l.choice-index l.choices)
