use Rattle.std.proofs.Common.{◌≡◌, take}
use Rattle.gv_lines.specs.Moves.{move_lines}
use Rattle.gv_lines.proofs.moves.move_lines.Given as goal

abbrev pub invariant-loop-m : goal.invariant-loop-m
invariant-loop-m l = l.made.items ≡ move_lines l.spec (take l.m-index l.moves)
