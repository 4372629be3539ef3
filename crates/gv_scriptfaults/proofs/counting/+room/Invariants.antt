use Rattle.std.proofs.Common.{◌≡◌, ◌+◌, ◌*◌, ◌≤◌, length}
use Rattle.gv_lang.specs.Plain.{tree_of, body_of}
use Rattle.gv_lang.specs.Graph.{size, command_size}
use Rattle.gv_scriptfaults.proofs.counting.+room.Given as goal

abbrev pub decreases-left_after_command : goal.decreases-left_after_command
decreases-left_after_command l = 2 * command_size (tree_of l.c.now)

abbrev pub decreases-left_after : goal.decreases-left_after
decreases-left_after l = 2 * size (body_of l.cs.now) + 1

abbrev pub invariant-left_after-loop-rest : goal.invariant-left_after-loop-rest
invariant-left_after-loop-rest l = record {
  counted : l.left + size (body_of l.cs) ≡ l.room + size (body_of l.rest);
  smaller : size (body_of l.rest) ≤ size (body_of l.cs);
}

abbrev pub decreases-left_after-loop-rest : goal.decreases-left_after-loop-rest
decreases-left_after-loop-rest l = length l.rest
