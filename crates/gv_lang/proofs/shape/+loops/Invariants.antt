use Rattle.std.proofs.Common.{◌≡◌, ◌+◌, ◌*◌, ◌≤◌, length}
use Rattle.gv_lang.specs.Plain.{tree_of, body_of}
use Rattle.gv_lang.specs.Graph.{size, command_size}
use Rattle.gv_lang.specs.Shape.{loops_end}
use Rattle.gv_lang.proofs.shape.+loops.Given as goal

abbrev pub decreases-command_loops_end : goal.decreases-command_loops_end
decreases-command_loops_end l = 2 * command_size (tree_of l.c.now)

abbrev pub decreases-loops_end : goal.decreases-loops_end
decreases-loops_end l = 2 * size (body_of l.cs.now) + 1

abbrev pub invariant-loops_end-loop-rest : goal.invariant-loops_end-loop-rest
invariant-loops_end-loop-rest l = record {
  same : loops_end (body_of l.rest) ≡ loops_end (body_of l.initial.rest);
  smaller : size (body_of l.rest) ≤ size (body_of l.cs);
}

abbrev pub decreases-loops_end-loop-rest : goal.decreases-loops_end-loop-rest
decreases-loops_end-loop-rest l = length l.rest
