use Rattle.std.proofs.Common.{◌≡◌, ◌+◌, ◌*◌, ◌≤◌, length}
use Rattle.gv_lang.specs.Plain.{tree_of, body_of}
use Rattle.gv_lang.specs.Graph.{size, command_size}
use Rattle.gv_lang.specs.Shape.{ends}
use Rattle.gv_lang.proofs.shape.+ends.Given as goal

abbrev pub decreases-command_ends : goal.decreases-command_ends
decreases-command_ends l = 2 * command_size (tree_of l.c.now)

abbrev pub decreases-ends : goal.decreases-ends
decreases-ends l = 2 * size (body_of l.cs.now) + 1

abbrev pub invariant-ends-loop-rest : goal.invariant-ends-loop-rest
invariant-ends-loop-rest l = record {
  same : ends (body_of l.rest) ≡ ends (body_of l.initial.rest);
  smaller : size (body_of l.rest) ≤ size (body_of l.cs);
}

abbrev pub decreases-ends-loop-rest : goal.decreases-ends-loop-rest
decreases-ends-loop-rest l = length l.rest
