use Rattle.std.proofs.Common.{◌≡◌, ◌+◌, ◌*◌, ◌≤◌, length}
use Rattle.gv_lang.specs.Plain.{tree_of, body_of}
use Rattle.gv_lang.specs.Graph.{size, command_size}
use Rattle.gv_lang.specs.Shape.{breaks}
use Rattle.gv_lang.proofs.shape.+breaks.Given as goal

abbrev pub decreases-command_breaks : goal.decreases-command_breaks
decreases-command_breaks l = 2 * command_size (tree_of l.c.now)

abbrev pub decreases-breaks : goal.decreases-breaks
decreases-breaks l = 2 * size (body_of l.cs.now) + 1

abbrev pub invariant-breaks-loop-rest : goal.invariant-breaks-loop-rest
invariant-breaks-loop-rest l = record {
  same : breaks (body_of l.rest) ≡ breaks (body_of l.initial.rest);
  smaller : size (body_of l.rest) ≤ size (body_of l.cs);
}

abbrev pub decreases-breaks-loop-rest : goal.decreases-breaks-loop-rest
decreases-breaks-loop-rest l = length l.rest
