use Rattle.std.proofs.Common.{◌≡◌, ◌++◌, ◌+◌, ◌*◌, ◌≤◌, length}
use Rattle.gv_lang.specs.Plain.{tree_of, body_of}
use Rattle.gv_lang.specs.Graph.{size, command_size, block_points}
use Rattle.gv_points.specs.Extents.{Holds, block_extents}
use Rattle.gv_points.specs.Graphs.{points_of}
use Rattle.gv_points.proofs.emission.+emit.Given as goal

abbrev pub decreases-emit_command : goal.decreases-emit_command
decreases-emit_command l = 2 * command_size (tree_of l.c.now)

abbrev pub decreases-emit : goal.decreases-emit
decreases-emit l = 2 * size (body_of l.cs.now) + 1

abbrev pub invariant-emit-loop-rest : goal.invariant-emit-loop-rest
invariant-emit-loop-rest l = record {
  emitted : points_of l.out.items ++ block_points (body_of l.rest) l.here l.exits.after l.exits.leave l.exits.again
      ≡ points_of l.initial.out.items ++ block_points (body_of l.cs) l.at l.exits.after l.exits.leave l.exits.again;
  numbered : l.here + size (body_of l.rest) ≡ l.at + size (body_of l.cs);
  held : Holds l.extents l.here (block_extents (body_of l.rest));
  smaller : size (body_of l.rest) ≤ size (body_of l.cs);
}

abbrev pub decreases-emit-loop-rest : goal.decreases-emit-loop-rest
decreases-emit-loop-rest l = length l.rest
