use Rattle.std.proofs.Common.{◌≡◌, ◌++◌, ◌+◌, ◌*◌, ◌≤◌, length}
use Rattle.gv_lang.specs.Plain.{tree_of, body_of}
use Rattle.gv_lang.specs.Graph.{size, command_size}
use Rattle.gv_points.specs.Extents.{block_extents}
use Rattle.gv_points.proofs.extents.+measure.Given as goal

abbrev pub decreases-measure_command : goal.decreases-measure_command
decreases-measure_command l = 2 * command_size (tree_of l.c.now)

abbrev pub decreases-measure : goal.decreases-measure
decreases-measure l = 2 * size (body_of l.cs.now) + 1

abbrev pub invariant-measure-loop-rest : goal.invariant-measure-loop-rest
invariant-measure-loop-rest l = record {
  counted : l.count + size (body_of l.rest) ≡ size (body_of l.fn.cs);
  measured : l.out.items ++ block_extents (body_of l.rest) ≡ l.initial.out.items ++ block_extents (body_of l.fn.cs);
  smaller : size (body_of l.rest) ≤ size (body_of l.fn.cs);
}

abbrev pub decreases-measure-loop-rest : goal.decreases-measure-loop-rest
decreases-measure-loop-rest l = length l.rest
