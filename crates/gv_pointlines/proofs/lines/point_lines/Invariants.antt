use Rattle.std.proofs.Common.{◌≡◌, ◌++◌, length, map}
use Rattle.gv_lang.specs.Graph.{graph_of}
use Rattle.gv_lang.specs.Plain.{proc_of}
use Rattle.gv_points.specs.Graphs.{proc_graph_of}
use Rattle.gv_pointlines.specs.PointLines.{all_lines}
use Rattle.gv_pointlines.proofs.lines.point_lines.Given as goal

abbrev pub invariant-loop-procs : goal.invariant-loop-procs
invariant-loop-procs l = record {
  written : l.out.items ++ all_lines (map proc_of l.procs) ≡ all_lines (map proc_of l.program.procs);
  same : map proc_graph_of l.graphs ≡ map graph_of (map proc_of l.procs);
}

abbrev pub decreases-loop-procs : goal.decreases-loop-procs
decreases-loop-procs l = length l.procs
