use Rattle.std.proofs.Common.{◌≡◌, ◌++◌, ◌+◌, length}
use Rattle.gv_points.specs.Graphs.{points_of}
use Rattle.gv_pointlines.specs.PointLines.{lines_from}
use Rattle.gv_pointlines.proofs.lines.push_points.Given as goal

abbrev pub invariant-loop-rest : goal.invariant-loop-rest
invariant-loop-rest l = record {
  written : l.out.items ++ lines_from l.locals l.k (points_of l.rest) ≡ l.initial.out.items ++ lines_from l.locals 1 (points_of l.fn.points);
  counted : l.k + length l.rest ≡ length l.fn.points + 1;
}

abbrev pub decreases-loop-rest : goal.decreases-loop-rest
decreases-loop-rest l = length l.rest
