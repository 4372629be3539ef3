use Rattle.std.proofs.Common.{rules}
use Rattle.gv_points.proofs.Measured.{all_held}
use Rattle.gv_points.proofs.emission.proc_graph.Goals as goal

pub emit-requires-clause-extents : goal.emit-requires-clause-extents
emit-requires-clause-extents c = all_held (record { whole = 1; first = 0 }) _ _ (search rules)
