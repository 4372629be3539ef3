use Rattle.std.proofs.Common.{◌≡◌, ◌++◌, ◌+◌, ◌<◌, ◌^◌, length, map, sum}
use Rattle.gv_lang.specs.Plain.{proc_of, body_of}
use Rattle.gv_lang.specs.Graph.{size, graph_of}
use Rattle.gv_points.specs.Graphs.{proc_graph_of}
use Rattle.gv_points.proofs.emission.points.Given as goal

abbrev pub invariant-loop-rest : goal.invariant-loop-rest
invariant-loop-rest l = record {
  made : map proc_graph_of l.procs.items ++ map graph_of (map proc_of l.rest) ≡ map graph_of (map proc_of l.p.procs);
  few : sum (map (λ q. size (body_of q.body)) l.rest) + 1 < 2 ^ 32;
}

abbrev pub decreases-loop-rest : goal.decreases-loop-rest
decreases-loop-rest l = length l.rest
