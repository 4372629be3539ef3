-- Graphs as those of the definition.
use Rattle.std.specs.Prelude.{List, map}
use Rattle.gv_lang.specs.Plain.{tree_of}
use Rattle.gv_lang.specs.Graph as plain
use Rattle.gv_points.specs.declared.graph.Graph.{Graph}
use Rattle.gv_points.specs.declared.graph.ProcGraph.{ProcGraph}
use Rattle.gv_points.specs.declared.graph.Point.{Point}

abbrev pub point_of : Point → plain.Point
point_of p = record { action = tree_of p.action; place = p.place; targets = p.targets; next = p.next }

abbrev pub points_of : List Point → List plain.Point
points_of ps = map point_of ps

abbrev pub proc_graph_of : ProcGraph → plain.ProcGraph
proc_graph_of g = record { entry = g.entry; points = points_of g.points }

abbrev pub graphs_in : Graph → List plain.ProcGraph
graphs_in g = map proc_graph_of g.procs
