use Rattle.std.proofs.Common.{map, take}
use Rattle.gv_scriptnames.specs.Names.{names_in}
use Rattle.gv_scriptfaults.specs.Tables.{Holds}
use Rattle.gv_scriptfaults.proofs.bodies.names_of_cuts.Given as goal

abbrev pub invariant-loop-cut : goal.invariant-loop-cut
invariant-loop-cut l = Holds (names_in l.text (map (λ d. d.name) (take l.cut-index l.all))) l.names
