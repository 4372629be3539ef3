use Rattle.std.proofs.Common.{map, take}
use Rattle.gv_scriptfaults.specs.Tables.{Holds}
use Rattle.gv_scriptfaults.proofs.known.locals_of.Given as goal

abbrev pub invariant-loop-local : goal.invariant-loop-local
invariant-loop-local l = Holds (map (λ x. x.name) (take l.local-index l.locals)) l.names
