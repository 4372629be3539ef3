use Rattle.std.proofs.Common.{map, take}
use Rattle.gv_scriptfaults.specs.Tables.{Holds}
use Rattle.gv_scriptfaults.proofs.known.fields_of.Given as goal

abbrev pub invariant-loop-field : goal.invariant-loop-field
invariant-loop-field l = Holds (map (λ x. x.name) (take l.field-index l.fields)) l.names
