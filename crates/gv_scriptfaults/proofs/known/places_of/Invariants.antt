use Rattle.std.proofs.Common.{◌≡◌, take}
use Rattle.gv_scriptfaults.specs.Scoped.{ArePlaces}
use Rattle.gv_scriptfaults.proofs.known.places_of.Given as goal

abbrev pub invariant-loop-p : goal.invariant-loop-p
invariant-loop-p l = record {
  count : l.at ≡ l.p-index;
  places : ArePlaces l.procs (take l.p-index l.procs) l.table;
}
