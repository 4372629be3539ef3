use Rattle.std.proofs.Common.{map, take}
use Rattle.gv_scriptnames.specs.Names.{names_in}
use Rattle.gv_scriptfaults.specs.Noted.{AreOps}
use Rattle.gv_scriptfaults.specs.Tables.{Holds}
use Rattle.gv_scriptfaults.proofs.ops.note_ops.Given as goal

abbrev pub invariant-loop-op : goal.invariant-loop-op
invariant-loop-op l = record {
  noted : AreOps l.text l.known l.outside (take l.op-index l.ops) l.fn.first l.first;
  names : Holds (names_in l.text (map (λ d. d.name) (take l.op-index l.ops))) l.names;
}
