use Rattle.std.proofs.Common.{map, take}
use Rattle.gv_scriptnames.specs.Names.{names_in}
use Rattle.gv_scriptfaults.specs.Noted.{AreProcs}
use Rattle.gv_scriptfaults.specs.Tables.{Holds}
use Rattle.gv_scriptfaults.proofs.procs.note_procs.Given as goal

abbrev pub invariant-loop-proc : goal.invariant-loop-proc
invariant-loop-proc l = record {
  noted : AreProcs l.text l.known l.outside (take l.proc-index l.procs) l.fn.first l.first;
  names : Holds (names_in l.text (map (λ d. d.name) (take l.proc-index l.procs))) l.names;
}
