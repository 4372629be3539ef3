use Rattle.std.proofs.Common.{take}
use Rattle.gv_scriptfaults.specs.Noted.{AreAdded, AreDeclared}
use Rattle.gv_scriptfaults.proofs.declared.declare_all.Given as goal

abbrev pub invariant-loop-t : goal.invariant-loop-t
invariant-loop-t l = record {
  noted : AreDeclared l.text l.outer l.fn.own (take l.t-index l.ts) l.fn.first l.first;
  added : AreAdded l.text l.fn.own (take l.t-index l.ts) l.own;
}
