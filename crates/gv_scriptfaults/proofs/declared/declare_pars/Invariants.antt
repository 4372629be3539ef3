use Rattle.std.proofs.Common.{take}
use Rattle.gv_scriptnames.specs.Names.{names_of}
use Rattle.gv_scriptfaults.specs.Noted.{AreAdded, AreDeclared}
use Rattle.gv_scriptfaults.proofs.declared.declare_pars.Given as goal

abbrev pub invariant-loop-p : goal.invariant-loop-p
invariant-loop-p l = record {
  noted : AreDeclared l.text l.outer l.fn.own (names_of (take l.p-index l.ps)) l.fn.first l.first;
  added : AreAdded l.text l.fn.own (names_of (take l.p-index l.ps)) l.own;
}
