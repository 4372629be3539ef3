use Rattle.std.proofs.Common.{take}
use Rattle.gv_scriptfaults.specs.Noted.{AreCaseVars}
use Rattle.gv_scriptfaults.proofs.preds.note_vars.Given as goal

abbrev pub invariant-loop-case : goal.invariant-loop-case
invariant-loop-case l = AreCaseVars l.text l.params (take l.case-index l.cases) l.fn.first l.first
