use Rattle.std.proofs.Common.{take}
use Rattle.gv_scriptfaults.specs.Noted.{AreCaseItems}
use Rattle.gv_scriptfaults.proofs.preds.note_items.Given as goal

abbrev pub invariant-loop-case : goal.invariant-loop-case
invariant-loop-case l = AreCaseItems l.text l.known l.outside l.cuts (take l.case-index l.cases) l.fn.first l.first
