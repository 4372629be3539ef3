use Rattle.std.proofs.Common.{List, [], take}
use Rattle.gv_scriptnames.specs.declared.outline.BookOutline.{BookOutline}
use Rattle.gv_scriptnames.specs.Scopes.{outside}
use Rattle.gv_scriptfaults.specs.Noted.{ArePreds}
use Rattle.gv_scriptfaults.specs.Scoped.{IsOutside}
use Rattle.gv_scriptfaults.proofs.preds.note_preds.Given as goal

abbrev pub invariant-loop-pred : goal.invariant-loop-pred
invariant-loop-pred l = record {
  noted : ArePreds l.text l.known l.fn.outside (take l.pred-index l.preds) l.fn.first l.first;
  outside : (books : List BookOutline) → IsOutside (outside l.text books []) l.fn.outside → IsOutside (outside l.text books (take l.pred-index l.preds)) l.outside;
}
