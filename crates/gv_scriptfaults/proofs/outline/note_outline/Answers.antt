use Rattle.std.proofs.Common.{◌++◌, [], Option, refl, ap, ◌∙◌}
use Rattle.gv_typing.specs.declared.term_fault.Fault.{Fault}
use Rattle.gv_scriptnames.specs.Names.{name_in}
use Rattle.gv_scriptnames.specs.Scopes.{outside, pred_named, recovery}
use Rattle.gv_scriptnames.specs.Found.{in_each, of_book, of_pred_outline, of_crash, of_root, of_mentions, of_body, of_op, of_proc}
use Rattle.gv_scriptfaults.specs.Least.{after}
use Rattle.gv_scriptfaults.proofs.Meeting.{on_ok, four_and_more}
use Rattle.gv_scriptfaults.proofs.outline.note_outline.Goals as goal

pub returns : goal.returns
returns c =
    let text = c.args.text.now in
    let spec = c.args.spec.now in
    let program = c.args.program.now in
    let s = c.args.outline.now in
    let sc = outside text s.books s.preds in
    on_ok c.note_blocks.result
    (λ last.
    let rest = of_mentions text spec program sc s.init ++ (of_body text spec program sc (recovery program) s.recover ++ (in_each (of_op text spec program sc) [] s.ops ++ in_each (of_proc text spec program sc) [] s.procs)) in
    last spec sc c.in_ok-known.ensures c.in_ok-outside.ensures.outside refl
    ∙ ap (λ (f : Option Fault). after f rest) (c.in_ok-outside.ensures.noted spec program c.in_ok-known.ensures)
    ∙ four_and_more c.args.first.now (in_each (of_book text spec program) [] s.books) (in_each (of_pred_outline text spec program s.books) [] s.preds)
    (of_crash text spec program s.crash (pred_named sc (name_in text s.crash))) (of_root text spec program s.root (pred_named sc (name_in text s.root))) rest)
    c.note_blocks.ensures
