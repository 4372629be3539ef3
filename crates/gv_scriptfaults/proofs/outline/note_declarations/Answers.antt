use Rattle.std.proofs.Common.{◌≡◌, [], ◌++◌, List, option_map, ap, subst, ◌∙◌}
use Rattle.gv_scriptnames.specs.declared.outline.BookOutline.{BookOutline}
use Rattle.gv_scriptnames.specs.declared.outline.PredOutline.{PredOutline}
use Rattle.gv_scriptnames.specs.Names.{name_in}
use Rattle.gv_scriptnames.specs.Scopes.{outside, pred_named}
use Rattle.gv_scriptnames.specs.Found.{in_each, of_book, of_pred_outline, of_crash, of_root}
use Rattle.gv_scriptfaults.specs.Least.{after}
use Rattle.gv_scriptfaults.specs.Scoped.{IsOutside, params_of}
use Rattle.gv_scriptfaults.proofs.Meeting.{both_noted}
use Rattle.gv_scriptfaults.proofs.outline.note_declarations.Goals as goal

pub returns-clause-noted : goal.returns-clause-noted
returns-clause-noted c = λ spec program known.
    let text = c.args.text.now in
    let s = c.args.outline.now in
    let sc = outside text s.books s.preds in
    let crash = name_in text s.crash in
    let root = name_in text s.root in
    let is0 = subst (λ (bs : List BookOutline). IsOutside (outside text bs []) c.in_ok-outside.outside) c.as_slice-books.ensures c.in_ok-outside.ensures in
    let is1 = subst (λ (ps : List PredOutline). IsOutside (outside text s.books ps) c.note_preds.new.outside) c.as_slice-preds.ensures (c.in_ok-note_preds.ensures.outside s.books is0) in
    let f0 = c.args.first.now in
    let f1 = c.note_books.new.first in
    let f2 = c.note_preds.new.first in
    let f3 = c.note_crash.new.first in
    let f4 = c.note_root.new.first in
    let fs1 = in_each (of_book text spec program) [] s.books in
    let fs2 = in_each (of_pred_outline text spec program s.books) [] s.preds in
    let fs3 = of_crash text spec program s.crash (pred_named sc crash) in
    let fs4 = of_root text spec program s.root (pred_named sc root) in
    let h1 : f1 ≡ after f0 fs1 = c.in_ok-names.ensures.noted spec program ∙ ap (λ (bs : List BookOutline). after f0 (in_each (of_book text spec program) [] bs)) c.as_slice-books.ensures in
    let h2 : f2 ≡ after f1 fs2 = c.in_ok-note_preds.ensures.noted spec program s.books known is0 ∙ ap (λ (ps : List PredOutline). after f1 (in_each (of_pred_outline text spec program s.books) [] ps)) c.as_slice-preds.ensures in
    let h3 : f3 ≡ after f2 fs3 = c.note_crash.ensures text spec program (pred_named sc crash) (c.get.ensures ∙ is1.preds c.in_ok-crash.crash ∙ ap (λ m. option_map params_of (pred_named sc m)) c.in_ok-crash.ensures) in
    let h4 : f4 ≡ after f3 fs4 = c.note_root.ensures text spec program (pred_named sc root) (c.get-2.ensures ∙ is1.preds c.in_ok-root.root ∙ ap (λ m. option_map params_of (pred_named sc m)) c.in_ok-root.ensures) in
    both_noted fs1 (fs2 ++ (fs3 ++ fs4)) f0 f1 f4 h1 (both_noted fs2 (fs3 ++ fs4) f1 f2 f4 h2 (both_noted fs3 fs4 f2 f3 f4 h3 h4))

pub returns-clause-outside : goal.returns-clause-outside
returns-clause-outside c =
    let text = c.args.text.now in
    let s = c.args.outline.now in
    let is0 = subst (λ (bs : List BookOutline). IsOutside (outside text bs []) c.in_ok-outside.outside) c.as_slice-books.ensures c.in_ok-outside.ensures in
    subst (λ (ps : List PredOutline). IsOutside (outside text s.books ps) c.note_preds.new.outside) c.as_slice-preds.ensures (c.in_ok-note_preds.ensures.outside s.books is0)
