use Rattle.std.proofs.Common.{◌≡◌, [], List, map, ap, subst, ◌∙◌}
use Rattle.gv_scriptnames.specs.declared.outline.CutOutline.{CutOutline}
use Rattle.gv_scriptnames.specs.Mentions.{Mentions}
use Rattle.gv_scriptnames.specs.Names.{names_in}
use Rattle.gv_scriptnames.specs.Scopes.{beside}
use Rattle.gv_scriptnames.specs.Found.{in_each, of_cut, of_mentions}
use Rattle.gv_scriptfaults.specs.Least.{after}
use Rattle.gv_scriptfaults.specs.Scoped.{Sees}
use Rattle.gv_scriptfaults.specs.Tables.{Holds}
use Rattle.gv_scriptfaults.proofs.Meeting.{both_noted, on_ok}
use Rattle.gv_scriptfaults.proofs.bodies.note_body.Goals as goal

pub returns : goal.returns
returns c =
    let text = c.args.text.now in
    let b = c.args.body.now in
    on_ok c.note_cuts.result
    (λ last spec program sc proc known is facts.
    let here = beside text sc b.cuts in
    let f0 = c.args.first.now in
    let f1 = c.note_mentions.new.first in
    let f2 = c.note_cuts.new.first in
    let fs1 = of_mentions text spec program here b.block in
    let fs2 = in_each (of_cut text spec program here proc) [] b.cuts in
    let cuts = subst (λ (ds : List CutOutline). Holds (names_in text (map (λ (d : CutOutline). d.name) ds)) c.in_ok-cuts.cuts) c.as_slice-all.ensures c.in_ok-cuts.ensures in
    let sees : Sees spec program here c.args.known.now c.args.outside.now c.in_ok-cuts.cuts = record { known = known; outside = record { preds = is.preds; books = is.books }; beside = cuts } in
    let h1 : f1 ≡ after f0 fs1 = c.in_ok-note_mentions.ensures spec program here sees ∙ ap (λ (ms : Mentions). after f0 (of_mentions text spec program here ms)) c.as_slice-block.ensures in
    let h2 : f2 ≡ after f1 fs2 = last spec program here proc sees facts ∙ ap (λ (ds : List CutOutline). after f1 (in_each (of_cut text spec program here proc) [] ds)) c.as_slice-all.ensures in
    both_noted fs1 fs2 f0 f1 f2 h1 h2)
    c.note_cuts.ensures
