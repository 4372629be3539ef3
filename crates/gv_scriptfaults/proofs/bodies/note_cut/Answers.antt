use Rattle.std.proofs.Common.{◌≡◌, [], ◌++◌, List, map, ap, subst, ◌∙◌}
use Rattle.gv_termread.specs.declared.token.SeenToken.{SeenToken}
use Rattle.gv_scriptsyntax.specs.declared.tree.Par.{Par}
use Rattle.gv_scriptnames.specs.declared.outline.CutOutline.{CutOutline}
use Rattle.gv_scriptnames.specs.Mentions.{Mentions}
use Rattle.gv_scriptnames.specs.Names.{names_in, names_of}
use Rattle.gv_scriptnames.specs.Found.{twice, all_twice, of_point, of_locals, of_mentions}
use Rattle.gv_scriptfaults.specs.Least.{after}
use Rattle.gv_scriptfaults.specs.Tables.{Holds}
use Rattle.gv_scriptfaults.proofs.Meeting.{both_noted, on_ok}
use Rattle.gv_scriptfaults.proofs.Declaring.{declared_one}
use Rattle.gv_scriptfaults.proofs.bodies.note_cut.Goals as goal

pub returns-clause-noted : goal.returns-clause-noted
returns-clause-noted c =
    let text = c.args.text.now in
    let cut = c.args.cut.now in
    on_ok c.note_mentions-2.result
    (λ last spec program sc proc before sees facts holds.
    let names = names_in text (map (λ (d : CutOutline). d.name) before) in
    let locals = names_in text cut.locals in
    let f0 = c.args.first.now in
    let f1 = c.declare.new.first in
    let f2 = c.note_point.new.first in
    let f3 = c.declare_all.new.first in
    let f4 = c.note_locals.new.first in
    let f5 = c.declare_pars.new.first in
    let f6 = c.note_mentions.new.first in
    let f7 = c.note_mentions-2.new.first in
    let fs1 = twice text spec program names cut.name in
    let fs2 = of_point text spec program cut.number proc in
    let fs3 = all_twice text spec program [] cut.locals in
    let fs4 = of_locals text spec program cut.locals proc in
    let fs5 = all_twice text spec program locals (names_of cut.vars) in
    let fs6 = of_mentions text spec program sc cut.items in
    let fs7 = of_mentions text spec program sc cut.block in
    let own : Holds locals c.declare_all.new.own = subst (λ (ts : List SeenToken). Holds (names_in text ts) c.declare_all.new.own) c.as_slice-locals.ensures (c.in_ok-declare_all.ensures.added [] c.new-own.ensures) in
    let h1 : f1 ≡ after f0 fs1 = declared_one text spec program c.new-none.result c.args.names.now names cut.name f0 f1 c.new-none.ensures holds c.in_ok-declare.ensures.noted in
    let h2 : f2 ≡ after f1 fs2 = c.note_point.ensures text spec program proc facts in
    let h3 : f3 ≡ after f2 fs3 = c.in_ok-declare_all.ensures.noted spec program [] [] c.new-none.ensures c.new-own.ensures ∙ ap (λ (ts : List SeenToken). after f2 (all_twice text spec program [] ts)) c.as_slice-locals.ensures in
    let h4 : f4 ≡ after f3 fs4 = c.in_ok-note_locals.ensures spec program proc facts ∙ ap (λ (ts : List SeenToken). after f3 (of_locals text spec program ts proc)) c.as_slice-locals.ensures in
    let h5 : f5 ≡ after f4 fs5 = c.in_ok-declare_pars.ensures.noted spec program [] locals c.new-none.ensures own ∙ ap (λ (ps : List Par). after f4 (all_twice text spec program locals (names_of ps))) c.as_slice.ensures in
    let h6 : f6 ≡ after f5 fs6 = c.in_ok-note_mentions.ensures spec program sc sees ∙ ap (λ (ms : Mentions). after f5 (of_mentions text spec program sc ms)) c.as_slice-items.ensures in
    let h7 : f7 ≡ after f6 fs7 = last spec program sc sees ∙ ap (λ (ms : Mentions). after f6 (of_mentions text spec program sc ms)) c.as_slice-block.ensures in
    both_noted fs1 (fs2 ++ (fs3 ++ (fs4 ++ (fs5 ++ (fs6 ++ fs7))))) f0 f1 f7 h1 (both_noted fs2 (fs3 ++ (fs4 ++ (fs5 ++ (fs6 ++ fs7)))) f1 f2 f7 h2 (both_noted fs3 (fs4 ++ (fs5 ++ (fs6 ++ fs7))) f2 f3 f7 h3
    (both_noted fs4 (fs5 ++ (fs6 ++ fs7)) f3 f4 f7 h4 (both_noted fs5 (fs6 ++ fs7) f4 f5 f7 h5 (both_noted fs6 fs7 f5 f6 f7 h6 h7))))))
    c.note_mentions-2.ensures

pub returns-clause-added : goal.returns-clause-added
returns-clause-added c = on_ok c.note_mentions-2.result (λ last. c.in_ok-declare.ensures.added) c.note_mentions-2.ensures
