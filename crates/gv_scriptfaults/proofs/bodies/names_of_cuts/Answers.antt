use Rattle.std.proofs.Common.{◌<◌, ◌++◌, ◌∷◌, [], ℕ, List, length, map, take, subst, ap, ◌∙◌, arith}
use Rattle.std.proofs.lemmas.List.{take_all}
use Rattle.gv_scriptnames.specs.declared.outline.CutOutline.{CutOutline}
use Rattle.gv_scriptnames.specs.Names.{names_in}
use Rattle.gv_scriptfaults.specs.Tables.{Holds}
use Rattle.gv_scriptfaults.proofs.Declaring.{named_more}
use Rattle.gv_scriptfaults.proofs.bodies.names_of_cuts.Goals as goal

pub loop-cut-preserved : goal.loop-cut-preserved
loop-cut-preserved c =
    let text = c.args.text.now in
    let all = c.args.all.now in
    let i = c.loop-cut.cut-index in
    let cut = c.cut-item.result in
    let lt : i < length all = omega arith in
    let before = names_in text (map (λ (d : CutOutline). d.name) (take i all)) in
    subst (λ (ns : List (List ℕ)). Holds ns c.add.new.self) (ap (λ n. before ++ n ∷ []) c.in_ok-name_of.ensures ∙ named_more text (λ (d : CutOutline). d.name) all i cut lt c.cut-item.is)
    (c.in_ok-add.ensures.holds before c.loop-cut.invariant)

pub returns : goal.returns
returns c =
    subst (λ (ds : List CutOutline). Holds (names_in c.args.text.now (map (λ (d : CutOutline). d.name) ds)) c.loop-cut.names) (take_all c.loop-cut.cut-index c.args.all.now (omega arith)) c.loop-cut.invariant
