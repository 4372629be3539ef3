use Rattle.std.proofs.Common.{◌<◌, ℕ, List, length, map, take, subst, arith}
use Rattle.gv_scriptnames.specs.declared.outline.CutOutline.{CutOutline}
use Rattle.gv_scriptnames.specs.Names.{names_in}
use Rattle.gv_scriptnames.specs.Found.{of_cut}
use Rattle.gv_scriptfaults.specs.Tables.{Holds}
use Rattle.gv_scriptfaults.proofs.Meeting.{each_noted, each_through}
use Rattle.gv_scriptfaults.proofs.Declaring.{named_more}
use Rattle.gv_scriptfaults.proofs.bodies.note_cuts.Goals as goal

pub loop-cut-preserved : goal.loop-cut-preserved
loop-cut-preserved c =
    let text = c.args.text.now in
    let all = c.args.all.now in
    let i = c.loop-cut.cut-index in
    let cut = c.cut-item.result in
    let lt : i < length all = omega arith in
    record {
      noted = λ spec program sc proc sees facts. each_noted (of_cut text spec program sc proc) all i cut c.args.first.now c.loop-cut.first c.note_cut.new.first lt c.cut-item.is
          (c.loop-cut.invariant.noted spec program sc proc sees facts) (c.in_ok-note_cut.ensures.noted spec program sc proc (take i all) sees facts c.loop-cut.invariant.names);
      names = subst (λ (ns : List (List ℕ)). Holds ns c.note_cut.new.names) (named_more text (λ (d : CutOutline). d.name) all i cut lt c.cut-item.is)
          (c.in_ok-note_cut.ensures.added (names_in text (map (λ (d : CutOutline). d.name) (take i all))) c.loop-cut.invariant.names);
    }

pub returns : goal.returns
returns c = λ spec program sc proc sees facts.
    each_through (of_cut c.args.text.now spec program sc proc) c.args.all.now c.loop-cut.cut-index c.args.first.now c.loop-cut.first (omega arith) (c.loop-cut.invariant.noted spec program sc proc sees facts)
