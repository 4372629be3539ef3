use Rattle.std.proofs.Common.{◌<◌, ℕ, List, length, map, take, subst, arith}
use Rattle.gv_scriptnames.specs.declared.outline.ProcOutline.{ProcOutline}
use Rattle.gv_scriptnames.specs.Names.{names_in}
use Rattle.gv_scriptnames.specs.Found.{of_proc}
use Rattle.gv_scriptfaults.specs.Tables.{Holds}
use Rattle.gv_scriptfaults.proofs.Meeting.{each_noted, each_through}
use Rattle.gv_scriptfaults.proofs.Declaring.{named_more}
use Rattle.gv_scriptfaults.proofs.procs.note_procs.Goals as goal

pub loop-proc-preserved : goal.loop-proc-preserved
loop-proc-preserved c =
    let text = c.args.text.now in
    let all = c.args.procs.now in
    let i = c.loop-proc.proc-index in
    let x = c.proc-item.result in
    let lt : i < length all = omega arith in
    record {
      noted = λ spec program sc known is nil. each_noted (of_proc text spec program sc) all i x c.args.first.now c.loop-proc.first c.note_proc.new.first lt c.proc-item.is
          (c.loop-proc.invariant.noted spec program sc known is nil) (c.in_ok-note_proc.ensures.noted spec program sc (take i all) known is nil c.loop-proc.invariant.names);
      names = subst (λ (ns : List (List ℕ)). Holds ns c.note_proc.new.names) (named_more text (λ (d : ProcOutline). d.name) all i x lt c.proc-item.is)
          (c.in_ok-note_proc.ensures.added (names_in text (map (λ (d : ProcOutline). d.name) (take i all))) c.loop-proc.invariant.names);
    }

pub returns : goal.returns
returns c = λ spec program sc known is nil.
    each_through (of_proc c.args.text.now spec program sc) c.args.procs.now c.loop-proc.proc-index c.args.first.now c.loop-proc.first (omega arith) (c.loop-proc.invariant.noted spec program sc known is nil)
