use Rattle.std.proofs.Common.{◌≡◌, ℕ, [], ◌++◌, List, Option, Some, ap, sym, subst, ◌∙◌}
use Rattle.std.specs.Option.{option_copied}
use Rattle.gv_scriptnames.specs.declared.outline.OpOutline.{OpOutline}
use Rattle.gv_scriptnames.specs.declared.outline.ProcOutline.{ProcOutline}
use Rattle.gv_scriptnames.specs.Mentions.{Mentions}
use Rattle.gv_scriptnames.specs.Scopes.{recovery}
use Rattle.gv_scriptnames.specs.Found.{in_each, of_mentions, of_body, of_op, of_proc}
use Rattle.gv_scriptfaults.specs.declared.scoped.ProcFacts.{ProcFacts}
use Rattle.gv_scriptfaults.specs.Least.{after}
use Rattle.gv_scriptfaults.specs.Scoped.{Sees}
use Rattle.gv_scriptfaults.specs.Procs.{AreFacts}
use Rattle.gv_scriptfaults.specs.Tables.{Holds}
use Rattle.gv_scriptfaults.proofs.Meeting.{both_noted, on_ok}
use Rattle.gv_scriptfaults.proofs.Lookups.{facts_for}
use Rattle.gv_scriptfaults.proofs.outline.note_blocks.Goals as goal

pub returns : goal.returns
returns c =
    let text = c.args.text.now in
    let s = c.args.outline.now in
    let program = c.args.program.now in
    on_ok c.note_procs.result
    (λ last spec sc known is nil.
    let sees : Sees spec program sc c.args.known.now c.args.outside.now c.new-none.result = record { known = known; outside = is; beside = subst (λ (ns : List (List ℕ)). Holds ns c.new-none.result) (sym nil) c.new-none.ensures } in
    let are : AreFacts (recovery program) (option_copied c.facts_at-recovery.result) = subst (λ (o : Option ProcFacts). AreFacts (recovery program) o) (sym c.facts_at-recovery.ensures) (facts_for spec program c.args.known.now known (Some program.recover)) in
    let f0 = c.args.first.now in
    let f1 = c.note_mentions.new.first in
    let f2 = c.note_body.new.first in
    let f3 = c.note_ops.new.first in
    let f4 = c.note_procs.new.first in
    let fs1 = of_mentions text spec program sc s.init in
    let fs2 = of_body text spec program sc (recovery program) s.recover in
    let fs3 = in_each (of_op text spec program sc) [] s.ops in
    let fs4 = in_each (of_proc text spec program sc) [] s.procs in
    let h1 : f1 ≡ after f0 fs1 = c.in_ok-note_mentions.ensures spec program sc sees ∙ ap (λ (ms : Mentions). after f0 (of_mentions text spec program sc ms)) c.as_slice-init.ensures in
    let h2 : f2 ≡ after f1 fs2 = c.in_ok-note_body.ensures spec program sc (recovery program) known is are in
    let h3 : f3 ≡ after f2 fs3 = c.in_ok-note_ops.ensures spec program sc known is ∙ ap (λ (os : List OpOutline). after f2 (in_each (of_op text spec program sc) [] os)) c.as_slice-ops.ensures in
    let h4 : f4 ≡ after f3 fs4 = last spec program sc known is nil ∙ ap (λ (rs : List ProcOutline). after f3 (in_each (of_proc text spec program sc) [] rs)) c.as_slice-procs.ensures in
    both_noted fs1 (fs2 ++ (fs3 ++ fs4)) f0 f1 f4 h1 (both_noted fs2 (fs3 ++ fs4) f1 f2 f4 h2 (both_noted fs3 fs4 f2 f3 f4 h3 h4)))
    c.note_procs.ensures
