use Rattle.std.proofs.Common.{◌<◌, ◌++◌, ◌∷◌, [], List, length, take, sym, subst, arith}
use Rattle.std.specs.Prelude.{slice_get}
use Rattle.gv_lang.specs.declared.program.Proc.{Proc}
use Rattle.gv_scriptfaults.specs.declared.scoped.ProcFacts.{ProcFacts}
use Rattle.gv_scriptfaults.specs.Procs.{AreFacts}
use Rattle.gv_scriptfaults.proofs.Meeting.{taken}
use Rattle.gv_scriptfaults.proofs.Lookups.{facts_more}
use Rattle.gv_scriptfaults.proofs.known.all_facts.Goals as goal

pub loop-p-preserved : goal.loop-p-preserved
loop-p-preserved c = λ i.
    let procs = c.args.procs.now in
    let k = c.loop-p.p-index in
    let lt : k < length procs = omega arith in
    subst (λ (ps : List Proc). AreFacts (slice_get ps i) (slice_get c.push.new.self.items i)) (sym (taken procs k c.p-item.result lt c.p-item.is))
    (subst (λ (fs : List ProcFacts). AreFacts (slice_get (take k procs ++ c.p-item.result ∷ []) i) (slice_get fs i)) (sym c.in_ok-push.ensures.items)
    (facts_more (take k procs) c.loop-p.facts.items c.p-item.result _ c.loop-p.invariant c.in_ok-facts_of.ensures i))
