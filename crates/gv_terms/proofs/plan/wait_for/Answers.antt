use Rattle.std.proofs.Common.{◌+◌, sym, subst}
use Rattle.gv_terms.specs.Evaluation.{awaited}
use Rattle.gv_terms.proofs.Planned.{at_other, awaiting_more, awaiting_same, none_there, some_there, Awaiting}
use Rattle.gv_terms.proofs.plan.wait_for.Goals as goal
use Rattle.gv_terms.proofs.plan.wait_for.Goals.{then-not-contains_key+in_ok-insert, else-not-contains_key}

pub loop-part-preserved : goal.loop-part-preserved
loop-part-preserved c =
    let n = c.args.node in
    let old = awaited c.args.waiting.now in
    let f = awaited c.loop-part.waiting in
    let ps = c.args.parts.now in
    let i = c.loop-part.part-index in
    elim c.if-not-contains_key.branch [
      | then-not-contains_key+in_ok-insert w ↦
          let u = w.in_ok-insert.ensures.updates in
          subst (λ m. Awaiting n old (awaited m) ps (i + 1)) (sym w.waiting-is)
          (awaiting_more n old f _ ps i _ c.loop-part-test.true c.loop-part.invariant
          (none_there _ c.contains_key.result c.contains_key.ensures w.if-not-contains_key.true) u.1 (λ q apart. u.2 q (at_other _ q apart)) (c.requires i _ c.loop-part-test.true))
      | else-not-contains_key w ↦
          subst (λ m. Awaiting n old (awaited m) ps (i + 1)) (sym w.waiting-is)
          (awaiting_same n old f ps i _ c.loop-part-test.true c.loop-part.invariant
          (some_there _ c.contains_key.result c.contains_key.ensures w.if-not-contains_key.false))
    ]
