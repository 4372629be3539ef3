use Rattle.std.proofs.Common.{◌<◌, length, sym, ap, ◌∙◌, subst, arith}
use Rattle.gv_terms.specs.Evaluation.{awaited, step, Await}
use Rattle.gv_terms.proofs.Planned.{at_other, empty_map, lowest, lowest_push, none_left, not_above, some_is, parts_read, planned_first, planned_more, planned_last, IsPlanned}
use Rattle.gv_terms.proofs.plan.steps.Goals as goal

pub loop-node-init : goal.loop-node-init
loop-node-init c =
    let ns = c.args.nodes.now in
    let root = c.args.root in
    let parts = parts_read ns root c.index-nodes-root.result c.requires.within in
    subst (λ ss. IsPlanned ns root ss (awaited c.wait_for.new.waiting)) (sym c.new-steps.ensures.items)
    (planned_first ns root (awaited c.new-waiting.result) (awaited c.wait_for.new.waiting) (λ q. empty_map c.new-waiting.result q c.new-waiting.ensures.empty)
    (subst (λ ps. Await root ps (awaited c.new-waiting.result) (awaited c.wait_for.new.waiting)) (c.as_slice.ensures ∙ parts) c.in_ok-wait_for.ensures))

pub loop-node-preserved : goal.loop-node-preserved
loop-node-preserved c =
    let ns = c.args.nodes.now in
    let root = c.args.root in
    let n = c.in-Some.node in
    let l = c.in-Some.last in
    let plan = c.loop-node.invariant in
    let here = c.in-Some.ensures.value in
    let inside : n < length ns = (let one = plan.inside n l here in let two = plan.root_floor in omega (arith, one, two, c.requires.within)) in
    let parts = parts_read ns n c.index-nodes-node.result inside in
    let u = c.in-Some.ensures.updates in
    subst (λ ss. IsPlanned ns root ss (awaited c.wait_for-in-Some.new.waiting)) (sym c.in_ok-push.ensures.items)
    (planned_more ns root c.loop-node.steps.items (awaited c.loop-node.waiting) (awaited c.pop_last.new.self) (awaited c.wait_for-in-Some.new.waiting) n l plan here
    (λ q m e. not_above n q (c.in-Some.ensures.greatest q (some_is (awaited c.loop-node.waiting q) m e)))
    u.1 (λ q apart. u.2 q (at_other n q apart))
    (subst (λ ps. Await n ps (awaited c.pop_last.new.self) (awaited c.wait_for-in-Some.new.waiting)) (c.as_slice-in-Some.ensures ∙ parts) c.in_ok-wait_for-2.ensures))

pub loop-node-smaller : goal.loop-node-smaller
loop-node-smaller c =
    let plan = c.loop-node.invariant in
    let n = c.in-Some.node in
    subst (λ k. k < lowest c.args.root c.loop-node.steps.items) (sym (ap (lowest c.args.root) c.in_ok-push.ensures.items ∙ lowest_push c.args.root c.loop-node.steps.items (step n c.in-Some.last)))
    (plan.inside n c.in-Some.last c.in-Some.ensures.value)

pub returns-clause-supplied : goal.returns-clause-supplied
returns-clause-supplied c =
    planned_last c.args.nodes.now c.args.root c.loop-node.steps.items (awaited c.loop-node.waiting) c.loop-node.invariant
    (none_left c.loop-node.waiting c.pop_last.result c.in_default.is c.pop_last.ensures.variant)
