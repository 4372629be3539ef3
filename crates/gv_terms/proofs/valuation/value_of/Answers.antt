use Rattle.std.proofs.Common.{◌≡◌, ◌<◌, ◌↔◌, length, IfOk, IsSome, ◌∙◌, subst, arith}
use Rattle.gv_terms.specs.Evaluation.{held_all}
use Rattle.gv_terms.specs.Store.{trees_of}
use Rattle.gv_terms.proofs.Planned.{at_other, empty_map, nothing_left}
use Rattle.gv_terms.proofs.Living.{live_first, live_more, node_parts, parts_valued, popped_is, root_parts, under_root, IsLive}
use Rattle.gv_terms.proofs.Valued.{node_valued, sound_node}
use Rattle.gv_terms.proofs.valuation.value_of.Goals as goal

pub loop-step-init : goal.loop-step-init
loop-step-init c =
    let ns = c.args.nodes.now in
    live_first ns c.args.root c.args.env.now (trees_of ns) c.in_ok-steps.steps.items c.new-live.result (λ q. empty_map c.new-live.result q c.new-live.ensures.empty)
    c.in_ok-steps.ensures.supplied c.in_ok-steps.ensures.descends c.in_ok-steps.ensures.below

pub value_of_node-requires-clause-counted : goal.value_of_node-requires-clause-counted
value_of_node-requires-clause-counted c =
    let ns = c.args.nodes.now in
    let x = c.in-Some.step in
    let popped = popped_is c.loop-step.steps.items c.pop.new.self.items c.pop.result x c.pop.ensures.items c.in-Some.is in
    let live = subst (λ xs. IsLive ns c.args.root c.args.env.now (trees_of ns) xs c.loop-step.live) popped c.loop-step.invariant in
    let below = under_root ns c.args.root c.args.env.now (trees_of ns) c.pop.new.self.items x.node x.last c.loop-step.live live in
    (sound_node ns c.requires.sound x.node c.index-nodes-step.result (omega (arith, below, c.requires.within)) c.index-nodes-step.is).counted

pub value_of_node-requires-clause-there : goal.value_of_node-requires-clause-there
value_of_node-requires-clause-there c =
    let ns = c.args.nodes.now in
    let x = c.in-Some.step in
    let popped = popped_is c.loop-step.steps.items c.pop.new.self.items c.pop.result x c.pop.ensures.items c.in-Some.is in
    let live = subst (λ xs. IsLive ns c.args.root c.args.env.now (trees_of ns) xs c.loop-step.live) popped c.loop-step.invariant in
    node_parts ns c.args.root c.args.env.now c.pop.new.self.items x.node x.last c.loop-step.live c.index-nodes-step.result c.requires.within c.requires.sound c.index-nodes-step.is live

pub loop-step-preserved : goal.loop-step-preserved
loop-step-preserved c =
    let ns = c.args.nodes.now in
    let env = c.args.env.now in
    let m = c.loop-step.live in
    let x = c.in-Some.step in
    let node = c.index-nodes-step.result in
    let popped = popped_is c.loop-step.steps.items c.pop.new.self.items c.pop.result x c.pop.ensures.items c.in-Some.is in
    let live = subst (λ xs. IsLive ns c.args.root env (trees_of ns) xs m) popped c.loop-step.invariant in
    let below = under_root ns c.args.root env (trees_of ns) c.pop.new.self.items x.node x.last m live in
    let inside : x.node < length ns = omega (arith, below, c.requires.within) in
    let sound = sound_node ns c.requires.sound x.node node inside c.index-nodes-step.is in
    let there = node_parts ns c.args.root env c.pop.new.self.items x.node x.last m node c.requires.within c.requires.sound c.index-nodes-step.is live in
    let valued = c.in_ok-value.ensures.value ∙ node_valued env (trees_of ns) x.node node (held_all m node.parts) sound (parts_valued env (trees_of ns) m node.parts live.right there) in
    let u = c.in_ok-keep.ensures in
    live_more ns c.args.root env (trees_of ns) c.pop.new.self.items x.node x.last m live c.value_of_node.new.live c.keep.new.live c.in_ok-value.value
    c.in_ok-value.ensures.loses u.1 (λ q apart. u.2 q (at_other x.node q apart)) valued

pub value_of_node-requires-2-clause-there : goal.value_of_node-requires-2-clause-there
value_of_node-requires-2-clause-there c =
    let variant = subst (λ k. IsSome c.pop.result ↔ (0 < k)) c.loop-step.steps.ok.0 c.pop.ensures.variant in
    let none = nothing_left c.loop-step.steps.items c.pop.new.self.items c.pop.result variant c.in_default.is in
    root_parts c.args.nodes.now c.args.root c.args.env.now c.loop-step.steps.items c.loop-step.live c.index-nodes-root.result c.requires.within c.index-nodes-root.is none c.loop-step.invariant

pub value_of_node-requires-2-clause-counted : goal.value_of_node-requires-2-clause-counted
value_of_node-requires-2-clause-counted c =
    (sound_node c.args.nodes.now c.requires.sound c.args.root c.index-nodes-root.result c.requires.within c.index-nodes-root.is).counted

pub returns : goal.returns
returns c =
    let ns = c.args.nodes.now in
    let env = c.args.env.now in
    let m = c.loop-step.live in
    let node = c.index-nodes-root.result in
    let variant = subst (λ k. IsSome c.pop.result ↔ (0 < k)) c.loop-step.steps.ok.0 c.pop.ensures.variant in
    let none = nothing_left c.loop-step.steps.items c.pop.new.self.items c.pop.result variant c.in_default.is in
    let there = root_parts ns c.args.root env c.loop-step.steps.items m node c.requires.within c.index-nodes-root.is none c.loop-step.invariant in
    let sound = sound_node ns c.requires.sound c.args.root node c.requires.within c.index-nodes-root.is in
    subst (λ x. IfOk c.value_of_node-2.result (λ v. v ≡ x))
    (node_valued env (trees_of ns) c.args.root node (held_all m node.parts) sound (parts_valued env (trees_of ns) m node.parts c.loop-step.invariant.right there))
    c.value_of_node-2.ensures.value
