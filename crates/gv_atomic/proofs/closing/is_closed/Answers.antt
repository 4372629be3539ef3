use Rattle.std.proofs.Common.{◌≡◌, ◌<◌, false, true, length, ◌++◌, sym, refl, ap, ◌∙◌, arith}
use Rattle.std.specs.Prelude.{slice_index_or}
use Rattle.std.proofs.lemmas.Grind.{common_steps}
use Rattle.gv_terms.specs.Store.{tree_at}
use Rattle.gv_terms.specs.Trees.{root_of}
use Rattle.gv_atomic.specs.Marks.{is_known}
use Rattle.gv_atomic.proofs.TreeParts.{lighter, still_lighter}
use Rattle.gv_atomic.proofs.OpenTerms.{not_closed, seen_before, seen_now, last_inside}
use Rattle.gv_atomic.proofs.closing.is_closed.Goals as goal

pub returns-then-not-is_known-clause-told : goal.returns-then-not-is_known-clause-told
returns-then-not-is_known-clause-told c =
    let ts = c.args.store.now in
    let vars = c.args.fields.now ++ c.args.own.now in
    let unknown : is_known vars (root_of (tree_at ts c.in-Some.node.id)) ≡ false = sym (c.is_known.ensures ∙ ap (is_known vars) c.head_of.ensures) ∙ c.if-not-is_known.true in
    sym (not_closed ts vars c.args.number c.args.t.id c.loop-node.marks.items c.loop-node.left.items c.pop.new.self.items c.in-Some.node c.in-Some.ensures.items unknown c.loop-node.invariant)

pub loop-node-smaller-in-Continue-branch-2 : goal.loop-node-smaller-in-Continue-branch-2
loop-node-smaller-in-Continue-branch-2 c =
    still_lighter c.args.store.now c.loop-node.left.items c.pop.new.self.items c.extend_from_slice.new.self.items c.parts_of.result.now c.in-Some.node c.in-Some.ensures.items
    c.in_ok-extend_from_slice.ensures.items c.parts_of.ensures.trees

pub loop-node-preserved-in-Continue-branch-2 : goal.loop-node-preserved-in-Continue-branch-2
loop-node-preserved-in-Continue-branch-2 c =
    let ts = c.args.store.now in
    let vars = c.args.fields.now ++ c.args.own.now in
    let known : is_known vars (root_of (tree_at ts c.in-Some.node.id)) ≡ true = sym (c.is_known.ensures ∙ ap (is_known vars) c.head_of.ensures) ∙ c.if-not-is_known.false in
    seen_now ts vars c.args.number c.args.t.id c.loop-node.marks.items _ c.loop-node.left.items c.pop.new.self.items c.extend_from_slice.new.self.items c.parts_of.result.now c.in-Some.node
    c.in-Some.ensures.items refl c.in_ok-extend_from_slice.ensures.items c.parts_of.ensures.trees c.parts_of.ensures.earlier known c.loop-node.invariant

pub loop-node-smaller : goal.loop-node-smaller
loop-node-smaller c = lighter c.args.store.now c.loop-node.left.items c.pop.new.self.items c.in-Some.node c.in-Some.ensures.items

pub loop-node-preserved : goal.loop-node-preserved
loop-node-preserved c =
    let ts = c.args.store.now in
    let vars = c.args.fields.now ++ c.args.own.now in
    let inside : c.in-Some.node.id < length ts = last_inside ts vars c.args.number c.args.t.id c.loop-node.marks.items c.loop-node.left.items c.pop.new.self.items c.in-Some.node c.in-Some.ensures.items c.loop-node.invariant in
    let within : c.in-Some.node.id < length c.loop-node.marks.items = omega (arith, inside, c.loop-node.invariant.long) in
    let seen : slice_index_or c.loop-node.marks.items c.in-Some.node.id 0 ≡ c.args.number = grind (arith, common_steps) in
    seen_before ts vars c.args.number c.args.t.id c.loop-node.marks.items c.loop-node.left.items c.pop.new.self.items c.in-Some.node c.in-Some.ensures.items seen c.loop-node.invariant
