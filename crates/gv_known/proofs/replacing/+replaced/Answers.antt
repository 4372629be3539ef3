use Rattle.std.proofs.Common.{sym, ap, ◌∙◌, subst, arith}
use Rattle.gv_terms.specs.Store.{tree_at, trees_at, AreIn}
use Rattle.gv_terms.proofs.Grown.{one_more_in}
use Rattle.gv_terms.proofs.RawParts.{grows_on}
use Rattle.gv_terms.specs.Trees.{rooted, root_of}
use Rattle.gv_certs.specs.Trees.{replaced}
use Rattle.gv_known.proofs.Nodes.{tree_kept, one_more, all_replaced, replaced_whole, replaced_parts, never_unsorted}
use Rattle.gv_known.proofs.replacing.+replaced.Goals as goal

pub returns-then-same-clause-made : goal.returns-then-same-clause-made
returns-then-same-clause-made t c =
    let st = c.args.store.now in
    replaced_whole (tree_at st c.args.from.id) (tree_at st c.args.to.id) (tree_at st c.args.term.id) c.same.result c.same.ensures c.if-same.true

pub loop-i-preserved : goal.loop-i-preserved
loop-i-preserved t c =
    let old = c.args.store.now in
    let items = c.as_slice-items.result.now in
    let new = c.replaced.new.store in
    let same = c.as_slice-items.ensures.value ∙ c.in_ok-parts.ensures.items in
    let within : AreIn old items = subst (AreIn old) (sym same) (λ k d lt. let low = c.parts_of.ensures.earlier k d lt in omega (arith, low, c.requires.whole)) in
    record {
      grows = grows_on old c.loop-i.store new c.loop-i.invariant.grows c.replaced.ensures.grows;
      within = subst (AreIn new) (sym c.in_ok-push.ensures.items)
          (one_more_in c.loop-i.store new c.loop-i.made.items c.in_ok-part.part c.loop-i.invariant.within c.replaced.ensures.grows c.in_ok-part.ensures.within);
      stand = one_more old c.loop-i.store new items c.loop-i.made.items c.push.new.self.items c.args.from c.args.to c.in_ok-part.part c.loop-i.i
          c.requires.from c.requires.to within c.loop-i.invariant.within c.loop-i.invariant.grows c.replaced.ensures.grows c.loop-i.invariant.stand
          c.in_ok-part.ensures.made c.in_ok-push.ensures.items c.loop-i-test.true;
    }

pub returns-in-Ok-clause-made : goal.returns-in-Ok-clause-made
returns-in-Ok-clause-made t c =
    let old = c.args.store.now in
    let a = tree_at old c.args.from.id in
    let b = tree_at old c.args.to.id in
    let whole = tree_at old c.args.term.id in
    let mid = c.loop-i.store in
    let items = c.as_slice-items.result.now in
    let same = c.as_slice-items.ensures.value ∙ c.in_ok-parts.ensures.items in
    let parts = ap (trees_at old) same ∙ c.parts_of.ensures.trees in
    let all = all_replaced (replaced a b) old mid whole items c.loop-i.made.items c.loop-i.i parts (omega (arith, c.loop-i-test.false)) c.loop-i.invariant.stand in
    let head = c.in_ok-head.ensures ∙ c.head_of.ensures ∙ ap root_of (tree_kept old mid c.args.term c.requires.whole c.loop-i.invariant.grows) in
    c.in-Ok.ensures.made ∙ ap (λ ps. rooted c.in_ok-head.head (trees_at mid ps)) c.from_vec.ensures
    ∙ replaced_parts a b whole c.same.result c.in_ok-head.head (trees_at mid c.loop-i.made.items) c.same.ensures c.if-same.false head all

pub unreachable-requires : goal.unreachable-requires
unreachable-requires t c =
    let old = c.args.store.now in
    let a = tree_at old c.args.from.id in
    let b = tree_at old c.args.to.id in
    let whole = tree_at old c.args.term.id in
    let mid = c.loop-i.store in
    let items = c.as_slice-items.result.now in
    let same = c.as_slice-items.ensures.value ∙ c.in_ok-parts.ensures.items in
    let parts = ap (trees_at old) same ∙ c.parts_of.ensures.trees in
    let all = all_replaced (replaced a b) old mid whole items c.loop-i.made.items c.loop-i.i parts (omega (arith, c.loop-i-test.false)) c.loop-i.invariant.stand in
    let head = c.in_ok-head.ensures ∙ c.head_of.ensures ∙ ap root_of (tree_kept old mid c.args.term c.requires.whole c.loop-i.invariant.grows) in
    never_unsorted a b c.requires.alike whole c.sort_of-sort.result c.in_ok-head.head (trees_at mid c.from_vec.result) c.sort_of-sort.ensures
    head (ap (trees_at mid) c.from_vec.ensures ∙ all) (c.in-Err-WrongSort.ensures.cause c.in-Err-WrongSort.field-0-is)
