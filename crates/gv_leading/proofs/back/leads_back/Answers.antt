use Rattle.std.proofs.Common.{rules, ◌≡◌, ℕ, Bool, false, sym, ◌+◌, [], ◌∷◌, List, length, ap, subst, arith}
use Rattle.std.specs.Prelude.{replicate}
use Rattle.std.proofs.lemmas.List.{length-append}
use Rattle.gv_cycles.specs.Leading.{lists_of}
use Rattle.gv_cycles.specs.Search.{seen_count}
use Rattle.gv_leading.specs.Back.{IsSpread}
use Rattle.gv_leading.proofs.Lists.{as_long, count_within}
use Rattle.gv_leading.proofs.Spreads.{begun, looked_at, popped_known, no_way_back, known_within, fewer}
use Rattle.gv_leading.proofs.back.leads_back.Goals as goal

pub loop-number-init : goal.loop-number-init
loop-number-init c = record {
  spread =
      let rows = lists_of c.args.rows.now in
      let k = as_long c.args.rows.now in
      let l = c.requires in
      subst (λ (bs : List Bool). IsSpread rows c.args.start [] bs c.in_ok-vec-2.field-0.items) (sym (c.in_ok-vec.ensures.items_if_clones_equal (λ y e. e)))
      (subst (λ (xs : List ℕ). IsSpread rows c.args.start [] (replicate (length c.args.rows.now) false) xs) (sym (c.in_ok-vec-2.ensures.items_if_clones_equal (λ y e. e)))
      (begun rows c.args.start (length c.args.rows.now) (omega (arith, k)) (omega (arith, k, l))));
}

pub look_at-requires-clause-within : goal.look_at-requires-clause-within
look_at-requires-clause-within c =
    let k = as_long c.args.rows.now in
    let s = c.loop-number.invariant.spread in
    let l = known_within (lists_of c.args.rows.now) c.args.start c.in-Some.number [] c.loop-number.spread.is_seen.items c.loop-number.spread.waiting.items s
    (popped_known (lists_of c.args.rows.now) c.args.start c.in-Some.number c.loop-number.spread.is_seen.items c.loop-number.spread.waiting.items c.pop.new.self.items c.in-Some.ensures.items s)
    (let r = c.requires in omega (arith, k, r)) in
    omega (arith, k, l)

pub look_at-requires-clause-spread : goal.look_at-requires-clause-spread
look_at-requires-clause-spread c =
    looked_at (lists_of c.args.rows.now) c.args.start c.in-Some.number c.loop-number.spread.is_seen.items c.loop-number.spread.waiting.items c.pop.new.self.items c.in-Some.ensures.items c.loop-number.invariant.spread

pub look_at-requires-clause-known : goal.look_at-requires-clause-known
look_at-requires-clause-known c =
    popped_known (lists_of c.args.rows.now) c.args.start c.in-Some.number c.loop-number.spread.is_seen.items c.loop-number.spread.waiting.items c.pop.new.self.items c.in-Some.ensures.items c.loop-number.invariant.spread

pub loop-number-smaller : goal.loop-number-smaller
loop-number-smaller c =
    let k = as_long c.args.rows.now in
    let before = c.loop-number.invariant.spread in
    let a = count_within c.loop-number.spread.is_seen.items in
    let b = before.sized in
    let after = c.in_ok-look_at.ensures.spread c.if-branch.false in
    let d = count_within c.look_at.new.self.is_seen.items in
    let e = after.sized in
    let popped : length c.loop-number.spread.waiting.items ≡ length c.pop.new.self.items + 1 =
    (let q = ap (λ (xs : List ℕ). length xs) c.in-Some.ensures.items in let r = length-append c.pop.new.self.items (c.in-Some.number ∷ []) in omega (arith, q, r)) in
    fewer (length c.args.rows.now) (length c.loop-number.spread.waiting.items) (length c.pop.new.self.items) (length c.look_at.new.self.waiting.items)
    (seen_count c.loop-number.spread.is_seen.items) (seen_count c.look_at.new.self.is_seen.items) popped (c.in_ok-look_at.ensures.counted c.if-branch.false)
    (omega (arith, d, e, k)) (omega (arith, a, b, k))

pub returns : goal.returns
returns c = λ steps path.
    no_way_back (lists_of c.args.rows.now) c.args.start c.loop-number.spread.is_seen.items c.loop-number.spread.waiting.items (let q : c.loop-number.spread.waiting.items ≡ [] = search rules in q) c.loop-number.invariant.spread steps path
