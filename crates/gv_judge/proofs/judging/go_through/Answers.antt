use Rattle.std.proofs.Common.{◌≡◌, ◌<◌, arith}
use Rattle.gv_judge.proofs.Visits.{none_visited, more_visited, none_full, is_spent, goes_on, goes_not}
use Rattle.gv_judge.proofs.judging.go_through.Goals as goal

pub loop-visited-init : goal.loop-visited-init
loop-visited-init c = none_visited c.args.spec.now c.args.history.now c.in_ok-search.search c.in_ok-search.ensures.none c.in_ok-search.ensures.at

pub next-requires-clause-at : goal.next-requires-clause-at
next-requires-clause-at c = (let v = c.loop-visited.invariant in (v.todo, v.at))

pub loop-visited-preserved : goal.loop-visited-preserved
loop-visited-preserved c =
    let s = c.args.spec.now in
    let h = c.args.history.now in
    let v = c.loop-visited.invariant in
    more_visited s h c.loop-visited.search c.loop-visited._visited v c.next.new.self c.if-search.false
    (goes_on s h c.in_ok-next.field-0 c.next.new.self v.todo c.if-not-branch.false (c.in_ok-next.ensures v.todo v.at))

pub returns-then-not-branch : goal.returns-then-not-branch
returns-then-not-branch c =
    let s = c.args.spec.now in
    let h = c.args.history.now in
    let v = c.loop-visited.invariant in
    let within : c.loop-visited._visited < c.args.most = omega arith in
    none_full s h c.loop-visited.search c.loop-visited._visited v c.args.most within c.if-search.false
    (goes_not s h c.in_ok-next.field-0 c.next.new.self v.todo c.if-not-branch.true (c.in_ok-next.ensures v.todo v.at))

pub returns : goal.returns
returns c =
    let reached : c.loop-visited._visited ≡ c.args.most = omega arith in
    is_spent c.args.spec.now c.args.history.now c.loop-visited.search c.loop-visited._visited c.loop-visited.invariant c.args.most reached
