use Rattle.std.proofs.Common.{◌<◌, [], ◌∷◌, length, refl, arith}
use Rattle.gv_cycles.specs.Leading.{lists_of, row}
use Rattle.gv_leading.proofs.Lists.{row_is}
use Rattle.gv_leading.proofs.Spreads.{seen_more, passed, passed_more, passed_all, way_back, here_is}
use Rattle.gv_leading.proofs.spread.Spread.look_at.Goals as goal

pub loop-at-init : goal.loop-at-init
loop-at-init c = record {
  spread = c.requires.spread;
  known = c.requires.known;
  row = row_is c.args.rows.now c.args.number c.index-rows-number.result c.index-rows-number.is c.requires.within;
  within = omega arith;
  passed = λ i d l. absurd (omega (arith, l));
  counted = refl;
}

pub returns-then-named-start-clause-back : goal.returns-then-named-start-clause-back
returns-then-named-start-clause-back c = λ told.
    let v = c.loop-at.invariant in
    let rows = lists_of c.args.rows.now in
    way_back rows c.args.start c.args.number (c.args.number ∷ []) c.loop-at.self.is_seen.items c.loop-at.self.waiting.items v.spread v.known
    (here_is (row rows c.args.number) c.index-rows-number.result.items c.loop-at.at c.index.result.now c.args.start v.row c.index.ensures c.if-named-start.true
    (let k = c.loop-at-test.true in let l = c.len.ensures in omega (arith, k, l)))

pub loop-at-preserved : goal.loop-at-preserved
loop-at-preserved c =
    let v = c.loop-at.invariant in
    let rows = lists_of c.args.rows.now in
    let names = c.index-rows-number.result.items in
    let within : c.loop-at.at < length names = (let k = c.loop-at-test.true in let l = c.len.ensures in omega (arith, k, l)) in
    let named = here_is (row rows c.args.number) names c.loop-at.at c.index.result.now c.index.result.now v.row c.index.ensures refl within in
    let more = seen_more rows c.args.start c.args.number c.index.result.now (c.args.number ∷ []) c.loop-at.self.is_seen.items c.see.new.self.is_seen.items
    c.loop-at.self.waiting.items c.see.new.self.waiting.items v.spread v.known named c.if-named-start.false c.in_ok-see.ensures.seen c.in_ok-see.ensures.waiting in
    record {
      spread = more.spread;
      known = more.known c.args.number v.known;
      row = v.row;
      within = omega (arith, within);
      passed = passed_more c.args.start names c.loop-at.self.is_seen.items c.see.new.self.is_seen.items c.loop-at.at c.index.result.now within c.index.ensures c.if-named-start.false more.there more.kept v.passed;
      counted = (let a = more.counted in let b = v.counted in omega (arith, a, b));
    }

pub returns-clause-spread : goal.returns-clause-spread
returns-clause-spread c = λ told.
    let v = c.loop-at.invariant in
    let rows = lists_of c.args.rows.now in
    passed rows c.args.start c.args.number c.loop-at.self.is_seen.items c.loop-at.self.waiting.items v.spread
    (passed_all rows c.args.start c.args.number c.index-rows-number.result.items c.loop-at.self.is_seen.items c.loop-at.at v.row
    (let k = c.loop-at-test.false in let l = c.len.ensures in omega (arith, k, l)) v.passed)
