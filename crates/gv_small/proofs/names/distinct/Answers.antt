use Rattle.std.proofs.Common.{◌<◌, length, arith}
use Rattle.gv_small.proofs.NameLemmas.{distinct_next, not_distinct_at, was_there, was_new, keys_then}
use Rattle.gv_small.proofs.names.distinct.Goals as goal

pub returns-then-not-added-clause-none : goal.returns-then-not-added-clause-none
returns-then-not-added-clause-none c =
    let names = c.args.names.now in
    let i = c.loop-name.name-index in
    let k = c.loop-name.invariant.keys in
    let added = c.in_ok-added.ensures.added in
    not_distinct_at names i c.name-item.result c.name-item.result (omega arith) c.name-item.is (was_there c.loop-name.set.keys _ c.in_ok-copy.field-0 c.name-item.result c.in_ok-added.added added k c.in_ok-copy.ensures c.if-not-added.true)

pub loop-name-preserved : goal.loop-name-preserved
loop-name-preserved c =
    let names = c.args.names.now in
    let i = c.loop-name.name-index in
    let k = c.loop-name.invariant.keys in
    let added = c.in_ok-added.ensures.added in
    record {
      keys = keys_then c.loop-name.set.keys names c.insert.new.self.keys i c.in_ok-copy.field-0 c.name-item.result c.name-item.result c.in_ok-added.added added c.in_ok-added.ensures.keys k c.in_ok-copy.ensures c.name-item.is (omega arith) c.if-not-added.false;
      distinct = distinct_next names i c.name-item.result c.name-item.result (omega arith) c.name-item.is c.loop-name.invariant.distinct (was_new c.loop-name.set.keys _ c.in_ok-copy.field-0 c.name-item.result c.in_ok-added.added added k c.in_ok-copy.ensures c.if-not-added.false);
    }
