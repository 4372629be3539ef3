use Rattle.std.proofs.Common.{map, subst, length, arith}
use Rattle.std.proofs.lemmas.List.{take_all}
use Rattle.gv_terms.specs.Store.{trees_at}
use Rattle.gv_certs.specs.Sums.{row_of}
use Rattle.gv_sums.specs.Reading.{comparisons_at, AreLike}
use Rattle.gv_sums.proofs.Alike.{row_more}
use Rattle.gv_sums.proofs.rows.rows.Goals as goal

pub loop-i-preserved : goal.loop-i-preserved
loop-i-preserved c =
    let st = c.args.store.now in
    row_more (length c.args.unknowns.now) st (trees_at st c.args.sums.now) (trees_at st c.args.unknowns.now) c.args.comparisons.now c.loop-i.i c.loop-i.rows.items c.push.new.self.items
    c.in_ok-row.field-0 c.loop-i-test.true c.loop-i.invariant c.in_ok-row.ensures.told c.in_ok-push.ensures.items

pub returns : goal.returns
returns c =
    let st = c.args.store.now in
    let n = length c.args.unknowns.now in
    let of = map (row_of (trees_at st c.args.sums.now) (trees_at st c.args.unknowns.now)) in
    record { told = subst (λ cs. AreLike n c.loop-i.rows.items (of (comparisons_at st cs))) (take_all c.loop-i.i c.args.comparisons.now (omega (arith, c.loop-i-test.false))) c.loop-i.invariant }
