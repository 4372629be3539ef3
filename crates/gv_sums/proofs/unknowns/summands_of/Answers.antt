use Rattle.std.proofs.Common.{◌<◌, ◌^◌, length, arith}
use Rattle.gv_sums.proofs.Narrow.{short_summands}
use Rattle.gv_sums.proofs.unknowns.summands_of.Goals as goal

pub returns-clause-short : goal.returns-clause-short
returns-clause-short c =
    let few : length c.add_summands.new.to.items < 2 ^ 32 = omega (arith, c.if-len.false, c.len.ensures) in
    short_summands c.args.store.now c.add_summands.new.to.items c.numbers_are_words.ensures c.in_ok-add_summands.ensures.within few
