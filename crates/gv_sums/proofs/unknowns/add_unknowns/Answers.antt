use Rattle.gv_sums.proofs.Finding.{term_within}
use Rattle.gv_sums.proofs.unknowns.add_unknowns.Goals as goal

pub add_unknown-requires-clause-one : goal.add_unknown-requires-clause-one
add_unknown-requires-clause-one c = term_within c.args.store.now c.args.summands.now c.loop-i.i c.requires.summands c.loop-i-test.true
