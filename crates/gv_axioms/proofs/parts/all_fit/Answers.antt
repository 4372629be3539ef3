use Rattle.std.proofs.Common.{sym}
use Rattle.gv_terms.specs.Store.{trees_at}
use Rattle.gv_axioms.proofs.Places.{other_length}
use Rattle.gv_axioms.proofs.parts.all_fit.Goals as goal

pub returns-then-parts-kinds-clause-value : goal.returns-then-parts-kinds-clause-value
returns-then-parts-kinds-clause-value c = sym (other_length (trees_at c.args.store.now c.args.parts.now) c.args.store.now c.args.parts.now c.args.kinds.now c.if-parts-kinds.true)
