use Rattle.gv_terms.specs.Store.{trees_at}
use Rattle.gv_asserts.proofs.Moves.{ended_soundly}
use Rattle.gv_asserts.proofs.knowing.absurd.Goals as goal

pub returns-clause-sound : goal.returns-clause-sound
returns-clause-sound c = ended_soundly (trees_at c.args.cx.now.store c.args.heap.facts) c.in_ok-absurd.ensures.meant
