use Rattle.gv_terms.specs.Store.{trees_at}
use Rattle.gv_have.specs.Scoping.{formula_of}
use Rattle.gv_asserts.proofs.Moves.{added_soundly}
use Rattle.gv_asserts.proofs.knowing.have.Goals as goal

pub returns-clause-sound : goal.returns-clause-sound
returns-clause-sound c =
    let (f, cert, is, certs, proves) = c.in_ok-have.ensures.shown in
    added_soundly (trees_at c.args.cx.now.store c.args.heap.facts) _ (formula_of c.args.heap.vars c.args.goal.now) f is
    c.in_ok-have.ensures.meant c.in_ok-have.ensures.added
