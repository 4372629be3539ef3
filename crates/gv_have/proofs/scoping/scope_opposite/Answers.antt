use Rattle.gv_terms.specs.Store.{tree_at}
use Rattle.gv_certs.specs.Proving.{by, contra}
use Rattle.gv_have.specs.Scoping.{formula_of}
use Rattle.gv_have.proofs.Termed.{scoped_map}
use Rattle.gv_have.proofs.scoping.scope_opposite.Goals as goal

pub returns-clause-scoped : goal.returns-clause-scoped
returns-clause-scoped c =
    let g = tree_at c.formula.new.store c.in_ok-formula.field-0.id in
    scoped_map (formula_of c.args.scope.now c.args.opposite.now) g (λ f. by (contra f)) c.in_ok-formula.ensures.tree c.in_ok-formula.ensures.terms
