use Rattle.gv_terms.specs.Store.{trees_at}
use Rattle.gv_certs.specs.Proving.{by, by_axiom}
use Rattle.gv_have.specs.Scoping.{terms_of}
use Rattle.gv_have.proofs.Termed.{scoped_map}
use Rattle.gv_have.proofs.scoping.scope_parts.Goals as goal

pub returns-clause-scoped : goal.returns-clause-scoped
returns-clause-scoped c =
    let ts = trees_at c.all_terms.new.store c.in_ok-all_terms.field-0.items in
    scoped_map (terms_of c.args.scope.now c.args.parts.now) ts (λ ts. by (by_axiom c.args.number ts)) c.in_ok-all_terms.ensures.trees c.in_ok-all_terms.ensures.terms
