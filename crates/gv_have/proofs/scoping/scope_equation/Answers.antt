use Rattle.gv_terms.specs.declared.tree.TermTree.{TermTree}
use Rattle.gv_terms.specs.Store.{tree_at}
use Rattle.gv_certs.specs.Proving.{by, subst}
use Rattle.gv_have.specs.Scoping.{sides_of}
use Rattle.gv_have.proofs.Termed.{scoped_map}
use Rattle.gv_have.proofs.scoping.scope_equation.Goals as goal

pub returns-clause-scoped : goal.returns-clause-scoped
returns-clause-scoped c =
    let st = c.sides.new.store in
    let p : TermTree × TermTree = (tree_at st c.in_ok-sides.field-0.first.id, tree_at st c.in_ok-sides.field-0.second.id) in
    scoped_map (sides_of c.args.scope.now c.args.from.now c.args.to.now) p (λ p. by (subst p.0 p.1)) c.in_ok-sides.ensures.trees c.in_ok-sides.ensures.terms
