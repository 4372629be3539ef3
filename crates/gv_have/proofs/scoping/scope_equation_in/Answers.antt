use Rattle.std.proofs.Common.{◌∷◌, []}
use Rattle.gv_terms.specs.Store.{tree_at}
use Rattle.gv_certs.specs.Proving.{by, subst_in}
use Rattle.gv_have.specs.Scoping.{sides_of, formula_of}
use Rattle.gv_have.proofs.Termed.{scoped_both, together}
use Rattle.gv_have.proofs.scoping.scope_equation_in.Goals as goal

pub returns-clause-scoped : goal.returns-clause-scoped
returns-clause-scoped c =
    let st = c.sides.new.store in
    let a = tree_at st c.in_ok-sides.field-0.first.id in
    let b = tree_at st c.in_ok-sides.field-0.second.id in
    let g = tree_at c.formula.new.store c.in_ok-formula.field-0.id in
    scoped_both (sides_of c.args.scope.now c.args.from.now c.args.to.now) (formula_of c.args.scope.now c.args.within.now) (a, b) g (λ p f. by (subst_in p.0 p.1 f)) c.in_ok-sides.ensures.trees c.in_ok-formula.ensures.tree
    (together (a ∷ b ∷ []) (g ∷ []) c.in_ok-sides.ensures.terms c.in_ok-formula.ensures.terms)
