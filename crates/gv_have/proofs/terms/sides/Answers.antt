use Rattle.std.proofs.Common.{◌≡◌, ◌∷◌, [], ◌∙◌, Some, refl, sym, ap, subst, rules}
use Rattle.gv_terms.specs.Store.{tree_at}
use Rattle.gv_axioms.specs.Truth.{AreTerms}
use Rattle.gv_known.proofs.Nodes.{tree_kept}
use Rattle.gv_have.proofs.Termed.{together}
use Rattle.gv_have.proofs.Scoped.{sides_there, no_sides}
use Rattle.gv_have.proofs.terms.sides.Goals as goal

pub returns-then-eq-clause-trees : goal.returns-then-eq-clause-trees
returns-then-eq-clause-trees c =
    let new = c.resolve-2.new.store in
    let x = tree_at new c.in_ok-first.first.id in
    let y = tree_at new c.in_ok-second.second.id in
    let kept = tree_kept c.resolve.new.store new c.in_ok-first.first c.in_ok-first.ensures.within c.resolve-2.ensures.grows in
    let same : c.sort_of.result ≡ c.sort_of-2.result = search rules in
    sides_there c.args.scope.now c.args.from.now c.args.to.now x y c.sort_of.result c.sort_of-2.result (c.in_ok-first.ensures.tree ∙ ap (λ t. Some t) (sym kept)) c.in_ok-second.ensures.tree c.sort_of.ensures c.sort_of-2.ensures same

pub returns-then-eq-clause-terms : goal.returns-then-eq-clause-terms
returns-then-eq-clause-terms c =
    let new = c.resolve-2.new.store in
    let x = tree_at new c.in_ok-first.first.id in
    let y = tree_at new c.in_ok-second.second.id in
    let kept = tree_kept c.resolve.new.store new c.in_ok-first.first c.in_ok-first.ensures.within c.resolve-2.ensures.grows in
    together (x ∷ []) (y ∷ []) (subst (λ t. AreTerms (t ∷ [])) (sym kept) c.in_ok-first.ensures.terms) c.in_ok-second.ensures.terms

pub returns-else-eq-clause-cause : goal.returns-else-eq-clause-cause
returns-else-eq-clause-cause c =
    let new = c.resolve-2.new.store in
    let x = tree_at new c.in_ok-first.first.id in
    let y = tree_at new c.in_ok-second.second.id in
    let kept = tree_kept c.resolve.new.store new c.in_ok-first.first c.in_ok-first.ensures.within c.resolve-2.ensures.grows in
    let other : c.sort_of.result ≡ c.sort_of-2.result → ⊥ = search rules in
    (refl, no_sides c.args.scope.now c.args.from.now c.args.to.now x y c.sort_of.result c.sort_of-2.result (c.in_ok-first.ensures.tree ∙ ap (λ t. Some t) (sym kept)) c.in_ok-second.ensures.tree c.sort_of.ensures c.sort_of-2.ensures other)
