use Rattle.std.proofs.Common.{rules, ◌≡◌, List, [], ◌∷◌, ◌++◌, reverse, ap, ◌∙◌, subst}
use Rattle.std.proofs.lemmas.List.{reverse-append}
use Rattle.gv_gonames.specs.declared.trail.DeclaredStep.{DeclaredStep}
use Rattle.gv_gonames.specs.declared.trail.Step.{Step}
use Rattle.gv_gonames.specs.declared.trail.Step.TheVariants.{Declared}
use Rattle.gv_gonames.specs.Firsts.{value_at}
use Rattle.gv_gonames.specs.Trail.{IsKept}
use Rattle.gv_gonames.proofs.Kept.{kept_undone, is_there}
use Rattle.gv_gonames.proofs.locals.Locals.step_back.Goals as goal

pub put_back-requires : goal.put_back-requires
put_back-requires c =
    let d : DeclaredStep = c.in-Some-Declared.step in
    let shrunk : c.self.inside.trail.items ≡ c.pop.new.self.items ++ Declared d ∷ [] = search rules in
    let turned : reverse c.self.inside.trail.items ≡ Declared d ∷ reverse c.pop.new.self.items = ap reverse shrunk ∙ reverse-append c.pop.new.self.items (Declared d ∷ []) in
    is_there (reverse c.pop.new.self.items) (value_at c.self.inside.seen) c.self.inside.blocks c.self.inside.literals d
    (subst (λ (ss : List Step). IsKept ss (value_at c.self.inside.seen) c.self.inside.blocks c.self.inside.literals) turned c.self.invariant)

pub invariant_of-self : goal.invariant_of-self
invariant_of-self c =
    let d : DeclaredStep = c.in-Some-Declared.step in
    let shrunk : c.self.inside.trail.items ≡ c.pop.new.self.items ++ Declared d ∷ [] = search rules in
    let turned : reverse c.self.inside.trail.items ≡ Declared d ∷ reverse c.pop.new.self.items = ap reverse shrunk ∙ reverse-append c.pop.new.self.items (Declared d ∷ []) in
    kept_undone (reverse c.pop.new.self.items) (value_at c.self.inside.seen) (value_at c.put_back.new.seen) c.self.inside.blocks c.self.inside.literals d
    (subst (λ (ss : List Step). IsKept ss (value_at c.self.inside.seen) c.self.inside.blocks c.self.inside.literals) turned c.self.invariant)
    c.put_back.ensures
