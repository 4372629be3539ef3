use Rattle.std.proofs.Common.{rules, ◌≡◌, ℕ, Some, cond, List, [], ◌∷◌, ◌++◌, reverse, sym, ap, ◌∙◌, subst}
use Rattle.std.proofs.lemmas.List.{reverse-append}
use Rattle.std.specs.Str.{bytes_eq}
use Rattle.gv_gonames.specs.declared.trail.DeclaredStep.{DeclaredStep}
use Rattle.gv_gonames.specs.declared.trail.Local.{Local}
use Rattle.gv_gonames.specs.declared.trail.Step.{Step}
use Rattle.gv_gonames.specs.declared.trail.Step.TheVariants.{Declared}
use Rattle.gv_gonames.specs.Firsts.{value_at}
use Rattle.gv_gonames.specs.Trail.{IsKept, flat}
use Rattle.gv_gonames.proofs.Kept.{kept_declared}
use Rattle.gv_gonames.proofs.locals.Locals.declare.Goals as goal

pub invariant_of-self-2 : goal.invariant_of-self-2
invariant_of-self-2 c =
    let d : DeclaredStep = record { name = c.in_ok-from_slice.field-0; entity = c.args.entity; before = c.local_at.result } in
    let here : Local = record { entity = c.args.entity; blocks = c.self.inside.blocks; literals = c.self.inside.literals } in
    let grown : c.push.new.self.items ≡ c.self.inside.trail.items ++ Declared d ∷ [] = search rules in
    let turned : reverse c.push.new.self.items ≡ Declared d ∷ reverse c.self.inside.trail.items = ap reverse grown ∙ reverse-append c.self.inside.trail.items (Declared d ∷ []) in
    let before : d.before ≡ flat (value_at c.self.inside.seen d.name.items) = c.local_at.ensures ∙ ap (λ (n : List ℕ). flat (value_at c.self.inside.seen n)) (sym c.in_ok-from_slice.ensures.items) in
    let same : c.in_ok-key.key.items ≡ d.name.items = c.in_ok-key.ensures.items ∙ sym c.in_ok-from_slice.ensures.items in
    subst (λ (ss : List Step). IsKept ss (value_at c.put.new.seen) c.self.inside.blocks c.self.inside.literals) (sym turned)
    (kept_declared (reverse c.self.inside.trail.items) (value_at c.self.inside.seen) (value_at c.put.new.seen) c.self.inside.blocks c.self.inside.literals d c.self.invariant before
    (λ n. c.in_ok-put.ensures.put n ∙ ap (λ (m : List ℕ). cond (bytes_eq n m) (Some (Some here)) (value_at c.self.inside.seen n)) same))
