use Rattle.std.proofs.Common.{ℕ, Option, List, reverse, ap, ◌∙◌}
use Rattle.gv_gotypes.specs.Scopes as scope
use Rattle.gv_gonames.specs.declared.trail.Local.{Local}
use Rattle.gv_gonames.specs.Trail.{ScopesOf, entries_of, local_in, found_by}
use Rattle.gv_gonames.proofs.Kept.{found_so}
use Rattle.gv_gonames.proofs.locals.Locals.found.Goals as goal

pub returns : goal.returns
returns c =
    let es : List scope.Entry = entries_of (reverse c.self.inside.trail.items) in
    c.found_as.ensures
    ∙ ap (λ (l : Option Local). found_by l c.args.other c.self.inside.literals) (c.local_at.ensures ∙ c.self.invariant.found c.args.name.now)
    ∙ ap (λ (n : ℕ). found_by (local_in es c.args.name.now) c.args.other n) c.self.invariant.literals_are
    ∙ found_so es c.args.name.now c.args.other
    ∙ ap (λ (s : ScopesOf). scope.found_among s.here.entries c.args.other c.args.name.now) c.self.view_is
