use Rattle.std.proofs.Common.{ℕ, Option, List, reverse, ap, ◌∙◌}
use Rattle.gv_gotypes.specs.Scopes as scope
use Rattle.gv_gonames.specs.declared.trail.Local.{Local}
use Rattle.gv_gonames.specs.Trail.{ScopesOf, entries_of, local_in, is_here_by}
use Rattle.gv_gonames.proofs.Kept.{here_so}
use Rattle.gv_gonames.proofs.locals.Locals.is_here.Goals as goal

pub returns : goal.returns
returns c =
    let es : List scope.Entry = entries_of (reverse c.self.inside.trail.items) in
    c.is_in_block.ensures
    ∙ ap (λ (l : Option Local). is_here_by l c.self.inside.blocks) (c.local_at.ensures ∙ c.self.invariant.found c.args.name.now)
    ∙ ap (λ (n : ℕ). is_here_by (local_in es c.args.name.now) n) c.self.invariant.blocks_are
    ∙ here_so es c.args.name.now
    ∙ ap (λ (s : ScopesOf). scope.is_here s.here.entries c.args.name.now) c.self.view_is
