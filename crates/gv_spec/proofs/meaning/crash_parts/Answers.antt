use Rattle.std.proofs.Common.{◌<◌, length, sym, subst}
use Rattle.std.specs.List.{All}
use Rattle.gv_atomic.specs.Specification.{ArePicksWithin}
use Rattle.gv_atomic.proofs.TypedFacts.{crash_picks_within, crash_within}
use Rattle.gv_spec.proofs.meaning.crash_parts.Goals as goal

pub returns-clause-picks_within : goal.returns-clause-picks_within
returns-clause-picks_within c =
    let s = c.args.spec.now in
    subst (ArePicksWithin s.store) (sym c.as_slice.ensures) (crash_picks_within s.disks s.blocks s.fields s.ops s.crash_picks s.crash s.store s.typed)

pub returns-clause-body_within : goal.returns-clause-body_within
returns-clause-body_within c =
    let s = c.args.spec.now in
    subst (λ l. All (λ a. a.term.id < length s.store) l) (sym c.as_slice-2.ensures) (crash_within s.disks s.blocks s.fields s.ops s.crash_picks s.crash s.store s.typed)
