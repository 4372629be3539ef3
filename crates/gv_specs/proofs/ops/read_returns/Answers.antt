use Rattle.std.proofs.Common.{Option, sym, subst}
use Rattle.gv_specread.specs.declared.tree.PlacedSort.{PlacedSort}
use Rattle.gv_specs.specs.Faults.{HasReturnsFault}
use Rattle.gv_specs.specs.Told.{Adds}
use Rattle.gv_specs.proofs.Noted.{returns_noted, no_returns_noted}
use Rattle.gv_specs.proofs.ops.read_returns.Goals as goal

pub returns-in-Some-clause-noted : goal.returns-in-Some-clause-noted
returns-in-Some-clause-noted c =
    subst (λ (o : Option PlacedSort). Adds (HasReturnsFault o) c.args.first.now c.want.new.first) (sym c.in-Some.is) (returns_noted c.in-Some.placed c.is_plain.result c.args.first.now c.want.new.first c.is_plain.ensures c.want.ensures)

pub returns-in-None-clause-noted : goal.returns-in-None-clause-noted
returns-in-None-clause-noted c = subst (λ (o : Option PlacedSort). Adds (HasReturnsFault o) c.args.first.now c.args.first.now) (sym c.in-None.is) (no_returns_noted c.args.first.now)
