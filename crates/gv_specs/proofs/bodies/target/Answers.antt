use Rattle.std.proofs.Common.{is_some, ap, ◌∙◌}
use Rattle.gv_specs.specs.FieldTable.{entry_in}
use Rattle.gv_specs.proofs.Noted.{target_noted}
use Rattle.gv_specs.proofs.bodies.target.Goals as goal

pub returns-clause-noted : goal.returns-clause-noted
returns-clause-noted c =
    target_noted (entry_in c.args.table.now c.args.name.now) c.args.start c.is_some.result c.args.first.now c.want.new.first (c.is_some.ensures ∙ ap is_some c.entry-entry.ensures) c.want.ensures
