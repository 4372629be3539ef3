use Rattle.std.proofs.Common.{Some, None, sym, ◌∙◌}
use Rattle.gv_gotypes.specs.Assigning.{entity_target, name_target}
use Rattle.gv_gouses.proofs.UseLemmas.{adds_as, adds_nothing, then_so}
use Rattle.gv_gouses.proofs.SideUses.{name_target_uses}
use Rattle.gv_gouses.proofs.sides.note_assigned.Goals as goal

pub returns-in-Some : goal.returns-in-Some
returns-in-Some g c = then_so c.note_variable.result c.note_variable.ensures (λ a.
    let env = g.N.Names.env c.args.names.now in
    adds_as c.args.uses.now.items c.note_variable.new.uses.items (entity_target c.args.name.start (Some c.in-Some.found)).findings (name_target env c.args.name).findings a
    (name_target_uses env c.args.name (Some c.in-Some.found) (sym c.in-Some.is ∙ c.found.ensures)))

pub returns-in-None : goal.returns-in-None
returns-in-None g c =
    let env = g.N.Names.env c.args.names.now in
    adds_nothing c.args.uses.now.items (name_target env c.args.name).findings (name_target_uses env c.args.name None (sym c.in-None.is ∙ c.found.ensures))
