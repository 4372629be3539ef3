use Rattle.std.proofs.Common.{sym, ap}
use Rattle.gv_gotypes.specs.Assigning.{is_new}
use Rattle.gv_goassigns.proofs.lefts.is_new_at.Goals as goal

pub returns-in-Member : goal.returns-in-Member
returns-in-Member g c = λ e h. let m = c.in-Member.ensures e h in sym (ap (is_new (g.N.Names.env c.args.names.now)) m.made)

pub returns-in-Item : goal.returns-in-Item
returns-in-Item g c = λ e h. let m = c.in-Item.ensures e h in sym (ap (is_new (g.N.Names.env c.args.names.now)) m.made)
