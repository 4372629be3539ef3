use Rattle.std.proofs.Common.{sym, ap}
use Rattle.gv_gotypes.specs.Trees.{expr_of}
use Rattle.gv_goassigns.specs.Targets.{is_blank_name}
use Rattle.gv_goassigns.proofs.TargetLemmas.{no_blank}
use Rattle.gv_goassigns.proofs.counted.is_blank_at.Goals as goal

pub returns-in-Member : goal.returns-in-Member
returns-in-Member g c = λ e h. let m = c.in-Member.ensures e h in sym (ap (is_blank_name (g.N.Names.env c.args.names.now)) m.made)

pub returns-in-Item : goal.returns-in-Item
returns-in-Item g c = λ e h. let m = c.in-Item.ensures e h in sym (ap (is_blank_name (g.N.Names.env c.args.names.now)) m.made)

pub returns-in-Other : goal.returns-in-Other
returns-in-Other g c = λ e h. no_blank (g.N.Names.env c.args.names.now) (expr_of e) (c.in-Other.ensures e h)
