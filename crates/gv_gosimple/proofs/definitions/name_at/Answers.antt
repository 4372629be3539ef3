use Rattle.std.proofs.Common.{sym, ap}
use Rattle.gv_gosimple.specs.Lefts.{name_of}
use Rattle.gv_gosimple.proofs.definitions.name_at.Goals as goal

pub returns-in-Member : goal.returns-in-Member
returns-in-Member c = λ e h. let m = c.in-Member.ensures e h in sym (ap name_of m.made)

pub returns-in-Item : goal.returns-in-Item
returns-in-Item c = λ e h. let m = c.in-Item.ensures e h in sym (ap name_of m.made)
