use Rattle.gv_specs.proofs.Firsts.{note_none, note_some}
use Rattle.gv_specs.proofs.told.first_of.Goals as goal

pub returns-in-None : goal.returns-in-None
returns-in-None c = note_none c.args.old c.args.fault c.in-None.is

pub returns-in-Some : goal.returns-in-Some
returns-in-Some c = note_some c.args.old c.in-Some.earlier c.args.fault c.or_earlier.result c.in-Some.is c.or_earlier.ensures
