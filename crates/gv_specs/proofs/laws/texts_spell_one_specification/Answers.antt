use Rattle.gv_specs.proofs.Alike.{one_specification}
use Rattle.gv_specs.proofs.laws.texts_spell_one_specification.Goals as goal

pub returns : goal.returns
returns c = one_specification
