use Rattle.gv_goparse.proofs.Decided.{one_spelled}
use Rattle.gv_goparse.proofs.laws.tokens_spell_one_package.Goals as goal

pub returns : goal.returns
returns c = one_spelled
