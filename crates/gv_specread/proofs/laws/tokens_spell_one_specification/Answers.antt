use Rattle.gv_specread.proofs.Decided.{one_spelled}
use Rattle.gv_specread.proofs.laws.tokens_spell_one_specification.Goals as goal

pub returns : goal.returns
returns c = one_spelled
