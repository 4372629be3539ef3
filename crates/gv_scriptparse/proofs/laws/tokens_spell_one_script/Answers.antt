use Rattle.gv_scriptparse.proofs.Decided.{one_spelled}
use Rattle.gv_scriptparse.proofs.laws.tokens_spell_one_script.Goals as goal

pub returns : goal.returns
returns c = one_spelled
