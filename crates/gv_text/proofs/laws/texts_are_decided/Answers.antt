use Rattle.gv_text.proofs.FirstFaults.{decided}
use Rattle.gv_text.proofs.laws.texts_are_decided.Goals as goal

pub returns : goal.returns
returns g c = λ kind. decided kind
