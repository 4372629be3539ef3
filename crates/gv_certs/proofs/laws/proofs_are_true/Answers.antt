use Rattle.gv_certs.proofs.Truth.{proofs_are_true, absurd_is_true}
use Rattle.gv_certs.proofs.laws.proofs_are_true.Goals as goal

pub returns-clause-proved : goal.returns-clause-proved
returns-clause-proved c = proofs_are_true

pub returns-clause-absurd : goal.returns-clause-absurd
returns-clause-absurd c = absurd_is_true
