use Rattle.gv_asserts.proofs.Noted.{noted_law}
use Rattle.gv_asserts.proofs.laws.predicates_are_noted.Goals as goal

pub returns : goal.returns
returns c = noted_law
