use Rattle.gv_asserts.proofs.Stays.{staying_law}
use Rattle.gv_asserts.proofs.laws.states_stay.Goals as goal

pub returns : goal.returns
returns c = staying_law
