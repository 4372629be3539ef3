use Rattle.gv_seats.proofs.Owning.{seats_law}
use Rattle.gv_seats.proofs.laws.seats.Goals as goal

pub returns : goal.returns
returns c = seats_law
