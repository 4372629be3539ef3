use Rattle.gv_seats.proofs.Owning.{begun_law}
use Rattle.gv_seats.proofs.laws.begun_writes.Goals as goal

pub returns : goal.returns
returns c = begun_law
