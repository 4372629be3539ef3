-- Rules about appends that are sound beside every rest.
use Rattle.std.specs.Prelude.{[], ◌∷◌}
use Rattle.gv_seats.specs.Paths.{Path}
use Rattle.gv_seats.specs.Seats.{Proof}
use Rattle.gv_seats.specs.Scoping.{IsScoped}
use Rattle.gv_seats.specs.Soundness.{IsSoundWrite}
use Rattle.gv_appending.specs.Rows.{Appends}

abbrev pub AppendsLaw : Type 0
AppendsLaw = (o : Proof) (h k : Path) → Appends h k → IsScoped h → IsSoundWrite o h (k ∷ [])
