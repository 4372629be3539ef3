-- Rules about writes of slices that are sound beside every rest.
use Rattle.std.specs.Prelude.{[], ◌∷◌}
use Rattle.gv_seats.specs.Paths.{Path}
use Rattle.gv_seats.specs.Seats.{Proof}
use Rattle.gv_seats.specs.Soundness.{IsSoundWrite}
use Rattle.gv_putting.specs.Rows.{Puts}

abbrev pub PutsLaw : Type 0
PutsLaw = (o : Proof) (h k : Path) → Puts h k → IsSoundWrite o h (k ∷ [])
