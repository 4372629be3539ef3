-- Moves that are sound beside every rest.
use Rattle.std.specs.Prelude.{[], ◌∷◌}
use Rattle.gv_seats.specs.Paths.{Path}
use Rattle.gv_seats.specs.Seats.{Proof}
use Rattle.gv_seats.specs.Changes.{changes_nothing}
use Rattle.gv_seats.specs.Soundness.{IsSoundMove}
use Rattle.gv_clashing.specs.Rows.{Clashes, Agrees}

abbrev pub ClashesLaw : Type 0
ClashesLaw = (o : Proof) (h : Path) → Clashes h → IsSoundMove o changes_nothing h []

abbrev pub AgreesLaw : Type 0
AgreesLaw = (o : Proof) (h k : Path) → Agrees h k → IsSoundMove o changes_nothing h (k ∷ [])
