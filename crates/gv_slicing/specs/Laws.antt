-- Rules about slices that are sound beside every rest.
use Rattle.std.specs.Prelude.{[], ◌∷◌}
use Rattle.gv_seats.specs.Paths.{Path}
use Rattle.gv_seats.specs.Seats.{Proof}
use Rattle.gv_seats.specs.Changes.{changes_nothing}
use Rattle.gv_seats.specs.Scoping.{IsScoped}
use Rattle.gv_seats.specs.Soundness.{IsSoundStep}
use Rattle.gv_slicing.specs.Rows.{MakesSlice, ReadsItem}

abbrev pub MakesLaw : Type 0
MakesLaw = (o : Proof) (h k : Path) → MakesSlice h k → IsScoped h → IsSoundStep o changes_nothing h (k ∷ [])

abbrev pub ItemsLaw : Type 0
ItemsLaw = (o : Proof) (h k : Path) → ReadsItem h k → IsSoundStep o changes_nothing h (k ∷ [])
