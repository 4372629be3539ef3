-- Moves that are sound beside every rest.
use Rattle.std.specs.Prelude.{[], ◌∷◌}
use Rattle.gv_seats.specs.Paths.{Path}
use Rattle.gv_seats.specs.Seats.{Proof}
use Rattle.gv_seats.specs.Changes.{changes_nothing}
use Rattle.gv_seats.specs.Soundness.{IsSoundMove}
use Rattle.gv_ranges.specs.Rows.{Drops, TakesNumber, PutsNumber, Splits, Joins, AddsEmpty, MakesOne}

abbrev pub DropsLaw : Type 0
DropsLaw = (o : Proof) (h k : Path) → Drops h k → IsSoundMove o changes_nothing h (k ∷ [])

abbrev pub TakesNumberLaw : Type 0
TakesNumberLaw = (o : Proof) (h k : Path) → TakesNumber h k → IsSoundMove o changes_nothing h (k ∷ [])

abbrev pub PutsNumberLaw : Type 0
PutsNumberLaw = (o : Proof) (h k : Path) → PutsNumber h k → IsSoundMove o changes_nothing h (k ∷ [])

abbrev pub SplitsLaw : Type 0
SplitsLaw = (o : Proof) (h k : Path) → Splits h k → IsSoundMove o changes_nothing h (k ∷ [])

abbrev pub JoinsLaw : Type 0
JoinsLaw = (o : Proof) (h k : Path) → Joins h k → IsSoundMove o changes_nothing h (k ∷ [])

abbrev pub AddsEmptyLaw : Type 0
AddsEmptyLaw = (o : Proof) (h k : Path) → AddsEmpty h k → IsSoundMove o changes_nothing h (k ∷ [])

abbrev pub MakesOneLaw : Type 0
MakesOneLaw = (o : Proof) (h k : Path) → MakesOne h k → IsSoundMove o changes_nothing h (k ∷ [])
