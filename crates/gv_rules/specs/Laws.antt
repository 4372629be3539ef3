-- Rules that are sound beside every rest.
use Rattle.std.specs.Prelude.{[], ◌∷◌}
use Rattle.gv_seats.specs.Paths.{Path}
use Rattle.gv_seats.specs.Seats.{Proof}
use Rattle.gv_seats.specs.Changes.{changes_nothing}
use Rattle.gv_seats.specs.Soundness.{IsSoundMove, IsSoundStep, IsSoundWrite}
use Rattle.gv_rules.specs.Rows.{Copies, Opens, Closes, Lets, Loads, Stores, Locks, Unlocks}

abbrev pub CopiesLaw : Type 0
CopiesLaw = (o : Proof) (h k : Path) → Copies o h k → IsSoundMove o changes_nothing h (k ∷ [])

abbrev pub OpensLaw : Type 0
OpensLaw = (o : Proof) (h k : Path) → Opens o h k → IsSoundMove o changes_nothing h (k ∷ [])

abbrev pub ClosesLaw : Type 0
ClosesLaw = (o : Proof) (h k : Path) → Closes o h k → IsSoundMove o changes_nothing h (k ∷ [])

abbrev pub LetsLaw : Type 0
LetsLaw = (o : Proof) (h k : Path) → Lets h k → IsSoundStep o changes_nothing h (k ∷ [])

abbrev pub LoadsLaw : Type 0
LoadsLaw = (o : Proof) (h k : Path) → Loads h k → IsSoundStep o changes_nothing h (k ∷ [])

abbrev pub StoresLaw : Type 0
StoresLaw = (o : Proof) (h k : Path) → Stores h k → IsSoundWrite o h (k ∷ [])

abbrev pub LocksLaw : Type 0
LocksLaw = (o : Proof) (h k : Path) → Locks h k → IsSoundStep o changes_nothing h (k ∷ [])

abbrev pub UnlocksLaw : Type 0
UnlocksLaw = (o : Proof) (h k : Path) → Unlocks h k → IsSoundStep o changes_nothing h (k ∷ [])
