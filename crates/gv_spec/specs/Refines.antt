-- What it is for a machine to refine an atomic specification.
use Rattle.std.specs.Prelude.{◌≡◌, ◌≢◌, List, None}
use Rattle.std.specs.List.{AllByRecursion}
use Rattle.gv_spec.specs.Event as event
use Rattle.gv_spec.specs.Event.{Event}
use Rattle.gv_spec.specs.Move.{Move}
use Rattle.gv_spec.specs.Machine.{Machine}
use Rattle.gv_spec.specs.Specification.{Specification}
use Rattle.gv_spec.specs.Runs.{run_of, history_of}
use Rattle.gv_spec.specs.Walks.{Explains}

abbrev pub IsWithoutCrash : {V : Type 0} → List (Event V) → Type 0
IsWithoutCrash events = AllByRecursion (λ e. e ≢ event.Crash) events

module _ {W T R F V : Type 0} (machine : Machine W T R V) (atomic : Specification F V) where
  -- no step of the run is undefined, and its history has an explanation
  pub record IsExplained (events : List (Event V)) : Type 0 where
    pub defined : (run_of machine atomic.allows events).fault ≡ None
    pub moves : List (Move V)
    pub explains : Explains atomic moves (history_of machine atomic.allows events)

  abbrev pub Refines : Type 0
  Refines = (events : List (Event V)) → IsExplained events

  abbrev pub RefinesWithoutCrash : Type 0
  RefinesWithoutCrash = (events : List (Event V)) → IsWithoutCrash events → IsExplained events
