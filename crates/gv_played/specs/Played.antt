-- What a schedule comes to on the machine of a package.
use Rattle.std.specs.Prelude.{◌≡◌, ◌+◌, ◌-◌, ℕ, false, true, List, [], ◌∷◌, ◌++◌, Option, Some, None, take, map, replicate, slice_get, nat_lt, if◌then◌else◌}
use Rattle.gv_base.specs.declared.answer.Answer.{Answer}
use Rattle.gv_base.specs.declared.answer.Answer.TheVariants.{Undefined}
use Rattle.gv_base.specs.declared.answers.Place.{Place}
use Rattle.gv_base.specs.declared.reason.Reason.{Reason}
use Rattle.gv_lang.specs.Tree.{Program}
use Rattle.gv_terms.specs.declared.value.Value.{Value}
use Rattle.gv_atomic.specs.declared.spec.Spec.{Spec}
use Rattle.gv_spec.specs.Atomic.{atomic_of}
use Rattle.gv_spec.specs.Event.{Event}
use Rattle.gv_spec.specs.History.{entry_of, event_of}
use Rattle.gv_spec.specs.Runs.{outcome_of, run_of}
use Rattle.gv_runs.specs.Laws.{State}
use Rattle.gv_runs.specs.Machine.{machine_of, setting_of}
use Rattle.gv_machine.specs.Outcomes.{leaves_too_many}
use Rattle.gv_replay.specs.declared.schedule.Line.{Line}
use Rattle.gv_played.specs.declared.fault.ReplayFault.{ReplayFault}
use Rattle.gv_played.specs.declared.fault.ReplayFault.TheVariants as fault
use Rattle.gv_played.specs.declared.replaying.Ran.{Ran}

-- the events of lines, one after another
abbrev pub events_of : List Line → List (Event Value)
events_of [] = []
events_of (l ∷ ls) = replicate l.count (event_of l.event) ++ events_of ls

-- where the line begins that has the event under a number, counted from 0
abbrev pub place_of : List Line → ℕ → Option Place
place_of [] n = None
place_of (l ∷ ls) n = if nat_lt n l.count then Some l.place else place_of ls (n - l.count)

module _ (g : Program) (s : Spec) where
  -- the state after these events
  abbrev pub run : List (Event Value) → State
  run events = run_of (machine_of g (setting_of s)) (atomic_of s).allows events

  -- what comes of an event after these
  abbrev pub outcome : List (Event Value) → Event Value → Answer State
  outcome front e = outcome_of (machine_of g (setting_of s)) (atomic_of s).allows (run front) e

  -- no event would leave too many live cells
  abbrev pub AreWithin : List (Event Value) → Type 0
  AreWithin events = (before : ℕ) (e : Event Value) → slice_get events before ≡ Some e → leaves_too_many (outcome (take before events) e) ≡ false

  -- the event under this number, counted from 1, is undefined for this reason
  pub record IsUndefinedAt (events : List (Event Value)) (number : ℕ) (reason : Reason) : Type 0 where
    pub before : ℕ
    pub event : Event Value
    pub there : slice_get events before ≡ Some event
    pub numbered : number ≡ before + 1
    pub undefined : outcome (take before events) event ≡ Undefined reason

  -- where an event was undefined, or that none was
  abbrev pub IsUndefined : List (Event Value) → Option (ℕ × Reason) → Type 0
  IsUndefined events None = (run events).fault ≡ None
  IsUndefined events (Some found) = IsUndefinedAt events found.0 found.1

  -- what the lines came to: the history of the run of their events, in which nothing happens after an undefined one
  pub record IsRan (lines : List Line) (ran : Ran) : Type 0 where
    pub history : map entry_of ran.history ≡ (run (events_of lines)).history
    pub within : AreWithin (events_of lines)
    pub undefined : IsUndefined (events_of lines) ran.undefined

  -- an event would leave too many live cells, the first one, and its line begins here
  pub record IsTooMany (lines : List Line) (place : Place) : Type 0 where
    pub before : ℕ
    pub event : Event Value
    pub there : slice_get (events_of lines) before ≡ Some event
    pub within : AreWithin (take before (events_of lines))
    pub over : leaves_too_many (outcome (take before (events_of lines)) event) ≡ true
    pub placed : place_of lines before ≡ Some place

  abbrev pub IsFault : List Line → ReplayFault → Type 0
  IsFault lines fault.NoMemory = Unit {0}
  IsFault lines (fault.TooManyCells place) = IsTooMany lines place
