-- The same event so many times.
use Rattle.std.specs.Prelude.{◌≡◌, ◌+◌, ◌<◌, ℕ, false, true, List, None, fold, replicate}
use Rattle.gv_base.specs.declared.answer.Answer.{Answer}
use Rattle.gv_base.specs.declared.answer.Answer.TheVariants.{Undefined}
use Rattle.gv_base.specs.declared.reason.Reason.{Reason}
use Rattle.gv_lang.specs.declared.program.Program.{Program}
use Rattle.gv_terms.specs.declared.value.Value.{Value}
use Rattle.gv_atomic.specs.declared.spec.Spec.{Spec}
use Rattle.gv_spec.specs.Atomic.{atomic_of}
use Rattle.gv_spec.specs.Event.{Event}
use Rattle.gv_spec.specs.Runs.{outcome_of, after}
use Rattle.gv_runs.specs.Laws.{State}
use Rattle.gv_machine.specs.Machines.{of_package}
use Rattle.gv_machine.specs.Outcomes.{leaves_too_many}
use Rattle.gv_played.specs.declared.line.Once.{Once}
use Rattle.gv_played.specs.declared.line.Once.TheVariants as once
use Rattle.gv_played.specs.declared.line.Played.{Played}
use Rattle.gv_played.specs.declared.line.Played.TheVariants as played

module _ (g : Program) (s : Spec) where
  -- the state after these events
  abbrev pub from : State → List (Event Value) → State
  from state events = fold (after (of_package g s) (atomic_of s).allows) state events

  abbrev pub comes : State → Event Value → Answer State
  comes state e = outcome_of (of_package g s) (atomic_of s).allows state e

  -- an event that isn't undefined and leaves no more live cells than there may be
  pub record Goes (state : State) (e : Event Value) (new : State) : Type 0 where
    pub is : new ≡ after (of_package g s) (atomic_of s).allows state e
    pub within : leaves_too_many (comes state e) ≡ false
    pub defined : state.fault ≡ None → new.fault ≡ None

  -- what comes of one event
  abbrev pub Happens : State → Event Value → Once → State → Type 0
  Happens state e once.Goes new = Goes state e new
  Happens state e (once.Undefined reason) new = (comes state e ≡ Undefined reason) × (new ≡ after (of_package g s) (atomic_of s).allows state e)
  Happens state e once.TooMany new = leaves_too_many (comes state e) ≡ true
  Happens state e once.NoMemory new = Unit {0}

  -- the event so many times, with none of them undefined or of too many live cells
  pub record IsThrough (state : State) (e : Event Value) (count : ℕ) (new : State) : Type 0 where
    pub is : new ≡ from state (replicate count e)
    pub within : (i : ℕ) → i < count → leaves_too_many (comes (from state (replicate i e)) e) ≡ false
    pub defined : state.fault ≡ None → new.fault ≡ None

  -- the event under a number, counted from 1, is undefined
  pub record IsStopped (state : State) (e : Event Value) (count number : ℕ) (reason : Reason) (new : State) : Type 0 where
    pub before : ℕ
    pub last : State
    pub some : before < count
    pub numbered : number ≡ before + 1
    pub through : IsThrough state e before last
    pub undefined : comes last e ≡ Undefined reason
    pub is : new ≡ after (of_package g s) (atomic_of s).allows last e

  -- the event would leave too many live cells after so many times
  pub record IsOver (state : State) (e : Event Value) (count before : ℕ) : Type 0 where
    pub last : State
    pub some : before < count
    pub through : IsThrough state e before last
    pub over : leaves_too_many (comes last e) ≡ true

  abbrev pub Plays : State → Event Value → ℕ → Played → State → Type 0
  Plays state e count played.Through new = IsThrough state e count new
  Plays state e count (played.Undefined number reason) new = IsStopped state e count number reason new
  Plays state e count (played.TooMany before) new = IsOver state e count before
  Plays state e count played.NoMemory new = Unit {0}
