-- Laws of runs, over any machine.
use Rattle.std.specs.Prelude.{◌≡◌, ℕ, ◌≤◌, Bool, List, ◌∷◌, ◌++◌, length, Some, None}
use Rattle.gv_base.specs.declared.reason.Reason.{Reason}
use Rattle.gv_spec.specs.Event as event
use Rattle.gv_spec.specs.Event.{Event}
use Rattle.gv_base.specs.declared.answer.Answer.TheVariants.{Undefined}
use Rattle.gv_spec.specs.Machine.{Machine}
use Rattle.gv_spec.specs.Runs.{RunState, living, crash_made, outcome_of, Happens, IsImpossible, after, run_of}

module _ (W T R V : Type 0) where
  -- an event that isn't possible changes nothing
  abbrev pub ChangesNothing : Type 0
  ChangesNothing = (machine : Machine W T R V) (allows : ℕ → List V → Bool) (s : RunState W T R V) (e : Event V)
      → IsImpossible machine allows s e → after machine allows s e ≡ s

  -- no call before a boot
  abbrev pub NoCallBeforeBoot : Type 0
  NoCallBeforeBoot = (machine : Machine W T R V) (allows : ℕ → List V → Bool) (s : RunState W T R V) (op : ℕ) (args : List V)
      → s.receiver ≡ None → IsImpossible machine allows s (event.Call op args)

  -- no step of a thread that doesn't exist, has ended or was dropped
  abbrev pub NoStepOfEnded : Type 0
  NoStepOfEnded = (machine : Machine W T R V) (allows : ℕ → List V → Bool) (s : RunState W T R V) (number extra : ℕ)
      → living s.threads number ≡ None → IsImpossible machine allows s (event.Step number extra)

  -- a thread that has ended or was dropped stays so, and no other gets its number
  abbrev pub EndedStays : Type 0
  EndedStays = (machine : Machine W T R V) (allows : ℕ → List V → Bool) (s : RunState W T R V) (e : Event V) (number : ℕ)
      → number ≤ length s.threads → living s.threads number ≡ None → living (after machine allows s e).threads number ≡ None

  -- a crash is always possible
  abbrev pub CrashHappens : Type 0
  CrashHappens = (machine : Machine W T R V) (allows : ℕ → List V → Bool) (s : RunState W T R V)
      → s.fault ≡ None → Happens machine allows s event.Crash (crash_made machine s)

  -- a crash drops every thread
  abbrev pub CrashDrops : Type 0
  CrashDrops = (machine : Machine W T R V) (allows : ℕ → List V → Bool) (s : RunState W T R V) (number : ℕ)
      → s.fault ≡ None → number ≤ length s.threads → living (after machine allows s event.Crash).threads number ≡ None

  -- no failure of a disk that may not fail
  abbrev pub NoFail : Type 0
  NoFail = (machine : Machine W T R V) (allows : ℕ → List V → Bool) (s : RunState W T R V) (disk : ℕ)
      → machine.failed disk s.world ≡ None → IsImpossible machine allows s (event.Fail disk)

  -- after an undefined step nothing is possible
  abbrev pub UndefinedStays : Type 0
  UndefinedStays = (machine : Machine W T R V) (allows : ℕ → List V → Bool) (s : RunState W T R V) (e : Event V) (reason : Reason)
      → s.fault ≡ Some reason → IsImpossible machine allows s e

  -- a run that ends without a fault has met no undefined step
  abbrev pub DefinedThroughout : Type 0
  DefinedThroughout = (machine : Machine W T R V) (allows : ℕ → List V → Bool) (front rest : List (Event V)) (e : Event V) (reason : Reason)
      → (run_of machine allows (front ++ e ∷ rest)).fault ≡ None → outcome_of machine allows (run_of machine allows front) e ≡ Undefined reason → ⊥
