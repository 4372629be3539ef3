-- Runs of a machine: what each event does, and the history that is left.
use Rattle.std.specs.Prelude.{◌≡◌, ℕ, zero, suc, Bool, true, false, List, [], ◌∷◌, ◌++◌, map, fold, slice_get, slice_set, Option, Some, None, Result, Ok, Err, option_and_then}
use Rattle.gv_base.specs.declared.reason.Reason.{Reason}
use Rattle.gv_spec.specs.Event as event
use Rattle.gv_spec.specs.Entry as entry
use Rattle.gv_spec.specs.Event.{Event}
use Rattle.gv_spec.specs.Entry.{Entry}
use Rattle.gv_base.specs.declared.answer.Answer.{Answer}
use Rattle.gv_base.specs.declared.answer.Answer.TheVariants.{Next, Blocked, Undefined}
use Rattle.gv_spec.specs.Machine.{Stepped, GoesOn, Returns, Machine}

-- what a thread is there for
pub data Role : Type 0 where
  Recovers : Role
  -- it answers the call under this number
  Answers : ℕ → Role
  -- another thread started it
  Spawned : Role

pub record RunState (W T R V : Type 0) : Type 0 where
  pub world : W
  -- what the last recovery returned; none until it returns, and none again from a crash on
  pub receiver : Option R
  -- the threads from number 1 on; none where a thread has ended or was dropped
  pub threads : List (Option (Role × T))
  -- how many calls there were
  pub calls : ℕ
  pub history : List (Entry V)
  -- why a step was undefined, once one was
  pub fault : Option Reason

-- the thread under a number, where it exists, has not ended and was not dropped
abbrev pub living : {A : Type 0} → List (Option A) → ℕ → Option A
living threads zero = None
living threads (suc place) = option_and_then (λ thread. thread) (slice_get threads place)

-- the threads with another state of the one under a number
abbrev pub replaced : {A : Type 0} → List (Option A) → ℕ → Option A → List (Option A)
replaced threads zero thread = threads
replaced threads (suc place) thread = slice_set threads place thread

module _ {W T R V : Type 0} where
  -- a call's thread, in the world with its arguments, gets the next numbers
  abbrev pub call_started : RunState W T R V → ℕ → List V → Option (W × T) → Answer (RunState W T R V)
  call_started s op args None = Blocked
  call_started s op args (Some called) = Next (record s {
    world = called.0;
    threads = s.threads ++ Some (Answers (suc s.calls), called.1) ∷ [];
    calls = suc s.calls;
    history = s.history ++ entry.Call (suc s.calls) op args ∷ [];
  })

  -- the thread under a number ended, and left this world
  abbrev pub thread_ended : RunState W T R V → ℕ → W → RunState W T R V
  thread_ended s number world = record s {
    world = world;
    threads = replaced s.threads number None;
  }

  -- recovery returned: calls are possible from here on, on what it returned
  abbrev pub booted : RunState W T R V → R → RunState W T R V
  booted s receiver = record s {
    receiver = Some receiver;
    history = s.history ++ entry.Boot ∷ [];
  }

  -- call n answers with its reply, where that can be read
  abbrev pub answered : RunState W T R V → ℕ → Result V Reason → Answer (RunState W T R V)
  answered s n (Ok reply) = Next (record s { history = s.history ++ entry.Answer n reply ∷ [] })
  answered s n (Err reason) = Undefined reason

  -- a disk fails, where it may
  abbrev pub disk_failed : RunState W T R V → Option W → Answer (RunState W T R V)
  disk_failed s None = Blocked
  disk_failed s (Some world) = Next (record s { world = world })

  -- after an undefined step nothing is possible
  abbrev pub unless_undefined : Option Reason → Answer (RunState W T R V) → Answer (RunState W T R V)
  unless_undefined None answer = answer
  unless_undefined (Some reason) answer = Blocked

  -- an event that isn't possible changes nothing
  abbrev pub settled : RunState W T R V → Answer (RunState W T R V) → RunState W T R V
  settled s (Next next) = next
  settled s Blocked = s
  settled s (Undefined reason) = record s { fault = Some reason }

module _ {W T R V : Type 0} (machine : Machine W T R V) where
  -- as after a crash: no thread but one that runs the recovery
  abbrev pub first_state : RunState W T R V
  first_state = record {
    world = machine.first_world;
    receiver = None;
    threads = Some (Recovers, machine.recovery) ∷ [];
    calls = 0;
    history = [];
    fault = None;
  }

  -- every thread is dropped, and a new one runs the recovery
  abbrev pub crash_made : RunState W T R V → RunState W T R V
  crash_made s = record s {
    world = machine.crashed s.world;
    receiver = None;
    threads = map (λ thread. None) s.threads ++ Some (Recovers, machine.recovery) ∷ [];
    history = s.history ++ entry.Crash ∷ [];
  }

  -- the first frame of a thread returned, in the state in which the thread has ended
  abbrev pub frame_returned : RunState W T R V → Role → R → Answer (RunState W T R V)
  frame_returned s Recovers result = Next (booted s result)
  frame_returned s (Answers n) result = answered s n (machine.reply result s.world)
  frame_returned s Spawned result = Next s

  -- what a thread's step makes of the run; threads that it started get the next numbers
  abbrev pub step_taken : RunState W T R V → ℕ → Role → Answer (Stepped W T R) → Answer (RunState W T R V)
  step_taken s number role (Next (GoesOn world thread started)) = Next (record s {
    world = world;
    threads = replaced s.threads number (Some (role, thread)) ++ map (λ other. Some (Spawned, other)) started;
  })
  step_taken s number role (Next (Returns world result)) = frame_returned (thread_ended s number world) role result
  step_taken s number role Blocked = Blocked
  step_taken s number role (Undefined reason) = Undefined reason

  -- only a thread that exists, has not ended and was not dropped
  abbrev pub step_made : RunState W T R V → ℕ → ℕ → Option (Role × T) → Answer (RunState W T R V)
  step_made s number extra None = Blocked
  step_made s number extra (Some thread) = step_taken s number thread.0 (machine.stepped extra thread.1 s.world)

  -- only while booted, and only a call that is allowed
  abbrev pub call_made : RunState W T R V → ℕ → List V → Option R → Bool → Answer (RunState W T R V)
  call_made s op args (Some receiver) true = call_started s op args (machine.called receiver op args s.world)
  call_made s op args (Some receiver) false = Blocked
  call_made s op args None allowed = Blocked

-- `allows op args` says whether calls of the operation with these arguments may be made
module _ {W T R V : Type 0} (machine : Machine W T R V) (allows : ℕ → List V → Bool) where
  -- what comes of an event in a state with no undefined step
  abbrev pub event_made : RunState W T R V → Event V → Answer (RunState W T R V)
  event_made s (event.Call op args) = call_made machine s op args s.receiver (allows op args)
  event_made s (event.Step number extra) = step_made machine s number extra (living s.threads number)
  event_made s event.Crash = Next (crash_made machine s)
  event_made s (event.Fail disk) = disk_failed s (machine.failed disk s.world)

  -- what comes of an event: the next state, Blocked where the event isn't possible, or a reason why it is undefined
  abbrev pub outcome_of : RunState W T R V → Event V → Answer (RunState W T R V)
  outcome_of s e = unless_undefined s.fault (event_made s e)

  -- the event is possible, and takes s to the next state
  abbrev pub Happens : RunState W T R V → Event V → RunState W T R V → Type 0
  Happens s e next = outcome_of s e ≡ Next next

  abbrev pub IsImpossible : RunState W T R V → Event V → Type 0
  IsImpossible s e = outcome_of s e ≡ Blocked

  -- the state after an event, possible or not
  abbrev pub after : RunState W T R V → Event V → RunState W T R V
  after s e = settled s (outcome_of s e)

  -- the state after a list of events from the first state on
  abbrev pub run_of : List (Event V) → RunState W T R V
  run_of events = fold after (first_state machine) events

  abbrev pub history_of : List (Event V) → List (Entry V)
  history_of events = (run_of events).history
