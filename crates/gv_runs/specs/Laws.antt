-- What holds of the runs of every program, in every setting.
use Rattle.std.specs.Prelude.{◌≡◌, ℕ, suc, ◌<◌, ◌^◌, Bool, List, [], ◌∷◌, ◌++◌, Some, None, IsTrue, length}
use Rattle.std.specs.List.{AllByRecursion}
use Rattle.gv_base.specs.declared.reason.Reason.{Reason}
use Rattle.gv_base.specs.declared.answer.Answer.TheVariants.{Blocked, Undefined}
use Rattle.gv_base.specs.declared.val.Val.{Val}
use Rattle.gv_world.specs.Store.{Store as World}
use Rattle.gv_world.specs.Disks.{fail_disk}
use Rattle.gv_lang.specs.Tree.{Program}
use Rattle.gv_lang.specs.Threads.{Thread}
use Rattle.gv_lang.specs.Step.{stepped}
use Rattle.gv_lang.specs.Calls.{recovery, is_buffer, reply}
use Rattle.gv_terms.specs.declared.value.Value.{Value}
use Rattle.gv_terms.specs.declared.value.Value.TheVariants as value
use Rattle.gv_atomic.specs.declared.spec.Spec.{Spec}
use Rattle.gv_spec.specs.Event as event
use Rattle.gv_spec.specs.Runs.{Role, Recovers, RunState, living, outcome_of, Happens, IsImpossible, after}
use Rattle.gv_spec.specs.Atomic.{atomic_of}
use Rattle.gv_runs.specs.Machine.{Setting, setting_of, machine_of}
use Rattle.gv_runs.specs.Agreeing.{Agree}

abbrev pub State : Type 0
State = RunState World Thread (List Val) Value

abbrev pub Allows : Type 0
Allows = ℕ → List Value → Bool

-- reading a reply is never a matter of waiting
abbrev pub RepliesNeverWait : Type 0
RepliesNeverWait = (w : World) (vs : List Val) → reply w vs ≡ Blocked → ⊥

-- the failure of a disk is possible or not, and never undefined
abbrev pub FailuresAreDefined : Type 0
FailuresAreDefined = (w : World) (disk : ℕ) (reason : Reason) → fail_disk w disk ≡ Undefined reason → ⊥

-- what a crash leaves: the disks as they were, no object, no receiver, and behind the threads that were a new one,
-- on recovery; calls keep their numbers
pub record IsCrashed (g : Program) (old new : State) : Type 0 where
  pub disks : new.world.disks ≡ old.world.disks
  pub objects : new.world.objects ≡ []
  pub receiver : new.receiver ≡ None
  pub recovers : living new.threads (suc (length old.threads)) ≡ Some (Recovers, recovery g)
  pub calls : new.calls ≡ old.calls

abbrev pub CrashLeaves : Type 0
CrashLeaves = (g : Program) (setting : Setting) (allows : Allows) (s : State) → s.fault ≡ None
    → IsCrashed g s (after (machine_of g setting) allows s event.Crash)

-- where the command of a thread waits, its step isn't possible; where the command is undefined, the step is, for the
-- same reason
pub record IsStepOf (g : Program) (setting : Setting) (allows : Allows) (s : State) (number extra : ℕ) (th : Thread) : Type 0 where
  pub waits : stepped g extra th s.world ≡ Blocked → IsImpossible (machine_of g setting) allows s (event.Step number extra)
  pub undefined : (reason : Reason) → stepped g extra th s.world ≡ Undefined reason
      → outcome_of (machine_of g setting) allows s (event.Step number extra) ≡ Undefined reason

abbrev pub StepsAreOfThreads : Type 0
StepsAreOfThreads = (g : Program) (setting : Setting) (allows : Allows) (s : State) (number extra : ℕ) (role : Role) (th : Thread)
    → s.fault ≡ None → living s.threads number ≡ Some (role, th) → IsStepOf g setting allows s number extra th

-- numbers below 2 ^ 64, and byte strings that a buffer holds
abbrev pub IsInRange : Value → Type 0
IsInRange (value.Word n) = n < 2 ^ 64
IsInRange (value.Bytes x) = IsTrue (is_buffer x)
IsInRange _ = Unit {0}

-- where interfaces agree, a call is possible while there is a receiver, if its arguments are allowed and in range
abbrev pub CallsStart : Type 0
CallsStart = (g : Program) (spec : Spec) → Agree g spec → (s : State) (receiver : List Val) (op : ℕ) (args : List Value)
    → s.fault ≡ None → s.receiver ≡ Some receiver → IsTrue ((atomic_of spec).allows op args) → AllByRecursion IsInRange args
    → (next : State) × Happens (machine_of g (setting_of spec)) (atomic_of spec).allows s (event.Call op args) next
