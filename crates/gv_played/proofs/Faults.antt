-- A possible event leaves no fault where there was none.
use Rattle.std.proofs.Common.{◌≡◌, ℕ, Bool, true, false, List, Option, Some, None, Result, Ok, Err, refl, subst, ◌∙◌}
use Rattle.gv_base.specs.declared.answer.Answer.{Answer}
use Rattle.gv_base.specs.declared.answer.Answer.TheVariants.{Next, Blocked, Undefined}
use Rattle.gv_base.specs.declared.reason.Reason.{Reason}
use Rattle.gv_spec.specs.Event as event
use Rattle.gv_spec.specs.Event.{Event}
use Rattle.gv_spec.specs.Machine.{Stepped, GoesOn, Returns, Machine}
use Rattle.gv_spec.specs.Runs.{Role, Recovers, Answers, Spawned, RunState, living, call_started, answered, disk_failed, unless_undefined, frame_returned, step_taken, step_made, call_made, event_made, outcome_of}

module _ {W T R V : Type 0} (machine : Machine W T R V) (allows : ℕ → List V → Bool) (s : RunState W T R V) where
  abbrev KeepsFault : Answer (RunState W T R V) → Type 0
  KeepsFault (Next new) = new.fault ≡ s.fault
  KeepsFault Blocked = Unit {0}
  KeepsFault (Undefined reason) = Unit {0}

  started : (op : ℕ) (args : List V) (called : Option (W × T)) → KeepsFault (call_started s op args called)
  started op args None = tt
  started op args (Some called) = refl

  call : (op : ℕ) (args : List V) (receiver : Option R) (allowed : Bool) → KeepsFault (call_made machine s op args receiver allowed)
  call op args (Some r) true = started op args (machine.called r op args s.world)
  call op args (Some r) false = tt
  call op args None allowed = tt

  answer : (old : RunState W T R V) (n : ℕ) (reply : Result V Reason) → old.fault ≡ s.fault → KeepsFault (answered old n reply)
  answer old n (Ok reply) e = e
  answer old n (Err reason) e = tt

  returned : (old : RunState W T R V) (role : Role) (result : R) → old.fault ≡ s.fault → KeepsFault (frame_returned machine old role result)
  returned old Recovers result e = e
  returned old (Answers n) result e = answer old n (machine.reply result old.world) e
  returned old Spawned result e = e

  taken : (number : ℕ) (role : Role) (stepped : Answer (Stepped W T R)) → KeepsFault (step_taken machine s number role stepped)
  taken number role (Next (GoesOn world thread others)) = refl
  taken number role (Next (Returns world result)) = returned _ role result refl
  taken number role Blocked = tt
  taken number role (Undefined reason) = tt

  step : (number extra : ℕ) (found : Option (Role × T)) → KeepsFault (step_made machine s number extra found)
  step number extra None = tt
  step number extra (Some thread) = taken number thread.0 (machine.stepped extra thread.1 s.world)

  fail : (world : Option W) → KeepsFault (disk_failed s world)
  fail None = tt
  fail (Some world) = refl

  made : (e : Event V) → KeepsFault (event_made machine allows s e)
  made (event.Call op args) = call op args s.receiver (allows op args)
  made (event.Step number extra) = step number extra (living s.threads number)
  made event.Crash = refl
  made (event.Fail disk) = fail (machine.failed disk s.world)

  possible : (fault : Option Reason) (answer : Answer (RunState W T R V)) (new : RunState W T R V)
      → unless_undefined fault answer ≡ Next new → answer ≡ Next new
  possible None answer new e = e
  possible (Some reason) answer new e = absurd cc

  pub next_fault : (e : Event V) (new : RunState W T R V) → outcome_of machine allows s e ≡ Next new → s.fault ≡ None → new.fault ≡ None
  next_fault e new h none = subst KeepsFault (possible s.fault (event_made machine allows s e) new h) (made e) ∙ none
