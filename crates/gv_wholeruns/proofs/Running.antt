-- Every state that a list of events leads to has the invariant.
use Rattle.std.proofs.Common.{◌≡◌, ℕ, List, [], ◌∷◌, None, refl}
use Rattle.std.specs.Prelude.{fold}
use Rattle.gv_base.specs.declared.answer.Answer.{Answer}
use Rattle.gv_base.specs.declared.answer.Answer.TheVariants.{Next, Blocked, Undefined}
use Rattle.gv_terms.specs.declared.value.Value.{Value}
use Rattle.gv_spec.specs.Event as event
use Rattle.gv_spec.specs.Event.{Event}
use Rattle.gv_spec.specs.Runs.{settled, after, first_state}
use Rattle.gv_invariant.specs.Invariant.{Run, Invariant}
use Rattle.gv_invariant.specs.Justified.{IsJustified, BeginsFirst}
use Rattle.gv_invariant.specs.Laws.{Keeps, waits, goes_on, outcome}
use Rattle.gv_invariant.specs.Outlines.{Outline}
use Rattle.gv_invariant.proofs.Crashing.{crash_law, first_law}
use Rattle.gv_invariant.proofs.Explaining.{explained_law}
use Rattle.gv_invariant.proofs.Failing.{fail_law}
use Rattle.gv_invariant.proofs.Turning.{step_law}
use Rattle.gv_wholeruns.specs.Laws.{RunLaw, machine}
use Rattle.gv_wholeruns.proofs.Starting.{call_law}

module _ (o : Outline) (j : IsJustified o) where
  kept : (s : Run) → Invariant o s → (answer : Answer Run) → Keeps o answer → Invariant o (settled s answer)
  kept s i _ waits = i
  kept s i _ (goes_on then) = then

  one : (s : Run) → Invariant o s → (e : Event Value) → Keeps o (outcome o s e)
  one s i (event.Call op args) = call_law o s j i op args
  one s i (event.Step number extra) = step_law o s j i number extra
  one s i event.Crash = crash_law o s j i
  one s i (event.Fail disk) = fail_law o s i disk

  pub all : (events : List (Event Value)) (s : Run) → Invariant o s → Invariant o (fold (after (machine o) o.proof.atomic.allows) s events)
  all [] s i = i
  all (e ∷ events) s i = all events (after (machine o) o.proof.atomic.allows s e) (kept s i (outcome o s e) (one s i e))

pub run_law : RunLaw
run_law o j begins events =
    let i = all o j events (first_state (machine o)) (first_law o j begins) in
    record { defined = i.fault; explained = explained_law o _ i }
