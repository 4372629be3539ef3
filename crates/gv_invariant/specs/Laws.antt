-- The invariant is kept by every event, and explains the history.
use Rattle.std.specs.Prelude.{◌≡◌, ℕ, Bool, List}
use Rattle.gv_base.specs.declared.answer.Answer.{Answer}
use Rattle.gv_base.specs.declared.answer.Answer.TheVariants.{Next, Blocked}
use Rattle.gv_terms.specs.declared.value.Value.{Value}
use Rattle.gv_spec.specs.Event as event
use Rattle.gv_spec.specs.Event.{Event}
use Rattle.gv_spec.specs.Runs.{outcome_of, first_state}
use Rattle.gv_spec.specs.WalkLaws.{HasExplanation}
use Rattle.gv_runs.specs.Machine.{machine_of}
use Rattle.gv_invariant.specs.Invariant.{Run, Invariant}
use Rattle.gv_invariant.specs.Justified.{IsJustified, BeginsFirst}
use Rattle.gv_invariant.specs.Outlines.{Outline}

-- an event that isn't possible, or that leads to a state with the invariant; it is not undefined
pub data Keeps (o : Outline) : Answer Run → Type 0 where
  waits : Keeps o Blocked
  goes_on : {s : Run} → Invariant o s → Keeps o (Next s)

abbrev pub outcome : Outline → Run → Event Value → Answer Run
outcome o s e = outcome_of (machine_of o.program o.setting) o.proof.atomic.allows s e

-- the history of a state with the invariant has an explanation
abbrev pub ExplainedLaw : Type 0
ExplainedLaw = (o : Outline) (s : Run) → Invariant o s → HasExplanation o.proof.atomic s.history

-- before the first event: recovery is about to run, and nothing else
abbrev pub FirstLaw : Type 0
FirstLaw = (o : Outline) → IsJustified o → BeginsFirst o → Invariant o (first_state (machine_of o.program o.setting))

-- a disk fails
abbrev pub FailLaw : Type 0
FailLaw = (o : Outline) (s : Run) → Invariant o s → (disk : ℕ) → Keeps o (outcome o s (event.Fail disk))

-- a crash, at any moment: recovery begins anew
abbrev pub CrashLaw : Type 0
CrashLaw = (o : Outline) (s : Run) → IsJustified o → Invariant o s → Keeps o (outcome o s event.Crash)

-- a step of any thread, by whatever rule: of a command in one step or in two, a call, a return, an answer, a thread that starts or ends, the boot
abbrev pub StepLaw : Type 0
StepLaw = (o : Outline) (s : Run) → IsJustified o → Invariant o s → (number extra : ℕ) → Keeps o (outcome o s (event.Step number extra))
