-- What a justified outline promises of whole runs.
use Rattle.std.specs.Prelude.{◌≡◌, ℕ, List, None}
use Rattle.gv_base.specs.declared.val.Val.{Val}
use Rattle.gv_terms.specs.declared.value.Value.{Value}
use Rattle.gv_world.specs.Store.{Store as World}
use Rattle.gv_lang.specs.Threads.{Thread}
use Rattle.gv_spec.specs.Event as event
use Rattle.gv_spec.specs.Event.{Event}
use Rattle.gv_spec.specs.Machine.{Machine}
use Rattle.gv_spec.specs.Runs.{run_of, history_of}
use Rattle.gv_spec.specs.WalkLaws.{HasExplanation}
use Rattle.gv_runs.specs.Machine.{machine_of}
use Rattle.gv_invariant.specs.Invariant.{Run, Invariant}
use Rattle.gv_invariant.specs.Justified.{IsJustified, BeginsFirst}
use Rattle.gv_invariant.specs.Laws.{Keeps, outcome}
use Rattle.gv_invariant.specs.Outlines.{Outline}

-- a call starts, of any operation with any arguments: the invariant holds after it, where the call is possible
abbrev pub CallLaw : Type 0
CallLaw = (o : Outline) (s : Run) → IsJustified o → Invariant o s → (op : ℕ) (args : List Value) → Keeps o (outcome o s (event.Call op args))

abbrev pub machine : Outline → Machine World Thread (List Val) Value
machine o = machine_of o.program o.setting

-- after any events, possible ones or not: no step was undefined, and there is an explanation in which each answered call acts once and each crashed call once or never
pub record IsExplained (o : Outline) (events : List (Event Value)) : Type 0 where
  pub defined : (run_of (machine o) o.proof.atomic.allows events).fault ≡ None
  pub explained : HasExplanation o.proof.atomic (history_of (machine o) o.proof.atomic.allows events)

-- where every block is justified, and the crash invariant stands before the first event, every run is explained
abbrev pub RunLaw : Type 0
RunLaw = (o : Outline) → IsJustified o → BeginsFirst o → (events : List (Event Value)) → IsExplained o events
