-- Steps that end their threads.
use Rattle.std.proofs.Common.{◌≡◌, ℕ, Option, Some, None, Result, Ok, sym, ap, ◌∙◌, refl, subst}
use Rattle.std.specs.declared.alloc.Global.{Global}
use Rattle.std.specs.Prelude.{Vec}
use Rattle.gv_base.specs.declared.answer.Answer.{Answer}
use Rattle.gv_base.specs.declared.answer.Answer.TheVariants.{Next, Undefined}
use Rattle.gv_base.specs.declared.reason.Reason.TheVariants.{Kind}
use Rattle.gv_base.specs.declared.val.Val.{Val}
use Rattle.gv_lang.specs.Step as step
use Rattle.gv_lang.specs.Threads.{Thread}
use Rattle.gv_lang.specs.Tree.{Program}
use Rattle.gv_spec.specs.Runs as runs
use Rattle.gv_spec.specs.Runs.{thread_ended, frame_returned, step_taken, step_made}
use Rattle.gv_store.specs.declared.grow.Grow.{Grow}
use Rattle.gv_runs.specs.Laws.{State}
use Rattle.gv_runs.specs.Machine.{Setting, left_by, machine_of}
use Rattle.gv_machine.specs.declared.ending.Ending.TheVariants as ending
use Rattle.gv_machine.specs.declared.running.Role.{Role}
use Rattle.gv_machine.specs.Ending.{ComesTo}
use Rattle.gv_machine.specs.Outcomes.{Makes}
use Rattle.gv_machine.specs.Seen.{role_of}

module _ (g : Program) (setting : Setting) (old : State) (number extra : ℕ) where
  abbrev made : Option (runs.Role × Thread) → Answer State
  made found = step_made (machine_of g setting) old number extra found

  abbrev taken : runs.Role → Answer step.Stepped → Answer State
  taken role wanted = step_taken (machine_of g setting) old number role (left_by wanted)

  pub step_undefined : (found : Option (runs.Role × Thread)) (role : Role) → ComesTo found (ending.Ends role None) → made found ≡ Undefined Kind
  step_undefined None role h = absurd h
  step_undefined (Some t) role h = ap (taken t.0) (h.1 g extra old.world)

  pub step_returns : (found : Option (runs.Role × Thread)) (role : Role) (values : Vec Val Global) → ComesTo found (ending.Ends role (Some values))
      → made found ≡ frame_returned (machine_of g setting) (thread_ended old number old.world) (role_of role) values.items
  step_returns None role values h = absurd h
  step_returns (Some t) role values h =
      ap (taken t.0) (h.1 g extra old.world)
      ∙ ap (λ r. frame_returned (machine_of g setting) (thread_ended old number old.world) r values.items) h.0
