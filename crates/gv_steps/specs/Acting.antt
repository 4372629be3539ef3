-- What a step of a thread does whose next command is an action.
use Rattle.std.specs.Prelude.{◌≡◌, ℕ, [], Option, Some, None}
use Rattle.gv_base.specs.declared.reason.Reason.TheVariants.{Kind}
use Rattle.gv_base.specs.declared.answer.Answer.{Answer}
use Rattle.gv_base.specs.declared.answer.Answer.TheVariants.{Next, Blocked, Undefined}
use Rattle.gv_base.specs.declared.answers.Place.{Place}
use Rattle.gv_world.specs.Answers.{and_then}
use Rattle.gv_world.specs.Store.{Store as World}
use Rattle.gv_lang.specs.Tree.{Action, Do, Program}
use Rattle.gv_lang.specs.Todo.{head}
use Rattle.gv_lang.specs.Threads.{Thread}
use Rattle.gv_lang.specs.Table.{Effect, acted}
use Rattle.gv_lang.specs.Step.{Stepped, GoesOn, settled, stepped}
use Rattle.gv_thread.specs.Parts.{after_head}

-- what an operand of the wanted kind gives
abbrev pub or_kind : {A : Type 0} → Option A → Answer A
or_kind (Some a) = Next a
or_kind None = Undefined Kind

-- what an effect leaves of a thread that goes on past its next command
abbrev pub ending : Thread → World → Answer Effect → Answer Stepped
ending th w row = and_then row (settled th w (Some (after_head th.top.todo)))

-- the step of a thread whose next command is this action
abbrev pub step_of : Program → ℕ → Thread → World → Action → Answer Stepped
step_of g extra th w a = ending th w (acted g extra th.begun th.top.locals w a)

-- the action's step, in every program and whatever the extra room: the thread and the store that it leaves, or
-- that it can't be taken or is undefined, which leaves both as they were
abbrev pub Acts : Action → Thread → World → Answer (Unit {0}) → Thread → World → Type 0
Acts a old before (Next done) new after = (g : Program) (extra : ℕ) → step_of g extra old before a ≡ Next (GoesOn after new [])
Acts a old before Blocked new after =
    ((g : Program) (extra : ℕ) → step_of g extra old before a ≡ Blocked) × (new ≡ old) × (after ≡ before)
Acts a old before (Undefined reason) new after =
    ((g : Program) (extra : ℕ) → step_of g extra old before a ≡ Undefined reason) × (new ≡ old) × (after ≡ before)

-- the same in one program and with one extra room
abbrev pub ActsIn : Program → ℕ → Action → Thread → World → Answer (Unit {0}) → Thread → World → Type 0
ActsIn g extra a old before (Next done) new after = step_of g extra old before a ≡ Next (GoesOn after new [])
ActsIn g extra a old before Blocked new after = (step_of g extra old before a ≡ Blocked) × (new ≡ old) × (after ≡ before)
ActsIn g extra a old before (Undefined reason) new after = (step_of g extra old before a ≡ Undefined reason) × (new ≡ old) × (after ≡ before)

-- an action's step is a step of each thread whose next command it is
pub record StepsAct : Type 0 where
  pub steps : (g : Program) (extra : ℕ) (th : Thread) (w : World) (a : Action) (place : Place)
      → head th.top.todo ≡ Some (Do a place) → stepped g extra th w ≡ step_of g extra th w a
