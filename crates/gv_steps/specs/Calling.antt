-- Steps of commands that start threads and of those that return.
use Rattle.std.specs.Prelude.{◌≡◌, ℕ, List, [], ◌∷◌, Option, Some, None, Vec}
use Rattle.std.specs.declared.alloc.Global.{Global}
use Rattle.gv_base.specs.declared.answer.Answer.{Answer}
use Rattle.gv_base.specs.declared.answer.Answer.TheVariants.{Next, Blocked, Undefined}
use Rattle.gv_base.specs.declared.answers.Place.{Place}
use Rattle.gv_base.specs.declared.val.Val.{Val}
use Rattle.gv_world.specs.Answers.{and_then}
use Rattle.gv_world.specs.Store.{Store as World}
use Rattle.gv_lang.specs.Tree.{Expr, Action, Return, Program}
use Rattle.gv_lang.specs.Todo.{head}
use Rattle.gv_lang.specs.Values.{values}
use Rattle.gv_lang.specs.Threads as plain
use Rattle.gv_lang.specs.Table.{as_values}
use Rattle.gv_lang.specs.Step.{Stepped, GoesOn, Returns, returned, stepped}
use Rattle.gv_thread.specs.declared.frame.Thread.{Thread}
use Rattle.gv_thread.specs.Frames.{thread_of}
use Rattle.gv_steps.specs.Acting.{step_of}

-- the step of an action in one program and with one extra room, where it hands out the thread that it started
abbrev pub Starts : Program → ℕ → Action → plain.Thread → World → Answer Thread → plain.Thread → Type 0
Starts g extra a old w (Next started) new = step_of g extra old w a ≡ Next (GoesOn w new (thread_of started ∷ []))
Starts g extra a old w Blocked new = (step_of g extra old w a ≡ Blocked) × (new ≡ old)
Starts g extra a old w (Undefined reason) new = (step_of g extra old w a ≡ Undefined reason) × (new ≡ old)

-- the step of a thread whose next command returns these
abbrev pub return_of : plain.Thread → World → List Expr → Answer Stepped
return_of th w es = and_then (as_values (values th.top.locals es)) (λ vs. Next (returned th.below w th.top.results vs))

-- it goes on in the frame below, or it has ended, and what its first frame returned is handed out
abbrev pub GivesBack : List Expr → plain.Thread → World → Answer (Option (Vec Val Global)) → plain.Thread → Type 0
GivesBack es old w (Next None) new = return_of old w es ≡ Next (GoesOn w new [])
GivesBack es old w (Next (Some values)) new = return_of old w es ≡ Next (Returns w values.items)
GivesBack es old w Blocked new = (return_of old w es ≡ Blocked) × (new ≡ old)
GivesBack es old w (Undefined reason) new = (return_of old w es ≡ Undefined reason) × (new ≡ old)

-- a return's step is a step of each thread whose next command it is
pub record StepsReturn : Type 0 where
  pub steps : (g : Program) (extra : ℕ) (th : plain.Thread) (w : World) (es : List Expr) (place : Place)
      → head th.top.todo ≡ Some (Return es place) → stepped g extra th w ≡ return_of th w es
