-- Steps of control: commands that change only what is to do.
use Rattle.std.specs.Prelude.{◌≡◌, ℕ, Bool, true, false, [], Option, Some, None}
use Rattle.gv_base.specs.declared.val.Val.{Val}
use Rattle.gv_base.specs.declared.val.Val.TheVariants as val
use Rattle.gv_base.specs.declared.answer.Answer.{Answer}
use Rattle.gv_base.specs.declared.answer.Answer.TheVariants.{Next, Blocked, Undefined}
use Rattle.gv_world.specs.Store.{Store as World}
use Rattle.gv_lang.specs.Tree.{Cmd, Do, If, Loop, Break, Continue, Return, Program}
use Rattle.gv_lang.specs.Todo.{Todo}
use Rattle.gv_lang.specs.Threads.{Thread}
use Rattle.gv_lang.specs.Step.{GoesOn, with_todo, stepped}

abbrev pub is_control : Cmd → Bool
is_control (Do a place) = false
is_control (If e t f place) = true
is_control (Loop body place) = true
is_control (Break place) = true
is_control (Continue place) = true
is_control (Return es place) = false

-- a truth value, where the value is one
abbrev pub truth_in : Option Val → Option Bool
truth_in (Some (val.Bool b)) = Some b
truth_in _ = None

-- the thread with this to do
abbrev pub turned : Thread → Todo → Thread
turned th todo = record { top = with_todo th.top todo; below = th.below; begun = false }

-- what a step of control makes of a thread, in every program and world
abbrev pub Turns : Thread → Answer (Unit {0}) → Thread → Type 0
Turns old (Next done) new = (g : Program) (extra : ℕ) (w : World) → stepped g extra old w ≡ Next (GoesOn w new [])
Turns old Blocked new = ⊥
Turns old (Undefined reason) new = ((g : Program) (extra : ℕ) (w : World) → stepped g extra old w ≡ Undefined reason) × (new ≡ old)
