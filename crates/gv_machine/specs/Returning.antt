-- What a thread's next step returns, where that step ends the thread.
use Rattle.std.specs.Prelude.{◌≡◌, ℕ, List, [], ◌∷◌, Option, Some, None, option_and_then}
use Rattle.gv_base.specs.declared.answer.Answer.TheVariants.{Next}
use Rattle.gv_base.specs.declared.val.Val.{Val}
use Rattle.gv_world.specs.Answers.{and_then}
use Rattle.gv_world.specs.Store.{Store as World}
use Rattle.gv_lang.specs.Tree.{Cmd, Do, If, Loop, Break, Continue, Return, Expr, Program}
use Rattle.gv_lang.specs.Table.{as_values}
use Rattle.gv_lang.specs.Threads.{Frame, Thread}
use Rattle.gv_lang.specs.Todo.{head}
use Rattle.gv_lang.specs.Step.{Returns, stepped}

-- what a command returns, where it is a Return
abbrev pub returned_by : Cmd → Option (List Expr)
returned_by (Do a place) = None
returned_by (If e t f place) = None
returned_by (Loop body place) = None
returned_by (Break place) = None
returned_by (Continue place) = None
returned_by (Return es place) = Some es

abbrev pub returned_alone : List Frame → Option Cmd → Option (List Expr)
returned_alone [] next = option_and_then returned_by next
returned_alone (f ∷ below) next = None

-- what a thread's next step returns, where that step ends the thread
abbrev pub returned_next : Thread → Option (List Expr)
returned_next th = returned_alone th.below (head th.top.todo)

-- the thread's next step ends it, and gives these where they have values
abbrev pub EndsWith : Thread → Option (List Val) → Type 0
EndsWith th found = (g : Program) (extra : ℕ) (w : World) → stepped g extra th w ≡ and_then (as_values found) (λ vs. Next (Returns w vs))
