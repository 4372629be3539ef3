-- One step of a thread: what its next command does, and what is to do next.
use Rattle.std.specs.Prelude.{ℕ, Bool, true, false, List, [], ◌∷◌, Option, Some, None, slice_set}
use Rattle.gv_base.specs.declared.reason.Reason.TheVariants.{Kind}
use Rattle.gv_base.specs.declared.answer.Answer.{Answer}
use Rattle.gv_base.specs.declared.answer.Answer.TheVariants.{Next, Undefined}
use Rattle.gv_base.specs.declared.val.Val.{Val}
use Rattle.gv_base.specs.declared.val.Val.TheVariants as val
use Rattle.gv_world.specs.Answers.{and_then}
use Rattle.gv_world.specs.Store.{Store as World}
use Rattle.gv_lang.specs.Tree.{Cmd, If, Program}
use Rattle.gv_lang.specs.Values.{value}
use Rattle.gv_lang.specs.Todo.{Todo, head, onward}
use Rattle.gv_lang.specs.Threads.{Frame, Thread, thread_of}
use Rattle.gv_lang.specs.Table.{Effect, Goes, Begins, Pushes, Starts, Pops, effect}

-- what a thread's step leaves
pub data Stepped : Type 0 where
  -- the world, the thread, which goes on, and the threads that it started
  GoesOn : World → Thread → List Thread → Stepped
  -- the world, and what the first frame returned: the thread has ended
  Returns : World → List Val → Stepped

abbrev is_truth : Option Val → Bool
is_truth (Some (val.Bool b)) = b
is_truth _ = false

-- the value of the next command's condition, where it is an If
abbrev pub truth : List Val → Option Cmd → Bool
truth locals (Some (If e t f place)) = is_truth (value locals e)
truth locals _ = false

-- the locals with results for some of them
abbrev pub assigned : List Val → List ℕ → List Val → List Val
assigned locals [] vs = locals
assigned locals (x ∷ xs) [] = locals
assigned locals (x ∷ xs) (v ∷ vs) = assigned (slice_set locals x v) xs vs

-- the frame below takes the results; without one the thread has ended
abbrev pub returned : List Frame → World → List ℕ → List Val → Stepped
returned [] w xs vs = Returns w vs
returned (f ∷ below) w xs vs = GoesOn w (record { top = record f { locals = assigned f.locals xs vs }; below = below; begun = false }) []

abbrev pub with_todo : Frame → Todo → Frame
with_todo f rest = record f { todo = rest }

-- a frame whose command is done
abbrev pub moved : Frame → List Val → Todo → Frame
moved f locals rest = record f { locals = locals; todo = rest }

-- the thread after what its command did, its top frame going on with `rest`; a caller has gone on when its
-- call begins
abbrev pub settled : Thread → World → Option Todo → Effect → Answer Stepped
settled th w rest (Pops vs) = Next (returned th.below w th.top.results vs)
settled th w rest (Begins after) = Next (GoesOn after (record th { begun = true }) [])
settled th w (Some rest) (Goes after locals) =
    Next (GoesOn after (record { top = moved th.top locals rest; below = th.below; begun = false }) [])
settled th w (Some rest) (Pushes f) =
    Next (GoesOn w (record { top = f; below = with_todo th.top rest ∷ th.below; begun = false }) [])
settled th w (Some rest) (Starts f) =
    Next (GoesOn w (record { top = with_todo th.top rest; below = th.below; begun = false }) (thread_of f ∷ []))
settled th w None (Goes after locals) = Undefined Kind
settled th w None (Pushes f) = Undefined Kind
settled th w None (Starts f) = Undefined Kind

-- one step of a thread; `extra` is the room that an append without a spare cell makes, and no other step
-- looks at it
abbrev pub stepped : Program → ℕ → Thread → World → Answer Stepped
stepped g extra th w =
    and_then (effect g extra th.begun th.top.locals w (head th.top.todo))
    (settled th w (onward (truth th.top.locals (head th.top.todo)) th.top.todo))
