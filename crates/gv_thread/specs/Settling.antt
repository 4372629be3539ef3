-- What a step of a thread is, once its command has had an effect.
use Rattle.std.specs.Prelude.{◌≡◌, Bool, true, false, List, [], ◌∷◌, Option, Some, None}
use Rattle.gv_base.specs.declared.answer.Answer.{Answer}
use Rattle.gv_base.specs.declared.answer.Answer.TheVariants.{Next}
use Rattle.gv_base.specs.declared.val.Val.{Val}
use Rattle.gv_world.specs.Store.{Store as World}
use Rattle.gv_lang.specs.Tree.{Cmd, Do}
use Rattle.gv_lang.specs.Todo.{head, onward}
use Rattle.gv_lang.specs.Threads.{Frame, Thread}
use Rattle.gv_lang.specs.Table.{Effect, Goes, Begins, Pushes, Pops}
use Rattle.gv_lang.specs.Step.{Stepped, GoesOn, Returns, truth, assigned, with_todo, moved, settled}
use Rattle.gv_thread.specs.Parts.{after_head}

abbrev pub settles : Thread → World → Effect → Answer Stepped
settles th w effect = settled th w (onward (truth th.top.locals (head th.top.todo)) th.top.todo) effect

-- a command where control goes on to the command after it
abbrev pub is_action : Option Cmd → Bool
is_action (Some (Do a place)) = true
is_action _ = false

-- ---- threads after a step

-- the next command is done, and leaves these locals
abbrev pub gone_on : Thread → List Val → Thread
gone_on th locals = record { top = moved th.top locals (after_head th.top.todo); below = th.below; begun = false }

-- the first of its two steps is
abbrev pub begun_by : Thread → Thread
begun_by th = record th { begun = true }

-- a frame goes on past its next command
abbrev pub past_head : Frame → Frame
past_head f = with_todo f (after_head f.todo)

abbrev pub first_past_head : List Frame → List Frame
first_past_head [] = []
first_past_head (f ∷ below) = past_head f ∷ below

-- it is a call, which made this frame
abbrev pub called_by : Thread → Frame → Thread
called_by th f = record { top = f; below = past_head th.top ∷ th.below; begun = false }

-- the top frame returned these to the one below, where there is one
abbrev pub given_back : List Frame → Thread → List Val → Option Thread
given_back [] th vs = None
given_back (f ∷ below) th vs = Some (record { top = record f { locals = assigned f.locals th.top.results vs }; below = below; begun = false })

abbrev pub returned_from : Thread → List Val → Option Thread
returned_from th vs = given_back th.below th vs

abbrev pub ended_by : World → List Val → Option Thread → Stepped
ended_by w vs None = Returns w vs
ended_by w vs (Some th) = GoesOn w th []

-- these are what steps leave
pub record StepsLeave : Type 0 where
  pub goes : (th : Thread) (w after : World) (locals : List Val) → is_action (head th.top.todo) ≡ true
      → settles th w (Goes after locals) ≡ Next (GoesOn after (gone_on th locals) [])
  pub begins : (th : Thread) (w after : World) → settles th w (Begins after) ≡ Next (GoesOn after (begun_by th) [])
  pub calls : (th : Thread) (w : World) (f : Frame) → is_action (head th.top.todo) ≡ true
      → settles th w (Pushes f) ≡ Next (GoesOn w (called_by th f) [])
  pub returns : (th : Thread) (w : World) (vs : List Val) → settles th w (Pops vs) ≡ Next (ended_by w vs (returned_from th vs))
