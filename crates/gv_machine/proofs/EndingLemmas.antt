-- Steps that end their threads, and steps that don't.
use Rattle.std.proofs.Common.{◌≡◌, ℕ, Bool, true, false, List, [], ◌∷◌, Option, Some, None, fold, refl, sym, ap, ◌∙◌, subst}
use Rattle.std.specs.Prelude.{option_and_then}
use Rattle.gv_base.specs.declared.answer.Answer.{Answer}
use Rattle.gv_base.specs.declared.answer.Answer.TheVariants.{Next, Blocked, Undefined}
use Rattle.gv_base.specs.declared.val.Val.{Val}
use Rattle.gv_world.specs.Answers.{and_then}
use Rattle.gv_world.specs.Store.{Store as World}
use Rattle.gv_lang.specs.Tree.{Cmd, Do, If, Loop, Break, Continue, Return, Expr, Program}
use Rattle.gv_lang.specs.Values.{values}
use Rattle.gv_lang.specs.Table.{Pops, as_values, effect}
use Rattle.gv_lang.specs.Threads.{Frame, Thread}
use Rattle.gv_lang.specs.Todo.{Todo, Run, Mark, head, onward}
use Rattle.gv_lang.specs.Step.{Stepped, Returns, truth, returned, settled, stepped}
use Rattle.gv_thread.specs.declared.frame.Frame.{Frame as Held}
use Rattle.gv_thread.specs.Frames.{frame_of, above, frames_of}
use Rattle.gv_machine.specs.Returning.{returned_by, returned_alone, returned_next}

-- a stack has a frame where a thread keeps one
above_some : (f : Frame) (below : List Frame) (fs : List Held) (next : Option Cmd) → returned_alone (fold above (f ∷ below) fs) next ≡ None
above_some f below [] next = refl
above_some f below (g ∷ fs) next = above_some (frame_of g) (f ∷ below) fs next

pub alone_some : (g : Held) (fs : List Held) (next : Option Cmd) → returned_alone (frames_of (g ∷ fs)) next ≡ None
alone_some g fs next = above_some (frame_of g) [] fs next

pub alone : (fs : List Held) (next : Option Cmd) → (fs ≡ [] → ⊥) → returned_alone (frames_of fs) next ≡ None
alone [] next h = absurd (h refl)
alone (g ∷ fs) next h = alone_some g fs next

-- ---- what ends

pops : (w : World) (rest : Option Todo) (th : Thread) (found : Option (List Val)) → th.below ≡ []
    → and_then (and_then (as_values found) (λ vs. Next (Pops vs))) (settled th w rest) ≡ and_then (as_values found) (λ vs. Next (Returns w vs))
pops w rest th None e = refl
pops w rest th (Some vs) e = ap (λ below. Next (returned below w th.top.results vs)) e

ends_at : (g : Program) (extra : ℕ) (th : Thread) (w : World) (es : List Expr) (todo : Todo) → th.below ≡ []
    → option_and_then returned_by (head todo) ≡ Some es
    → and_then (effect g extra th.begun th.top.locals w (head todo)) (settled th w (onward (truth th.top.locals (head todo)) todo))
    ≡ and_then (as_values (values th.top.locals es)) (λ vs. Next (Returns w vs))
ends_at g extra th w es [] b e = absurd cc
ends_at g extra th w es (Mark body ∷ rest) b e = absurd cc
ends_at g extra th w es (Run (Do a place) ∷ rest) b e = absurd cc
ends_at g extra th w es (Run (If c t f place) ∷ rest) b e = absurd cc
ends_at g extra th w es (Run (Loop body place) ∷ rest) b e = absurd cc
ends_at g extra th w es (Run (Break place) ∷ rest) b e = absurd cc
ends_at g extra th w es (Run (Continue place) ∷ rest) b e = absurd cc
ends_at g extra th w es (Run (Return fs place) ∷ rest) b e =
    let same : fs ≡ es = cc in
    pops w None th (values th.top.locals fs) b ∙ ap (λ xs. and_then (as_values (values th.top.locals xs)) (λ vs. Next (Returns w vs))) same

from_alone : (below : List Frame) (next : Option Cmd) (es : List Expr) → returned_alone below next ≡ Some es
    → (below ≡ []) × (option_and_then returned_by next ≡ Some es)
from_alone [] next es e = (refl, e)
from_alone (f ∷ below) next es e = absurd cc

pub ends : (th : Thread) (es : List Expr) → returned_next th ≡ Some es → (g : Program) (extra : ℕ) (w : World)
    → stepped g extra th w ≡ and_then (as_values (values th.top.locals es)) (λ vs. Next (Returns w vs))
ends th es e g extra w =
    let found = from_alone th.below (head th.top.todo) es e in
    ends_at g extra th w es th.top.todo found.0 found.1
