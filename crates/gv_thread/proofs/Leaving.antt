-- What steps leave.
use Rattle.std.proofs.Common.{◌≡◌, Bool, true, false, List, [], ◌∷◌, refl, ap}
use Rattle.gv_base.specs.declared.answer.Answer.TheVariants.{Next}
use Rattle.gv_base.specs.declared.val.Val.{Val}
use Rattle.gv_world.specs.Store.{Store as World}
use Rattle.gv_lang.specs.Tree.{Do, If, Loop, Break, Continue, Return}
use Rattle.gv_lang.specs.Todo.{Todo, Run, Mark, head, onward}
use Rattle.gv_lang.specs.Threads.{Frame, Thread}
use Rattle.gv_lang.specs.Table.{Goes, Pushes}
use Rattle.gv_lang.specs.Step.{GoesOn, returned, truth, settled}
use Rattle.gv_thread.specs.Parts.{after_head}
use Rattle.gv_thread.specs.Settling.{is_action, given_back, ended_by, StepsLeave}

goes_on : (th : Thread) (w after : World) (locals : List Val) (todo : Todo) (b : Bool) → is_action (head todo) ≡ true
    → settled th w (onward b todo) (Goes after locals)
    ≡ Next (GoesOn after (record { top = record th.top { locals = locals; todo = after_head todo }; below = th.below; begun = false }) [])
goes_on th w after locals [] b e = absurd cc
goes_on th w after locals (Mark body ∷ rest) b e = absurd cc
goes_on th w after locals (Run (Do a place) ∷ rest) b e = refl
goes_on th w after locals (Run (If c t f place) ∷ rest) b e = absurd cc
goes_on th w after locals (Run (Loop body place) ∷ rest) b e = absurd cc
goes_on th w after locals (Run (Break place) ∷ rest) b e = absurd cc
goes_on th w after locals (Run (Continue place) ∷ rest) b e = absurd cc
goes_on th w after locals (Run (Return es place) ∷ rest) b e = absurd cc

calls_on : (th : Thread) (w : World) (f : Frame) (todo : Todo) (b : Bool) → is_action (head todo) ≡ true
    → settled th w (onward b todo) (Pushes f)
    ≡ Next (GoesOn w (record { top = f; below = record th.top { todo = after_head todo } ∷ th.below; begun = false }) [])
calls_on th w f [] b e = absurd cc
calls_on th w f (Mark body ∷ rest) b e = absurd cc
calls_on th w f (Run (Do a place) ∷ rest) b e = refl
calls_on th w f (Run (If c t g place) ∷ rest) b e = absurd cc
calls_on th w f (Run (Loop body place) ∷ rest) b e = absurd cc
calls_on th w f (Run (Break place) ∷ rest) b e = absurd cc
calls_on th w f (Run (Continue place) ∷ rest) b e = absurd cc
calls_on th w f (Run (Return es place) ∷ rest) b e = absurd cc

gives_back : (below : List Frame) (th : Thread) (w : World) (vs : List Val) → returned below w th.top.results vs ≡ ended_by w vs (given_back below th vs)
gives_back [] th w vs = refl
gives_back (f ∷ below) th w vs = refl

pub steps_leave : StepsLeave
steps_leave = record {
  goes = λ th w after locals e. goes_on th w after locals th.top.todo (truth th.top.locals (head th.top.todo)) e;
  begins = λ th w after. refl;
  calls = λ th w f e. calls_on th w f th.top.todo (truth th.top.locals (head th.top.todo)) e;
  returns = λ th w vs. ap Next (gives_back th.below th w vs);
}
