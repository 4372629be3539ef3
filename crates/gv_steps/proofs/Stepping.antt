-- Steps of actions.
use Rattle.std.proofs.Common.{◌≡◌, ℕ, [], ◌∷◌, Some}
use Rattle.gv_base.specs.declared.answers.Place.{Place}
use Rattle.gv_world.specs.Answers.{and_then}
use Rattle.gv_world.specs.Store.{Store as World}
use Rattle.gv_lang.specs.Tree.{Action, Do, If, Loop, Break, Continue, Return, Program}
use Rattle.gv_lang.specs.Todo.{Todo, Run, Mark, head, onward}
use Rattle.gv_lang.specs.Threads.{Thread}
use Rattle.gv_lang.specs.Table.{effect, acted}
use Rattle.gv_lang.specs.Step.{truth, settled}
use Rattle.gv_thread.specs.Parts.{after_head}
use Rattle.gv_steps.specs.Acting.{StepsAct}

act : (g : Program) (extra : ℕ) (th : Thread) (w : World) (a : Action) (place : Place) (todo : Todo) → head todo ≡ Some (Do a place)
    → and_then (effect g extra th.begun th.top.locals w (head todo)) (settled th w (onward (truth th.top.locals (head todo)) todo))
    ≡ and_then (acted g extra th.begun th.top.locals w a) (settled th w (Some (after_head todo)))
act g extra th w a place [] e = absurd cc
act g extra th w a place (Mark body ∷ rest) e = absurd cc
act g extra th w a place (Run (Do b at) ∷ rest) e = cc
act g extra th w a place (Run (If c t f at) ∷ rest) e = absurd cc
act g extra th w a place (Run (Loop body at) ∷ rest) e = absurd cc
act g extra th w a place (Run (Break at) ∷ rest) e = absurd cc
act g extra th w a place (Run (Continue at) ∷ rest) e = absurd cc
act g extra th w a place (Run (Return es at) ∷ rest) e = absurd cc

pub steps_act : StepsAct
steps_act = record { steps = λ g extra th w a place e. act g extra th w a place th.top.todo e }
