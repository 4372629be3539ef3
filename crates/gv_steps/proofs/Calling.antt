-- Procedures by their places, and steps that return.
use Rattle.std.proofs.Common.{◌≡◌, ℕ, List, [], ◌∷◌, Some, None, refl, ap, ◌∙◌}
use Rattle.std.proofs.lemmas.Option.{slice_get-map}
use Rattle.gv_base.specs.declared.answer.Answer.{Answer}
use Rattle.gv_base.specs.declared.answer.Answer.TheVariants.{Next, Blocked, Undefined}
use Rattle.gv_base.specs.declared.answers.Place.{Place}
use Rattle.gv_base.specs.declared.val.Val.{Val}
use Rattle.gv_world.specs.Answers.{and_then}
use Rattle.gv_world.specs.Store.{Store as World}
use Rattle.gv_lang.specs.Tree.{Expr, Do, If, Loop, Break, Continue, Return, Program}
use Rattle.gv_lang.specs.Todo.{Todo, Run, Mark, head, onward}
use Rattle.gv_lang.specs.Values.{values}
use Rattle.gv_lang.specs.Threads.{Frame, Thread}
use Rattle.gv_lang.specs.Table.{Effect, Pops, as_values, effect}
use Rattle.gv_lang.specs.Step.{Stepped, GoesOn, Returns, truth, returned, settled}
use Rattle.gv_thread.specs.Settling.{given_back, ended_by, returned_from}
use Rattle.gv_steps.specs.Calling.{return_of, StepsReturn}

pub ruleset procs = (slice_get-map)

-- whatever is to do next, as the frame goes
popped : {A : Type 0} (th : Thread) (w : World) (found : Answer A) (pops : A → Effect) (values : A → Answer Stepped) (settles : Effect → Answer Stepped)
    → ((a : A) → settles (pops a) ≡ values a) → and_then (and_then found (λ a. Next (pops a))) settles ≡ and_then found values
popped th w (Next a) pops values settles each = each a
popped th w Blocked pops values settles each = refl
popped th w (Undefined reason) pops values settles each = refl

returns_by : (g : Program) (extra : ℕ) (th : Thread) (w : World) (es : List Expr) (place : Place) (todo : Todo) → head todo ≡ Some (Return es place)
    → and_then (effect g extra th.begun th.top.locals w (head todo)) (settled th w (onward (truth th.top.locals (head todo)) todo)) ≡ return_of th w es
returns_by g extra th w es place [] e = absurd (cc)
returns_by g extra th w es place (Mark body ∷ rest) e = absurd (cc)
returns_by g extra th w es place (Run (Do a at) ∷ rest) e = absurd (cc)
returns_by g extra th w es place (Run (If c t f at) ∷ rest) e = absurd (cc)
returns_by g extra th w es place (Run (Loop body at) ∷ rest) e = absurd (cc)
returns_by g extra th w es place (Run (Break at) ∷ rest) e = absurd (cc)
returns_by g extra th w es place (Run (Continue at) ∷ rest) e = absurd (cc)
returns_by g extra th w es place (Run (Return fs at) ∷ rest) e =
    let same : fs ≡ es = cc in
    popped th w (as_values (values th.top.locals fs)) Pops (λ vs. Next (returned th.below w th.top.results vs)) (settled th w None) (λ vs. refl)
    ∙ ap (return_of th w) same

pub steps_return : StepsReturn
steps_return = record { steps = λ g extra th w es place e. returns_by g extra th w es place th.top.todo e }

gives_back : (below : List Frame) (th : Thread) (w : World) (vs : List Val) → returned below w th.top.results vs ≡ ended_by w vs (given_back below th vs)
gives_back [] th w vs = refl
gives_back (f ∷ below) th w vs = refl

-- what the frame below took, or what was handed out
pub taken : (th new : Thread) (w : World) (vs : List Val) → returned_from th vs ≡ Some new → returned th.below w th.top.results vs ≡ GoesOn w new []
taken th new w vs e = gives_back th.below th w vs ∙ ap (ended_by w vs) e

pub handed_out : (th : Thread) (w : World) (vs : List Val) → returned_from th vs ≡ None → returned th.below w th.top.results vs ≡ Returns w vs
handed_out th w vs e = gives_back th.below th w vs ∙ ap (ended_by w vs) e

pub ruleset takings = (taken, handed_out)
