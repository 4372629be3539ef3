-- What came of a command as the step of its thread.
use Rattle.std.proofs.Common.{◌≡◌, ℕ, true, List, [], ◌∷◌, Option, Some, None, Result, Ok, Err, Vec, refl, ap, sym, subst, ◌∙◌}
use Rattle.std.specs.Prelude.{◌&&◌, IfOk, OnErr}
use Rattle.std.specs.declared.alloc.Global.{Global}
use Rattle.std.proofs.lemmas.Bool.{not_from_true, and_parts, and_from}
use Rattle.std.specs.List.{list_all}
use Rattle.gv_base.specs.declared.answer.Answer.{Answer}
use Rattle.gv_base.specs.declared.answer.Answer.TheVariants.{Next, Blocked, Undefined}
use Rattle.gv_base.specs.declared.answers.NoMemory.{NoMemory}
use Rattle.gv_base.specs.declared.answers.Place.{Place}
use Rattle.gv_base.specs.declared.reason.Reason.TheVariants.{Kind}
use Rattle.gv_base.specs.declared.val.Val.{Val}
use Rattle.gv_world.specs.Answers.{and_then}
use Rattle.gv_world.specs.Store.{Store as World, is_within_limit}
use Rattle.gv_lang.specs.Tree.{Action, Cmd, Do, Return, Expr, Program}
use Rattle.gv_lang.specs.Todo.{Todo, Run, Mark, head, onward}
use Rattle.gv_lang.specs.Threads as plain
use Rattle.gv_lang.specs.Table.{Effect, Goes, Begins, Pushes, Starts, Pops, effect}
use Rattle.gv_lang.specs.Step.{Stepped, GoesOn, Returns, truth, settled, stepped}
use Rattle.gv_store.specs.declared.grow.Grow.{Grow}
use Rattle.gv_store.specs.declared.grow.Grow.TheVariants as grow
use Rattle.gv_thread.specs.declared.frame.Thread.{Thread}
use Rattle.gv_thread.specs.Frames.{thread_of}
use Rattle.gv_thread.specs.Control.{Turns}
use Rattle.gv_steps.specs.declared.after.After.{After}
use Rattle.gv_steps.specs.declared.after.After.TheVariants as after
use Rattle.gv_steps.specs.Acting.{step_of, ending, Acts, ActsIn}
use Rattle.gv_steps.specs.Bounds.{are_bounded_values, is_bounded_store, is_bounded_thread, is_bounded_left}
use Rattle.gv_steps.specs.Calling as calling
use Rattle.gv_steps.specs.Calling.{GivesBack, return_of}
use Rattle.gv_steps.specs.Growing.{is_over, row_of, ActsWithin, ActsWithinIn}
use Rattle.gv_steps.specs.Outcomes.{started_of, leaves_too_many, StepsOrRefuses, StepsWithin, is_bounded_after, gone, gone_within, gone_in_memory, begun, begun_in_memory, given_back_in_memory}
use Rattle.gv_steps.proofs.BoundedSteps.{bounds_are_kept}
use Rattle.gv_steps.proofs.Calling.{steps_return}
use Rattle.gv_steps.proofs.Stepping.{steps_act}

module _ (g : Program) (extra : ℕ) (th : plain.Thread) (w : World) (new : plain.Thread) (now : World) (c : Cmd) where
  abbrev Wanted : Result (Answer After) Grow → Type 0
  Wanted result = StepsOrRefuses (stepped g extra th w) th w result new now

  -- ---- actions

  module _ (a : Action) (place : Place) (next : head th.top.todo ≡ Some c) (is : c ≡ Do a place) where
    same : stepped g extra th w ≡ step_of g extra th w a
    same = steps_act.steps g extra th w a place (next ∙ ap Some is)

    acts_in : (answer : Answer (Unit {0})) → ActsIn g extra a th w answer new now → Wanted (Ok (gone answer))
    acts_in (Next done) acts = same ∙ acts
    acts_in Blocked acts = (same ∙ acts.0, acts.1, acts.2)
    acts_in (Undefined reason) acts = (same ∙ acts.0, acts.1, acts.2)

    acts : (answer : Answer (Unit {0})) → Acts a th w answer new now → Wanted (Ok (gone answer))
    acts (Next done) h = same ∙ h g extra
    acts Blocked h = (same ∙ h.0 g extra, h.1, h.2)
    acts (Undefined reason) h = (same ∙ h.0 g extra, h.1, h.2)

    -- a command that the limit refuses is a step that it refuses
    over : (row : Answer Effect) → is_over row ≡ true → leaves_too_many (ending th w row) ≡ true
    over (Next (Goes after locals)) e = e
    over (Next (Begins after)) e = absurd (cc)
    over (Next (Pushes f)) e = absurd (cc)
    over (Next (Starts f)) e = absurd (cc)
    over (Next (Pops vs)) e = absurd (cc)
    over Blocked e = absurd (cc)
    over (Undefined reason) e = absurd (cc)

    refused : is_over (row_of g extra th w a) ≡ true → leaves_too_many (stepped g extra th w) ≡ true
    refused e = ap leaves_too_many same ∙ over (row_of g extra th w a) e

    acts_within_in : (result : Result (Answer (Unit {0})) Grow) → ActsWithinIn g extra a th w result new now → Wanted (gone_within result)
    acts_within_in (Ok answer) h = acts_in answer h.0
    acts_within_in (Err grow.TooMany) h = (refused h.0, h.1, h.2)
    acts_within_in (Err grow.NoMemory) h = h

    acts_within : (result : Result (Answer (Unit {0})) Grow) → ActsWithin a th w result new now → Wanted (gone_within result)
    acts_within (Ok answer) h = acts answer h.0
    acts_within (Err grow.TooMany) h = (refused (h.0 g extra), h.1, h.2)
    acts_within (Err grow.NoMemory) h = h

    calls_in : (result : Result (Answer (Unit {0})) NoMemory) → IfOk result (λ answer. ActsIn g extra a th w answer new now) → OnErr result (new ≡ th)
        → now ≡ w
        → Wanted (gone_in_memory result)
    calls_in (Ok answer) h k e = acts_in answer h
    calls_in (Err memory) h k e = (k, e)

    starts : (answer : Answer Thread) → calling.Starts g extra a th w answer new → now ≡ w → Wanted (Ok (begun answer))
    starts (Next started) h e = same ∙ h ∙ ap (λ v. Next (GoesOn v new (thread_of started ∷ []))) (sym e)
    starts Blocked h e = (same ∙ h.0, h.1, e)
    starts (Undefined reason) h e = (same ∙ h.0, h.1, e)

    starts_in : (result : Result (Answer Thread) NoMemory) → IfOk result (λ answer. calling.Starts g extra a th w answer new) → OnErr result (new ≡ th)
        → now ≡ w
        → Wanted (begun_in_memory result)
    starts_in (Ok answer) h k e = starts answer h e
    starts_in (Err memory) h k e = (k, e)

    -- each with what code makes of it
    pub by_acts : (answer : Answer (Unit {0})) (result : Result (Answer After) Grow) → Acts a th w answer new now → result ≡ Ok (gone answer) → Wanted result
    by_acts answer result h e = subst Wanted (sym e) (acts answer h)

    pub by_within : (got : Result (Answer (Unit {0})) Grow) (result : Result (Answer After) Grow) → ActsWithin a th w got new now
        → result ≡ gone_within got → Wanted result
    by_within got result h e = subst Wanted (sym e) (acts_within got h)

    pub by_within_in : (got : Result (Answer (Unit {0})) Grow) (result : Result (Answer After) Grow) → ActsWithinIn g extra a th w got new now
        → result ≡ gone_within got → Wanted result
    by_within_in got result h e = subst Wanted (sym e) (acts_within_in got h)

    pub by_call : (got : Result (Answer (Unit {0})) NoMemory) (result : Result (Answer After) Grow)
        → IfOk got (λ answer. ActsIn g extra a th w answer new now)
        → OnErr got (new ≡ th) → now ≡ w → result ≡ gone_in_memory got → Wanted result
    by_call got result h k e f = subst Wanted (sym f) (calls_in got h k e)

    pub by_spawn : (got : Result (Answer Thread) NoMemory) (result : Result (Answer After) Grow)
        → IfOk got (λ answer. calling.Starts g extra a th w answer new)
        → OnErr got (new ≡ th) → now ≡ w → result ≡ begun_in_memory got → Wanted result
    by_spawn got result h k e f = subst Wanted (sym f) (starts_in got h k e)

  -- ---- control and returns

  turns : (got : Result (Answer (Unit {0})) NoMemory) → IfOk got (λ answer. Turns th answer new) → OnErr got (new ≡ th) → now ≡ w
      → Wanted (gone_in_memory got)
  turns (Ok (Next done)) h k e = h g extra w ∙ ap (λ v. Next (GoesOn v new [])) (sym e)
  turns (Ok Blocked) h k e = absurd h
  turns (Ok (Undefined reason)) h k e = (h.0 g extra w, h.1, e)
  turns (Err memory) h k e = (k, e)

  pub by_turn : (got : Result (Answer (Unit {0})) NoMemory) (result : Result (Answer After) Grow) → IfOk got (λ answer. Turns th answer new)
      → OnErr got (new ≡ th) → now ≡ w
      → result ≡ gone_in_memory got → Wanted result
  by_turn got result h k e f = subst Wanted (sym f) (turns got h k e)

  module _ (es : List Expr) (place : Place) (next : head th.top.todo ≡ Some c) (is : c ≡ Return es place) where
    returns_as : stepped g extra th w ≡ return_of th w es
    returns_as = steps_return.steps g extra th w es place (next ∙ ap Some is)

    returns : (got : Result (Answer (Option (Vec Val Global))) NoMemory) → IfOk got (λ answer. GivesBack es th w answer new) → OnErr got (new ≡ th) → now ≡ w
        → Wanted (given_back_in_memory got)
    returns (Ok (Next None)) h k e = returns_as ∙ h ∙ ap (λ v. Next (GoesOn v new [])) (sym e)
    returns (Ok (Next (Some values))) h k e = returns_as ∙ h ∙ ap (λ v. Next (Returns v values.items)) (sym e)
    returns (Ok Blocked) h k e = (returns_as ∙ h.0, h.1, e)
    returns (Ok (Undefined reason)) h k e = (returns_as ∙ h.0, h.1, e)
    returns (Err memory) h k e = (k, e)

    pub by_return : (got : Result (Answer (Option (Vec Val Global))) NoMemory) (result : Result (Answer After) Grow)
        → IfOk got (λ answer. GivesBack es th w answer new)
        → OnErr got (new ≡ th) → now ≡ w → result ≡ given_back_in_memory got → Wanted result
    by_return got result h k e f = subst Wanted (sym f) (returns got h k e)

-- ---- the whole step

nothing_next : (g : Program) (extra : ℕ) (th : plain.Thread) (w : World) (todo : Todo) → head todo ≡ None
    → and_then (effect g extra th.begun th.top.locals w (head todo)) (settled th w (onward (truth th.top.locals (head todo)) todo)) ≡ Undefined Kind
nothing_next g extra th w [] e = refl
nothing_next g extra th w (Mark body ∷ rest) e = refl
nothing_next g extra th w (Run c ∷ rest) e = absurd (cc)

pub no_command : (g : Program) (extra : ℕ) (th : plain.Thread) (w : World) → head th.top.todo ≡ None → stepped g extra th w ≡ Undefined Kind
no_command g extra th w e = nothing_next g extra th w th.top.todo e

module _ (wanted : Answer Stepped) (th : plain.Thread) (w : World) (new : plain.Thread) (now : World) where
  pub exact : (result : Result (Answer After) Grow) → StepsOrRefuses wanted th w result new now → is_within_limit now ≡ true
      → StepsWithin wanted th w result new now
  exact (Ok (Next (after.GoesOn started))) h e = (h, ap leaves_too_many h ∙ not_from_true (is_within_limit now) e)
  exact (Ok (Next (after.Returns values))) h e = (h, ap leaves_too_many h ∙ not_from_true (is_within_limit now) e)
  exact (Ok Blocked) h e = (h, ap leaves_too_many h.0)
  exact (Ok (Undefined reason)) h e = (h, ap leaves_too_many h.0)
  exact (Err grow.TooMany) h e = h
  exact (Err grow.NoMemory) h e = h

-- ---- and what it keeps

module _ (g : Program) (extra : ℕ) (th : plain.Thread) (w : World) (new : plain.Thread) (now : World) (ht : is_bounded_thread th ≡ true)
    (hw : is_bounded_store w ≡ true) where
  left_bounded : (left : Stepped) → stepped g extra th w ≡ Next left → is_bounded_left left ≡ true
  left_bounded left e = bounds_are_kept.steps g extra th w left ht hw e

  parts : (started : Option Thread) → is_bounded_left (GoesOn now new (started_of started)) ≡ true
      → (is_bounded_store now ≡ true) × (is_bounded_after new (Next (after.GoesOn started)) ≡ true)
  parts started h =
      let last = and_parts (is_bounded_store now && is_bounded_thread new) (list_all is_bounded_thread (started_of started)) h in
      let first = and_parts (is_bounded_store now) (is_bounded_thread new) last.0 in
      (first.0, and_from (is_bounded_thread new) (list_all is_bounded_thread (started_of started)) first.1 last.1)

  pub store_bounded : (result : Result (Answer After) Grow) → StepsOrRefuses (stepped g extra th w) th w result new now → is_bounded_store now ≡ true
  store_bounded (Ok (Next (after.GoesOn started))) h = (parts started (left_bounded (GoesOn now new (started_of started)) h)).0
  store_bounded (Ok (Next (after.Returns values))) h =
      (and_parts (is_bounded_store now) (are_bounded_values values.items) (left_bounded (Returns now values.items) h)).0
  store_bounded (Ok Blocked) h = ap is_bounded_store h.2 ∙ hw
  store_bounded (Ok (Undefined reason)) h = ap is_bounded_store h.2 ∙ hw
  store_bounded (Err grow.TooMany) h = ap is_bounded_store h.2 ∙ hw
  store_bounded (Err grow.NoMemory) h = ap is_bounded_store h.1 ∙ hw

  pub after_bounded : (result : Result (Answer After) Grow) → StepsOrRefuses (stepped g extra th w) th w result new now
      → IfOk result (λ answer. is_bounded_after new answer ≡ true)
  after_bounded (Ok (Next (after.GoesOn started))) h = (parts started (left_bounded (GoesOn now new (started_of started)) h)).1
  after_bounded (Ok (Next (after.Returns values))) h =
      (and_parts (is_bounded_store now) (are_bounded_values values.items) (left_bounded (Returns now values.items) h)).1
  after_bounded (Ok Blocked) h = ap is_bounded_thread h.1 ∙ ht
  after_bounded (Ok (Undefined reason)) h = ap is_bounded_thread h.1 ∙ ht
  after_bounded (Err e) h = tt
