-- Specifications that differ in their stores alone give a schedule one meaning, and its events one run.
use Rattle.std.proofs.Common.{◌≡◌, ℕ, List, [], ◌∷◌, ◌++◌, Option, Some, None, option_map, map, take, refl, sym, ap, subst, ◌∙◌}
use Rattle.std.specs.Prelude.{All, IsTrue, Result, Ok, Err, codes}
use Rattle.std.specs.Fmt.{decimal}
use Rattle.gv_base.specs.declared.answers.Code.{Code}
use Rattle.gv_base.specs.declared.answers.Place.{Place}
use Rattle.gv_base.specs.declared.reason.Reason.{Reason}
use Rattle.gv_base.specs.declared.small.Small.{Small}
use Rattle.gv_lang.specs.Tree.{Program}
use Rattle.gv_terms.specs.declared.tree.TermTree.{TermTree}
use Rattle.gv_terms.specs.declared.value.Value.{Value}
use Rattle.gv_text.specs.Stops.{Fault}
use Rattle.gv_atomic.specs.declared.spec.Op.{Op}
use Rattle.gv_atomic.specs.declared.spec.Spec.{Spec}
use Rattle.gv_spec.specs.declared.entry.Entry.{Entry}
use Rattle.gv_spec.specs.declared.entry.Entry.TheVariants as entry
use Rattle.gv_spec.specs.declared.event.Event as held
use Rattle.gv_spec.specs.declared.event.Event.TheVariants as event
use Rattle.gv_spec.specs.Atomic.{atomic_of}
use Rattle.gv_spec.specs.Event.{Event}
use Rattle.gv_spec.specs.History.{IsEventOf}
use Rattle.gv_spec.specs.Runs.{outcome_of, run_of}
use Rattle.gv_spec.specs.Specification.{Specification}
use Rattle.gv_specs.specs.Alike.{ShownOp, shown_op, AreAlike}
use Rattle.gv_runs.specs.Laws.{State}
use Rattle.gv_runs.specs.Machine.{Setting, machine_of, setting_of}
use Rattle.gv_machine.specs.Outcomes.{leaves_too_many}
use Rattle.gv_replay.specs.declared.line.CallLine.{CallLine}
use Rattle.gv_replay.specs.declared.line.Line.{Line}
use Rattle.gv_replay.specs.declared.line.Line.TheVariants as line
use Rattle.gv_replay.specs.declared.line.TextKind.TheVariants as text_kind
use Rattle.gv_replay.specs.declared.plan.Plan.{Plan}
use Rattle.gv_replay.specs.declared.schedule.Line as schedules
use Rattle.gv_replay.specs.declared.schedule.Schedule.{Schedule}
use Rattle.gv_replay.specs.Meaning.{arity_by, arity, called_by, called}
use Rattle.gv_replay.specs.Operations.{op_named}
use Rattle.gv_replay.specs.Plans.{told_call, event_in, arity_in, size_of, room, planned, no_plan, with_plan}
use Rattle.gv_replay.specs.Reading.{Tells, IsRefused, TellsSchedule, IsRefusedSchedule}
use Rattle.gv_replay.specs.Results.{and_then, map_ok}
use Rattle.gv_played.specs.declared.replaying.Ran as played
use Rattle.gv_played.specs.Played.{events_of, run, outcome, IsUndefined, IsRan, IsTooMany}
use Rattle.gv_lines.specs.Lines.{name_in, values_text, entry_line, entry_lines}
use Rattle.gv_report.specs.declared.ran.Ran.{Ran}
use Rattle.gv_smallprogram.specs.Program.{program_of}
use Rattle.gv_top.specs.declared.files.Halt.{Halt}
use Rattle.gv_top.specs.declared.files.Halt.TheVariants.{NoMemory, CannotRead, Refused}
use Rattle.gv_top.specs.Replay.{Plays}
use Rattle.gv_top.proofs.AlikeLines.{op_same, arity_by_same, called_by_same, args_same}
use Rattle.gv_top.proofs.AlikeMeaning.{ops_at, atomic_same}

names_same : (ts us : List TermTree) (os ps : List Op) → map (shown_op ts) os ≡ map (shown_op us) ps → map (λ o. o.name) os ≡ map (λ o. o.name) ps
names_same ts us [] [] e = refl
names_same ts us [] (p ∷ ps) e = absurd cc
names_same ts us (o ∷ os) [] e = absurd cc
names_same ts us (o ∷ os) (p ∷ ps) e =
    let head : shown_op ts o ≡ shown_op us p = cc in
    let rest : map (shown_op ts) os ≡ map (shown_op us) ps = cc in
    ap (λ (x : ShownOp). x.name ∷ map (λ o. o.name) os) head ∙ ap (λ (ns : List (List ℕ)). p.name ∷ ns) (names_same ts us os ps rest)

name_same : (ts us : List TermTree) (a b : Option Op) → option_map (shown_op ts) a ≡ option_map (shown_op us) b → name_in a ≡ name_in b
name_same ts us None None e = refl
name_same ts us None (Some p) e = absurd cc
name_same ts us (Some o) None e = absurd cc
name_same ts us (Some o) (Some p) e = let same : shown_op ts o ≡ shown_op us p = cc in ap (λ (x : ShownOp). x.name) same

module _ (s t : Spec) (alike : AreAlike s t) where
  -- ---- plans

  called_same : (c : CallLine) → called s c ≡ called t c
  called_same c = ap (called_by s c) (op_same s t alike c.op) ∙ called_by_same s t alike c (op_named c.op t.ops)

  arity_same : (c : CallLine) → arity s c ≡ arity t c
  arity_same c = ap (arity_by s c) (op_same s t alike c.op) ∙ arity_by_same s t alike c (op_named c.op t.ops)

  event_same : (l : Line) → event_in s l ≡ event_in t l
  event_same (line.Call c) = ap (map_ok told_call) (called_same c)
  event_same (line.Answer number reply) = refl
  event_same (line.Act number choices) = refl
  event_same (line.Crash at) = refl
  event_same (line.Boot choices) = refl
  event_same line.End = refl
  event_same (line.Step at thread count) = refl
  event_same (line.Fail at disk) = refl
  event_same (line.Grow at thread extra) = refl

  line_arity_same : (l : Line) → arity_in s l ≡ arity_in t l
  line_arity_same (line.Call c) = arity_same c
  line_arity_same (line.Answer number reply) = refl
  line_arity_same (line.Act number choices) = refl
  line_arity_same (line.Crash at) = refl
  line_arity_same (line.Boot choices) = refl
  line_arity_same line.End = refl
  line_arity_same (line.Step at thread count) = refl
  line_arity_same (line.Fail at disk) = refl
  line_arity_same (line.Grow at thread extra) = refl

  plan_same : (p : Plan) (l : Line) → with_plan s p l ≡ with_plan t p l
  plan_same p l =
      ap (λ e. and_then (λ _. and_then (λ _. map_ok (planned p (size_of l)) e) (room p.events (size_of l))) (arity_in s l)) (event_same l)
      ∙ ap (λ r. and_then (λ _. and_then (λ _. map_ok (planned p (size_of l)) (event_in t l)) (room p.events (size_of l))) r) (line_arity_same l)

  plans_same : with_plan s ≡ with_plan t
  plans_same = λ i p l. plan_same p l i

  abbrev Account : Type 0
  Account = Plan → Line → Result Plan Fault

  pub same_schedule : (text : List ℕ) (schedule : Schedule) → TellsSchedule s text schedule → TellsSchedule t text schedule
  same_schedule text schedule h = record {
    plan = h.plan;
    told = subst (λ (w : Account). Tells w no_plan text_kind.Schedule text h.plan) plans_same h.told;
    events = h.events;
  }

  pub same_refused_schedule : (text : List ℕ) (at : ℕ) (code : Code) → IsRefusedSchedule s text at code → IsRefusedSchedule t text at code
  same_refused_schedule text at code h = subst (λ (w : Account). IsRefused w no_plan text_kind.Schedule text at code) plans_same h

  event_of_same : (e : held.Event) → IsEventOf s e → IsEventOf t e
  event_of_same (event.Call op args) h = subst IsTrue (args_same s t alike op args) h
  event_of_same (event.Step thread extra) h = h
  event_of_same event.Crash h = h
  event_of_same (event.Fail disk) h = h

  pub same_events : (lines : List schedules.Line) → All (λ l. IsEventOf s l.event) lines → All (λ l. IsEventOf t l.event) lines
  same_events lines h = λ k d l. event_of_same _ (h k d l)

  -- ---- runs

  setting_same : setting_of s ≡ setting_of t
  setting_same = let names = names_same s.store t.store s.ops t.ops alike.ops in λ i. record { disks = alike.count i; blocks = alike.blocks i; names = names i }

  abbrev Meant : Type 0
  Meant = Specification (List Value) Value

  module _ (g : Program) where
    run_same : (events : List (Event Value)) → run g s events ≡ run g t events
    run_same events =
        ap (λ (x : Setting). run_of (machine_of g x) (atomic_of s).allows events) setting_same
        ∙ ap (λ (a : Meant). run_of (machine_of g (setting_of t)) a.allows events) (atomic_same s t alike)

    outcome_same : (front : List (Event Value)) (e : Event Value) → outcome g s front e ≡ outcome g t front e
    outcome_same front e =
        ap (λ (z : State). outcome_of (machine_of g (setting_of s)) (atomic_of s).allows z e) (run_same front)
        ∙ ap (λ (x : Setting). outcome_of (machine_of g x) (atomic_of s).allows (run g t front) e) setting_same
        ∙ ap (λ (a : Meant). outcome_of (machine_of g (setting_of t)) a.allows (run g t front) e) (atomic_same s t alike)

    undefined_by : (events : List (Event Value)) (o : Option (ℕ × Reason)) → IsUndefined g s events o → IsUndefined g t events o
    undefined_by events None h = ap (λ (z : State). z.fault) (sym (run_same events)) ∙ h
    undefined_by events (Some found) h = record {
      before = h.before;
      event = h.event;
      there = h.there;
      numbered = h.numbered;
      undefined = sym (outcome_same (take h.before events) h.event) ∙ h.undefined;
    }

    pub ran_by : (lines : List schedules.Line) (ran : played.Ran) → IsRan g s lines ran → IsRan g t lines ran
    ran_by lines ran h = record {
      history = h.history ∙ ap (λ (z : State). z.history) (run_same (events_of lines));
      within = λ n e there. ap leaves_too_many (sym (outcome_same (take n (events_of lines)) e)) ∙ h.within n e there;
      undefined = undefined_by (events_of lines) ran.undefined h.undefined;
    }

    pub too_many_by : (lines : List schedules.Line) (place : Place) → IsTooMany g s lines place → IsTooMany g t lines place
    too_many_by lines place h = record {
      before = h.before;
      event = h.event;
      there = h.there;
      within = λ n e there. ap leaves_too_many (sym (outcome_same (take n (take h.before (events_of lines))) e)) ∙ h.within n e there;
      over = ap leaves_too_many (sym (outcome_same (take h.before (events_of lines)) h.event)) ∙ h.over;
      placed = h.placed;
    }

  -- ---- lines

  pub line_same : (e : Entry) → entry_line s e ≡ entry_line t e
  line_same (entry.Call number op args) =
      ap (λ (n : List ℕ). codes "call " ++ decimal number ++ codes " " ++ n ++ values_text args)
      (name_same s.store t.store _ _ (ops_at s t alike op))
  line_same (entry.Answer number reply) = refl
  line_same entry.Crash = refl
  line_same entry.Boot = refl

  pub lines_same : (es : List Entry) → entry_lines s es ≡ entry_lines t es
  lines_same [] = refl
  lines_same (e ∷ es) = ap (λ (l : List ℕ). l ∷ entry_lines s es) (line_same e) ∙ ap (λ (ls : List (List ℕ)). entry_line t e ∷ ls) (lines_same es)

  pub plays_by : (program : Small) (name : List ℕ) (lines : List schedules.Line) (o : Result Ran Halt) → Plays program s name lines o → Plays program t name lines o
  plays_by program name lines (Ok ran) h = record {
    history = h.history;
    is_ran = ran_by (program_of program) lines _ h.is_ran;
    lines_are = h.lines_are ∙ lines_same h.history;
  }
  plays_by program name lines (Err NoMemory) h = h
  plays_by program name lines (Err (CannotRead n)) h = h
  plays_by program name lines (Err (Refused n place code)) h = (h.0, h.1, too_many_by (program_of program) lines place h.2)
