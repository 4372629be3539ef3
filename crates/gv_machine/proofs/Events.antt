-- What comes of an event keeps what a machine keeps.
use Rattle.std.proofs.Common.{◌≡◌, ℕ, ◌+◌, ◌<◌, ◌≤◌, Bool, true, false, List, [], ◌∷◌, Option, Some, None, length, refl, sym, ap, subst, ◌∙◌, arith}
use Rattle.std.specs.Prelude.{◌&&◌, not}
use Rattle.std.specs.List.{list_all}
use Rattle.std.proofs.lemmas.Bool.{and_from, not-false}
use Rattle.gv_base.specs.declared.answer.Answer.{Answer}
use Rattle.gv_base.specs.declared.answer.Answer.TheVariants.{Next, Blocked, Undefined}
use Rattle.gv_base.specs.declared.reason.Reason.{Reason}
use Rattle.gv_world.specs.Store.{is_within_limit}
use Rattle.gv_lang.specs.Tree.{Program}
use Rattle.gv_terms.specs.declared.value.Value.{Value}
use Rattle.gv_spec.specs.Event.{Event}
use Rattle.gv_spec.specs.Runs.{unless_undefined, settled, event_made, outcome_of, first_state}
use Rattle.gv_runs.specs.Laws.{State, Allows}
use Rattle.gv_runs.specs.Machine.{Setting, machine_of}
use Rattle.gv_steps.specs.Bounds.{is_bounded_store, is_bounded_thread}
use Rattle.gv_steps.specs.Keeping.{BoundsAreKept}
use Rattle.gv_machine.specs.declared.outcome.Outcome.{Outcome}
use Rattle.gv_machine.specs.declared.outcome.Outcome.TheVariants as outcome
use Rattle.gv_machine.specs.Bounded.{is_bounded_slot, is_bounded_receiver, is_bounded, IsNumbered}
use Rattle.gv_machine.specs.Outcomes.{leaves_too_many, Comes}
use Rattle.gv_machine.proofs.Bounding.{Parts, parts}
use Rattle.gv_machine.proofs.Keeping.{Kept, IsKept, event_kept}

pub record Holds (old new : State) : Type 0 where
  pub bounded : is_bounded new ≡ true
  pub numbered : IsNumbered new
  pub few : length new.threads ≤ length old.threads + 1

same_holds : (old new : State) → is_bounded old ≡ true → IsNumbered old → new ≡ old → Holds old new
same_holds old new b n e = let P : State → Type 0 = Holds old in subst P (sym e) (record { bounded = b; numbered = n; few = omega arith })

possible : (fault : Option Reason) (made : Answer State) (new : State) → unless_undefined fault made ≡ Next new → made ≡ Next new
possible None made new e = e
possible (Some reason) made new e = absurd cc

done_holds : (old new : State) (made : Answer State) → IsKept old made → made ≡ Next new → is_within_limit new.world ≡ true → Holds old new
done_holds old new made k e within =
    let P : Answer State → Type 0 = IsKept old in
    let kept : Kept old new = subst P e k in
    record {
      bounded = and_from (is_within_limit new.world && is_bounded_store new.world && is_bounded_receiver new.receiver) (list_all is_bounded_slot new.threads)
          (and_from (is_within_limit new.world && is_bounded_store new.world) (is_bounded_receiver new.receiver)
          (and_from (is_within_limit new.world) (is_bounded_store new.world) within kept.store) kept.receiver) kept.threads;
      numbered = kept.numbered;
      few = kept.few;
    }

module _ (kept : BoundsAreKept) (g : Program) (setting : Setting) (allows : Allows) (old : State) (e : Event Value) (bounded : is_bounded old ≡ true) (numbered : IsNumbered old) where
  abbrev wanted : Answer State
  wanted = outcome_of (machine_of g setting) allows old e

  pub comes_kept : (o : Outcome) (new : State) → Comes wanted old o new → Holds old new
  comes_kept outcome.Done new h =
      done_holds old new (event_made (machine_of g setting) allows old e) (event_kept kept g setting old (parts old bounded) numbered allows e)
      (possible old.fault (event_made (machine_of g setting) allows old e) new h.0)
      (not-false (is_within_limit new.world) (ap leaves_too_many (sym h.0) ∙ h.1))
  comes_kept outcome.Blocked new h = same_holds old new bounded numbered h.1
  comes_kept (outcome.Undefined reason) new h =
      let is : new ≡ record old { fault = Some reason } = h.1 ∙ ap (settled old) h.0 in
      let P : State → Type 0 = Holds old in
      subst P (sym is) (record { bounded = bounded; numbered = numbered; few = omega arith })
  comes_kept outcome.TooMany new h = same_holds old new bounded numbered h.1
  comes_kept outcome.NoMemory new h = same_holds old new bounded numbered h

-- the first state
pub first_bounded : (kept : BoundsAreKept) (g : Program) (setting : Setting) → is_bounded (first_state (machine_of g setting)) ≡ true
first_bounded kept g setting =
    and_from (is_bounded_store (machine_of g setting).first_world && true) (is_bounded_thread (machine_of g setting).recovery && true)
    (and_from (is_bounded_store (machine_of g setting).first_world) true (kept.first_stores setting.disks setting.blocks) refl)
    (and_from (is_bounded_thread (machine_of g setting).recovery) true (kept.recoveries g) refl)
