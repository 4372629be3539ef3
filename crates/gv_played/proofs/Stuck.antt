-- Behind an undefined event nothing is possible.
use Rattle.std.proofs.Common.{◌≡◌, ℕ, Bool, List, [], ◌∷◌, ◌++◌, fold, Option, Some, None, refl, sym, ap, ◌∙◌}
use Rattle.std.proofs.lemmas.List.Sums.{fold-append}
use Rattle.gv_base.specs.declared.answer.Answer.{Answer}
use Rattle.gv_base.specs.declared.answer.Answer.TheVariants.{Blocked, Undefined}
use Rattle.gv_base.specs.declared.reason.Reason.{Reason}
use Rattle.gv_spec.specs.Event.{Event}
use Rattle.gv_spec.specs.Machine.{Machine}
use Rattle.gv_spec.specs.Runs.{RunState, settled, unless_undefined, event_made, outcome_of, after, first_state, run_of}

module _ {W T R V : Type 0} (machine : Machine W T R V) (allows : ℕ → List V → Bool) where
  stuck_by : (fault : Option Reason) (reason : Reason) (made : Answer (RunState W T R V)) → fault ≡ Some reason → unless_undefined fault made ≡ Blocked
  stuck_by None reason made h = absurd cc
  stuck_by (Some r) reason made h = refl

  stuck : (now : RunState W T R V) (e : Event V) (reason : Reason) → now.fault ≡ Some reason → outcome_of machine allows now e ≡ Blocked
  stuck now e reason h = stuck_by now.fault reason (event_made machine allows now e) h

  stays : (now : RunState W T R V) (events : List (Event V)) (reason : Reason) → now.fault ≡ Some reason → fold (after machine allows) now events ≡ now
  stays now [] reason h = refl
  stays now (e ∷ events) reason h =
      ap (λ z. fold (after machine allows) z events) (ap (settled now) (stuck now e reason h)) ∙ stays now events reason h

  pub nothing_behind : (now : RunState W T R V) (e : Event V) (reason other : Reason) → now.fault ≡ Some reason → outcome_of machine allows now e ≡ Undefined other → ⊥
  nothing_behind now e reason other h k = let clash : Blocked ≡ Undefined other = sym (stuck now e reason h) ∙ k in cc

  -- where an event was undefined, its reason stays
  pub broken : (front more : List (Event V)) (e : Event V) (reason : Reason) → outcome_of machine allows (run_of machine allows front) e ≡ Undefined reason
      → (run_of machine allows (front ++ e ∷ more)).fault ≡ Some reason
  broken front more e reason h =
      let old : RunState W T R V = run_of machine allows front in
      let last : RunState W T R V = after machine allows old e in
      let here : last.fault ≡ Some reason = ap (λ a. (settled old a).fault) h in
      let whole : run_of machine allows (front ++ e ∷ more) ≡ last = fold-append (after machine allows) (first_state machine) front (e ∷ more) ∙ stays last more reason here in
      ap (λ z. z.fault) whole ∙ here
