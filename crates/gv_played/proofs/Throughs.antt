-- One event more.
use Rattle.std.proofs.Common.{◌≡◌, ℕ, ◌+◌, false, [], ◌∷◌, replicate, refl, sym, ap, ◌∙◌, arith, below_more}
use Rattle.std.proofs.lemmas.List.{replicate_more}
use Rattle.std.proofs.lemmas.List.Sums.{fold-append}
use Rattle.gv_base.specs.declared.answer.Answer.TheVariants.{Next, Blocked}
use Rattle.gv_lang.specs.declared.program.Program.{Program}
use Rattle.gv_terms.specs.declared.value.Value.{Value}
use Rattle.gv_atomic.specs.declared.spec.Spec.{Spec}
use Rattle.gv_spec.specs.Atomic.{atomic_of}
use Rattle.gv_spec.specs.Event.{Event}
use Rattle.gv_spec.specs.Runs.{settled, after}
use Rattle.gv_runs.specs.Laws.{State}
use Rattle.gv_machine.specs.Machines.{of_package}
use Rattle.gv_machine.specs.Outcomes.{leaves_too_many}
use Rattle.gv_played.specs.Playing.{from, comes, Goes, IsThrough}
use Rattle.gv_played.proofs.Faults.{next_fault}

module _ (g : Program) (s : Spec) where
  abbrev then_ : State → Event Value → State
  then_ now e = after (of_package g s) (atomic_of s).allows now e

  pub goes_done : (now next : State) (e : Event Value) → comes g s now e ≡ Next next → leaves_too_many (comes g s now e) ≡ false → Goes g s now e next
  goes_done now next e h few = record {
    is = sym (ap (settled now) h);
    within = few;
    defined = λ none. next_fault (of_package g s) (atomic_of s).allows now e next h none;
  }

  pub goes_blocked : (now next : State) (e : Event Value) → comes g s now e ≡ Blocked → next ≡ now → Goes g s now e next
  goes_blocked now next e h same = record {
    is = same ∙ sym (ap (settled now) h);
    within = ap leaves_too_many h;
    defined = λ none. ap (λ z. z.fault) same ∙ none;
  }

module _ (g : Program) (s : Spec) (state : State) (e : Event Value) where
  pub through_none : IsThrough g s state e 0 state
  through_none = record { is = refl; within = λ i h. absurd (omega (arith, h)); defined = λ none. none }

  from_more : (i : ℕ) → from g s state (replicate (i + 1) e) ≡ then_ g s (from g s state (replicate i e)) e
  from_more i =
      ap (from g s state) (sym (replicate_more i e))
      ∙ fold-append (after (of_package g s) (atomic_of s).allows) state (replicate i e) (e ∷ [])

  pub through_more : (i : ℕ) (now next : State) → IsThrough g s state e i now → Goes g s now e next → IsThrough g s state e (i + 1) next
  through_more i now next through goes = record {
    is = goes.is ∙ ap (λ z. then_ g s z e) through.is ∙ sym (from_more i);
    within =
        below_more (λ j. leaves_too_many (comes g s (from g s state (replicate j e)) e) ≡ false) i through.within
        (ap (λ z. leaves_too_many (comes g s z e)) (sym through.is) ∙ goes.within);
    defined = λ none. goes.defined (through.defined none);
  }
