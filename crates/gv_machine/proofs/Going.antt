-- A step after which its thread goes on, as code takes it.
use Rattle.std.proofs.Common.{◌≡◌, ℕ, zero, suc, Bool, true, false, List, [], ◌∷◌, ◌++◌, Option, Some, None, Result, Ok, Err, map, refl, sym, ap, subst, ◌∙◌, append-nil}
use Rattle.std.specs.Prelude.{not}
use Rattle.std.proofs.lemmas.List.{set-set}
use Rattle.gv_base.specs.declared.answer.Answer.{Answer}
use Rattle.gv_base.specs.declared.answer.Answer.TheVariants.{Next, Blocked, Undefined}
use Rattle.gv_base.specs.declared.val.Val.{Val}
use Rattle.gv_world.specs.Store.{Store as World, is_within_limit}
use Rattle.gv_lang.specs.Step as step
use Rattle.gv_lang.specs.Threads as plain
use Rattle.gv_lang.specs.Tree.{Program}
use Rattle.gv_spec.specs.Runs.{Role, Spawned, living, replaced, step_taken, step_made}
use Rattle.gv_store.specs.declared.grow.Grow.{Grow}
use Rattle.gv_store.specs.declared.grow.Grow.TheVariants as grow
use Rattle.gv_thread.specs.Frames.{thread_of}
use Rattle.gv_runs.specs.Laws.{State}
use Rattle.gv_runs.specs.Machine.{Setting, left_by, machine_of}
use Rattle.gv_steps.specs.declared.after.After.{After}
use Rattle.gv_steps.specs.declared.after.After.TheVariants as after
use Rattle.gv_steps.specs.Outcomes as steps
use Rattle.gv_steps.specs.Outcomes.{StepsWithin}
use Rattle.gv_machine.specs.Ending.{GoesOn}
use Rattle.gv_machine.specs.Going.{answer_of, started_by}
use Rattle.gv_machine.specs.Outcomes.{leaves_too_many, Makes}
use Rattle.gv_machine.specs.Returning.{returned_next}
use Rattle.gv_machine.specs.Seen.{spawned}
use Rattle.gv_machine.proofs.Pops.{goes_on}

module _ {A : Type 0} where
  -- a slot for a thread that may start is no thread
  pub living_room : (ts : List (Option A)) (number : ℕ) → living (ts ++ None ∷ []) number ≡ living ts number
  living_room ts zero = refl
  living_room [] (suc zero) = refl
  living_room [] (suc (suc n)) = refl
  living_room (t ∷ ts) (suc zero) = refl
  living_room (t ∷ ts) (suc (suc n)) = living_room ts (suc n)

  pub replaced_room : (ts : List (Option A)) (number : ℕ) (x : Option A) (r : A) → living ts number ≡ Some r
      → replaced (ts ++ None ∷ []) number x ≡ replaced ts number x ++ None ∷ []
  replaced_room ts zero x r e = absurd cc
  replaced_room [] (suc n) x r e = absurd cc
  replaced_room (t ∷ ts) (suc zero) x r e = refl
  replaced_room (t ∷ ts) (suc (suc n)) x r e = ap (λ us. t ∷ us) (replaced_room ts (suc n) x r e)

  pub replaced_twice : (ts : List (Option A)) (number : ℕ) (x y : Option A) → replaced (replaced ts number x) number y ≡ replaced ts number y
  replaced_twice ts zero x y = refl
  replaced_twice ts (suc n) x y = set-set ts n x y

  pub replaced_same : (ts : List (Option A)) (number : ℕ) (r : A) → living ts number ≡ Some r → replaced ts number (Some r) ≡ ts
  replaced_same ts zero r e = absurd cc
  replaced_same [] (suc n) r e = absurd cc
  replaced_same (t ∷ ts) (suc zero) r e = ap (λ u. u ∷ ts) (sym e)
  replaced_same (t ∷ ts) (suc (suc n)) r e = ap (λ us. t ∷ us) (replaced_same ts (suc n) r e)

abbrev Slots : Type 0
Slots = List (Option (Role × plain.Thread))

module _ (g : Program) (setting : Setting) (old : State) (number extra : ℕ) where
  unchanged : (w : World) (ts : Slots) → w ≡ old.world → ts ≡ old.threads → (let made : State = record old { world = w; threads = ts } in made) ≡ old
  unchanged w ts e f = ap (λ v. record old { world = v; threads = ts }) e ∙ ap (λ us. record old { world = old.world; threads = us }) f

  abbrev taken : Role → Answer step.Stepped → Answer State
  taken role wanted = step_taken (machine_of g setting) old number role (left_by wanted)

  module _ (role : Role) (th new : plain.Thread) (w : World) (threads : Slots) (wanted : Answer step.Stepped) where
    stays : living old.threads number ≡ Some (role, th) → new ≡ th → threads ≡ replaced old.threads number (Some (role, new)) ++ [] → threads ≡ old.threads
    stays at same is =
        is ∙ append-nil (replaced old.threads number (Some (role, new))) ∙ ap (λ t. replaced old.threads number (Some (role, t))) same
        ∙ replaced_same old.threads number (role, th) at

    goes : (started : List plain.Thread) → wanted ≡ Next (step.GoesOn w new started) → steps.leaves_too_many wanted ≡ false
        → threads ≡ replaced old.threads number (Some (role, new)) ++ map (λ other. Some (Spawned, other)) started
        → Makes (taken role wanted) old (Ok (Next tt)) (record old { world = w; threads = threads })
    goes started e few is = (
      ap (taken role) e ∙ ap (λ ts. Next (record old { world = w; threads = ts })) (sym is),
      ap (λ a. leaves_too_many (taken role a)) e ∙ ap steps.leaves_too_many (sym e) ∙ few,
    )

    by_answer : (r : Result (Answer After) Grow) → living old.threads number ≡ Some (role, th) → StepsWithin wanted th old.world r new w
        → ((after : World) (vs : List Val) → wanted ≡ Next (step.Returns after vs) → ⊥)
        → threads ≡ replaced old.threads number (Some (role, new)) ++ spawned (started_by r)
        → Makes (taken role wanted) old (answer_of r) (record old { world = w; threads = threads })
    by_answer (Ok (Next (after.GoesOn None))) at h none is = goes [] h.0 h.1 is
    by_answer (Ok (Next (after.GoesOn (Some thread)))) at h none is = goes (thread_of thread ∷ []) h.0 h.1 is
    by_answer (Ok (Next (after.Returns values))) at h none is = absurd (none w values.items h.0)
    by_answer (Ok Blocked) at h none is = (ap (taken role) h.0.0, unchanged w threads h.0.2 (stays at h.0.1 is))
    by_answer (Ok (Undefined reason)) at h none is = (ap (taken role) h.0.0, unchanged w threads h.0.2 (stays at h.0.1 is))
    by_answer (Err grow.TooMany) at h none is = (over wanted none h.0, unchanged w threads h.2 (stays at h.1 is))
      where
        over : (a : Answer step.Stepped) → ((after : World) (vs : List Val) → a ≡ Next (step.Returns after vs) → ⊥) → steps.leaves_too_many a ≡ true
            → leaves_too_many (taken role a) ≡ true
        over (Next (step.GoesOn v t more)) never e = e
        over (Next (step.Returns v vs)) never e = absurd (never v vs refl)
        over Blocked never e = absurd cc
        over (Undefined reason) never e = absurd cc
    by_answer (Err grow.NoMemory) at h none is = unchanged w threads h.1 (stays at h.0 is)

  pub step_goes : (role : Role) (th new : plain.Thread) (w : World) (r : Result (Answer After) Grow) (first second third threads : Slots)
      → GoesOn (living old.threads number) → first ≡ old.threads ++ None ∷ [] → Some (role, th) ≡ living first number
      → second ≡ replaced first number None → third ≡ replaced second number (Some (role, new))
      → StepsWithin (step.stepped g extra th old.world) th old.world r new w
      → ((front : Slots) → third ≡ front ++ None ∷ [] → threads ≡ front ++ spawned (started_by r))
      → Makes (step_made (machine_of g setting) old number extra (living old.threads number)) old (answer_of r) (record old { world = w; threads = threads })
  step_goes role th new w r first second third threads goes room found empty put stepped filled =
      let at : living old.threads number ≡ Some (role, th) =
      sym (living_room old.threads number) ∙ ap (λ ts. living ts number) (sym room) ∙ sym found in
      let none : returned_next th ≡ None = subst_goes (living old.threads number) at goes in
      let back : third ≡ replaced old.threads number (Some (role, new)) ++ None ∷ [] =
      put ∙ ap (λ ts. replaced ts number (Some (role, new))) empty ∙ replaced_twice first number None (Some (role, new))
      ∙ ap (λ ts. replaced ts number (Some (role, new))) room ∙ replaced_room old.threads number (Some (role, new)) (role, th) at in
      let made = by_answer role th new w threads (step.stepped g extra th old.world) r at stepped (λ after vs e. goes_on g extra th old.world after vs none e)
      (filled (replaced old.threads number (Some (role, new))) back) in
      by_living (living old.threads number) at made
    where
      subst_goes : (found : Option (Role × plain.Thread)) → found ≡ Some (role, th) → GoesOn found → returned_next th ≡ None
      subst_goes None e h = absurd h
      subst_goes (Some t) e h = let same : t ≡ (role, th) = cc in ap (λ p. returned_next p.1) (sym same) ∙ h

      by_living : (found : Option (Role × plain.Thread)) → found ≡ Some (role, th)
          → Makes (taken role (step.stepped g extra th old.world)) old (answer_of r) (record old { world = w; threads = threads })
          → Makes (step_made (machine_of g setting) old number extra found) old (answer_of r) (record old { world = w; threads = threads })
      by_living found e h =
          let P : Option (Role × plain.Thread) → Type 0 =
          λ o. Makes (step_made (machine_of g setting) old number extra o) old (answer_of r) (record old { world = w; threads = threads }) in
          subst P (sym e) h
