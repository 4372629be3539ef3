-- Laws of runs, over any machine.
use Rattle.std.proofs.Common.{◌≡◌, ◌≢◌, ℕ, zero, suc, ◌≤◌, Bool, true, false, List, [], ◌∷◌, ◌++◌, length, map, fold, slice_set, Option, Some, None, Result, Ok, Err, refl, ap, subst, ◌∙◌, arith}
use Rattle.gv_base.specs.declared.reason.Reason.{Reason}
use Rattle.gv_spec.specs.Event as event
use Rattle.gv_spec.specs.Event.{Event}
use Rattle.gv_base.specs.declared.answer.Answer.{Answer}
use Rattle.gv_base.specs.declared.answer.Answer.TheVariants.{Next, Blocked, Undefined}
use Rattle.gv_spec.specs.Machine.{Stepped, GoesOn, Returns, Machine}
use Rattle.gv_spec.specs.Runs.{Role, Recovers, Answers, Spawned, RunState, living, replaced, call_started, thread_ended, answered, disk_failed, unless_undefined, settled, first_state, crash_made, frame_returned, step_taken, step_made, call_made, event_made, outcome_of, after, run_of}
use Rattle.gv_spec.specs.RunLaws.{ChangesNothing, NoCallBeforeBoot, NoStepOfEnded, EndedStays, CrashHappens, CrashDrops, NoFail, UndefinedStays, DefinedThroughout}

-- ---- threads

living_append : {A : Type 0} (ts us : List (Option A)) (number : ℕ) → number ≤ length ts → living (ts ++ us) number ≡ living ts number
living_append ts us zero h = refl
living_append [] us (suc i) h = absurd (omega (arith, h))
living_append (t ∷ ts) us (suc zero) h = refl
living_append (t ∷ ts) us (suc (suc i)) h = living_append ts us (suc i) (omega (arith, h))

living_set : {A : Type 0} (ts : List (Option A)) (i k : ℕ) (t : Option A) → i ≢ k → living (slice_set ts i t) (suc k) ≡ living ts (suc k)
living_set [] i k t h = refl
living_set (x ∷ xs) zero zero t h = absurd (h refl)
living_set (x ∷ xs) zero (suc k) t h = refl
living_set (x ∷ xs) (suc i) zero t h = refl
living_set (x ∷ xs) (suc i) (suc k) t h = living_set xs i k t (λ e. h (ap suc e))

some_none : {A : Type 0} {o : Option A} {x : A} → o ≡ Some x → o ≡ None → ⊥
some_none e h = cc

-- only the living are replaced, so whoever has ended stays so
living_replaced : {A : Type 0} (ts : List (Option A)) (n m : ℕ) (x : A) (t : Option A) → living ts n ≡ Some x → living ts m ≡ None → living (replaced ts n t) m ≡ None
living_replaced ts zero m x t e h = h
living_replaced ts (suc i) zero x t e h = refl
living_replaced ts (suc i) (suc k) x t e h = living_set ts i k t (λ same. some_none (subst (λ z. living ts (suc z) ≡ Some x) same e) h) ∙ h

length_set : {A : Type 0} (ts : List A) (i : ℕ) (t : A) → length (slice_set ts i t) ≡ length ts
length_set [] i t = refl
length_set (x ∷ xs) zero t = refl
length_set (x ∷ xs) (suc i) t = ap suc (length_set xs i t)

living_none : {A B : Type 0} (ts : List A) (number : ℕ) → living (map {B = Option B} (λ t. None) ts) number ≡ None
living_none ts zero = refl
living_none [] (suc i) = refl
living_none (t ∷ ts) (suc zero) = refl
living_none {B = B} (t ∷ ts) (suc (suc i)) = living_none {B = B} ts (suc i)

length_replaced : {A : Type 0} (ts : List (Option A)) (n : ℕ) (t : Option A) → length (replaced ts n t) ≡ length ts
length_replaced ts zero t = refl
length_replaced ts (suc i) t = length_set ts i t

length_none : {A : Type 0} (B : Type 0) (ts : List A) → length (map {B = Option B} (λ t. None) ts) ≡ length ts
length_none B [] = refl
length_none B (t ∷ ts) = ap suc (length_none B ts)

-- ---- laws

module _ {W T R V : Type 0} (machine : Machine W T R V) (allows : ℕ → List V → Bool) where
  -- where an event would come to Blocked, it does
  still_blocked : (o : Option Reason) (a : Answer (RunState W T R V)) → a ≡ Blocked → unless_undefined o a ≡ Blocked
  still_blocked None a e = e
  still_blocked (Some reason) a e = refl

  pub not_before_boot : (s : RunState W T R V) (op : ℕ) (args : List V) → s.receiver ≡ None → outcome_of machine allows s (event.Call op args) ≡ Blocked
  not_before_boot s op args e = still_blocked s.fault (event_made machine allows s (event.Call op args)) (rw e refl)

  pub not_ended : (s : RunState W T R V) (number extra : ℕ) → living s.threads number ≡ None → outcome_of machine allows s (event.Step number extra) ≡ Blocked
  not_ended s number extra e = still_blocked s.fault (event_made machine allows s (event.Step number extra)) (ap (step_made machine s number extra) e)

  pub not_failing : (s : RunState W T R V) (disk : ℕ) → machine.failed disk s.world ≡ None → outcome_of machine allows s (event.Fail disk) ≡ Blocked
  not_failing s disk e = still_blocked s.fault (event_made machine allows s (event.Fail disk)) (ap (disk_failed s) e)

  pub not_undefined : (s : RunState W T R V) (e : Event V) (reason : Reason) → s.fault ≡ Some reason → outcome_of machine allows s e ≡ Blocked
  not_undefined s e reason h = ap (λ o. unless_undefined o (event_made machine allows s e)) h

  -- a thread took a step, and another had ended
  step_stays : (s : RunState W T R V) (m number : ℕ) (role : Role) (t : T) → living s.threads m ≡ Some (role, t) → (a : Answer (Stepped W T R))
      → number ≤ length s.threads → living s.threads number ≡ None → living (settled s (step_taken machine s m role a)).threads number ≡ None
  step_stays s m number role t e (Next (GoesOn w u started)) h gone =
      living_append (replaced s.threads m (Some (role, u))) (map (λ other. Some (Spawned, other)) started) number (let l = length_replaced s.threads m (Some (role, u)) in omega (arith, h, l))
      ∙ living_replaced s.threads m number (role, t) (Some (role, u)) e gone
  step_stays s m number role t e (Next (Returns w r)) h gone = go role
    where
      left : living (replaced s.threads m None) number ≡ None
      left = living_replaced s.threads m number (role, t) None e gone

      answers : (n : ℕ) (o : Result V Reason) → living (settled s (answered (thread_ended s m w) n o)).threads number ≡ None
      answers n (Ok reply) = left
      answers n (Err reason) = gone

      go : (as_role : Role) → living (settled s (frame_returned machine (thread_ended s m w) as_role r)).threads number ≡ None
      go Recovers = left
      go (Answers n) = answers n (machine.reply r w)
      go Spawned = left
  step_stays s m number role t e Blocked h gone = gone
  step_stays s m number role t e (Undefined reason) h gone = gone

  crash_drops : (s : RunState W T R V) (number : ℕ) → number ≤ length s.threads → living (crash_made machine s).threads number ≡ None
  crash_drops s number h = living_append (map {B = Option (Role × T)} (λ thread. None) s.threads) (Some (Recovers, machine.recovery) ∷ []) number (let l = length_none (Role × T) s.threads in omega (arith, h, l)) ∙ living_none {B = Role × T} s.threads number

  event_stays : (s : RunState W T R V) (e : Event V) (number : ℕ) → number ≤ length s.threads → living s.threads number ≡ None → living (settled s (event_made machine allows s e)).threads number ≡ None
  event_stays s (event.Call op args) number h gone = go s.receiver (allows op args)
    where
      started : (o : Option (W × T)) → living (settled s (call_started s op args o)).threads number ≡ None
      started None = gone
      started (Some (w, t)) = living_append s.threads (Some (Answers (suc s.calls), t) ∷ []) number h ∙ gone

      go : (o : Option R) (b : Bool) → living (settled s (call_made machine s op args o b)).threads number ≡ None
      go None b = gone
      go (Some r) false = gone
      go (Some r) true = started (machine.called r op args s.world)
  event_stays s (event.Step m extra) number h gone = go (living s.threads m) refl
    where
      go : (o : Option (Role × T)) → living s.threads m ≡ o → living (settled s (step_made machine s m extra o)).threads number ≡ None
      go None e = gone
      go (Some (role, t)) e = step_stays s m number role t e (machine.stepped extra t s.world) h gone
  event_stays s event.Crash number h gone = crash_drops s number h
  event_stays s (event.Fail disk) number h gone = go (machine.failed disk s.world)
    where
      go : (o : Option W) → living (settled s (disk_failed s o)).threads number ≡ None
      go None = gone
      go (Some w) = gone

  pub ended_stays : (s : RunState W T R V) (e : Event V) (number : ℕ) → number ≤ length s.threads → living s.threads number ≡ None → living (after machine allows s e).threads number ≡ None
  ended_stays s e number h gone = go s.fault
    where
      go : (o : Option Reason) → living (settled s (unless_undefined o (event_made machine allows s e))).threads number ≡ None
      go None = event_stays s e number h gone
      go (Some reason) = gone

  pub dropped_by_crash : (s : RunState W T R V) (number : ℕ) → s.fault ≡ None → number ≤ length s.threads → living (after machine allows s event.Crash).threads number ≡ None
  dropped_by_crash s number e h = go s.fault e
    where
      go : (o : Option Reason) → o ≡ None → living (settled s (unless_undefined o (event_made machine allows s event.Crash))).threads number ≡ None
      go None d = crash_drops s number h
      go (Some reason) d = absurd cc

  -- what is undefined stays so
  stays_undefined : (s : RunState W T R V) (es : List (Event V)) (reason : Reason) → s.fault ≡ Some reason → (fold (after machine allows) s es).fault ≡ Some reason
  stays_undefined s [] reason h = h
  stays_undefined s (e ∷ es) reason h = stays_undefined (after machine allows s e) es reason (ap (λ a. (settled s a).fault) (not_undefined s e reason h) ∙ h)

  fold_append : (s : RunState W T R V) (es fs : List (Event V)) → fold (after machine allows) s (es ++ fs) ≡ fold (after machine allows) (fold (after machine allows) s es) fs
  fold_append s [] fs = refl
  fold_append s (e ∷ es) fs = fold_append (after machine allows s e) es fs

  pub defined_throughout : (front rest : List (Event V)) (e : Event V) (reason : Reason)
      → (run_of machine allows (front ++ e ∷ rest)).fault ≡ None → outcome_of machine allows (run_of machine allows front) e ≡ Undefined reason → ⊥
  defined_throughout front rest e reason h u =
      let s = run_of machine allows front in
      let next : (after machine allows s e).fault ≡ Some reason = ap (λ a. (settled s a).fault) u in
      some_none (ap (λ z. z.fault) (fold_append (first_state machine) front (e ∷ rest)) ∙ stays_undefined (after machine allows s e) rest reason next) h

pub changes_nothing : (W T R V : Type 0) → ChangesNothing W T R V
changes_nothing W T R V machine allows s e h = ap (settled s) h

pub no_call_before_boot : (W T R V : Type 0) → NoCallBeforeBoot W T R V
no_call_before_boot W T R V machine allows s op args h = not_before_boot machine allows s op args h

pub no_step_of_ended : (W T R V : Type 0) → NoStepOfEnded W T R V
no_step_of_ended W T R V machine allows s number extra h = not_ended machine allows s number extra h

pub stays_ended : (W T R V : Type 0) → EndedStays W T R V
stays_ended W T R V machine allows s e number h gone = ended_stays machine allows s e number h gone

pub crash_happens : (W T R V : Type 0) → CrashHappens W T R V
crash_happens W T R V machine allows s e = ap (λ o. unless_undefined o (event_made machine allows s event.Crash)) e

pub crash_drops_all : (W T R V : Type 0) → CrashDrops W T R V
crash_drops_all W T R V machine allows s number e h = dropped_by_crash machine allows s number e h

pub no_fail : (W T R V : Type 0) → NoFail W T R V
no_fail W T R V machine allows s disk h = not_failing machine allows s disk h

pub undefined_stays : (W T R V : Type 0) → UndefinedStays W T R V
undefined_stays W T R V machine allows s e reason h = not_undefined machine allows s e reason h

pub throughout : (W T R V : Type 0) → DefinedThroughout W T R V
throughout W T R V machine allows front rest e reason h u = defined_throughout machine allows front rest e reason h u
