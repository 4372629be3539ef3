-- A machine each of whose allowed calls returns in one step, as its specification's operation does at once
-- without choosing, refines the specification, crashes included.
use Rattle.std.proofs.Common.{◌≡◌, ◌≢◌, ℕ, zero, suc, ◌<◌, ◌≤◌, ◌⊎◌, Bool, true, false, List, [], ◌∷◌, ◌++◌, length, map, fold, slice_get, slice_set, Option, Some, None, Result, Ok, Err, refl, sym, ap, subst, ◌∙◌, inl, inr, arith, append-nil}
use Rattle.gv_base.specs.declared.reason.Reason.{Reason}
use Rattle.gv_spec.specs.Event as event
use Rattle.gv_spec.specs.Entry as entry
use Rattle.gv_spec.specs.Move as move
use Rattle.gv_spec.specs.Event.{Event}
use Rattle.gv_base.specs.declared.answer.Answer.{Answer}
use Rattle.gv_base.specs.declared.answer.Answer.TheVariants.{Next, Blocked}
use Rattle.gv_spec.specs.Machine.{Stepped, GoesOn, Returns, Machine}
use Rattle.gv_spec.specs.Specification.{Specification}
use Rattle.gv_spec.specs.Runs.{Role, Recovers, Answers, Spawned, RunState, living, call_started, thread_ended, booted, answered, disk_failed, unless_undefined, settled, first_state, crash_made, step_taken, step_made, call_made, event_made, after, history_of}
use Rattle.gv_spec.specs.Walks.{NeverCalled, Called, Acted, Answered, WalkState, entered, dropped, first_walk, walk_moved, walk_from}
use Rattle.gv_spec.specs.Refines.{Refines}
use Rattle.gv_spec.specs.Specification.{Specification}
use Rattle.gv_spec.proofs.Threads.{set_cases, push_cases, none_stands, stands, some_same}
use Rattle.gv_spec.proofs.Moves.{moves_of, entries_moves, entered_same, entered_other, more_moves}

abbrev here : {T : Type 0} → Role → T → Option (Role × T)
here role t = Some (role, t)

thread_same : {T : Type 0} (role role' : Role) (t t' : T) → here role t ≡ here role' t' → (role ≡ role') × (t ≡ t')
thread_same {T} role role' t t' e =
    let P : Role × T = (role, t) in
    let Q : Role × T = (role', t') in
    let same : P ≡ Q = some_same P Q e in
    (ap (λ z. z.0) same, ap (λ z. z.1) same)

not_answering : (n : ℕ) → Recovers ≡ Answers n → ⊥
not_answering n e = cc

not_spawned : (n : ℕ) → Answers n ≡ Spawned → ⊥
not_spawned n e = cc

not_both : Recovers ≡ Spawned → ⊥
not_both e = cc

numbers_same : (n m : ℕ) → Answers n ≡ Answers m → n ≡ m
numbers_same n m e = cc

not_booted : {R : Type 0} (o : Option R) (r : R) → o ≡ None → o ≡ Some r → ⊥
not_booted o r e f = cc

-- what a specification does without choosing: of the calls that it allows, and of a crash
pub record Alone {F V : Type 0} (atomic : Specification F V) : Type 0 where
  pub applied : ℕ → List V → F → F × V
  pub crashed : F → F
  pub applies : (op : ℕ) (args : List V) (fields : F) → atomic.allows op args ≡ true → atomic.applied op args [] fields ≡ Some (applied op args fields)
  pub crashes : (fields : F) → atomic.crashed [] fields ≡ Some (crashed fields)

-- what Fits says of a world and of the fields, Recovering of a thread that runs the recovery, Receives of what it returns
module _ {W T R F V : Type 0} (machine : Machine W T R V) (atomic : Specification F V) (plain : Alone atomic)
    (Fits : W → F → Type 0) (Recovering : T → Type 0) (Receives : R → Type 0) where
  -- a step of the recovery leaves the fields as they fit
  pub data RecoveryStep (f : F) : Answer (Stepped W T R) → Type 0 where
    recovery_waits : RecoveryStep f Blocked
    recovery_goes : (w : W) (t : T) → Fits w f → Recovering t → RecoveryStep f (Next (GoesOn w t []))
    recovery_returns : (w : W) (r : R) → Fits w f → Receives r → RecoveryStep f (Next (Returns w r))

  -- a step of a call returns the operation's reply, and leaves its fields
  pub data CallStep (op : ℕ) (args : List V) (f : F) : Answer (Stepped W T R) → Type 0 where
    call_waits : CallStep op args f Blocked
    call_returns : (w : W) (r : R) → Fits w (plain.applied op args f).0 → machine.reply r w ≡ Ok (plain.applied op args f).1 → CallStep op args f (Next (Returns w r))

  -- a thread that answers a call so, wherever it takes its step
  abbrev pub Calling : ℕ → List V → T → Type 0
  Calling op args t = (extra : ℕ) (w : W) (f : F) → Fits w f → CallStep op args f (machine.stepped extra t w)

  pub record AnswersAtOnce : Type 0 where
    pub starts : Fits machine.first_world (plain.crashed atomic.first_fields)
    pub recovers : Recovering machine.recovery
    pub recovery_steps : (extra : ℕ) (t : T) (w : W) (f : F) → Recovering t → Fits w f → RecoveryStep f (machine.stepped extra t w)
    pub calls : (r : R) (op : ℕ) (args : List V) (w : W) (f : F) (v : W) (t : T) → Receives r → atomic.allows op args ≡ true
        → machine.called r op args w ≡ Some (v, t) → Fits w f → Fits v f
    pub call_steps : (r : R) (op : ℕ) (args : List V) (w : W) (v : W) (t : T) → Receives r → atomic.allows op args ≡ true
        → machine.called r op args w ≡ Some (v, t) → Calling op args t
    pub crashes : (w : W) (f : F) → Fits w f → Fits (machine.crashed w) (plain.crashed f)
    pub crashes_again : (w : W) (f : F) → Fits w (plain.crashed f) → Fits (machine.crashed w) (plain.crashed f)
    pub fails : (disk : ℕ) (w : W) (f : F) (v : W) → machine.failed disk w ≡ Some v → Fits w f → Fits v f

  -- until it boots the world fits the fields that the boot will leave
  fields_now : Option R → F → F
  fields_now None f = plain.crashed f
  fields_now (Some r) f = f

  abbrev There : List (Option (Role × T)) → ℕ → Role → T → Type 0
  There threads place role t = slice_get threads place ≡ Some (Some (role, t))

  record Inv (s : RunState W T R V) : Type 0 where
    defined : s.fault ≡ None
    now : WalkState F V
    walked : walk_from atomic (first_walk atomic) (moves_of s.history) ≡ Ok now
    fits : Fits s.world (fields_now s.receiver now.fields)
    fresh : (n : ℕ) → s.calls < n → now.table n ≡ NeverCalled
    answering : (k n : ℕ) (t : T) → There s.threads k (Answers n) t → (op : ℕ) × (args : List V) × (r : R) × (now.table n ≡ Called op args) × (n ≤ s.calls) × (s.receiver ≡ Some r) × Calling op args t
        × (atomic.allows op args ≡ true)
    receiving : (r : R) → s.receiver ≡ Some r → Receives r
    apart : (k l n : ℕ) (t u : T) → There s.threads k (Answers n) t → There s.threads l (Answers n) u → k ≡ l
    recovering : (k : ℕ) (t : T) → There s.threads k Recovers t → (s.receiver ≡ None) × Recovering t
    alone : (k l : ℕ) (t u : T) → There s.threads k Recovers t → There s.threads l Recovers u → k ≡ l
    unspawned : (k : ℕ) (t : T) → There s.threads k Spawned t → ⊥

  module _ (at_once : AnswersAtOnce) where
    one_thread : (k : ℕ) (role : Role) (t : T) → There (Some (Recovers, machine.recovery) ∷ []) k role t → (k ≡ 0) × (Recovers ≡ role) × (machine.recovery ≡ t)
    one_thread zero role t e = (let p = thread_same Recovers role machine.recovery t (some_same (here Recovers machine.recovery) (here role t) e) in (refl, p.0, p.1))
    one_thread (suc k) role t e = absurd cc

    inv_start : Inv (first_state machine)
    unfolding fields_now
    inv_start = record {
      defined = refl;
      now = first_walk atomic;
      walked = refl;
      fits = at_once.starts;
      fresh = λ n h. refl;
      answering = λ k n t e. absurd (not_answering n (one_thread k (Answers n) t e).1);
      receiving = λ r e. absurd cc;
      apart = λ k l n t u e d. absurd (not_answering n (one_thread k (Answers n) t e).1);
      recovering = λ k t e. (refl, subst Recovering (one_thread k Recovers t e).2 at_once.recovers);
      alone = λ k l t u e d. (one_thread k Recovers t e).0 ∙ sym (one_thread l Recovers u d).0;
      unspawned = λ k t e. not_both (one_thread k Spawned t e).1;
    }

    -- a call starts
    inv_call : (s : RunState W T R V) (op : ℕ) (args : List V) (r : R) (w : W) (t : T) → atomic.allows op args ≡ true → s.receiver ≡ Some r → machine.called r op args s.world ≡ Some (w, t) → Inv s → Inv (settled s (call_started s op args (Some (w, t))))
    inv_call s op args r w t allowed booted started v =
        let new = suc s.calls in
        let free : v.now.table new ≡ NeverCalled = v.fresh new (omega arith) in
        let moved : walk_moved atomic v.now (move.Other (entry.Call new op args)) ≡ Ok (record { fields = v.now.fields; table = entered v.now.table new (Called op args) }) = rw free refl in
        record {
          defined = v.defined;
          now = record { fields = v.now.fields; table = entered v.now.table new (Called op args) };
          walked = more_moves atomic (first_walk atomic) v.now s.history (entry.Call new op args ∷ []) v.walked ∙ rw moved refl;
          fits = at_once.calls r op args s.world (fields_now s.receiver v.now.fields) w t (v.receiving r booted) allowed started v.fits;
          fresh = λ n h. entered_other v.now.table new (Called op args) n (λ e. omega arith) ∙ v.fresh n (omega arith);
          answering = λ k n u e. opened k n u (pushed k (Answers n) u e);
          receiving = v.receiving;
          apart = λ k l n u x e d. one k l n u x (pushed k (Answers n) u e) (pushed l (Answers n) x d);
          recovering = λ k u e. v.recovering k u (still k Recovers u (λ n h. not_answering n (sym h)) e);
          alone = λ k l u x e d. v.alone k l u x (still k Recovers u (λ n h. not_answering n (sym h)) e) (still l Recovers x (λ n h. not_answering n (sym h)) d);
          unspawned = λ k u e. v.unspawned k u (still k Spawned u (λ n h. not_spawned n h) e);
        }
      where
        pushed : (k : ℕ) (role : Role) (u : T) → There (s.threads ++ Some (Answers (suc s.calls), t) ∷ []) k role u → (There s.threads k role u) ⊎ ((k ≡ length s.threads) × (Answers (suc s.calls) ≡ role) × (t ≡ u))
        pushed k role u e = elim (push_cases s.threads (Some (Answers (suc s.calls), t)) (Some (role, u)) k e) [ inl p ↦ inl p | inr p ↦ inr (let q = thread_same (Answers (suc s.calls)) role t u p.1 in (p.0, q.0, q.1)) ]

        still : (k : ℕ) (role : Role) (u : T) → ((n : ℕ) → Answers n ≡ role → ⊥) → There (s.threads ++ Some (Answers (suc s.calls), t) ∷ []) k role u → There s.threads k role u
        still k role u differs e = elim (pushed k role u e) [ inl p ↦ p | inr p ↦ absurd (differs (suc s.calls) p.1) ]

        opened : (k n : ℕ) (u : T) → (There s.threads k (Answers n) u) ⊎ ((k ≡ length s.threads) × (Answers (suc s.calls) ≡ Answers n) × (t ≡ u))
            → (o : ℕ) × (a : List V) × (r : R) × (entered v.now.table (suc s.calls) (Called op args) n ≡ Called o a) × (n ≤ suc s.calls) × (s.receiver ≡ Some r) × Calling o a u
            × (atomic.allows o a ≡ true)
        opened k n u (inl p) = (let q = v.answering k n u p in (q.0, q.1, q.2, entered_other v.now.table (suc s.calls) (Called op args) n (λ e. omega (arith, q.4)) ∙ q.3, omega (arith, q.4), q.5, q.6, q.7))
        opened k n u (inr p) = (
            let same : suc s.calls ≡ n = numbers_same (suc s.calls) n p.1 in (
              op,
              args,
              r,
              subst (λ z. entered v.now.table (suc s.calls) (Called op args) z ≡ Called op args) same (entered_same v.now.table (suc s.calls) (Called op args)),
              omega arith,
              booted,
              subst (Calling op args) p.2 (at_once.call_steps r op args s.world w t (v.receiving r booted) allowed started),
              allowed,
            ))

        one : (k l n : ℕ) (u x : T) → (There s.threads k (Answers n) u) ⊎ ((k ≡ length s.threads) × (Answers (suc s.calls) ≡ Answers n) × (t ≡ u))
            → (There s.threads l (Answers n) x) ⊎ ((l ≡ length s.threads) × (Answers (suc s.calls) ≡ Answers n) × (t ≡ x)) → k ≡ l
        one k l n u x (inl p) (inl q) = v.apart k l n u x p q
        one k l n u x (inr p) (inr q) = p.0 ∙ sym q.0
        one k l n u x (inl p) (inr q) = (let a = v.answering k n u p in let same = numbers_same (suc s.calls) n q.1 in absurd (omega (arith, a.4)))
        one k l n u x (inr p) (inl q) = (let a = v.answering l n x q in let same = numbers_same (suc s.calls) n p.1 in absurd (omega (arith, a.4)))

    -- who stands in the threads once the one at a place was changed
    changed : (s : RunState W T R V) (i k : ℕ) (x : Option (Role × T)) (role : Role) (u : T) → There (slice_set s.threads i x) k role u → ((k ≡ i) × (x ≡ here role u)) ⊎ ((k ≢ i) × There s.threads k role u)
    changed s i k x role u e = set_cases s.threads i k x (here role u) e

    -- where the thread at the place has ended, the others stand as before
    others : (s : RunState W T R V) (i k : ℕ) (role : Role) (u : T) → There (slice_set s.threads i None) k role u → (k ≢ i) × There s.threads k role u
    others s i k role u e = elim (changed s i k None role u e) [ inl p ↦ absurd (let h = p.1 in cc) | inr p ↦ p ]

    -- the recovery goes on
    inv_goes : (s : RunState W T R V) (i : ℕ) (t : T) (w : W) (u : T) → There s.threads i Recovers t → (v : Inv s) → Fits w (fields_now s.receiver v.now.fields) → Recovering u
        → Inv (settled s (step_taken machine s (suc i) Recovers (Next (GoesOn w u []))))
    inv_goes s i t w u place v fit recovers = record {
      defined = v.defined;
      now = v.now;
      walked = v.walked;
      fits = fit;
      fresh = v.fresh;
      answering = λ k n x e. v.answering k n x (call k n x e);
      receiving = v.receiving;
      apart = λ k l n x y e d. v.apart k l n x y (call k n x e) (call l n y d);
      recovering = λ k x e. elim (was k Recovers x e) [ inl p ↦ ((v.recovering i t place).0, subst Recovering p.2 recovers) | inr p ↦ v.recovering k x p.1 ];
      alone = λ k l x y e d. only k x e ∙ sym (only l y d);
      unspawned = λ k x e. elim (was k Spawned x e) [ inl p ↦ not_both p.1 | inr p ↦ v.unspawned k x p.1 ];
    }
      where
        was : (k : ℕ) (role : Role) (x : T) → There (slice_set s.threads i (here Recovers u) ++ []) k role x → ((k ≡ i) × (Recovers ≡ role) × (u ≡ x)) ⊎ ((k ≢ i) × There s.threads k role x)
        was k role x e = elim (changed s i k (here Recovers u) role x (subst (λ z. There z k role x) (append-nil (slice_set s.threads i (here Recovers u))) e)) [
          | inl p ↦ inl (let q = thread_same Recovers role u x p.1 in (p.0, q.0, q.1))
          | inr p ↦ inr p
        ]

        call : (k n : ℕ) (x : T) → There (slice_set s.threads i (here Recovers u) ++ []) k (Answers n) x → There s.threads k (Answers n) x
        call k n x e = elim (was k (Answers n) x e) [ inl p ↦ absurd (not_answering n p.1) | inr p ↦ p.1 ]

        only : (k : ℕ) (x : T) → There (slice_set s.threads i (here Recovers u) ++ []) k Recovers x → k ≡ i
        only k x e = elim (was k Recovers x e) [ inl p ↦ p.0 | inr p ↦ v.alone k i x t p.1 place ]

    -- the recovery returns
    inv_boot : (s : RunState W T R V) (i : ℕ) (t : T) (w : W) (r : R) → There s.threads i Recovers t → (v : Inv s) → Fits w (plain.crashed v.now.fields) → Receives r
        → Inv (settled s (step_taken machine s (suc i) Recovers (Next (Returns w r))))
    unfolding fields_now
    inv_boot s i t w r place v fit receives = record {
      defined = v.defined;
      now = record { fields = plain.crashed v.now.fields; table = λ n. dropped (v.now.table n) };
      walked = more_moves atomic (first_walk atomic) v.now s.history (entry.Boot ∷ []) v.walked ∙ rw (plain.crashes v.now.fields) refl;
      fits = fit;
      fresh = λ n h. ap dropped (v.fresh n h);
      answering = λ k n x e. absurd (no_call k n x e);
      receiving = λ q e. subst Receives (some_same r q e) receives;
      apart = λ k l n x y e d. absurd (no_call k n x e);
      recovering = λ k x e. absurd (no_other k x e);
      alone = λ k l x y e d. absurd (no_other k x e);
      unspawned = λ k x e. v.unspawned k x (others s i k Spawned x e).1;
    }
      where
        no_call : (k n : ℕ) (x : T) → There (slice_set s.threads i None) k (Answers n) x → ⊥
        no_call k n x e = (let q = v.answering k n x (others s i k (Answers n) x e).1 in not_booted s.receiver q.2 (v.recovering i t place).0 q.5)

        no_other : (k : ℕ) (x : T) → There (slice_set s.threads i None) k Recovers x → ⊥
        no_other k x e = (let q = others s i k Recovers x e in q.0 (v.alone k i x t q.1 place))

    -- a call answers: it acts just before
    inv_answer : (s : RunState W T R V) (i n : ℕ) (t : T) (op : ℕ) (args : List V) (w : W) (o : Result V Reason) → There s.threads i (Answers n) t → (v : Inv s)
        → atomic.allows op args ≡ true → v.now.table n ≡ Called op args → n ≤ s.calls → Fits w (fields_now s.receiver (plain.applied op args v.now.fields).0)
        → o ≡ Ok (plain.applied op args v.now.fields).1
        → Inv (settled s (answered (thread_ended s (suc i) w) n o))
    inv_answer s i n t op args w (Err reason) place v allowed stood below fit e = absurd cc
    inv_answer s i n t op args w (Ok reply) place v allowed stood below fit e =
        let kept = (plain.applied op args v.now.fields).1 in
        let same : reply ≡ kept = cc in
        let acted : WalkState F V = record { fields = (plain.applied op args v.now.fields).0; table = entered v.now.table n (Acted kept) } in
        let gone : WalkState F V = record { fields = (plain.applied op args v.now.fields).0; table = entered acted.table n Answered } in
        let acts : walk_moved atomic v.now (move.Act n []) ≡ Ok acted = rw (stood, plain.applies op args v.now.fields allowed) refl in
        let answers : walk_moved atomic acted (move.Other (entry.Answer n reply)) ≡ Ok gone = rw (entered_same v.now.table n (Acted kept), (atomic.decides reply kept).1 same) refl in
        record {
          defined = v.defined;
          now = gone;
          walked = more_moves atomic (first_walk atomic) v.now s.history (entry.Answer n reply ∷ []) v.walked ∙ rw (acts, answers) refl;
          fits = fit;
          fresh = λ m h. entered_other acted.table n Answered m (λ d. omega arith) ∙ entered_other v.now.table n (Acted kept) m (λ d. omega arith) ∙ v.fresh m h;
          answering = λ k m x d. (
              let p = others s i k (Answers m) x d in
              let q = v.answering k m x p.1 in
              let differs : m ≢ n = λ h. p.0 (v.apart k i n x t (subst (λ z. There s.threads k (Answers z) x) h p.1) place) in
              (q.0, q.1, q.2, entered_other acted.table n Answered m differs ∙ entered_other v.now.table n (Acted kept) m differs ∙ q.3, q.4, q.5, q.6, q.7));
          receiving = v.receiving;
          apart = λ k l m x y d c. v.apart k l m x y (others s i k (Answers m) x d).1 (others s i l (Answers m) y c).1;
          recovering = λ k x d. v.recovering k x (others s i k Recovers x d).1;
          alone = λ k l x y d c. v.alone k l x y (others s i k Recovers x d).1 (others s i l Recovers y c).1;
          unspawned = λ k x d. v.unspawned k x (others s i k Spawned x d).1;
        }

    -- a crash drops all threads, whatever ran
    inv_crash : (s : RunState W T R V) → Inv s → Inv (crash_made machine s)
    unfolding fields_now
    inv_crash s v = record {
      defined = v.defined;
      now = v.now;
      walked = more_moves atomic (first_walk atomic) v.now s.history (entry.Crash ∷ []) v.walked;
      fits = fit s.receiver v.fits;
      fresh = v.fresh;
      answering = λ k n x e. absurd (not_answering n (new k (Answers n) x e).1);
      receiving = λ r e. absurd cc;
      apart = λ k l n x y e d. absurd (not_answering n (new k (Answers n) x e).1);
      recovering = λ k x e. (refl, subst Recovering (new k Recovers x e).2 at_once.recovers);
      alone = λ k l x y e d. (new k Recovers x e).0 ∙ sym (new l Recovers y d).0;
      unspawned = λ k x e. not_both (new k Spawned x e).1;
    }
      where
        fit : (o : Option R) → Fits s.world (fields_now o v.now.fields) → Fits (machine.crashed s.world) (plain.crashed v.now.fields)
        fit None h = at_once.crashes_again s.world v.now.fields h
        fit (Some r) h = at_once.crashes s.world v.now.fields h

        new : (k : ℕ) (role : Role) (x : T) → There (map (λ thread. None) s.threads ++ Some (Recovers, machine.recovery) ∷ []) k role x
            → (k ≡ length (map {B = Option (Role × T)} (λ thread. None) s.threads)) × (Recovers ≡ role) × (machine.recovery ≡ x)
        new k role x e = elim (push_cases (map (λ thread. None) s.threads) (here Recovers machine.recovery) (here role x) k e) [
          | inl p ↦ absurd (none_stands s.threads k (role, x) p)
          | inr p ↦ (let q = thread_same Recovers role machine.recovery x p.1 in (p.0, q.0, q.1))
        ]

    inv_fail : (s : RunState W T R V) (disk : ℕ) (o : Option W) → machine.failed disk s.world ≡ o → Inv s → Inv (settled s (disk_failed s o))
    inv_fail s disk None e v = v
    inv_fail s disk (Some w) e v = record {
      defined = v.defined;
      now = v.now;
      walked = v.walked;
      fits = at_once.fails disk s.world (fields_now s.receiver v.now.fields) w e v.fits;
      fresh = v.fresh;
      answering = v.answering;
      receiving = v.receiving;
      apart = v.apart;
      recovering = v.recovering;
      alone = v.alone;
      unspawned = v.unspawned;
    }

    inv_recovery_step : (s : RunState W T R V) (i : ℕ) (t : T) → There s.threads i Recovers t → (v : Inv s) → (a : Answer (Stepped W T R)) → RecoveryStep (plain.crashed v.now.fields) a
        → Inv (settled s (step_taken machine s (suc i) Recovers a))
    unfolding fields_now
    inv_recovery_step s i t place v a recovery_waits = v
    inv_recovery_step s i t place v a (recovery_goes w u fit recovers) = inv_goes s i t w u place v (subst (λ o. Fits w (fields_now o v.now.fields)) (sym (v.recovering i t place).0) fit) recovers
    inv_recovery_step s i t place v a (recovery_returns w r fit receives) = inv_boot s i t w r place v fit receives

    inv_call_step : (s : RunState W T R V) (i n : ℕ) (t : T) (op : ℕ) (args : List V) (r : R) → There s.threads i (Answers n) t → (v : Inv s)
        → atomic.allows op args ≡ true → v.now.table n ≡ Called op args → n ≤ s.calls → s.receiver ≡ Some r
        → (a : Answer (Stepped W T R)) → CallStep op args v.now.fields a
        → Inv (settled s (step_taken machine s (suc i) (Answers n) a))
    unfolding fields_now
    inv_call_step s i n t op args r place v allowed stood below booted a call_waits = v
    inv_call_step s i n t op args r place v allowed stood below booted a (call_returns w result fit e) =
        inv_answer s i n t op args w (machine.reply result w) place v allowed stood below (subst (λ o. Fits w (fields_now o (plain.applied op args v.now.fields).0)) (sym booted) fit) e

    inv_step : (s : RunState W T R V) (i extra : ℕ) (o : Option (Role × T)) → living s.threads (suc i) ≡ o → Inv s → Inv (settled s (step_made machine s (suc i) extra o))
    unfolding fields_now
    inv_step s i extra None e v = v
    inv_step s i extra (Some (Recovers, t)) e v =
        let place : There s.threads i Recovers t = stands (slice_get s.threads i) (Recovers, t) e in
        let q = v.recovering i t place in
        inv_recovery_step s i t place v (machine.stepped extra t s.world) (at_once.recovery_steps extra t s.world (plain.crashed v.now.fields) q.1 (subst (λ o. Fits s.world (fields_now o v.now.fields)) q.0 v.fits))
    inv_step s i extra (Some (Answers n, t)) e v =
        let place : There s.threads i (Answers n) t = stands (slice_get s.threads i) (Answers n, t) e in
        let q = v.answering i n t place in
        inv_call_step s i n t q.0 q.1 q.2 place v q.7 q.3 q.4 q.5 (machine.stepped extra t s.world) (q.6 extra s.world v.now.fields (subst (λ o. Fits s.world (fields_now o v.now.fields)) q.5 v.fits))
    inv_step s i extra (Some (Spawned, t)) e v = absurd (v.unspawned i t (stands (slice_get s.threads i) (Spawned, t) e))

    inv_event : (s : RunState W T R V) (e : Event V) → Inv s → Inv (settled s (event_made machine atomic.allows s e))
    inv_event s (event.Call op args) v = go s.receiver refl (atomic.allows op args) refl
      where
        start : (r : R) → atomic.allows op args ≡ true → s.receiver ≡ Some r → (o : Option (W × T)) → machine.called r op args s.world ≡ o → Inv (settled s (call_started s op args o))
        start r allowed booted None e = v
        start r allowed booted (Some (w, t)) e = inv_call s op args r w t allowed booted e v

        go : (o : Option R) → s.receiver ≡ o → (b : Bool) → atomic.allows op args ≡ b → Inv (settled s (call_made machine s op args o b))
        go None e b d = v
        go (Some r) e false d = v
        go (Some r) e true d = start r d e (machine.called r op args s.world) refl
    inv_event s (event.Step zero extra) v = v
    inv_event s (event.Step (suc i) extra) v = inv_step s i extra (living s.threads (suc i)) refl v
    inv_event s event.Crash v = inv_crash s v
    inv_event s (event.Fail disk) v = inv_fail s disk (machine.failed disk s.world) refl v

    inv_after : (s : RunState W T R V) (e : Event V) → Inv s → Inv (after machine atomic.allows s e)
    inv_after s e v = go s.fault v.defined
      where
        go : (o : Option Reason) → o ≡ None → Inv (settled s (unless_undefined o (event_made machine atomic.allows s e)))
        go None h = inv_event s e v
        go (Some reason) h = absurd cc

    inv_run : (s : RunState W T R V) (es : List (Event V)) → Inv s → Inv (fold (after machine atomic.allows) s es)
    inv_run s [] v = v
    inv_run s (e ∷ es) v = inv_run (after machine atomic.allows s e) es (inv_after s e v)

    pub refines_at_once : Refines machine atomic
    refines_at_once events = (
        let v = inv_run (first_state machine) events inv_start in
        let told = history_of machine atomic.allows events in
        record {
          defined = v.defined;
          moves = moves_of told;
          explains = record { entries = entries_moves told; end = v.now; passes = v.walked };
        })
