-- What an event keeps: bounded slices, and a thread for each call.
use Rattle.std.proofs.Common.{◌≡◌, ℕ, zero, suc, ◌+◌, ◌<◌, ◌≤◌, Bool, true, false, List, [], ◌∷◌, ◌++◌, Option, Some, None, Result, Ok, Err, length, map, refl, sym, ap, subst, ◌∙◌, arith, length-append, length-set}
use Rattle.std.specs.Prelude.{◌&&◌, slice_get, slice_set, option_and_then}
use Rattle.std.specs.List.{list_all}
use Rattle.std.proofs.lemmas.Bool.{and_parts, and_from}
use Rattle.std.proofs.lemmas.List.{length-map}
use Rattle.gv_base.specs.declared.answer.Answer.{Answer}
use Rattle.gv_base.specs.declared.answer.Answer.TheVariants.{Next, Blocked, Undefined}
use Rattle.gv_base.specs.declared.reason.Reason.{Reason}
use Rattle.gv_base.specs.declared.val.Val.{Val}
use Rattle.gv_world.specs.Answers.{and_then}
use Rattle.gv_world.specs.Disks.{fail_disk}
use Rattle.gv_world.specs.Store.{Store as World, is_within_limit}
use Rattle.gv_lang.specs.Calls.{Given, recovery, called}
use Rattle.gv_lang.specs.Step as step
use Rattle.gv_lang.specs.Table.{Effect, Goes, Begins, Pushes, Starts, Pops, effect}
use Rattle.gv_lang.specs.Threads.{Frame, Thread}
use Rattle.gv_lang.specs.Todo.{Todo, head, onward}
use Rattle.gv_lang.specs.Tree.{Program}
use Rattle.gv_terms.specs.declared.value.Value.{Value}
use Rattle.gv_spec.specs.Event as event
use Rattle.gv_spec.specs.Event.{Event}
use Rattle.gv_spec.specs.Runs.{Role, Recovers, Answers, Spawned, living, replaced, call_started, thread_ended, booted, answered, disk_failed, first_state, crash_made, frame_returned, step_taken, step_made, call_made, event_made}
use Rattle.gv_runs.specs.Laws.{State, Allows}
use Rattle.gv_runs.specs.Machine.{Setting, left_by, possible, procedure, all_given, call_of, machine_of}
use Rattle.gv_steps.specs.Bounds.{are_bounded_values, is_bounded_store, is_bounded_thread, is_bounded_left}
use Rattle.gv_steps.specs.Keeping.{BoundsAreKept}
use Rattle.gv_machine.specs.Bounded.{is_bounded_slot, is_bounded_receiver, is_bounded, IsNumbered}
use Rattle.gv_machine.proofs.Bounding.{Parts, parts}

-- ---- lists

module _ {A : Type 0} (p : A → Bool) where
  both_pass : (xs ys : List A) → list_all p xs ≡ true → list_all p ys ≡ true → list_all p (xs ++ ys) ≡ true
  both_pass [] ys h k = k
  both_pass (x ∷ xs) ys h k =
      let split = and_parts (p x) (list_all p xs) h in
      and_from (p x) (list_all p (xs ++ ys)) split.0 (both_pass xs ys split.1 k)

  set_passes : (xs : List A) (i : ℕ) (x : A) → list_all p xs ≡ true → p x ≡ true → list_all p (slice_set xs i x) ≡ true
  set_passes [] i x h k = refl
  set_passes (y ∷ ys) zero x h k = and_from (p x) (list_all p ys) k (and_parts (p y) (list_all p ys) h).1
  set_passes (y ∷ ys) (suc i) x h k =
      let split = and_parts (p y) (list_all p ys) h in
      and_from (p y) (list_all p (slice_set ys i x)) split.0 (set_passes ys i x split.1 k)

abbrev Slots : Type 0
Slots = List (Option (Role × Thread))

replaced_passes : (ts : Slots) (number : ℕ) (x : Option (Role × Thread)) → list_all is_bounded_slot ts ≡ true → is_bounded_slot x ≡ true
    → list_all is_bounded_slot (replaced ts number x) ≡ true
replaced_passes ts zero x h k = h
replaced_passes ts (suc n) x h k = set_passes is_bounded_slot ts n x h k

replaced_length : (ts : Slots) (number : ℕ) (x : Option (Role × Thread)) → length (replaced ts number x) ≡ length ts
replaced_length ts zero x = refl
replaced_length ts (suc n) x = length-set ts n x

none_pass : (ts : Slots) → list_all is_bounded_slot (map (λ (thread : Option (Role × Thread)). let none : Option (Role × Thread) = None in none) ts) ≡ true
none_pass [] = refl
none_pass (t ∷ ts) = none_pass ts

living_passes : (ts : Slots) (number : ℕ) (r : Role × Thread) → list_all is_bounded_slot ts ≡ true → living ts number ≡ Some r → is_bounded_thread r.1 ≡ true
living_passes ts zero r h e = absurd cc
living_passes [] (suc n) r h e = absurd cc
living_passes (t ∷ ts) (suc zero) r h e = ap is_bounded_slot (sym e) ∙ (and_parts (is_bounded_slot t) (list_all is_bounded_slot ts) h).0
living_passes (t ∷ ts) (suc (suc n)) r h e = living_passes ts (suc n) r (and_parts (is_bounded_slot t) (list_all is_bounded_slot ts) h).1 e

started_pass : (started : List Thread) → list_all is_bounded_thread started ≡ true
    → list_all is_bounded_slot (map (λ (other : Thread). let slot : Option (Role × Thread) = Some (Spawned, other) in slot) started) ≡ true
started_pass [] h = refl
started_pass (t ∷ ts) h =
    let split = and_parts (is_bounded_thread t) (list_all is_bounded_thread ts) h in
    and_from (is_bounded_thread t) _ split.0 (started_pass ts split.1)

-- ---- a step starts one thread at most

abbrev few_started : Answer step.Stepped → Type 0
few_started (Next (step.GoesOn w th started)) = length started ≤ 1
few_started _ = Unit {0}

settled_few : (th : Thread) (w : World) (rest : Option Todo) (e : Effect) → few_started (step.settled th w rest e)
settled_few th w rest (Pops vs) = by_below th.below
  where
    by_below : (below : List Frame) → few_started (Next (step.returned below w th.top.results vs))
    by_below [] = tt
    by_below (f ∷ below) = omega arith
settled_few th w rest (Begins after) = omega arith
settled_few th w (Some rest) (Goes after locals) = omega arith
settled_few th w (Some rest) (Pushes f) = omega arith
settled_few th w (Some rest) (Starts f) = omega arith
settled_few th w None (Goes after locals) = tt
settled_few th w None (Pushes f) = tt
settled_few th w None (Starts f) = tt

row_few : (th : Thread) (w : World) (rest : Option Todo) (row : Answer Effect) → few_started (and_then row (step.settled th w rest))
row_few th w rest (Next e) = settled_few th w rest e
row_few th w rest Blocked = tt
row_few th w rest (Undefined r) = tt

step_few : (g : Program) (extra : ℕ) (th : Thread) (w : World) → few_started (step.stepped g extra th w)
step_few g extra th w =
    row_few th w (onward (step.truth th.top.locals (head th.top.todo)) th.top.todo) (effect g extra th.begun th.top.locals w (head th.top.todo))

-- ---- events

pub record Kept (old new : State) : Type 0 where
  pub store : is_bounded_store new.world ≡ true
  pub receiver : is_bounded_receiver new.receiver ≡ true
  pub threads : list_all is_bounded_slot new.threads ≡ true
  pub numbered : IsNumbered new
  pub few : length new.threads ≤ length old.threads + 1

abbrev pub IsKept : State → Answer State → Type 0
IsKept old (Next new) = Kept old new
IsKept old Blocked = Unit {0}
IsKept old (Undefined reason) = Unit {0}

module _ (kept : BoundsAreKept) (g : Program) (setting : Setting) (old : State) (held : Parts old) (numbered : IsNumbered old) where
  -- calls
  given_call : (f : ℕ) (r : List Val) (gs : Option (List Given)) (w' : World) (th : Thread) → are_bounded_values r ≡ true
      → option_and_then (λ givens. called g f r givens old.world) gs ≡ Some (w', th) → (is_bounded_store w' ≡ true) × (is_bounded_thread th ≡ true)
  given_call f r None w' th h e = absurd cc
  given_call f r (Some givens) w' th h e = kept.calls g f r givens old.world w' th h held.store e

  placed_call : (p : Option ℕ) (r : List Val) (args : List Value) (w' : World) (th : Thread) → are_bounded_values r ≡ true
      → option_and_then (λ f. option_and_then (λ givens. called g f r givens old.world) (all_given args)) p ≡ Some (w', th)
      → (is_bounded_store w' ≡ true) × (is_bounded_thread th ≡ true)
  placed_call None r args w' th h e = absurd cc
  placed_call (Some f) r args w' th h e = given_call f r (all_given args) w' th h e

  started_kept : (op : ℕ) (args : List Value) (r : List Val) (found : Option (World × Thread)) → are_bounded_values r ≡ true
      → call_of g setting r op args old.world ≡ found → IsKept old (call_started old op args found)
  started_kept op args r None h e = tt
  started_kept op args r (Some called) h e =
      let bounds = placed_call (procedure g setting op) r args called.0 called.1 h e in
      record {
        store = bounds.0;
        receiver = held.receiver;
        threads = both_pass is_bounded_slot old.threads (Some (Answers (suc old.calls), called.1) ∷ []) held.threads
            (and_from (is_bounded_thread called.1) true bounds.1 refl);
        numbered = omega (arith, numbered, length-append old.threads (Some (Answers (suc old.calls), called.1) ∷ []));
        few = omega (arith, length-append old.threads (Some (Answers (suc old.calls), called.1) ∷ []));
      }

  call_kept : (op : ℕ) (args : List Value) (receiver : Option (List Val)) (allowed : Bool) → is_bounded_receiver receiver ≡ true
      → IsKept old (call_made (machine_of g setting) old op args receiver allowed)
  call_kept op args (Some r) true h = started_kept op args r (call_of g setting r op args old.world) h refl
  call_kept op args (Some r) false h = tt
  call_kept op args None allowed h = tt

  -- steps
  answer_kept : (s : State) (n : ℕ) (reply : Result Value Reason) → Kept old s → IsKept old (answered s n reply)
  answer_kept s n (Ok reply) h = record { store = h.store; receiver = h.receiver; threads = h.threads; numbered = h.numbered; few = h.few }
  answer_kept s n (Err reason) h = tt

  returned_kept : (s : State) (role : Role) (vs : List Val) → Kept old s → are_bounded_values vs ≡ true
      → IsKept old (frame_returned (machine_of g setting) s role vs)
  returned_kept s Recovers vs h b = record { store = h.store; receiver = b; threads = h.threads; numbered = h.numbered; few = h.few }
  returned_kept s (Answers n) vs h b = answer_kept s n _ h
  returned_kept s Spawned vs h b = h

  ended_kept : (number : ℕ) (w : World) → is_bounded_store w ≡ true → Kept old (thread_ended old number w)
  ended_kept number w h = record {
    store = h;
    receiver = held.receiver;
    threads = replaced_passes old.threads number None held.threads refl;
    numbered = omega (arith, numbered, replaced_length old.threads number None);
    few = omega (arith, replaced_length old.threads number None);
  }

  taken_kept : (number : ℕ) (role : Role) (wanted : Answer step.Stepped) → ((left : step.Stepped) → wanted ≡ Next left → is_bounded_left left ≡ true)
      → few_started wanted → IsKept old (step_taken (machine_of g setting) old number role (left_by wanted))
  taken_kept number role (Next (step.GoesOn w th started)) b few =
      let all = and_parts (is_bounded_store w && is_bounded_thread th) (list_all is_bounded_thread started) (b (step.GoesOn w th started) refl) in
      let first = and_parts (is_bounded_store w) (is_bounded_thread th) all.0 in
      let news : Slots = map (λ other. Some (Spawned, other)) started in
      let count : length news ≡ length started = length-map started (λ (other : Thread). let slot : Option (Role × Thread) = Some (Spawned, other) in slot) in
      let whole = length-append (replaced old.threads number (Some (role, th))) news in
      let same = replaced_length old.threads number (Some (role, th)) in
      record {
        store = first.0;
        receiver = held.receiver;
        threads = both_pass is_bounded_slot (replaced old.threads number (Some (role, th))) news
            (replaced_passes old.threads number (Some (role, th)) held.threads first.1) (started_pass started all.1);
        numbered = omega (arith, numbered, whole, same);
        few = omega (arith, few, count, whole, same);
      }
  taken_kept number role (Next (step.Returns w vs)) b few =
      let both = and_parts (is_bounded_store w) (are_bounded_values vs) (b (step.Returns w vs) refl) in
      returned_kept (thread_ended old number w) role vs (ended_kept number w both.0) both.1
  taken_kept number role Blocked b few = tt
  taken_kept number role (Undefined reason) b few = tt

  step_kept : (number extra : ℕ) (found : Option (Role × Thread)) → living old.threads number ≡ found
      → IsKept old (step_made (machine_of g setting) old number extra found)
  step_kept number extra None e = tt
  step_kept number extra (Some t) e =
      taken_kept number t.0 (step.stepped g extra t.1 old.world)
      (λ left same. kept.steps g extra t.1 old.world left (living_passes old.threads number t held.threads e) held.store same)
      (step_few g extra t.1 old.world)

  crash_kept : Kept old (crash_made (machine_of g setting) old)
  crash_kept =
      let dropped : Slots = map (λ (thread : Option (Role × Thread)). let none : Option (Role × Thread) = None in none) old.threads in
      let count : length dropped ≡ length old.threads = length-map old.threads (λ (thread : Option (Role × Thread)). let none : Option (Role × Thread) = None in none) in
      let whole = length-append dropped (Some (Recovers, recovery g) ∷ []) in
      record {
        store = kept.crashes old.world;
        receiver = refl;
        threads = both_pass is_bounded_slot dropped (Some (Recovers, recovery g) ∷ []) (none_pass old.threads)
            (and_from (is_bounded_thread (recovery g)) true (kept.recoveries g) refl);
        numbered = omega (arith, numbered, count, whole);
        few = omega (arith, count, whole);
      }

  fail_kept : (disk : ℕ) (wanted : Answer World) → fail_disk old.world disk ≡ wanted → IsKept old (disk_failed old (possible wanted))
  fail_kept disk (Next w) e = record {
    store = kept.failures old.world w disk held.store e;
    receiver = held.receiver;
    threads = held.threads;
    numbered = numbered;
    few = omega arith;
  }
  fail_kept disk Blocked e = tt
  fail_kept disk (Undefined reason) e = tt

  pub event_kept : (allows : Allows) (e : Event Value) → IsKept old (event_made (machine_of g setting) allows old e)
  event_kept allows (event.Call op args) = call_kept op args old.receiver (allows op args) held.receiver
  event_kept allows (event.Step number extra) = step_kept number extra (living old.threads number) refl
  event_kept allows event.Crash = crash_kept
  event_kept allows (event.Fail disk) = fail_kept disk (fail_disk old.world disk) refl
