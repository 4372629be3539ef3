-- Laws of walks and explanations, over any specification.
use Rattle.std.proofs.Common.{◌≡◌, ◌≢◌, ◌↔◌, ◌⊎◌, ℕ, ◌+◌, ◌≤◌, Bool, true, false, eqb, cond, ◌&&◌, IsTrue, List, [], ◌∷◌, ◌++◌, Option, Some, None, Result, Ok, Err, refl, sym, ap, subst, ◌∙◌, inl, inr, arith, eqb-true, eq-eqb}
use lib.Pointwise.{pointwise, pointwise_decides}
use Rattle.gv_spec.specs.Entry as entry
use Rattle.gv_spec.specs.Move as move
use Rattle.gv_spec.specs.Entry.{Entry, same_entry}
use Rattle.gv_spec.specs.Move.{Move, shown, entries_of}
use Rattle.gv_spec.specs.Specification.{Specification}
use Rattle.gv_spec.specs.Walks.{Standing, NeverCalled, Called, Acted, Answered, Dropped, WalkState, WalkCause, WalkFault, Order, WrongReply, entered, dropped, onward, located, first_walk, walk_called, acted_to, walk_acted, walk_answered, booted_to, walk_moved, walk_from, Explains, in_order, left_after, at_end, walk_beside}
use Rattle.gv_spec.specs.WalkLaws.{ActsWith, WalkTells, ActsOnce, AnsweredActs, NoActAfterBoot, NoWrongReply}
use Rattle.gv_spec.proofs.Moves.{entered_same, walk_append}

-- ---- entries alike

left_true : (s t : Bool) → (s && t) ≡ true → s ≡ true
left_true true t h = refl
left_true false t h = h

right_true : (s t : Bool) → (s && t) ≡ true → t ≡ true
right_true true t h = h
right_true false t h = absurd cc

both_true : (s t : Bool) → s ≡ true → t ≡ true → (s && t) ≡ true
both_true true t h k = k
both_true false t h k = h

module _ {V : Type 0} (same : V → V → Bool) (decides : (x y : V) → IsTrue (same x y) ↔ (x ≡ y)) where
  pub own_entry : (e : Entry V) → same_entry same e e ≡ true
  own_entry (entry.Call n op args) = both_true (eqb n n && eqb op op) (pointwise same args args) (both_true (eqb n n) (eqb op op) (eq-eqb n n refl) (eq-eqb op op refl)) ((pointwise_decides decides args args).1 refl)
  own_entry (entry.Answer n reply) = both_true (eqb n n) (same reply reply) (eq-eqb n n refl) ((decides reply reply).1 refl)
  own_entry entry.Crash = refl
  own_entry entry.Boot = refl

  pub entries_same : (e f : Entry V) → same_entry same e f ≡ true → e ≡ f
  entries_same (entry.Call n op args) (entry.Call m other values) h =
      let tests = left_true (eqb n m && eqb op other) (pointwise same args values) h in
      let numbers : n ≡ m = eqb-true n m (left_true (eqb n m) (eqb op other) tests) in
      let ops : op ≡ other = eqb-true op other (right_true (eqb n m) (eqb op other) tests) in
      let lists : args ≡ values = (pointwise_decides decides args values).0 (right_true (eqb n m && eqb op other) (pointwise same args values) h) in
      cc
  entries_same (entry.Answer n reply) (entry.Answer m value) h =
      let numbers : n ≡ m = eqb-true n m (left_true (eqb n m) (same reply value) h) in
      let replies : reply ≡ value = (decides reply value).0 (right_true (eqb n m) (same reply value) h) in
      cc
  entries_same entry.Crash entry.Crash h = refl
  entries_same entry.Boot entry.Boot h = refl
  entries_same _ _ h = absurd cc

-- ---- one move

-- what a move that the walk doesn't refuse has met, and what it leaves
pub data Walked {F V : Type 0} (atomic : Specification F V) (w u : WalkState F V) : Move V → Type 0 where
  by_call : (n op : ℕ) (args : List V) → w.table n ≡ NeverCalled → u.fields ≡ w.fields → u.table ≡ entered w.table n (Called op args) → Walked atomic w u (move.Other (entry.Call n op args))
  by_act : (n op : ℕ) (args : List V) (choices : List ℕ) (reply : V) → w.table n ≡ Called op args → atomic.applied op args choices w.fields ≡ Some (u.fields, reply)
      → u.table ≡ entered w.table n (Acted reply) → Walked atomic w u (move.Act n choices)
  by_answer : (n : ℕ) (reply : V) → w.table n ≡ Acted reply → u.table ≡ entered w.table n Answered → Walked atomic w u (move.Other (entry.Answer n reply))
  by_crash : u.table ≡ w.table → Walked atomic w u (move.Other entry.Crash)
  by_boot : (choices : List ℕ) → u.table ≡ (λ n. dropped (w.table n)) → Walked atomic w u (move.Boot choices)
  by_plain_boot : u.table ≡ (λ n. dropped (w.table n)) → Walked atomic w u (move.Other entry.Boot)

module _ {F V : Type 0} (atomic : Specification F V) where
  abbrev pub walked_to : WalkState F V → Result (WalkState F V) WalkCause
  walked_to w = Ok w

  ok_same : (x y : WalkState F V) → walked_to x ≡ walked_to y → x ≡ y
  ok_same x y e = cc

  called_walked : (w u : WalkState F V) (n op : ℕ) (args : List V) (c : Standing V) → w.table n ≡ c → walk_called atomic w n op args c ≡ Ok u → Walked atomic w u (move.Other (entry.Call n op args))
  called_walked w u n op args NeverCalled h e = (let same = ok_same (record w { table = entered w.table n (Called op args) }) u e in by_call n op args h (ap (λ z. z.fields) (sym same)) (ap (λ z. z.table) (sym same)))
  called_walked w u n op args (Called o a) h e = absurd cc
  called_walked w u n op args (Acted reply) h e = absurd cc
  called_walked w u n op args Answered h e = absurd cc
  called_walked w u n op args Dropped h e = absurd cc

  acted_walked : (w u : WalkState F V) (n : ℕ) (choices : List ℕ) (c : Standing V) → w.table n ≡ c → walk_acted atomic w n choices c ≡ Ok u → Walked atomic w u (move.Act n choices)
  acted_walked w u n choices (Called op args) h e = go (atomic.applied op args choices w.fields) refl e
    where
      go : (o : Option (F × V)) → atomic.applied op args choices w.fields ≡ o → acted_to atomic w n o ≡ Ok u → Walked atomic w u (move.Act n choices)
      go None f k = absurd cc
      go (Some (fields, reply)) f k = (
          let next : WalkState F V = record { fields = fields; table = entered w.table n (Acted reply) } in
          let same : next ≡ u = ok_same next u k in
          by_act n op args choices reply h (f ∙ ap (λ z. Some (z.fields, reply)) same) (ap (λ z. z.table) (sym same)))
  acted_walked w u n choices NeverCalled h e = absurd cc
  acted_walked w u n choices (Acted reply) h e = absurd cc
  acted_walked w u n choices Answered h e = absurd cc
  acted_walked w u n choices Dropped h e = absurd cc

  -- the table after a boot
  booted_table : (w u : WalkState F V) (o : Option F) → booted_to atomic w o ≡ Ok u → u.table ≡ (λ n. dropped (w.table n))
  booted_table w u None e = absurd cc
  booted_table w u (Some fields) e = (
      let next : WalkState F V = record { fields = fields; table = λ n. dropped (w.table n) } in
      ap (λ z. z.table) (sym (ok_same next u e)))

  answered_walked : (w u : WalkState F V) (n : ℕ) (reply : V) (c : Standing V) → w.table n ≡ c → walk_answered atomic w n reply c ≡ Ok u → Walked atomic w u (move.Other (entry.Answer n reply))
  answered_walked w u n reply (Acted kept) h e = go (atomic.same reply kept) refl e
    where
      gone : WalkState F V
      gone = record w { table = entered w.table n Answered }

      go : (b : Bool) → atomic.same reply kept ≡ b → cond b (walked_to gone) (Err WrongReply) ≡ Ok u → Walked atomic w u (move.Other (entry.Answer n reply))
      go true t d = (let same : gone ≡ u = ok_same gone u d in by_answer n reply (h ∙ ap Acted (sym ((atomic.decides reply kept).0 t))) (ap (λ z. z.table) (sym same)))
      go false t d = absurd cc
  answered_walked w u n reply NeverCalled h e = absurd cc
  answered_walked w u n reply (Called op args) h e = absurd cc
  answered_walked w u n reply Answered h e = absurd cc
  answered_walked w u n reply Dropped h e = absurd cc

  pub moved_walked : (w u : WalkState F V) (m : Move V) → walk_moved atomic w m ≡ Ok u → Walked atomic w u m
  moved_walked w u (move.Act n choices) e = acted_walked w u n choices (w.table n) refl e
  moved_walked w u (move.Boot choices) e = by_boot choices (booted_table w u (atomic.crashed choices w.fields) e)
  moved_walked w u (move.Other (entry.Call n op args)) e = called_walked w u n op args (w.table n) refl e
  moved_walked w u (move.Other (entry.Answer n reply)) e = answered_walked w u n reply (w.table n) refl e
  moved_walked w u (move.Other entry.Crash) e = by_crash (ap (λ z. z.table) (sym (ok_same w u e)))
  moved_walked w u (move.Other entry.Boot) e = by_plain_boot (booted_table w u (atomic.crashed [] w.fields) e)

-- ---- how far a call has come

rank : {V : Type 0} → Standing V → ℕ
rank NeverCalled = 0
rank (Called op args) = 1
rank (Acted reply) = 2
rank Answered = 3
rank Dropped = 3

drop_rank : {V : Type 0} (c : Standing V) → rank c ≤ rank (dropped c)
unfolding rank
drop_rank NeverCalled = omega arith
drop_rank (Called op args) = omega arith
drop_rank (Acted reply) = omega arith
drop_rank Answered = omega arith
drop_rank Dropped = omega arith

-- a call that stood anywhere is done with at a boot
past_boot : {V : Type 0} (c : Standing V) → 1 ≤ rank c → rank (dropped c) ≡ 3
unfolding rank
past_boot NeverCalled h = absurd (omega (arith, h))
past_boot (Called op args) h = refl
past_boot (Acted reply) h = refl
past_boot Answered h = refl
past_boot Dropped h = refl

enter_rank : {V : Type 0} (table : ℕ → Standing V) (k : ℕ) (old c : Standing V) (n : ℕ) → table k ≡ old → rank old ≤ rank c → rank (table n) ≤ rank (entered table k c n)
enter_rank table k old c n e h = go (eqb n k) refl
  where
    go : (b : Bool) → eqb n k ≡ b → rank (table n) ≤ rank (cond b c (table n))
    go true t = subst (λ z. rank z ≤ rank c) (sym (ap table (eqb-true n k t) ∙ e)) h
    go false t = omega arith

module _ {F V : Type 0} (atomic : Specification F V) where
  grows_once : (w u : WalkState F V) (m : Move V) (n : ℕ) → Walked atomic w u m → rank (w.table n) ≤ rank (u.table n)
  unfolding rank
  grows_once w u m n (by_call k op args e f t) = subst (λ z. rank (w.table n) ≤ rank (z n)) (sym t) (enter_rank w.table k NeverCalled (Called op args) n e (omega arith))
  grows_once w u m n (by_act k op args choices reply e f t) = subst (λ z. rank (w.table n) ≤ rank (z n)) (sym t) (enter_rank w.table k (Called op args) (Acted reply) n e (omega arith))
  grows_once w u m n (by_answer k reply e t) = subst (λ z. rank (w.table n) ≤ rank (z n)) (sym t) (enter_rank w.table k (Acted reply) Answered n e (omega arith))
  grows_once w u m n (by_crash t) = subst (λ z. rank (w.table n) ≤ rank (z n)) (sym t) (omega arith)
  grows_once w u m n (by_boot choices t) = subst (λ z. rank (w.table n) ≤ rank (z n)) (sym t) (drop_rank (w.table n))
  grows_once w u m n (by_plain_boot t) = subst (λ z. rank (w.table n) ≤ rank (z n)) (sym t) (drop_rank (w.table n))

  -- ---- walks in parts

  record Split (w v : WalkState F V) (ms ns : List (Move V)) : Type 0 where
    mid : WalkState F V
    front : walk_from atomic w ms ≡ Ok mid
    back : walk_from atomic mid ns ≡ Ok v

  split : (w v : WalkState F V) (ms ns : List (Move V)) → walk_from atomic w (ms ++ ns) ≡ Ok v → Split w v ms ns
  split w v ms ns e = go (walk_from atomic w ms) refl (sym (walk_append atomic w ms ns) ∙ e)
    where
      go : (r : Result (WalkState F V) WalkCause) → walk_from atomic w ms ≡ r → onward (λ u. walk_from atomic u ns) r ≡ Ok v → Split w v ms ns
      go (Ok u) h k = record { mid = u; front = h; back = k }
      go (Err cause) h k = absurd cc

  record Taken (w v : WalkState F V) (m : Move V) (ms : List (Move V)) : Type 0 where
    next : WalkState F V
    first : Walked atomic w next m
    rest : walk_from atomic next ms ≡ Ok v

  taken : (w v : WalkState F V) (m : Move V) (ms : List (Move V)) → walk_from atomic w (m ∷ ms) ≡ Ok v → Taken w v m ms
  taken w v m ms e = go (walk_moved atomic w m) refl e
    where
      go : (r : Result (WalkState F V) WalkCause) → walk_moved atomic w m ≡ r → onward (λ u. walk_from atomic u ms) r ≡ Ok v → Taken w v m ms
      go (Ok u) h k = record { next = u; first = moved_walked atomic w u m h; rest = k }
      go (Err cause) h k = absurd cc

  grows : (w v : WalkState F V) (ms : List (Move V)) (n : ℕ) → walk_from atomic w ms ≡ Ok v → rank (w.table n) ≤ rank (v.table n)
  grows w v [] n e = subst (λ z. rank (w.table n) ≤ rank (z.table n)) (ok_same atomic w v e) (omega arith)
  grows w v (m ∷ ms) n e = (let t = taken w v m ms e in let a = grows_once w t.next m n t.first in let b = grows t.next v ms n t.rest in omega (arith, a, b))

  -- the ranks before and after an act, a call and a boot
  act_ranks : (w u : WalkState F V) (n : ℕ) (choices : List ℕ) → Walked atomic w u (move.Act n choices) → (rank (w.table n) ≡ 1) × (rank (u.table n) ≡ 2)
  unfolding rank
  act_ranks w u n choices (by_act k op args cs reply e f t) = (ap rank e, ap (λ z. rank (z n)) t ∙ ap rank (entered_same w.table n (Acted reply)))

  call_ranks : (w u : WalkState F V) (n op : ℕ) (args : List V) → Walked atomic w u (move.Other (entry.Call n op args)) → (rank (w.table n) ≡ 0) × (u.table n ≡ Called op args)
  unfolding rank
  call_ranks w u n op args (by_call k o a e f t) = (ap rank e, ap (λ z. z n) t ∙ entered_same w.table n (Called op args))

  boot_table : (w u : WalkState F V) (m : Move V) (n : ℕ) → shown m ≡ Some entry.Boot → Walked atomic w u m → u.table n ≡ dropped (w.table n)
  boot_table w u m n h (by_call k op args e f t) = absurd cc
  boot_table w u m n h (by_act k op args choices reply e f t) = absurd cc
  boot_table w u m n h (by_answer k reply e t) = absurd cc
  boot_table w u m n h (by_crash t) = absurd cc
  boot_table w u m n h (by_boot choices t) = ap (λ z. z n) t
  boot_table w u m n h (by_plain_boot t) = ap (λ z. z n) t

  boot_rank : (w u : WalkState F V) (m : Move V) (n : ℕ) → shown m ≡ Some entry.Boot → Walked atomic w u m → 1 ≤ rank (w.table n) → rank (u.table n) ≡ 3
  boot_rank w u m n is step h = ap rank (boot_table w u m n is step) ∙ past_boot (w.table n) h

  answer_table : (w u : WalkState F V) (n : ℕ) (reply : V) → Walked atomic w u (move.Other (entry.Answer n reply)) → w.table n ≡ Acted reply
  answer_table w u n reply (by_answer k r e t) = e

  rank_called : (u : WalkState F V) (n op : ℕ) (args : List V) → u.table n ≡ Called op args → rank (u.table n) ≡ 1
  unfolding rank
  rank_called u n op args h = ap rank h

  -- ---- once, and not after a boot

  acts_once_from : (w v : WalkState F V) (n : ℕ) (choices others : List ℕ) (front middle rest : List (Move V))
      → walk_from atomic w (front ++ move.Act n choices ∷ (middle ++ move.Act n others ∷ rest)) ≡ Ok v → ⊥
  acts_once_from w v n choices others front middle rest e =
      let s = split w v front (move.Act n choices ∷ (middle ++ move.Act n others ∷ rest)) e in
      let t = taken s.mid v (move.Act n choices) (middle ++ move.Act n others ∷ rest) s.back in
      let one = act_ranks s.mid t.next n choices t.first in
      let u = split t.next v middle (move.Act n others ∷ rest) t.rest in
      let more = grows t.next u.mid middle n u.front in
      let z = taken u.mid v (move.Act n others) rest u.back in
      let two = act_ranks u.mid z.next n others z.first in
      omega (arith, one.1, more, two.0)

  no_act_after_boot_from : (w v : WalkState F V) (n op : ℕ) (args : List V) (choices : List ℕ) (boot : Move V) (front middle later rest : List (Move V)) → shown boot ≡ Some entry.Boot
      → walk_from atomic w (front ++ move.Other (entry.Call n op args) ∷ (middle ++ boot ∷ (later ++ move.Act n choices ∷ rest))) ≡ Ok v → ⊥
  no_act_after_boot_from w v n op args choices boot front middle later rest is e =
      let s = split w v front (move.Other (entry.Call n op args) ∷ (middle ++ boot ∷ (later ++ move.Act n choices ∷ rest))) e in
      let t = taken s.mid v (move.Other (entry.Call n op args)) (middle ++ boot ∷ (later ++ move.Act n choices ∷ rest)) s.back in
      let started = rank_called t.next n op args (call_ranks s.mid t.next n op args t.first).1 in
      let u = split t.next v middle (boot ∷ (later ++ move.Act n choices ∷ rest)) t.rest in
      let more = grows t.next u.mid middle n u.front in
      let b = taken u.mid v boot (later ++ move.Act n choices ∷ rest) u.back in
      let gone = boot_rank u.mid b.next boot n is b.first (omega (arith, started, more)) in
      let l = split b.next v later (move.Act n choices ∷ rest) b.rest in
      let still = grows b.next l.mid later n l.front in
      let a = taken l.mid v (move.Act n choices) rest l.back in
      let acts = act_ranks l.mid a.next n choices a.first in
      omega (arith, gone, still, acts.0)

-- ---- where a standing comes from

-- another call's standing stays, or it is the call itself
pub entered_cases : {V : Type 0} (table : ℕ → Standing V) (k : ℕ) (c : Standing V) (n : ℕ) → ((n ≡ k) × (entered table k c n ≡ c)) ⊎ (entered table k c n ≡ table n)
entered_cases table k c n = go (eqb n k) refl
  where
    go : (b : Bool) → eqb n k ≡ b → ((n ≡ k) × (cond (eqb n k) c (table n) ≡ c)) ⊎ (cond (eqb n k) c (table n) ≡ table n)
    go true t = inl (eqb-true n k t, rw t refl)
    go false t = inr (rw t refl)

undropped_acted : {V : Type 0} (c : Standing V) (reply : V) → dropped c ≡ Acted reply → ⊥
undropped_acted NeverCalled reply h = cc
undropped_acted (Called op args) reply h = cc
undropped_acted (Acted r) reply h = cc
undropped_acted Answered reply h = cc
undropped_acted Dropped reply h = cc

pub undropped_called : {V : Type 0} (c : Standing V) (op : ℕ) (args : List V) → dropped c ≡ Called op args → ⊥
undropped_called NeverCalled op args h = cc
undropped_called (Called o a) op args h = cc
undropped_called (Acted r) op args h = cc
undropped_called Answered op args h = cc
undropped_called Dropped op args h = cc

acted_same : {V : Type 0} (r q : V) → Acted r ≡ Acted q → r ≡ q
acted_same r q h = cc

pub called_same : {V : Type 0} (o p : ℕ) (a b : List V) → Called o a ≡ Called p b → (o ≡ p) × (a ≡ b)
called_same o p a b h = (cc, cc)

module _ {F V : Type 0} (atomic : Specification F V) where
  -- the act of call n among these moves, and where the walk stood before it
  record ActPart (w : WalkState F V) (ms : List (Move V)) (n : ℕ) (kept : V) : Type 0 where
    op : ℕ
    args : List V
    choices : List ℕ
    before : List (Move V)
    since : List (Move V)
    parts : ms ≡ before ++ move.Act n choices ∷ since
    at : WalkState F V
    reached : walk_from atomic w before ≡ Ok at
    stood : at.table n ≡ Called op args
    fields : F
    replied : atomic.applied op args choices at.fields ≡ Some (fields, kept)

  record CallPart (ms : List (Move V)) (n op : ℕ) (args : List V) : Type 0 where
    before : List (Move V)
    since : List (Move V)
    parts : ms ≡ before ++ move.Other (entry.Call n op args) ∷ since

  -- one move: the standing was there, or this move made it
  acted_before : (w u : WalkState F V) (m : Move V) (n : ℕ) (kept : V) (ms : List (Move V)) → Walked atomic w u m → u.table n ≡ Acted kept → (w.table n ≡ Acted kept) ⊎ ActPart w (m ∷ ms) n kept
  acted_before w u m n kept ms (by_call k op args e f t) h = elim (entered_cases w.table k (Called op args) n) [
    | inl p ↦ absurd (let d = sym p.1 ∙ sym (ap (λ z. z n) t) ∙ h in cc)
    | inr p ↦ inl (sym p ∙ sym (ap (λ z. z n) t) ∙ h)
  ]
  acted_before w u m n kept ms (by_act k op args choices reply e f t) h = elim (entered_cases w.table k (Acted reply) n) [
    | inl p ↦ inr (record {
      op = op;
      args = args;
      choices = choices;
      before = [];
      since = ms;
      parts = ap (λ z. move.Act z choices ∷ ms) (sym p.0);
      at = w;
      reached = refl;
      stood = ap w.table p.0 ∙ e;
      fields = u.fields;
      replied = f ∙ ap (λ z. Some (u.fields, z)) (acted_same reply kept (sym p.1 ∙ sym (ap (λ z. z n) t) ∙ h));
    })
    | inr p ↦ inl (sym p ∙ sym (ap (λ z. z n) t) ∙ h)
  ]
  acted_before w u m n kept ms (by_answer k reply e t) h = elim (entered_cases w.table k Answered n) [
    | inl p ↦ absurd (let d = sym p.1 ∙ sym (ap (λ z. z n) t) ∙ h in cc)
    | inr p ↦ inl (sym p ∙ sym (ap (λ z. z n) t) ∙ h)
  ]
  acted_before w u m n kept ms (by_crash t) h = inl (sym (ap (λ z. z n) t) ∙ h)
  acted_before w u m n kept ms (by_boot choices t) h = absurd (undropped_acted (w.table n) kept (sym (ap (λ z. z n) t) ∙ h))
  acted_before w u m n kept ms (by_plain_boot t) h = absurd (undropped_acted (w.table n) kept (sym (ap (λ z. z n) t) ∙ h))

  acted_where : (w v : WalkState F V) (ms : List (Move V)) (n : ℕ) (kept : V) → walk_from atomic w ms ≡ Ok v → v.table n ≡ Acted kept → (w.table n ≡ Acted kept) ⊎ ActPart w ms n kept
  acted_where w v [] n kept e h = inl (ap (λ z. z.table n) (ok_same atomic w v e) ∙ h)
  acted_where w v (m ∷ ms) n kept e h = go (walk_moved atomic w m) refl e (λ u k. acted_where u v ms n kept k h)
    where
      go : (r : Result (WalkState F V) WalkCause) → walk_moved atomic w m ≡ r → onward (λ u. walk_from atomic u ms) r ≡ Ok v
          → ((u : WalkState F V) → walk_from atomic u ms ≡ Ok v → (u.table n ≡ Acted kept) ⊎ ActPart u ms n kept)
          → (w.table n ≡ Acted kept) ⊎ ActPart w (m ∷ ms) n kept
      go (Err cause) first k ih = absurd cc
      go (Ok u) first k ih = elim (ih u k) [
        | inl a ↦ acted_before w u m n kept ms (moved_walked atomic w u m first) a
        | inr part ↦ inr (record {
          op = part.op;
          args = part.args;
          choices = part.choices;
          before = m ∷ part.before;
          since = part.since;
          parts = ap (λ z. m ∷ z) part.parts;
          at = part.at;
          reached = rw first part.reached;
          stood = part.stood;
          fields = part.fields;
          replied = part.replied;
        })
      ]

  called_before : (w u : WalkState F V) (m : Move V) (n op : ℕ) (args : List V) (ms : List (Move V)) → Walked atomic w u m → u.table n ≡ Called op args → (w.table n ≡ Called op args) ⊎ CallPart (m ∷ ms) n op args
  called_before w u m n op args ms (by_call k o a e f t) h = elim (entered_cases w.table k (Called o a) n) [
    | inl p ↦ inr (
        let same = called_same o op a args (sym p.1 ∙ sym (ap (λ z. z n) t) ∙ h) in
        let front : move.Other (entry.Call k o a) ≡ move.Other (entry.Call n op args) = (let d = p.0 in let x = same.0 in let y = same.1 in cc) in
        record { before = []; since = ms; parts = ap (λ z. z ∷ ms) front })
    | inr p ↦ inl (sym p ∙ sym (ap (λ z. z n) t) ∙ h)
  ]
  called_before w u m n op args ms (by_act k o a choices reply e f t) h = elim (entered_cases w.table k (Acted reply) n) [
    | inl p ↦ absurd (let d = sym p.1 ∙ sym (ap (λ z. z n) t) ∙ h in cc)
    | inr p ↦ inl (sym p ∙ sym (ap (λ z. z n) t) ∙ h)
  ]
  called_before w u m n op args ms (by_answer k reply e t) h = elim (entered_cases w.table k Answered n) [
    | inl p ↦ absurd (let d = sym p.1 ∙ sym (ap (λ z. z n) t) ∙ h in cc)
    | inr p ↦ inl (sym p ∙ sym (ap (λ z. z n) t) ∙ h)
  ]
  called_before w u m n op args ms (by_crash t) h = inl (sym (ap (λ z. z n) t) ∙ h)
  called_before w u m n op args ms (by_boot choices t) h = absurd (undropped_called (w.table n) op args (sym (ap (λ z. z n) t) ∙ h))
  called_before w u m n op args ms (by_plain_boot t) h = absurd (undropped_called (w.table n) op args (sym (ap (λ z. z n) t) ∙ h))

  called_where : (w v : WalkState F V) (ms : List (Move V)) (n op : ℕ) (args : List V) → walk_from atomic w ms ≡ Ok v → v.table n ≡ Called op args → (w.table n ≡ Called op args) ⊎ CallPart ms n op args
  called_where w v [] n op args e h = inl (ap (λ z. z.table n) (ok_same atomic w v e) ∙ h)
  called_where w v (m ∷ ms) n op args e h = go (walk_moved atomic w m) refl e (λ u k. called_where u v ms n op args k h)
    where
      go : (r : Result (WalkState F V) WalkCause) → walk_moved atomic w m ≡ r → onward (λ u. walk_from atomic u ms) r ≡ Ok v
          → ((u : WalkState F V) → walk_from atomic u ms ≡ Ok v → (u.table n ≡ Called op args) ⊎ CallPart ms n op args)
          → (w.table n ≡ Called op args) ⊎ CallPart (m ∷ ms) n op args
      go (Err cause) first k ih = absurd cc
      go (Ok u) first k ih = elim (ih u k) [
        | inl a ↦ called_before w u m n op args ms (moved_walked atomic w u m first) a
        | inr part ↦ inr (record { before = m ∷ part.before; since = part.since; parts = ap (λ z. m ∷ z) part.parts })
      ]

  never : (n : ℕ) (c : Standing V) → c ≡ NeverCalled → (reply : V) → c ≡ Acted reply → ⊥
  never n c e reply h = (let d = sym e ∙ h in cc)

  answered_acts : (n : ℕ) (reply : V) (front rest : List (Move V)) (v : WalkState F V)
      → walk_from atomic (first_walk atomic) (front ++ move.Other (entry.Answer n reply) ∷ rest) ≡ Ok v → ActsWith atomic n reply front
  answered_acts n reply front rest v e =
      let s = split atomic (first_walk atomic) v front (move.Other (entry.Answer n reply) ∷ rest) e in
      let t = taken atomic s.mid v (move.Other (entry.Answer n reply)) rest s.back in
      let stood = answer_table atomic s.mid t.next n reply t.first in
      elim (acted_where (first_walk atomic) s.mid front n reply s.front stood) [
        | inl h ↦ absurd (never n NeverCalled refl reply h)
        | inr part ↦ started part (called_where (first_walk atomic) part.at part.before n part.op part.args part.reached part.stood)
      ]
    where
      started : (part : ActPart (first_walk atomic) front n reply) → (NeverCalled ≡ Called part.op part.args) ⊎ CallPart part.before n part.op part.args → ActsWith atomic n reply front
      started part (inl h) = absurd cc
      started part (inr call) = record {
        op = part.op;
        args = part.args;
        before = call.before;
        between = call.since;
        since = part.since;
        choices = part.choices;
        parts = part.parts ∙ ap (λ z. z ++ move.Act n part.choices ∷ part.since) call.parts;
        at = part.at;
        reached = subst (λ z. walk_from atomic (first_walk atomic) z ≡ Ok part.at) call.parts part.reached;
        fields = part.fields;
        replied = part.replied;
      }

  -- ---- a history with a wrong reply

  record Cut (ms : List (Move V)) (front : List (Entry V)) (e : Entry V) (rest : List (Entry V)) : Type 0 where
    before : List (Move V)
    since : List (Move V)
    parts : ms ≡ before ++ move.Other e ∷ since
    left : entries_of since ≡ rest

  cut_later : (m : Move V) (ms : List (Move V)) (front later : List (Entry V)) (e : Entry V) (rest : List (Entry V)) → Cut ms front e rest → Cut (m ∷ ms) later e rest
  cut_later m ms front later e rest c = record { before = m ∷ c.before; since = c.since; parts = ap (λ z. m ∷ z) c.parts; left = c.left }

  tails_same : (m f : Entry V) (xs ys : List (Entry V)) → m ∷ xs ≡ f ∷ ys → xs ≡ ys
  tails_same m f xs ys h = cc

  heads_same : (m f : Entry V) (xs ys : List (Entry V)) → m ∷ xs ≡ f ∷ ys → m ≡ f
  heads_same m f xs ys h = cc

  -- where the moves stand that show these entries, but for a boot, which two moves show
  cut : (ms : List (Move V)) (front : List (Entry V)) (e : Entry V) (rest : List (Entry V)) → (entry.Boot ≡ e → ⊥) → entries_of ms ≡ front ++ e ∷ rest → Cut ms front e rest
  cut [] [] e rest unlike h = absurd cc
  cut [] (f ∷ front) e rest unlike h = absurd cc
  cut (move.Act n choices ∷ ms) front e rest unlike h = cut_later (move.Act n choices) ms front front e rest (cut ms front e rest unlike h)
  cut (move.Boot choices ∷ ms) [] e rest unlike h = absurd (unlike (heads_same entry.Boot e (entries_of ms) rest h))
  cut (move.Boot choices ∷ ms) (f ∷ front) e rest unlike h =
      cut_later (move.Boot choices) ms front (f ∷ front) e rest (cut ms front e rest unlike (tails_same entry.Boot f (entries_of ms) (front ++ e ∷ rest) h))
  cut (move.Other m ∷ ms) [] e rest unlike h = (
      let same : m ≡ e = cc in
      record { before = []; since = ms; parts = ap (λ z. move.Other z ∷ ms) same; left = tails_same m e (entries_of ms) rest h })
  cut (move.Other m ∷ ms) (f ∷ front) e rest unlike h = cut_later (move.Other m) ms front (f ∷ front) e rest (cut ms front e rest unlike (tails_same m f (entries_of ms) (front ++ e ∷ rest) h))

  not_called_and_acted : (c : Standing V) (op : ℕ) (args : List V) (reply : V) → c ≡ Called op args → c ≡ Acted reply → ⊥
  not_called_and_acted c op args reply e h = (let d = sym e ∙ h in cc)

  -- the operation replies this on some fields, under some choices
  record Replied (op : ℕ) (args : List V) (reply : V) : Type 0 where
    choices : List ℕ
    before : F
    after : F
    is : atomic.applied op args choices before ≡ Some (after, reply)

  -- from a move on that starts call n, an answer is its operation's reply
  replies_from : (w v : WalkState F V) (n op : ℕ) (args : List V) (reply : V) (middle rest : List (Move V))
      → walk_from atomic w (move.Other (entry.Call n op args) ∷ (middle ++ move.Other (entry.Answer n reply) ∷ rest)) ≡ Ok v → Replied op args reply
  replies_from w v n op args reply middle rest e =
      let t = taken atomic w v (move.Other (entry.Call n op args)) (middle ++ move.Other (entry.Answer n reply) ∷ rest) e in
      let called = (call_ranks atomic w t.next n op args t.first).1 in
      let s = split atomic t.next v middle (move.Other (entry.Answer n reply) ∷ rest) t.rest in
      let a = taken atomic s.mid v (move.Other (entry.Answer n reply)) rest s.back in
      let stood = answer_table atomic s.mid a.next n reply a.first in
      elim (acted_where t.next s.mid middle n reply s.front stood) [
        | inl h ↦ absurd (not_called_and_acted (t.next.table n) op args reply called h)
        | inr part ↦ go t.next called part (called_where t.next part.at part.before n part.op part.args part.reached part.stood)
      ]
    where
      go : (u : WalkState F V) → u.table n ≡ Called op args → (part : ActPart u middle n reply) → (u.table n ≡ Called part.op part.args) ⊎ CallPart part.before n part.op part.args → Replied op args reply
      go u called part (inl h) =
          let same = called_same op part.op args part.args (sym called ∙ h) in
          record { choices = part.choices; before = part.at.fields; after = part.fields; is = rw (same.0, same.1) part.replied }
      go u called part (inr call) =
          let path : walk_from atomic u (call.before ++ move.Other (entry.Call n part.op part.args) ∷ call.since) ≡ Ok part.at = subst (λ z. walk_from atomic u z ≡ Ok part.at) call.parts part.reached in
          let s = split atomic u part.at call.before (move.Other (entry.Call n part.op part.args) ∷ call.since) path in
          let more = grows atomic u s.mid call.before n s.front in
          let one = rank_called atomic u n op args called in
          let again = taken atomic s.mid part.at (move.Other (entry.Call n part.op part.args)) call.since s.back in
          let none = (call_ranks atomic s.mid again.next n part.op part.args again.first).0 in
          absurd (omega (arith, more, one, none))

  no_wrong_reply_in : (n op : ℕ) (args : List V) (reply : V) (front middle rest : List (Entry V))
      → ((choices : List ℕ) (fields after : F) → atomic.applied op args choices fields ≢ Some (after, reply))
      → (moves : List (Move V)) → Explains atomic moves (front ++ entry.Call n op args ∷ (middle ++ entry.Answer n reply ∷ rest)) → ⊥
  no_wrong_reply_in n op args reply front middle rest wrong moves x =
      let c = cut moves front (entry.Call n op args) (middle ++ entry.Answer n reply ∷ rest) (λ h. cc) x.entries in
      let d = cut c.since middle (entry.Answer n reply) rest (λ h. cc) c.left in
      let path : walk_from atomic (first_walk atomic) (c.before ++ move.Other (entry.Call n op args) ∷ (d.before ++ move.Other (entry.Answer n reply) ∷ d.since)) ≡ Ok x.end =
      subst (λ z. walk_from atomic (first_walk atomic) (c.before ++ move.Other (entry.Call n op args) ∷ z) ≡ Ok x.end) d.parts (subst (λ z. walk_from atomic (first_walk atomic) z ≡ Ok x.end) c.parts x.passes) in
      let s = split atomic (first_walk atomic) x.end c.before (move.Other (entry.Call n op args) ∷ (d.before ++ move.Other (entry.Answer n reply) ∷ d.since)) path in
      let found = replies_from s.mid x.end n op args reply d.before d.since s.back in
      wrong found.choices found.before found.after found.is

  -- ---- the walk beside a history

  located_ok : (index : ℕ) (next : WalkState F V → Result (WalkState F V) WalkFault) (plain : WalkState F V → Result (WalkState F V) WalkCause) (same : Type 0) (end : WalkState F V)
      → (r : Result (WalkState F V) WalkCause) → ((u : WalkState F V) → next u ≡ Ok end → same × (plain u ≡ Ok end)) → located index next r ≡ Ok end → same × (onward plain r ≡ Ok end)
  located_ok index next plain same end (Ok u) h e = h u e
  located_ok index next plain same end (Err cause) h e = absurd cc

  -- what a move shows stands before what the later moves show
  shows : Option (Entry V) → List (Entry V) → List (Entry V)
  shows None es = es
  shows (Some e) es = e ∷ es

  shows_first : (m : Move V) (ms : List (Move V)) → entries_of (m ∷ ms) ≡ shows (shown m) (entries_of ms)
  unfolding shows
  shows_first (move.Act n choices) ms = refl
  shows_first (move.Boot choices) ms = refl
  shows_first (move.Other e) ms = refl

  -- a move in order shows the front of the history
  front_shown : (left : List (Entry V)) (o : Option (Entry V)) (es : List (Entry V)) → in_order atomic.same left o ≡ true → es ≡ left_after left o → shows o es ≡ left
  unfolding shows
  front_shown left None es t e = e
  front_shown [] (Some m) es t e = absurd cc
  front_shown (f ∷ left) (Some m) es t e = (let alike = entries_same atomic.same atomic.decides m f t in cc)

  -- and what shows the front of the history is in order
  shown_front : (left : List (Entry V)) (o : Option (Entry V)) (es : List (Entry V)) → shows o es ≡ left → (in_order atomic.same left o ≡ true) × (es ≡ left_after left o)
  unfolding shows
  shown_front left None es e = (refl, e)
  shown_front [] (Some m) es e = absurd cc
  shown_front (f ∷ left) (Some m) es e = (
      let alike : m ≡ f = heads_same m f es left e in
      (subst (λ z. same_entry atomic.same m z ≡ true) alike (own_entry atomic.same atomic.decides m), tails_same m f es left e))

  ok_end : (index : ℕ) (w end : WalkState F V) (left : List (Entry V)) → at_end atomic index w left ≡ Ok end → ([] ≡ left) × (walked_to atomic w ≡ Ok end)
  ok_end index w end [] e = (refl, ap (walked_to atomic) (beside_same w end e))
    where
      beside_same : (x y : WalkState F V) → at_end atomic index x [] ≡ Ok y → x ≡ y
      beside_same x y h = cc
  ok_end index w end (f ∷ left) e = absurd cc

  end_ok : (index : ℕ) (w end : WalkState F V) (left : List (Entry V)) → [] ≡ left → walked_to atomic w ≡ Ok end → at_end atomic index w left ≡ Ok end
  end_ok index w end [] h e = ap (at_end_of index) (ok_same atomic w end e)
    where
      at_end_of : ℕ → WalkState F V → Result (WalkState F V) WalkFault
      at_end_of index u = Ok u
  end_ok index w end (f ∷ left) h e = absurd cc

  told : (index : ℕ) (w : WalkState F V) (left : List (Entry V)) (ms : List (Move V)) (end : WalkState F V) → walk_beside atomic index w left ms ≡ Ok end → (entries_of ms ≡ left) × (walk_from atomic w ms ≡ Ok end)
  told index w left [] end e = ok_end index w end left e
  told index w left (m ∷ ms) end e = go (in_order atomic.same left (shown m)) refl e (λ u h. told (index + 1) u (left_after left (shown m)) ms end h)
    where
      go : (b : Bool) → in_order atomic.same left (shown m) ≡ b
          → located index (λ u. walk_beside atomic (index + 1) u (left_after left (shown m)) ms) (cond b (walk_moved atomic w m) (Err Order)) ≡ Ok end
          → ((u : WalkState F V) → walk_beside atomic (index + 1) u (left_after left (shown m)) ms ≡ Ok end → (entries_of ms ≡ left_after left (shown m)) × (walk_from atomic u ms ≡ Ok end))
          → (entries_of (m ∷ ms) ≡ left) × (walk_from atomic w (m ∷ ms) ≡ Ok end)
      go false t h ih = absurd cc
      go true t h ih =
          let rest = located_ok index (λ u. walk_beside atomic (index + 1) u (left_after left (shown m)) ms) (λ u. walk_from atomic u ms) (entries_of ms ≡ left_after left (shown m)) end (walk_moved atomic w m) ih h in
          (shows_first m ms ∙ front_shown left (shown m) (entries_of ms) t rest.0, rest.1)

  onward_ok : (index : ℕ) (next : WalkState F V → Result (WalkState F V) WalkFault) (plain : WalkState F V → Result (WalkState F V) WalkCause) (end : WalkState F V)
      → (r : Result (WalkState F V) WalkCause) → ((u : WalkState F V) → plain u ≡ Ok end → next u ≡ Ok end) → onward plain r ≡ Ok end → located index next r ≡ Ok end
  onward_ok index next plain end (Ok u) h e = h u e
  onward_ok index next plain end (Err cause) h e = absurd cc

  tells : (index : ℕ) (w : WalkState F V) (left : List (Entry V)) (ms : List (Move V)) (end : WalkState F V) → entries_of ms ≡ left → walk_from atomic w ms ≡ Ok end → walk_beside atomic index w left ms ≡ Ok end
  tells index w left [] end h e = end_ok index w end left h e
  tells index w left (m ∷ ms) end h e =
      let front = shown_front left (shown m) (entries_of ms) (sym (shows_first m ms) ∙ h) in
      let rest = left_after left (shown m) in
      rw front.0 (onward_ok index (λ u. walk_beside atomic (index + 1) u rest ms) (λ u. walk_from atomic u ms) end (walk_moved atomic w m) (λ u k. tells (index + 1) u rest ms end front.1 k) e)

-- ---- the laws

pub walk_tells : (F V : Type 0) → WalkTells F V
walk_tells F V atomic history moves end = (told atomic 1 (first_walk atomic) history moves end, λ p. tells atomic 1 (first_walk atomic) history moves end p.0 p.1)

pub acts_once : (F V : Type 0) → ActsOnce F V
acts_once F V atomic history n choices others front middle rest x = acts_once_from atomic (first_walk atomic) x.end n choices others front middle rest x.passes

pub acted_when_answered : (F V : Type 0) → AnsweredActs F V
acted_when_answered F V atomic history n reply front rest x = answered_acts atomic n reply front rest x.end x.passes

pub no_act_after_boot : (F V : Type 0) → NoActAfterBoot F V
no_act_after_boot F V atomic history n op args choices boot front middle later rest is x = no_act_after_boot_from atomic (first_walk atomic) x.end n op args choices boot front middle later rest is x.passes

pub no_wrong_reply : (F V : Type 0) → NoWrongReply F V
no_wrong_reply F V atomic n op args reply front middle rest wrong moves x = no_wrong_reply_in atomic n op args reply front middle rest wrong moves x
