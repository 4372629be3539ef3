-- How many calls have not acted yet, and how many moves a node can still take at most.
use Rattle.std.proofs.Common.{◌≡◌, ◌≢◌, ℕ, ◌+◌, ◌<◌, ◌≤◌, zero, suc, Bool, true, false, eqb, cond, List, [], ◌∷◌, ◌++◌, length, Some, inl, inr, refl, sym, ap, subst, ◌∙◌, arith, eqb-true, eq-eqb}
use Rattle.gv_spec.specs.Entry as entry
use Rattle.gv_spec.specs.Move as move
use Rattle.gv_spec.specs.Entry.{Entry}
use Rattle.gv_spec.specs.Move.{Move, shown, entries_of}
use Rattle.gv_spec.specs.Specification.{Specification}
use Rattle.gv_spec.specs.Walks.{Standing, NeverCalled, Called, Acted, Answered, Dropped, WalkState, entered, dropped, left_after}
use Rattle.gv_spec.proofs.Moves.{entered_other}
use Rattle.gv_spec.proofs.WalkLaws.{Walked, by_call, by_act, by_answer, by_crash, by_boot, by_plain_boot, entered_cases, undropped_called}
use Rattle.gv_judge.specs.Search.{call_bound}
use Rattle.gv_judge.specs.Room.{waits, waiting, room, IsBound}

module _ {V : Type 0} (t : ℕ → Standing V) (k : ℕ) (s : Standing V) where
  -- the standing of a call doesn't count for those below it
  beyond : (b : ℕ) → b ≤ k → waiting (entered t k s) b ≡ waiting t b
  beyond zero h = refl
  beyond (suc b) h =
      let other : entered t k s b ≡ t b = entered_other t k s b (λ e. omega (arith, e, h)) in
      ap (λ x. waits x + waiting (entered t k s) b) other ∙ ap (λ n. waits (t b) + n) (beyond b (omega (arith, h)))

  pub not_more : (b : ℕ) → waiting (entered t k s) b ≤ waiting t b + waits s
  not_more zero = omega arith
  not_more (suc b) = go (eqb b k) refl (not_more b)
    where
      go : (c : Bool) → eqb b k ≡ c → waiting (entered t k s) b ≤ waiting t b + waits s → waits (cond c s (t b)) + waiting (entered t k s) b ≤ waits (t b) + waiting t b + waits s
      go true e rest = (let same = eqb-true b k e in let below = beyond b (omega (arith, same)) in omega (arith, below))
      go false e rest = omega (arith, rest)

  pub one_less : (b : ℕ) → k < b → waits (t k) ≡ 1 → waits s ≡ 0 → waiting (entered t k s) b + 1 ≡ waiting t b
  one_less zero h one none = absurd (omega (arith, h))
  one_less (suc b) h one none = go (eqb b k) refl (λ lt. one_less b lt one none)
    where
      go : (c : Bool) → eqb b k ≡ c → (k < b → waiting (entered t k s) b + 1 ≡ waiting t b) → waits (cond c s (t b)) + waiting (entered t k s) b + 1 ≡ waits (t b) + waiting t b
      go true e rest =
          let same = eqb-true b k e in
          let below = beyond b (omega (arith, same)) in
          let own : waits (t b) ≡ 1 = subst (λ n. waits (t n) ≡ 1) (sym same) one in
          omega (arith, below, own, none)
      go false e rest =
          let differ : k ≢ b = λ q. (let same = eq-eqb b k (sym q) in let clash = sym e ∙ same in cc) in
          let lt : k < b = omega (arith, h, differ) in
          let less = rest lt in
          omega (arith, less)

-- a boot leaves no call that waits
pub none_waits : {V : Type 0} (t : ℕ → Standing V) (b : ℕ) → waiting (λ n. dropped (t n)) b ≡ 0
none_waits t zero = refl
none_waits t (suc b) = (let one = none (t b) in let rest = none_waits t b in omega (arith, one, rest))
  where
    none : {V : Type 0} (c : Standing V) → waits (dropped c) ≡ 0
    none NeverCalled = refl
    none (Called op args) = refl
    none (Acted reply) = refl
    none Answered = refl
    none Dropped = refl

-- what a move shows is the next entry of what is left, if it shows one
abbrev pub IsNext : {V : Type 0} → List (Entry V) → Move V → Type 0
IsNext left m = left ≡ entries_of (m ∷ []) ++ left_after left (shown m)

module _ {F V : Type 0} (atomic : Specification F V) (bound : ℕ) (w u : WalkState F V) (left : List (Entry V)) where
  shorter : (e : Entry V) (rest : List (Entry V)) → left ≡ e ∷ rest → length left ≡ 1 + length rest
  shorter e rest next = (let long : length left ≡ suc (length rest) = ap length next in omega (arith, long))

  -- each move uses up some of the room
  pub falls : (m : Move V) → Walked atomic w u m → IsNext left m → IsBound bound w left → room bound u (left_after left (shown m)) + 1 ≤ room bound w left
  falls (move.Other (entry.Call n op args)) (by_call k o values e f t) next b =
      let short = shorter (entry.Call n op args) (left_after left (Some (entry.Call n op args))) next in
      let more = not_more w.table n (Called op args) bound in
      let same : waiting u.table bound ≡ waiting (entered w.table n (Called op args)) bound = ap (λ t. waiting t bound) t in
      omega (arith, short, more, same)
  falls (move.Act n choices) (by_act k op args cs reply e applied t) next b =
      let less = one_less w.table n (Acted reply) bound (b.table n op args e) (ap waits e) refl in
      let same : waiting u.table bound ≡ waiting (entered w.table n (Acted reply)) bound = ap (λ t. waiting t bound) t in
      omega (arith, less, same)
  falls (move.Other (entry.Answer n reply)) (by_answer k r e t) next b =
      let short = shorter (entry.Answer n reply) (left_after left (Some (entry.Answer n reply))) next in
      let more = not_more w.table n Answered bound in
      let same : waiting u.table bound ≡ waiting (entered w.table n Answered) bound = ap (λ t. waiting t bound) t in
      omega (arith, short, more, same)
  falls (move.Other entry.Crash) (by_crash t) next b =
      let short = shorter entry.Crash (left_after left (Some entry.Crash)) next in
      let same : waiting u.table bound ≡ waiting w.table bound = ap (λ t. waiting t bound) t in
      omega (arith, short, same)
  falls (move.Boot choices) (by_boot cs t) next b =
      let short = shorter entry.Boot (left_after left (Some entry.Boot)) next in
      let same : waiting u.table bound ≡ 0 = ap (λ t. waiting t bound) t ∙ none_waits w.table bound in
      omega (arith, short, same)
  falls (move.Other entry.Boot) (by_plain_boot t) next b =
      let short = shorter entry.Boot (left_after left (Some entry.Boot)) next in
      let same : waiting u.table bound ≡ 0 = ap (λ t. waiting t bound) t ∙ none_waits w.table bound in
      omega (arith, short, same)

  entered_bound : (n : ℕ) (c : Standing V) → u.table ≡ entered w.table n c → ((op : ℕ) (args : List V) → c ≡ Called op args → n < bound) → IsBound bound w left
      → (m op : ℕ) (args : List V) → u.table m ≡ Called op args → m < bound
  entered_bound n c t own b m op args h = elim (entered_cases w.table n c m) [
    | inl p ↦ subst (λ k. k < bound) (sym p.0) (own op args (sym p.1 ∙ sym (ap (λ z. z m) t) ∙ h))
    | inr p ↦ b.table m op args (sym p ∙ sym (ap (λ z. z m) t) ∙ h)
  ]

  fewer : (e : Entry V) (rest : List (Entry V)) → left ≡ e ∷ rest → call_bound rest ≤ call_bound (e ∷ rest) → call_bound left ≤ bound → call_bound rest ≤ bound
  fewer e rest next less h = (let same : call_bound left ≡ call_bound (e ∷ rest) = ap call_bound next in omega (arith, same, less, h))

  pub stays_bound : (m : Move V) → Walked atomic w u m → IsNext left m → IsBound bound w left → IsBound bound u (left_after left (shown m))
  stays_bound (move.Other (entry.Call n op args)) (by_call k o values e f t) next b =
      let rest = left_after left (Some (entry.Call n op args)) in
      let same : call_bound left ≡ call_bound (entry.Call n op args ∷ rest) = ap call_bound next in
      let h = b.history in
      record {
        table = entered_bound n (Called op args) t (λ o as2 q. omega (arith, same, h)) b;
        history = fewer (entry.Call n op args) rest next (omega arith) h;
      }
  stays_bound (move.Act n choices) (by_act k op args cs reply e applied t) next b = record {
    table = entered_bound n (Acted reply) t (λ o values q. absurd (let clash = q in cc)) b;
    history = b.history;
  }
  stays_bound (move.Other (entry.Answer n reply)) (by_answer k r e t) next b = record {
    table = entered_bound n Answered t (λ o values q. absurd (let clash = q in cc)) b;
    history = fewer (entry.Answer n reply) (left_after left (Some (entry.Answer n reply))) next (omega arith) b.history;
  }
  stays_bound (move.Other entry.Crash) (by_crash t) next b = record {
    table = λ n op args h. b.table n op args (sym (ap (λ z. z n) t) ∙ h);
    history = fewer entry.Crash (left_after left (Some entry.Crash)) next (omega arith) b.history;
  }
  stays_bound (move.Boot choices) (by_boot cs t) next b = record {
    table = λ n op args h. absurd (undropped_called (w.table n) op args (sym (ap (λ z. z n) t) ∙ h));
    history = fewer entry.Boot (left_after left (Some entry.Boot)) next (omega arith) b.history;
  }
  stays_bound (move.Other entry.Boot) (by_plain_boot t) next b = record {
    table = λ n op args h. absurd (undropped_called (w.table n) op args (sym (ap (λ z. z n) t) ∙ h));
    history = fewer entry.Boot (left_after left (Some entry.Boot)) next (omega arith) b.history;
  }
