-- The nodes of a history in which calls come one after the other and nothing crashes, counted.
use Rattle.std.proofs.Common.{◌≡◌, ◌≢◌, ◌⊎◌, ℕ, ◌+◌, ◌*◌, ◌≤◌, zero, suc, Bool, true, false, cond, eqb, eqb-true, eq-eqb, List, [], ◌∷◌, ◌++◌, map, length, length-append, Option, Some, None, Result, Ok, Err, refl, sym, ap, subst, ◌∙◌, inl, inr, arith, append-nil}
use Rattle.std.specs.List.{flat_map}
use Rattle.std.proofs.lemmas.List.Concat.{flat_map-append}
use Rattle.gv_spec.specs.Entry as entry
use Rattle.gv_spec.specs.Move as move
use Rattle.gv_spec.specs.Entry.{Entry}
use Rattle.gv_spec.specs.Move.{Move, shown}
use Rattle.gv_spec.specs.Specification.{Specification}
use Rattle.gv_spec.specs.Walks.{Standing, NeverCalled, Called, Acted, Answered, Dropped, WalkState, WalkCause, entered, dropped, first_walk, walk_moved, left_after}
use Rattle.gv_spec.proofs.Moves.{entered_same}
use Rattle.gv_spec.proofs.WalkLaws.{Walked, by_call, by_act, by_answer, by_boot, moved_walked, entered_cases}
use Rattle.gv_judge.specs.Search.{Choosing, count_up, call_bound, acts_of, acts_under, showing, additions, beginning, nodes_from}
use Rattle.gv_judge.specs.SearchLaws.{IsIn}
use Rattle.gv_judge.specs.Bound.{IsOneByOne, ChoosesNothing, FewNodes}
use Rattle.gv_judge.proofs.Members.{in_map, in_flat, count_of}

-- a call that is in the table, and one that may act
abbrev pub is_live : {V : Type 0} → Standing V → Bool
is_live (Called op args) = true
is_live (Acted reply) = true
is_live NeverCalled = false
is_live Answered = false
is_live Dropped = false

abbrev pub is_called : {V : Type 0} → Standing V → Bool
is_called (Called op args) = true
is_called (Acted reply) = false
is_called NeverCalled = false
is_called Answered = false
is_called Dropped = false

-- where the one call stands that has not answered: none is open; it may act; it has acted; a boot has dropped it
data Phase : Type 0 where
  Closed : Phase
  MayAct : ℕ → Phase
  HasActed : ℕ → Phase
  Gone : ℕ → Phase

abbrev open_of : Phase → Option ℕ
open_of Closed = None
open_of (MayAct m) = Some m
open_of (HasActed m) = Some m
open_of (Gone m) = Some m

abbrev IsIn_phase : {V : Type 0} → (ℕ → Standing V) → Phase → Type 0
IsIn_phase t Closed = (n : ℕ) → is_live (t n) ≡ false
IsIn_phase t (MayAct m) = (is_called (t m) ≡ true) × ((n : ℕ) → n ≢ m → is_live (t n) ≡ false)
IsIn_phase t (HasActed m) = (is_called (t m) ≡ false) × ((n : ℕ) → n ≢ m → is_live (t n) ≡ false)
IsIn_phase t (Gone m) = (n : ℕ) → is_live (t n) ≡ false

abbrev most_nodes : {V : Type 0} → Phase → List (Entry V) → ℕ
most_nodes Closed left = 2 * length left + 1
most_nodes (MayAct m) left = 2 * length left + 2
most_nodes (HasActed m) [] = 1
most_nodes (HasActed m) (entry.Boot ∷ left) = length left + 2
most_nodes (HasActed m) (entry.Crash ∷ left) = 2 * length left + 2
most_nodes (HasActed m) (entry.Call n op args ∷ left) = 2 * length left + 2
most_nodes (HasActed m) (entry.Answer n reply ∷ left) = 2 * length left + 2
most_nodes (Gone m) left = length left + 1

not_live : {V : Type 0} (c : Standing V) → is_live c ≡ false → is_called c ≡ false
not_live NeverCalled h = refl
not_live (Called op args) h = h
not_live (Acted reply) h = refl
not_live Answered h = refl
not_live Dropped h = refl

drop_dead : {V : Type 0} (c : Standing V) → is_live (dropped c) ≡ false
drop_dead NeverCalled = refl
drop_dead (Called op args) = refl
drop_dead (Acted reply) = refl
drop_dead Answered = refl
drop_dead Dropped = refl

length_map : {A B : Type 0} (f : A → B) (xs : List A) → length (map f xs) ≡ length xs
length_map f [] = refl
length_map f (x ∷ xs) = ap suc (length_map f xs)

decided : (n m : ℕ) → (n ≡ m) ⊎ (n ≢ m)
decided n m = go (eqb n m) refl
  where
    go : (b : Bool) → eqb n m ≡ b → (n ≡ m) ⊎ (n ≢ m)
    go true e = inl (eqb-true n m e)
    go false e = inr (λ q. let same = eq-eqb n m q in let clash = sym e ∙ same in cc)

-- one item at most
one_item : {A B : Type 0} (g : A → List B) (xs : List A) (x : ℕ) → length xs ≤ 1 → ((y : A) → IsIn y xs → length (g y) ≤ x) → length (flat_map g xs) ≤ x
one_item g [] x h k = omega arith
one_item g (y ∷ []) x h k = subst (λ l. l ≤ x) (sym (ap length (append-nil (g y)))) (k y (inl refl))
one_item g (y ∷ z ∷ xs) x h k = absurd (omega (arith, h))

module _ {F V : Type 0} (atomic : Specification F V) (choosing : Choosing F V) (plain : ChoosesNothing choosing) (bound : ℕ) where
  abbrev child : ℕ → WalkState F V → List (Entry V) → Move V → List (List (Move V))
  child depth w left m = beginning atomic choosing (λ u rest. nodes_from atomic choosing bound depth u rest) left m (walk_moved atomic w m)

  child_count : (depth : ℕ) (w : WalkState F V) (left : List (Entry V)) (m : Move V) (x : ℕ)
      → ((u : WalkState F V) → walk_moved atomic w m ≡ Ok u → length (nodes_from atomic choosing bound depth u (left_after left (shown m))) ≤ x) → length (child depth w left m) ≤ x
  child_count depth w left m x k = go (walk_moved atomic w m) refl
    where
      go : (r : Result (WalkState F V) WalkCause) → walk_moved atomic w m ≡ r
          → length (beginning atomic choosing (λ u rest. nodes_from atomic choosing bound depth u rest) left m r) ≤ x
      go (Ok u) e = subst (λ l. l ≤ x) (sym (length_map (λ ms. m ∷ ms) (nodes_from atomic choosing bound depth u (left_after left (shown m))))) (k u e)
      go (Err cause) e = omega arith

  -- ---- acts

  no_acts_of : (fields : F) (n : ℕ) (c : Standing V) → is_called c ≡ false → acts_of atomic choosing fields n c ≡ []
  no_acts_of fields n NeverCalled h = refl
  no_acts_of fields n (Called op args) h = absurd cc
  no_acts_of fields n (Acted reply) h = refl
  no_acts_of fields n Answered h = refl
  no_acts_of fields n Dropped h = refl

  no_acts : (w : WalkState F V) (ns : List ℕ) → ((n : ℕ) → IsIn n ns → is_called (w.table n) ≡ false) → acts_under atomic choosing w ns ≡ []
  no_acts w [] h = refl
  no_acts w (n ∷ ns) h = ap (λ xs. xs ++ acts_under atomic choosing w ns) (no_acts_of w.fields n (w.table n) (h n (inl refl))) ∙ no_acts w ns (λ k i. h k (inr i))

  few_acts_of : (fields : F) (n : ℕ) (c : Standing V) → length (acts_of atomic choosing fields n c) ≤ 1
  few_acts_of fields n NeverCalled = omega arith
  few_acts_of fields n (Called op args) = subst (λ l. l ≤ 1) (sym (length_map (λ cs. move.Act n cs) (choosing.of_operation op args fields))) (plain.acts op args fields)
  few_acts_of fields n (Acted reply) = omega arith
  few_acts_of fields n Answered = omega arith
  few_acts_of fields n Dropped = omega arith

  one_call_acts : (w : WalkState F V) (m : ℕ) → ((n : ℕ) → n ≢ m → is_called (w.table n) ≡ false) → (many i : ℕ) → length (acts_under atomic choosing w (count_up many i)) ≤ 1
  one_call_acts w m others zero i = omega arith
  one_call_acts w m others (suc many) i = elim (decided i m) [
    | inl e ↦ (
        let rest : acts_under atomic choosing w (count_up many (i + 1)) ≡ [] = no_acts w (count_up many (i + 1)) (λ n k. others n (λ q. let low = (count_of many (i + 1) n k).0 in omega (arith, low, q, e))) in
        let long = length-append (acts_of atomic choosing w.fields i (w.table i)) (acts_under atomic choosing w (count_up many (i + 1))) in
        let none : length (acts_under atomic choosing w (count_up many (i + 1))) ≡ 0 = ap length rest in
        let few = few_acts_of w.fields i (w.table i) in
        omega (arith, long, none, few))
    | inr d ↦ (
        let none : acts_of atomic choosing w.fields i (w.table i) ≡ [] = no_acts_of w.fields i (w.table i) (others i d) in
        subst (λ xs. length (xs ++ acts_under atomic choosing w (count_up many (i + 1))) ≤ 1) (sym none) (one_call_acts w m others many (i + 1)))
  ]

  record Act (m : Move V) : Type 0 where
    number : ℕ
    choices : List ℕ
    image : m ≡ move.Act number choices

  act_of : (w : WalkState F V) (n : ℕ) (m : Move V) (c : Standing V) → IsIn m (acts_of atomic choosing w.fields n c) → Act m
  act_of w n m NeverCalled k = absurd k
  act_of w n m (Called op args) k = (let s = in_map (λ cs. move.Act n cs) m (choosing.of_operation op args w.fields) k in record { number = n; choices = s.from; image = s.image })
  act_of w n m (Acted reply) k = absurd k
  act_of w n m Answered k = absurd k
  act_of w n m Dropped k = absurd k

  is_act : (w : WalkState F V) (ns : List ℕ) (m : Move V) → IsIn m (acts_under atomic choosing w ns) → Act m
  is_act w ns m h = (let a = in_flat (λ n. acts_of atomic choosing w.fields n (w.table n)) m ns h in act_of w a.from m (w.table a.from) a.holds)

  -- ---- what a move does to the phase

  entered_dead : (w u : WalkState F V) (m : ℕ) (c : Standing V) → u.table ≡ entered w.table m c → ((n : ℕ) → n ≢ m → is_live (w.table n) ≡ false) → (n : ℕ) → n ≢ m → is_live (u.table n) ≡ false
  entered_dead w u m c t dead n d = elim (entered_cases w.table m c n) [
    | inl p ↦ absurd (d p.0)
    | inr p ↦ ap is_live (ap (λ z. z n) t ∙ p) ∙ dead n d
  ]

  entered_own : (w u : WalkState F V) (m : ℕ) (c : Standing V) → u.table ≡ entered w.table m c → u.table m ≡ c
  entered_own w u m c t = ap (λ z. z m) t ∙ entered_same w.table m c

  dropped_all : (w u : WalkState F V) → u.table ≡ (λ n. dropped (w.table n)) → (n : ℕ) → is_live (u.table n) ≡ false
  dropped_all w u t n = ap is_live (ap (λ z. z n) t) ∙ drop_dead (w.table n)

  -- nobody is live where the one call isn't
  all_dead : (u : WalkState F V) (m : ℕ) → is_live (u.table m) ≡ false → ((n : ℕ) → n ≢ m → is_live (u.table n) ≡ false) → (n : ℕ) → is_live (u.table n) ≡ false
  all_dead u m own dead n = elim (decided n m) [
    | inl e ↦ subst (λ k. is_live (u.table k) ≡ false) (sym e) own
    | inr d ↦ dead n d
  ]

  acted_dead : (c : Standing V) (reply : V) → c ≡ Acted reply → is_live c ≡ false → ⊥
  acted_dead c reply e h = let clash = sym (ap is_live e) ∙ h in cc

  acted_called : (c : Standing V) (reply : V) → c ≡ Acted reply → is_called c ≡ true → ⊥
  acted_called c reply e h = let clash = sym (ap is_called e) ∙ h in cc

  called_live : (c : Standing V) (op : ℕ) (args : List V) → c ≡ Called op args → is_live c ≡ false → ⊥
  called_live c op args e h = let clash = sym (ap is_live e) ∙ h in cc

  -- ---- counting

  abbrev Counts : ℕ → Type 0
  Counts depth = (p : Phase) (u : WalkState F V) (left : List (Entry V)) → IsIn_phase u.table p → IsOneByOne (open_of p) left → length (nodes_from atomic choosing bound depth u left) ≤ most_nodes p left

  -- how many nodes the moves that show the next entry begin
  abbrev shows : (depth : ℕ) (w : WalkState F V) (left : List (Entry V)) → ℕ
  shows depth w left = length (flat_map (λ m. child depth w left m) (showing atomic choosing w.fields left))

  boots : (depth : ℕ) (p : Phase) (w : WalkState F V) (left : List (Entry V)) → Counts depth → IsOneByOne (open_of p) left
      → ((u : WalkState F V) → ((n : ℕ) → is_live (u.table n) ≡ false) → IsIn_phase u.table p) → shows depth w (entry.Boot ∷ left) ≤ most_nodes p left
  boots depth p w left on one phase =
      one_item (λ m. child depth w (entry.Boot ∷ left) m) (map (λ cs. move.Boot cs) (choosing.of_crash w.fields)) (most_nodes p left)
      (subst (λ l. l ≤ 1) (sym (length_map (λ cs. move.Boot cs) (choosing.of_crash w.fields))) (plain.boots w.fields))
      (λ m h. child_count depth w (entry.Boot ∷ left) m (most_nodes p left) (λ u e.
      let s = in_map (λ cs. move.Boot cs) m (choosing.of_crash w.fields) h in
      subst (λ k. length (nodes_from atomic choosing bound depth u (left_after (entry.Boot ∷ left) (shown k))) ≤ most_nodes p left) (sym s.image)
      (on p u left (phase u (dropped_all w u (table u s.from (subst (λ k. walk_moved atomic w k ≡ Ok u) s.image e)))) one)))
    where
      of_boot : (u : WalkState F V) (choices : List ℕ) → Walked atomic w u (move.Boot choices) → u.table ≡ (λ n. dropped (w.table n))
      of_boot u choices (by_boot cs t) = t

      table : (u : WalkState F V) (choices : List ℕ) → walk_moved atomic w (move.Boot choices) ≡ Ok u → u.table ≡ (λ n. dropped (w.table n))
      table u choices e = of_boot u choices (moved_walked atomic w u (move.Boot choices) e)

  single : (depth : ℕ) (w : WalkState F V) (left : List (Entry V)) (m : Move V) (x : ℕ)
      → ((u : WalkState F V) → walk_moved atomic w m ≡ Ok u → length (nodes_from atomic choosing bound depth u (left_after left (shown m))) ≤ x)
      → length (flat_map (λ m. child depth w left m) (m ∷ [])) ≤ x
  single depth w left m x k = subst (λ l. l ≤ x) (sym (ap length (append-nil (child depth w left m)))) (child_count depth w left m x k)

  calls : (depth : ℕ) (w : WalkState F V) (n op : ℕ) (args : List V) (left : List (Entry V)) → Counts depth → IsOneByOne (Some n) left → ((k : ℕ) → is_live (w.table k) ≡ false)
      → shows depth w (entry.Call n op args ∷ left) ≤ most_nodes (MayAct n) left
  calls depth w n op args left on one dead = single depth w (entry.Call n op args ∷ left) (move.Other (entry.Call n op args)) (most_nodes (MayAct n) left)
      (λ u e. on (MayAct n) u left (phase u (moved_walked atomic w u (move.Other (entry.Call n op args)) e)) one)
    where
      phase : (u : WalkState F V) → Walked atomic w u (move.Other (entry.Call n op args)) → IsIn_phase u.table (MayAct n)
      phase u (by_call k o values c f t) = (ap is_called (entered_own w u n (Called op args) t), entered_dead w u n (Called op args) t (λ k d. dead k))

  answered : (depth : ℕ) (w : WalkState F V) (n : ℕ) (reply : V) (left : List (Entry V)) (x : ℕ)
      → ((u : WalkState F V) → w.table n ≡ Acted reply → u.table ≡ entered w.table n Answered → length (nodes_from atomic choosing bound depth u left) ≤ x)
      → shows depth w (entry.Answer n reply ∷ left) ≤ x
  answered depth w n reply left x k =
      single depth w (entry.Answer n reply ∷ left) (move.Other (entry.Answer n reply)) x (λ u e. go u (moved_walked atomic w u (move.Other (entry.Answer n reply)) e))
    where
      go : (u : WalkState F V) → Walked atomic w u (move.Other (entry.Answer n reply)) → length (nodes_from atomic choosing bound depth u left) ≤ x
      go u (by_answer m r e t) = k u e t

  -- where nothing may act, no act is added
  idle : (depth : ℕ) (w : WalkState F V) (left : List (Entry V)) (x : ℕ) → ((n : ℕ) → is_called (w.table n) ≡ false) → shows depth w left ≤ x
      → length (nodes_from atomic choosing bound (suc depth) w left) ≤ x + 1
  idle depth w left x quiet h =
      let none = no_acts w (count_up bound 0) (λ n k. quiet n) in
      let all : additions atomic choosing bound w left ≡ showing atomic choosing w.fields left =
      ap (λ xs. showing atomic choosing w.fields left ++ xs) none ∙ append-nil (showing atomic choosing w.fields left) in
      let same = ap (λ xs. length (flat_map (λ m. child depth w left m) xs)) all in
      omega (arith, same, h)

  -- where one call may act
  acting : (depth : ℕ) (w : WalkState F V) (m : ℕ) (left : List (Entry V)) (x : ℕ) → Counts depth → IsOneByOne (Some m) left → IsIn_phase w.table (MayAct m) → shows depth w left ≤ x
      → length (nodes_from atomic choosing bound (suc depth) w left) ≤ x + most_nodes (HasActed m) left + 1
  acting depth w m left x on one phase h =
      let acts = acts_under atomic choosing w (count_up bound 0) in
      let parted = ap length (flat_map-append (λ m. child depth w left m) (showing atomic choosing w.fields left) acts) in
      let long = length-append (flat_map (λ m. child depth w left m) (showing atomic choosing w.fields left)) (flat_map (λ m. child depth w left m) acts) in
      let few = one_item (λ m. child depth w left m) acts (most_nodes (HasActed m) left) (one_call_acts w m (λ n d. not_live (w.table n) (phase.1 n d)) bound 0) (λ y k. one_act y k) in
      omega (arith, parted, long, few, h)
    where
      acted_phase : (u : WalkState F V) (n : ℕ) (choices : List ℕ) → Walked atomic w u (move.Act n choices) → IsIn_phase u.table (HasActed m)
      acted_phase u n choices (by_act k op args cs reply c applied t) = elim (decided n m) [
        | inl e ↦ (
            let own : u.table ≡ entered w.table m (Acted reply) = subst (λ z. u.table ≡ entered w.table z (Acted reply)) e t in
            (ap is_called (entered_own w u m (Acted reply) own), entered_dead w u m (Acted reply) own phase.1))
        | inr d ↦ absurd (called_live (w.table n) op args c (phase.1 n d))
      ]

      one_act : (y : Move V) → IsIn y (acts_under atomic choosing w (count_up bound 0)) → length (child depth w left y) ≤ most_nodes (HasActed m) left
      one_act y k = child_count depth w left y (most_nodes (HasActed m) left) (λ u e.
          let a = is_act w (count_up bound 0) y k in
          subst (λ z. length (nodes_from atomic choosing bound depth u (left_after left (shown z))) ≤ most_nodes (HasActed m) left) (sym a.image)
          (on (HasActed m) u left (acted_phase u a.number a.choices (moved_walked atomic w u (move.Act a.number a.choices) (subst (λ z. walk_moved atomic w z ≡ Ok u) a.image e))) one))

  -- an answer that nothing in the table gives
  refused : (depth : ℕ) (w : WalkState F V) (n : ℕ) (reply : V) (left : List (Entry V)) → (w.table n ≡ Acted reply → ⊥) → shows depth w (entry.Answer n reply ∷ left) ≤ 0
  refused depth w n reply left never = answered depth w n reply left 0 (λ u e t. absurd (never e))

  step : (depth : ℕ) (p : Phase) (w : WalkState F V) (left : List (Entry V)) → Counts depth → IsIn_phase w.table p → IsOneByOne (open_of p) left
      → length (nodes_from atomic choosing bound (suc depth) w left) ≤ most_nodes p left
  step depth Closed w [] on phase one = (let few = idle depth w [] 0 (λ n. not_live (w.table n) (phase n)) (omega arith) in omega (arith, few))
  step depth Closed w (entry.Boot ∷ left) on phase one =
      let few = idle depth w (entry.Boot ∷ left) (2 * length left + 1) (λ n. not_live (w.table n) (phase n)) (boots depth Closed w left on one (λ u dead. dead)) in
      omega (arith, few)
  step depth Closed w (entry.Crash ∷ left) on phase one = absurd one
  step depth Closed w (entry.Call n op args ∷ left) on phase one =
      let few = idle depth w (entry.Call n op args ∷ left) (2 * length left + 2) (λ n. not_live (w.table n) (phase n)) (calls depth w n op args left on one phase) in
      omega (arith, few)
  step depth Closed w (entry.Answer n reply ∷ left) on phase one =
      let few = idle depth w (entry.Answer n reply ∷ left) 0 (λ n. not_live (w.table n) (phase n)) (refused depth w n reply left (λ e. acted_dead (w.table n) reply e (phase n))) in
      omega (arith, few)
  step depth (MayAct m) w [] on phase one = (let few = acting depth w m [] 0 on one phase (omega arith) in omega (arith, few))
  step depth (MayAct m) w (entry.Boot ∷ left) on phase one =
      let few = acting depth w m (entry.Boot ∷ left) (length left + 1) on one phase (boots depth (Gone m) w left on one (λ u dead. dead)) in
      omega (arith, few)
  step depth (MayAct m) w (entry.Crash ∷ left) on phase one = absurd one
  step depth (MayAct m) w (entry.Call n op args ∷ left) on phase one = absurd one
  step depth (MayAct m) w (entry.Answer n reply ∷ left) on phase one =
      let few = acting depth w m (entry.Answer n reply ∷ left) 0 on one phase (refused depth w n reply left (no_answer (decided n m))) in
      omega (arith, few)
    where
      no_answer : (n ≡ m) ⊎ (n ≢ m) → w.table n ≡ Acted reply → ⊥
      no_answer (inl e) h = acted_called (w.table n) reply h (subst (λ k. is_called (w.table k) ≡ true) (sym e) phase.0)
      no_answer (inr d) h = acted_dead (w.table n) reply h (phase.1 n d)
  step depth (HasActed m) w left on phase one = acted w left on phase one
    where
      quiet : (w : WalkState F V) → IsIn_phase w.table (HasActed m) → (n : ℕ) → is_called (w.table n) ≡ false
      quiet w phase n = elim (decided n m) [
        | inl e ↦ subst (λ k. is_called (w.table k) ≡ false) (sym e) phase.0
        | inr d ↦ not_live (w.table n) (phase.1 n d)
      ]

      acted : (w : WalkState F V) (left : List (Entry V)) → Counts depth → IsIn_phase w.table (HasActed m) → IsOneByOne (Some m) left
          → length (nodes_from atomic choosing bound (suc depth) w left) ≤ most_nodes (HasActed m) left
      acted w [] on phase one = (let few = idle depth w [] 0 (quiet w phase) (omega arith) in omega (arith, few))
      acted w (entry.Boot ∷ left) on phase one =
          let few = idle depth w (entry.Boot ∷ left) (length left + 1) (quiet w phase) (boots depth (Gone m) w left on one (λ u dead. dead)) in
          omega (arith, few)
      acted w (entry.Crash ∷ left) on phase one = absurd one
      acted w (entry.Call n op args ∷ left) on phase one = absurd one
      acted w (entry.Answer n reply ∷ left) on phase one =
          let few = idle depth w (entry.Answer n reply ∷ left) (2 * length left + 1) (quiet w phase) (answered depth w n reply left (2 * length left + 1) (λ u e t. closes (decided n m) u e t)) in
          omega (arith, few)
        where
          closes : (n ≡ m) ⊎ (n ≢ m) → (u : WalkState F V) → w.table n ≡ Acted reply → u.table ≡ entered w.table n Answered → length (nodes_from atomic choosing bound depth u left) ≤ 2 * length left + 1
          closes (inl e) u h t =
              let own : u.table ≡ entered w.table m Answered = subst (λ k. u.table ≡ entered w.table k Answered) e t in
              let dead = all_dead u m (ap is_live (entered_own w u m Answered own)) (entered_dead w u m Answered own phase.1) in
              let rest : IsOneByOne None left = subst (λ b. IsOneByOne (cond b None (Some m)) left) (eq-eqb n m e) one in
              on Closed u left dead rest
          closes (inr d) u h t = absurd (acted_dead (w.table n) reply h (phase.1 n d))
  step depth (Gone m) w [] on phase one = (let few = idle depth w [] 0 (λ n. not_live (w.table n) (phase n)) (omega arith) in omega (arith, few))
  step depth (Gone m) w (entry.Boot ∷ left) on phase one =
      let few = idle depth w (entry.Boot ∷ left) (length left + 1) (λ n. not_live (w.table n) (phase n)) (boots depth (Gone m) w left on one (λ u dead. dead)) in
      omega (arith, few)
  step depth (Gone m) w (entry.Crash ∷ left) on phase one = absurd one
  step depth (Gone m) w (entry.Call n op args ∷ left) on phase one = absurd one
  step depth (Gone m) w (entry.Answer n reply ∷ left) on phase one =
      let few = idle depth w (entry.Answer n reply ∷ left) 0 (λ n. not_live (w.table n) (phase n)) (refused depth w n reply left (λ e. acted_dead (w.table n) reply e (phase n))) in
      omega (arith, few)

  counts : (depth : ℕ) → Counts depth
  counts zero p u left phase one = least p left
    where
      least : (p : Phase) (left : List (Entry V)) → 1 ≤ most_nodes p left
      least Closed left = omega arith
      least (MayAct m) left = omega arith
      least (HasActed m) [] = omega arith
      least (HasActed m) (entry.Boot ∷ left) = omega arith
      least (HasActed m) (entry.Crash ∷ left) = omega arith
      least (HasActed m) (entry.Call n op args ∷ left) = omega arith
      least (HasActed m) (entry.Answer n reply ∷ left) = omega arith
      least (Gone m) left = omega arith
  counts (suc depth) p w left phase one = step depth p w left (counts depth) phase one

pub few_nodes : (F V : Type 0) → FewNodes F V
few_nodes F V atomic choosing plain history one = counts atomic choosing plain (call_bound history) (2 * length history) Closed (first_walk atomic) history (λ n. refl) one
