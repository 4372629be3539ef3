-- The nodes of the tree are the lists of moves that the walk takes and that show the beginning of the history.
use Rattle.std.proofs.Common.{◌≡◌, ◌↔◌, ℕ, ◌*◌, ◌≤◌, zero, suc, List, [], ◌∷◌, ◌++◌, length, Option, Some, None, Result, Ok, Err, refl, sym, ap, subst, ◌∙◌, inl, inr, arith, append-nil}
use Rattle.gv_spec.specs.Entry as entry
use Rattle.gv_spec.specs.Move as move
use Rattle.gv_spec.specs.Entry.{Entry}
use Rattle.gv_spec.specs.Move.{Move, shown, entries_of}
use Rattle.gv_spec.specs.Specification.{Specification}
use Rattle.gv_spec.specs.Walks.{Standing, NeverCalled, Called, Acted, Answered, Dropped, WalkState, WalkCause, onward, first_walk, booted_to, walk_moved, walk_from, Explains, left_after}
use Rattle.gv_spec.proofs.WalkLaws.{Walked, by_call, by_act, by_answer, by_crash, by_boot, moved_walked}
use Rattle.gv_judge.specs.Search.{Choosing, count_up, call_bound, acts_of, acts_under, showing, additions, beginning, nodes_from, nodes, IsFull}
use Rattle.gv_judge.specs.SearchLaws.{IsIn, IsChoosing, IsWritten, AreWritten, IsNode, NodesAreWalks, FullNodesExplain}
use Rattle.gv_judge.proofs.Members.{in_left, in_right, in_either, map_in, in_map, flat_in, in_flat, counted}
use Rattle.gv_judge.specs.Room.{waiting, room, IsBound}
use Rattle.gv_judge.proofs.Waiting.{IsNext, falls, stays_bound}

pub entries_cons : {V : Type 0} (m : Move V) (ms : List (Move V)) → entries_of (m ∷ ms) ≡ entries_of (m ∷ []) ++ entries_of ms
entries_cons (move.Act n choices) ms = refl
entries_cons (move.Boot choices) ms = refl
entries_cons (move.Other e) ms = refl

-- ---- what is added

module _ {F V : Type 0} (atomic : Specification F V) (choosing : Choosing F V) (right : IsChoosing atomic choosing) where
  showing_next : (fields : F) (left : List (Entry V)) (m : Move V) → IsIn m (showing atomic choosing fields left) → IsNext left m × IsWritten m
  showing_next fields [] m h = absurd h
  showing_next fields (entry.Boot ∷ left) m h =
      let s = in_map (λ cs. move.Boot cs) m (choosing.of_crash fields) h in
      subst (λ k. IsNext (entry.Boot ∷ left) k × IsWritten k) (sym s.image) (refl, right.boots fields s.from s.is_in)
  showing_next fields (entry.Call n op args ∷ left) m (inl e) = subst (λ k. IsNext (entry.Call n op args ∷ left) k × IsWritten k) (sym e) (refl, tt)
  showing_next fields (entry.Call n op args ∷ left) m (inr h) = absurd h
  showing_next fields (entry.Answer n reply ∷ left) m (inl e) = subst (λ k. IsNext (entry.Answer n reply ∷ left) k × IsWritten k) (sym e) (refl, tt)
  showing_next fields (entry.Answer n reply ∷ left) m (inr h) = absurd h
  showing_next fields (entry.Crash ∷ left) m (inl e) = subst (λ k. IsNext (entry.Crash ∷ left) k × IsWritten k) (sym e) (refl, tt)
  showing_next fields (entry.Crash ∷ left) m (inr h) = absurd h

  acts_next : (w : WalkState F V) (left : List (Entry V)) (numbers : List ℕ) (m : Move V) → IsIn m (acts_under atomic choosing w numbers) → IsNext left m × IsWritten m
  acts_next w left numbers m h =
      let a = in_flat (λ n. acts_of atomic choosing w.fields n (w.table n)) m numbers h in
      go a.from (w.table a.from) a.holds
    where
      go : (n : ℕ) (c : Standing V) → IsIn m (acts_of atomic choosing w.fields n c) → IsNext left m × IsWritten m
      go n (Called op args) k =
          let s = in_map (λ cs. move.Act n cs) m (choosing.of_operation op args w.fields) k in
          subst (λ k. IsNext left k × IsWritten k) (sym s.image) (refl, right.acts op args w.fields s.from s.is_in)
      go n NeverCalled k = absurd k
      go n (Acted reply) k = absurd k
      go n Answered k = absurd k
      go n Dropped k = absurd k

  pub added_next : (bound : ℕ) (w : WalkState F V) (left : List (Entry V)) (m : Move V) → IsIn m (additions atomic choosing bound w left) → IsNext left m × IsWritten m
  added_next bound w left m h = elim (in_either m (showing atomic choosing w.fields left) (acts_under atomic choosing w (count_up bound 0)) h) [
    | inl k ↦ showing_next w.fields left m k
    | inr k ↦ acts_next w left (count_up bound 0) m k
  ]

  -- ---- each node is such a list

  record Leads (w : WalkState F V) (left : List (Entry V)) (ms : List (Move V)) : Type 0 where
    end : WalkState F V
    passes : walk_from atomic w ms ≡ Ok end
    rest : List (Entry V)
    shows : left ≡ entries_of ms ++ rest
    written : AreWritten ms

  leads_nowhere : (w : WalkState F V) (left : List (Entry V)) (ms : List (Move V)) → ms ≡ [] → Leads w left ms
  leads_nowhere w left ms e = subst (Leads w left) (sym e) (record { end = w; passes = refl; rest = left; shows = refl; written = tt })

  leads_on : (w u : WalkState F V) (left : List (Entry V)) (m : Move V) (ms : List (Move V)) → walk_moved atomic w m ≡ Ok u → IsNext left m → IsWritten m
      → Leads u (left_after left (shown m)) ms → Leads w left (m ∷ ms)
  leads_on w u left m ms moved next written l = record {
    end = l.end;
    passes = ap (onward (λ v. walk_from atomic v ms)) moved ∙ l.passes;
    rest = l.rest;
    shows = next ∙ ap (λ es. entries_of (m ∷ []) ++ es) l.shows ∙ regrouped m (entries_of ms) l.rest ∙ ap (λ es. es ++ l.rest) (sym (entries_cons m ms));
    written = (written, l.written);
  }
    where
      regrouped : (m : Move V) (es fs : List (Entry V)) → entries_of (m ∷ []) ++ (es ++ fs) ≡ (entries_of (m ∷ []) ++ es) ++ fs
      regrouped (move.Act n choices) es fs = refl
      regrouped (move.Boot choices) es fs = refl
      regrouped (move.Other e) es fs = refl

  leads : (bound depth : ℕ) (w : WalkState F V) (left : List (Entry V)) (ms : List (Move V)) → IsIn ms (nodes_from atomic choosing bound depth w left) → Leads w left ms
  leads bound zero w left ms (inl e) = leads_nowhere w left ms e
  leads bound zero w left ms (inr h) = absurd h
  leads bound (suc depth) w left ms (inl e) = leads_nowhere w left ms e
  leads bound (suc depth) w left ms (inr h) =
      let deeper : WalkState F V → List (Entry V) → List (List (Move V)) = λ u rest. nodes_from atomic choosing bound depth u rest in
      let a = in_flat (λ m. beginning atomic choosing deeper left m (walk_moved atomic w m)) ms (additions atomic choosing bound w left) h in
      let added = added_next bound w left a.from a.is_in in
      go a.from added.0 added.1 (λ u rest ns k. leads bound depth u rest ns k) (walk_moved atomic w a.from) refl a.holds
    where
      go : (m : Move V) → IsNext left m → IsWritten m
          → ((u : WalkState F V) (rest : List (Entry V)) (ns : List (Move V)) → IsIn ns (nodes_from atomic choosing bound depth u rest) → Leads u rest ns)
          → (r : Result (WalkState F V) WalkCause) → walk_moved atomic w m ≡ r
          → IsIn ms (beginning atomic choosing (λ u rest. nodes_from atomic choosing bound depth u rest) left m r) → Leads w left ms
      go m next written on (Ok u) e k =
          let s = in_map (λ ns. m ∷ ns) ms (nodes_from atomic choosing bound depth u (left_after left (shown m))) k in
          subst (Leads w left) (sym s.image) (leads_on w u left m s.from e next written (on u (left_after left (shown m)) s.from s.is_in))
      go m next written on (Err cause) e k = absurd k

  -- ---- each such list is a node

  booted_some : (w u : WalkState F V) (o : Option F) → booted_to atomic w o ≡ Ok u → (after : F) × (o ≡ Some after)
  booted_some w u None e = absurd cc
  booted_some w u (Some after) e = (after, refl)

  -- what the walk takes and the history shows is among the additions
  pub is_added : (bound : ℕ) (w u : WalkState F V) (left rest : List (Entry V)) (m : Move V) → walk_moved atomic w m ≡ Ok u → left ≡ entries_of (m ∷ []) ++ rest → IsWritten m
      → IsBound bound w left → IsIn m (additions atomic choosing bound w left)
  is_added bound w u left rest m moved shows written b = go m moved shows written (moved_walked atomic w u m moved)
    where
      acts : List (Move V)
      acts = acts_under atomic choosing w (count_up bound 0)

      here : (m : Move V) (es : List (Entry V)) → left ≡ es → IsIn m (showing atomic choosing w.fields es) → IsIn m (showing atomic choosing w.fields left ++ acts_under atomic choosing w (count_up bound 0))
      here m es e h = in_left m (showing atomic choosing w.fields left) (acts_under atomic choosing w (count_up bound 0)) (subst (λ l. IsIn m (showing atomic choosing w.fields l)) (sym e) h)

      go : (m : Move V) → walk_moved atomic w m ≡ Ok u → left ≡ entries_of (m ∷ []) ++ rest → IsWritten m → Walked atomic w u m → IsIn m (showing atomic choosing w.fields left ++ acts_under atomic choosing w (count_up bound 0))
      go (move.Other (entry.Call n op args)) e s written (by_call k o values c f t) = here (move.Other (entry.Call n op args)) (entry.Call n op args ∷ rest) s (inl refl)
      go (move.Other (entry.Answer n reply)) e s written (by_answer k r c t) = here (move.Other (entry.Answer n reply)) (entry.Answer n reply ∷ rest) s (inl refl)
      go (move.Other entry.Crash) e s written (by_crash t) = here (move.Other entry.Crash) (entry.Crash ∷ rest) s (inl refl)
      go (move.Other entry.Boot) e s written x = absurd written
      go (move.Boot choices) e s written (by_boot cs t) =
          let o = booted_some w u (atomic.crashed choices w.fields) e in
          here (move.Boot choices) (entry.Boot ∷ rest) s (map_in (λ cs. move.Boot cs) choices (choosing.of_crash w.fields) (right.boot w.fields choices o.0 written o.1))
      go (move.Act n choices) e s written (by_act k op args cs reply c applied t) =
          let chosen = right.act op args w.fields choices (u.fields, reply) written applied in
          let act = map_in (λ cs. move.Act n cs) choices (choosing.of_operation op args w.fields) chosen in
          let of : IsIn (move.Act n choices) (acts_of atomic choosing w.fields n (w.table n)) = subst (λ c. IsIn (move.Act n choices) (acts_of atomic choosing w.fields n c)) (sym c) act in
          in_right (move.Act n choices) (showing atomic choosing w.fields left) (acts_under atomic choosing w (count_up bound 0))
          (flat_in (λ n. acts_of atomic choosing w.fields n (w.table n)) (move.Act n choices) n (count_up bound 0) (counted bound 0 n (omega arith) (let lt = b.table n op args c in omega (arith, lt))) of)

  next_after : (left rest : List (Entry V)) (m : Move V) (es : List (Entry V)) → left ≡ entries_of (m ∷ []) ++ (es ++ rest) → (IsNext left m) × (left_after left (shown m) ≡ es ++ rest)
  next_after left rest (move.Act n choices) es h = (refl, h)
  next_after left rest (move.Boot choices) es h =
      let after : left_after left (Some entry.Boot) ≡ es ++ rest = ap (λ l. left_after l (Some entry.Boot)) h in
      (h ∙ ap (λ l. entry.Boot ∷ l) (sym after), after)
  next_after left rest (move.Other e) es h =
      let after : left_after left (Some e) ≡ es ++ rest = ap (λ l. left_after l (Some e)) h in
      (h ∙ ap (λ l. e ∷ l) (sym after), after)

  split_entries : (left rest : List (Entry V)) (m : Move V) (ms : List (Move V)) → left ≡ entries_of (m ∷ ms) ++ rest → left ≡ entries_of (m ∷ []) ++ (entries_of ms ++ rest)
  split_entries left rest (move.Act n choices) ms h = h
  split_entries left rest (move.Boot choices) ms h = h
  split_entries left rest (move.Other e) ms h = h

  pub led_to : (bound depth : ℕ) (ms : List (Move V)) (w end : WalkState F V) (left rest : List (Entry V)) → walk_from atomic w ms ≡ Ok end → left ≡ entries_of ms ++ rest
      → AreWritten ms → IsBound bound w left → room bound w left ≤ depth → IsIn ms (nodes_from atomic choosing bound depth w left)
  led_to bound zero [] w end left rest passes shows written b long = inl refl
  led_to bound (suc depth) [] w end left rest passes shows written b long = inl refl
  led_to bound zero (m ∷ ms) w end left rest passes shows written b long = go (walk_moved atomic w m) refl passes
    where
      go : (r : Result (WalkState F V) WalkCause) → walk_moved atomic w m ≡ r → onward (λ v. walk_from atomic v ms) r ≡ Ok end → IsIn (m ∷ ms) ([] ∷ [])
      go (Ok u) e p =
          let next = (next_after left rest m (entries_of ms) (split_entries left rest m ms shows)).0 in
          let fall = falls atomic bound w u left m (moved_walked atomic w u m e) next b in
          absurd (omega (arith, fall, long))
      go (Err cause) e p = absurd cc
  led_to bound (suc depth) (m ∷ ms) w end left rest passes shows written b long =
      go (walk_moved atomic w m) refl passes (λ u l p s k f. led_to bound depth ms u end l rest p s written.1 k f)
    where
      go : (r : Result (WalkState F V) WalkCause) → walk_moved atomic w m ≡ r → onward (λ v. walk_from atomic v ms) r ≡ Ok end
          → ((u : WalkState F V) (l : List (Entry V)) → walk_from atomic u ms ≡ Ok end → l ≡ entries_of ms ++ rest → IsBound bound u l → room bound u l ≤ depth
          → IsIn ms (nodes_from atomic choosing bound depth u l))
          → IsIn (m ∷ ms) (nodes_from atomic choosing bound (suc depth) w left)
      go (Ok u) e p on =
          let both = next_after left rest m (entries_of ms) (split_entries left rest m ms shows) in
          let walked = moved_walked atomic w u m e in
          let fall = falls atomic bound w u left m walked both.0 b in
          let deeper : WalkState F V → List (Entry V) → List (List (Move V)) = λ u l. nodes_from atomic choosing bound depth u l in
          let child = on u (left_after left (shown m)) p both.1 (stays_bound atomic bound w u left m walked both.0 b) (omega (arith, fall, long)) in
          let begun : IsIn (m ∷ ms) (beginning atomic choosing deeper left m (walk_moved atomic w m)) =
          subst (λ r. IsIn (m ∷ ms) (beginning atomic choosing deeper left m r)) (sym e) (map_in (λ ns. m ∷ ns) ms (deeper u (left_after left (shown m))) child) in
          inr (flat_in (λ m. beginning atomic choosing deeper left m (walk_moved atomic w m)) (m ∷ ms) m (additions atomic choosing bound w left)
          (is_added bound w u left (entries_of ms ++ rest) m e (split_entries left rest m ms shows) written.0 b) begun)
      go (Err cause) e p on = absurd cc

  -- ---- from the start

  first_bound : (history : List (Entry V)) → IsBound (call_bound history) (first_walk atomic) history
  first_bound history = record { table = λ n op args h. absurd (let clash = h in cc); history = omega arith }

  none_waits_first : (b : ℕ) → waiting (first_walk atomic).table b ≡ 0
  none_waits_first zero = refl
  none_waits_first (suc b) = (let rest = none_waits_first b in omega (arith, rest))

  pub nodes_walk : (history : List (Entry V)) (moves : List (Move V)) → IsIn moves (nodes atomic choosing history) ↔ IsNode atomic history moves
  nodes_walk history moves = (there, back)
    where
      there : IsIn moves (nodes atomic choosing history) → IsNode atomic history moves
      there h =
          let l = leads (call_bound history) (2 * length history) (first_walk atomic) history moves h in
          record { end = l.end; passes = l.passes; left = l.rest; shows = l.shows; written = l.written }

      back : IsNode atomic history moves → IsIn moves (nodes atomic choosing history)
      back n =
          let none = none_waits_first (call_bound history) in
          led_to (call_bound history) (2 * length history) moves (first_walk atomic) n.end history n.left n.passes n.shows n.written (first_bound history) (omega (arith, none))

  pub full_explain : (history : List (Entry V)) (moves : List (Move V)) → (IsIn moves (nodes atomic choosing history) × IsFull history moves) ↔ (Explains atomic moves history × AreWritten moves)
  full_explain history moves = (there, back)
    where
      there : IsIn moves (nodes atomic choosing history) × IsFull history moves → Explains atomic moves history × AreWritten moves
      there h = (let n = (nodes_walk history moves).0 h.0 in (record { entries = h.1; end = n.end; passes = n.passes }, n.written))

      back : Explains atomic moves history × AreWritten moves → IsIn moves (nodes atomic choosing history) × IsFull history moves
      back h = ((nodes_walk history moves).1 (record { end = h.0.end; passes = h.0.passes; left = []; shows = sym h.0.entries ∙ sym (append-nil (entries_of moves)); written = h.1 }), h.0.entries)

pub nodes_are_walks : (F V : Type 0) → NodesAreWalks F V
nodes_are_walks F V atomic choosing right history moves = nodes_walk atomic choosing right history moves

pub full_nodes_explain : (F V : Type 0) → FullNodesExplain F V
full_nodes_explain F V atomic choosing right history moves = full_explain atomic choosing right history moves
