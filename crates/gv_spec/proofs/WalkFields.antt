-- What holds of the fields along every walk.
use Rattle.std.proofs.Common.{◌≡◌, ℕ, Bool, true, false, cond, List, [], ◌∷◌, Option, Some, None, Result, Ok, Err, subst, refl}
use Rattle.gv_spec.specs.Entry as entry
use Rattle.gv_spec.specs.Move as move
use Rattle.gv_spec.specs.Move.{Move}
use Rattle.gv_spec.specs.Specification.{Specification}
use Rattle.gv_spec.specs.Walks.{Standing, NeverCalled, Called, Acted, Answered, Dropped, WalkState, WalkCause, WrongReply, entered, dropped, onward, walk_called, acted_to, walk_acted, walk_answered, booted_to, walk_moved, walk_from}

module _ {F V : Type 0} (atomic : Specification F V) (P : F → Type 0)
    (acts : (op : ℕ) (args : List V) (choices : List ℕ) (fields after : F) (reply : V) → P fields → atomic.applied op args choices fields ≡ Some (after, reply) → P after)
    (boots : (choices : List ℕ) (fields after : F) → P fields → atomic.crashed choices fields ≡ Some after → P after) where
  called : (w u : WalkState F V) (n op : ℕ) (args : List V) (s : Standing V) → P w.fields → walk_called atomic w n op args s ≡ Ok u → P u.fields
  called w u n op args NeverCalled h e =
      let to : record w { table = entered w.table n (Called op args) } ≡ u = cc in
      subst (λ (v : WalkState F V). P v.fields) to h
  called w u n op args (Called o b) h e = absurd cc
  called w u n op args (Acted r) h e = absurd cc
  called w u n op args Answered h e = absurd cc
  called w u n op args Dropped h e = absurd cc

  acted : (w u : WalkState F V) (n : ℕ) (choices : List ℕ) (s : Standing V) → P w.fields → walk_acted atomic w n choices s ≡ Ok u → P u.fields
  acted w u n choices (Called op args) h e = go (atomic.applied op args choices w.fields) refl e
    where
      go : (o : Option (F × V)) → atomic.applied op args choices w.fields ≡ o → acted_to atomic w n o ≡ Ok u → P u.fields
      go None f k = absurd cc
      go (Some (after, reply)) f k =
          let next : WalkState F V = record { fields = after; table = entered w.table n (Acted reply) } in
          let to : next ≡ u = cc in
          subst (λ (v : WalkState F V). P v.fields) to (acts op args choices w.fields after reply h f)
  acted w u n choices NeverCalled h e = absurd cc
  acted w u n choices (Acted r) h e = absurd cc
  acted w u n choices Answered h e = absurd cc
  acted w u n choices Dropped h e = absurd cc

  booted : (w u : WalkState F V) (choices : List ℕ) (o : Option F) → P w.fields → atomic.crashed choices w.fields ≡ o → booted_to atomic w o ≡ Ok u → P u.fields
  booted w u choices None h f e = absurd cc
  booted w u choices (Some after) h f e =
      let next : WalkState F V = record { fields = after; table = λ n. dropped (w.table n) } in
      let to : next ≡ u = cc in
      subst (λ (v : WalkState F V). P v.fields) to (boots choices w.fields after h f)

  replied : (w u : WalkState F V) (n : ℕ) (t : Bool) → P w.fields → cond t (Ok (record w { table = entered w.table n Answered })) (Err WrongReply) ≡ Ok u → P u.fields
  replied w u n true h e =
      let to : record w { table = entered w.table n Answered } ≡ u = cc in
      subst (λ (v : WalkState F V). P v.fields) to h
  replied w u n false h e = absurd cc

  answered : (w u : WalkState F V) (n : ℕ) (reply : V) (s : Standing V) → P w.fields → walk_answered atomic w n reply s ≡ Ok u → P u.fields
  answered w u n reply (Acted kept) h e = replied w u n (atomic.same reply kept) h e
  answered w u n reply NeverCalled h e = absurd cc
  answered w u n reply (Called op args) h e = absurd cc
  answered w u n reply Answered h e = absurd cc
  answered w u n reply Dropped h e = absurd cc

  moved : (w u : WalkState F V) (m : Move V) → P w.fields → walk_moved atomic w m ≡ Ok u → P u.fields
  moved w u (move.Act n choices) h e = acted w u n choices (w.table n) h e
  moved w u (move.Boot choices) h e = booted w u choices (atomic.crashed choices w.fields) h refl e
  moved w u (move.Other (entry.Call n op args)) h e = called w u n op args (w.table n) h e
  moved w u (move.Other (entry.Answer n reply)) h e = answered w u n reply (w.table n) h e
  moved w u (move.Other entry.Crash) h e = let to : w ≡ u = cc in subst (λ (v : WalkState F V). P v.fields) to h
  moved w u (move.Other entry.Boot) h e = booted w u [] (atomic.crashed [] w.fields) h refl e

  -- what the first fields have, and operations and recoveries keep, all fields of a walk have
  pub holds_along : (w end : WalkState F V) (moves : List (Move V)) → P w.fields → walk_from atomic w moves ≡ Ok end → P end.fields
  holds_along w end [] h e = let to : w ≡ end = cc in subst (λ (v : WalkState F V). P v.fields) to h
  holds_along w end (m ∷ moves) h e = go (walk_moved atomic w m) (λ u f. moved w u m h f) (λ u k. holds_along u end moves k) e
    where
      go : (r : Result (WalkState F V) WalkCause) → ((u : WalkState F V) → r ≡ Ok u → P u.fields) → ((u : WalkState F V) → P u.fields → walk_from atomic u moves ≡ Ok end → P end.fields)
          → onward (λ next. walk_from atomic next moves) r ≡ Ok end → P end.fields
      go (Ok u) k next f = next u (k u refl) f
      go (Err cause) k next f = absurd cc
