-- An act in the explanation, and in what is kept beside it.
use Rattle.std.proofs.Common.{◌≡◌, ◌≢◌, ℕ, ◌<◌, ◌≤◌, ◌⊎◌, inl, inr, true, List, [], ◌∷◌, ◌++◌, Option, Some, None, refl, sym, ap, subst, ◌∙◌, arith}
use Rattle.std.specs.Prelude.{Result, Ok, Err}
use Rattle.gv_terms.specs.declared.value.Value.{Value}
use Rattle.gv_spec.specs.Entry as entry
use Rattle.gv_spec.specs.Entry.{Entry}
use Rattle.gv_spec.specs.Specification.{Specification}
use Rattle.gv_spec.specs.Move as move
use Rattle.gv_spec.specs.Move.{Move, Act, entries_of}
use Rattle.gv_spec.specs.Walks.{Standing, NeverCalled, Called, Acted, WalkState, WalkCause, entered, onward, first_walk, walk_moved, walk_from, acted_to, walk_acted}
use Rattle.gv_resources.specs.Ghost.{Ghost}
use Rattle.gv_resources.specs.Told.{is_in_table}
use Rattle.gv_resources.proofs.Sums.{number_test, changed, changed_there, changed_elsewhere}
use Rattle.gv_seats.specs.Seats.{Walked}

entries_then : (moves : List (Move Value)) (n : ℕ) (choices : List ℕ) → entries_of (moves ++ Act n choices ∷ []) ≡ entries_of moves
entries_then [] n choices = refl
entries_then (Act m cs ∷ moves) n choices = entries_then moves n choices
entries_then (move.Boot cs ∷ moves) n choices = ap (λ (es : List (Entry Value)). entry.Boot ∷ es) (entries_then moves n choices)
entries_then (move.Other e ∷ moves) n choices = ap (λ (es : List (Entry Value)). e ∷ es) (entries_then moves n choices)

module _ (atomic : Specification (List Value) Value) where
  pub walk_then : (moves : List (Move Value)) (w : WalkState (List Value) Value) (end : WalkState (List Value) Value) (m : Move Value) → walk_from atomic w moves ≡ Ok end
      → walk_from atomic w (moves ++ m ∷ []) ≡ onward (λ next. Ok next) (walk_moved atomic end m)
  walk_then [] w end m e = let same : w ≡ end = ok_same w end e in ap (λ x. onward (λ next. Ok next) (walk_moved atomic x m)) same
    where
      ok_same : (x y : WalkState (List Value) Value) → ◌≡◌ {A = Result (WalkState (List Value) Value) WalkCause} (Ok x) (Ok y) → x ≡ y
      ok_same x y e = cc
  walk_then (first ∷ moves) w end m e = after (λ next. walk_from atomic next moves) (λ next. walk_from atomic next (moves ++ m ∷ [])) (λ next q. walk_then moves next end m q) (walk_moved atomic w first) e
    where
      after : (old new : WalkState (List Value) Value → Result (WalkState (List Value) Value) WalkCause)
          → ((next : WalkState (List Value) Value) → old next ≡ Ok end → new next ≡ onward (λ next. Ok next) (walk_moved atomic end m))
          → (came : Result (WalkState (List Value) Value) WalkCause) → onward old came ≡ Ok end → onward new came ≡ onward (λ next. Ok next) (walk_moved atomic end m)
      after old new go_on (Ok next) e = go_on next e
      after old new go_on (Err cause) e = absurd cc

pub entered_there : (table : ℕ → Standing Value) (n : ℕ) (s : Standing Value) → entered table n s n ≡ s
entered_there table n s = grind arith

pub entered_elsewhere : (table : ℕ → Standing Value) (n m : ℕ) (s : Standing Value) → m ≢ n → entered table n s m ≡ table m
entered_elsewhere table n m s ne = grind arith

module _ (atomic : Specification (List Value) Value) (g : Ghost) (w : Walked atomic g) (n operation : ℕ) (args : List Value) (choices : List ℕ) (news : List Value) (reply : Value)
    (called : g.walk.table n ≡ Called operation args) (does : atomic.applied operation args choices g.walk.fields ≡ Some (news, reply)) where
  abbrev pub walk_after : WalkState (List Value) Value
  walk_after = record { fields = news; table = entered g.walk.table n (Acted reply) }

  abbrev pub after : Ghost
  after = record g { moves = g.moves ++ Act n choices ∷ []; walk = walk_after; kept = changed g.kept n (Some reply) }

  passes : walk_from atomic (first_walk atomic) after.moves ≡ Ok walk_after
  passes =
      walk_then atomic g.moves (first_walk atomic) g.walk (Act n choices) w.passes
      ∙ ap (λ (s : Standing Value). onward (λ next. Ok next) (walk_acted atomic g.walk n choices s)) called
      ∙ ap (λ (x : Option (List Value × Value)). onward (λ next. Ok next) (acted_to atomic g.walk n x)) does

  under_way : n ≤ g.calls
  under_way = elim (late n g.calls) [
    | inl l ↦ (let never : NeverCalled ≡ Called operation args = sym (w.later n l) ∙ called in absurd cc)
    | inr l ↦ l
  ]
    where
      late : (m k : ℕ) → (k < m) ⊎ (m ≤ k)
      late m k = grind arith

  pub walked_after : Walked atomic after
  walked_after = record {
    entries = entries_then g.moves n choices ∙ w.entries;
    passes = passes;
    later = λ call l. (let u = under_way in entered_elsewhere g.walk.table n call (Acted reply) (λ e. omega (arith, e, l, u)) ∙ w.later call l);
    unacted = λ call op xs h. unacted call op xs h;
    acted = λ call r kept there. acted call r kept there;
    since = w.since;
    gone = w.gone;
  }
    where
      unacted : (call op : ℕ) (xs : List Value) → (after.walk.table call ≡ NeverCalled) ⊎ (after.walk.table call ≡ Called op xs) → after.kept call ≡ None
      unacted call op xs h = elim (number_test call n) [
        | inl (e, t) ↦ absurd (now_acted (subst (λ k. (after.walk.table k ≡ NeverCalled) ⊎ (after.walk.table k ≡ Called op xs)) e h))
        | inr (ne, t) ↦
            changed_elsewhere g.kept n call (Some reply) ne
            ∙ w.unacted call op xs (subst (λ (s : Standing Value). (s ≡ NeverCalled) ⊎ (s ≡ Called op xs)) (entered_elsewhere g.walk.table n call (Acted reply) ne) h)
      ]
        where
          now_acted : (after.walk.table n ≡ NeverCalled) ⊎ (after.walk.table n ≡ Called op xs) → ⊥
          now_acted (inl e) = let both : Acted reply ≡ NeverCalled = sym (entered_there g.walk.table n (Acted reply)) ∙ e in cc
          now_acted (inr e) = let both : Acted reply ≡ Called op xs = sym (entered_there g.walk.table n (Acted reply)) ∙ e in cc

      acted : (call : ℕ) (r : Value) → after.kept call ≡ Some r → is_in_table (after.walk.table call) ≡ true → after.walk.table call ≡ Acted r
      acted call r kept there = elim (number_test call n) [
        | inl (e, t) ↦ (
            let kept_here : after.kept n ≡ Some r = subst (λ k. after.kept k ≡ Some r) e kept in
            let same : Some reply ≡ Some r = sym (changed_there g.kept n (Some reply)) ∙ kept_here in
            let reply_is : reply ≡ r = cc in
            ap after.walk.table e ∙ entered_there g.walk.table n (Acted reply) ∙ ap Acted reply_is)
        | inr (ne, t) ↦
            entered_elsewhere g.walk.table n call (Acted reply) ne
            ∙ w.acted call r (sym (changed_elsewhere g.kept n call (Some reply) ne) ∙ kept)
            (ap is_in_table (sym (entered_elsewhere g.walk.table n call (Acted reply) ne)) ∙ there)
      ]
