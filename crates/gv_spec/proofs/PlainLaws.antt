-- Explanations by a specification that chooses nothing are the same with choices and without.
use Rattle.std.proofs.Common.{◌≡◌, ℕ, Bool, true, false, cond, List, [], ◌∷◌, map, Option, Some, None, Result, Ok, Err, refl, sym, ap, subst, ◌∙◌}
use Rattle.gv_spec.specs.Entry as entry
use Rattle.gv_spec.specs.Move as move
use Rattle.gv_spec.specs.Entry.{Entry}
use Rattle.gv_spec.specs.Move.{Move, entries_of}
use Rattle.gv_spec.specs.Specification.{Specification}
use Rattle.gv_spec.specs.Walks.{Standing, NeverCalled, Called, Acted, Answered, Dropped, WalkState, WalkCause, WrongReply, entered, dropped, onward, first_walk, walk_called, acted_to, walk_acted, walk_answered, booted_to, walk_moved, walk_from, Explains}
use Rattle.gv_spec.specs.Plain.{Plain, unless_chosen, IsPlain, PlainMove, Act, Other, plain_entries, plain_first, plain_called, plain_acted, plain_answered, plain_moved, plain_walk, PlainExplains, choosing_none, erased, SameWalks, ErasedExplains, SameExplained}

some_is : {A : Type 0} (x y : A) → Some x ≡ Some y → x ≡ y
some_is x y e = cc

-- where something is allowed, nothing is chosen
pub chosen_none : {A : Type 0} (choices : List ℕ) (x y : A) → unless_chosen choices x ≡ Some y → x ≡ y
chosen_none [] x y e = some_is x y e
chosen_none (choice ∷ choices) x y e = absurd cc

pub chosen_reply : {F : Type 0} (choices : List ℕ) (fields after : F) (x y : ℕ) → unless_chosen {A = F × ℕ} choices (fields, x) ≡ Some (after, y) → x ≡ y
chosen_reply {F} choices fields after x y e =
    let P : F × ℕ = (fields, x) in
    let Q : F × ℕ = (after, y) in
    ap (λ z. z.1) (chosen_none choices P Q e)

none_entries : {V : Type 0} (ms : List (PlainMove V)) → entries_of (map choosing_none ms) ≡ plain_entries ms
none_entries [] = refl
none_entries (Act n ∷ ms) = none_entries ms
none_entries (Other e ∷ ms) = ap (λ es. e ∷ es) (none_entries ms)

erased_entries : {V : Type 0} (ms : List (Move V)) → plain_entries (map erased ms) ≡ entries_of ms
erased_entries [] = refl
erased_entries (move.Act n choices ∷ ms) = erased_entries ms
erased_entries (move.Boot choices ∷ ms) = ap (λ es. entry.Boot ∷ es) (erased_entries ms)
erased_entries (move.Other e ∷ ms) = ap (λ es. e ∷ es) (erased_entries ms)

module _ {F V : Type 0} (atomic : Specification F V) (plain : Plain F V) (is : IsPlain atomic plain) where
  -- ---- moves that choose nothing

  same_called : (w : WalkState F V) (n op : ℕ) (args : List V) (c : Standing V) → walk_called atomic w n op args c ≡ plain_called plain w n op args c
  same_called w n op args NeverCalled = refl
  same_called w n op args (Called o a) = refl
  same_called w n op args (Acted r) = refl
  same_called w n op args Answered = refl
  same_called w n op args Dropped = refl

  same_acted : (w : WalkState F V) (n : ℕ) (c : Standing V) → walk_acted atomic w n [] c ≡ plain_acted plain w n c
  same_acted w n (Called op args) = ap (acted_to atomic w n) (is.applied op args [] w.fields)
  same_acted w n (Acted r) = refl
  same_acted w n NeverCalled = refl
  same_acted w n Answered = refl
  same_acted w n Dropped = refl

  same_answered : (w : WalkState F V) (n : ℕ) (reply : V) (c : Standing V) → walk_answered atomic w n reply c ≡ plain_answered plain w n reply c
  same_answered w n reply (Acted kept) = ap test (is.same reply kept)
    where
      test : Bool → Result (WalkState F V) WalkCause
      test b = cond b (Ok (record w { table = entered w.table n Answered })) (Err WrongReply)
  same_answered w n reply (Called op args) = refl
  same_answered w n reply NeverCalled = refl
  same_answered w n reply Answered = refl
  same_answered w n reply Dropped = refl

  same_moved : (w : WalkState F V) (m : PlainMove V) → walk_moved atomic w (choosing_none m) ≡ plain_moved plain w m
  same_moved w (Act n) = same_acted w n (w.table n)
  same_moved w (Other (entry.Call n op args)) = same_called w n op args (w.table n)
  same_moved w (Other (entry.Answer n reply)) = same_answered w n reply (w.table n)
  same_moved w (Other entry.Crash) = refl
  same_moved w (Other entry.Boot) = ap (booted_to atomic w) (is.crashed [] w.fields)

  same_walk : (w : WalkState F V) (ms : List (PlainMove V)) → walk_from atomic w (map choosing_none ms) ≡ plain_walk plain w ms
  same_walk w [] = refl
  same_walk w (m ∷ ms) = ap (onward (λ next. walk_from atomic next (map choosing_none ms))) (same_moved w m) ∙ go (plain_moved plain w m) (λ u. same_walk u ms)
    where
      go : (r : Result (WalkState F V) WalkCause) → ((u : WalkState F V) → walk_from atomic u (map choosing_none ms) ≡ plain_walk plain u ms)
          → onward (λ next. walk_from atomic next (map choosing_none ms)) r ≡ onward (λ next. plain_walk plain next ms) r
      go (Ok u) h = h u
      go (Err cause) h = refl

  same_first : first_walk atomic ≡ plain_first plain
  same_first = λ i. record { fields = is.first i; table = λ n. NeverCalled }

  pub same_walks : (ms : List (PlainMove V)) → walk_from atomic (first_walk atomic) (map choosing_none ms) ≡ plain_walk plain (plain_first plain) ms
  same_walks ms = same_walk (first_walk atomic) ms ∙ ap (λ w. plain_walk plain w ms) same_first

  -- ---- any moves, without their choices

  erased_acted : (w u : WalkState F V) (n : ℕ) (choices : List ℕ) (c : Standing V) → walk_acted atomic w n choices c ≡ Ok u → plain_acted plain w n c ≡ Ok u
  erased_acted w u n [] c e = sym (same_acted w n c) ∙ e
  erased_acted w u n (choice ∷ choices) (Called op args) e = absurd (let none = sym (ap (acted_to atomic w n) (is.applied op args (choice ∷ choices) w.fields)) ∙ e in cc)
  erased_acted w u n (choice ∷ choices) (Acted r) e = absurd cc
  erased_acted w u n (choice ∷ choices) NeverCalled e = absurd cc
  erased_acted w u n (choice ∷ choices) Answered e = absurd cc
  erased_acted w u n (choice ∷ choices) Dropped e = absurd cc

  erased_booted : (w u : WalkState F V) (choices : List ℕ) → walk_moved atomic w (move.Boot choices) ≡ Ok u → plain_moved plain w (Other entry.Boot) ≡ Ok u
  erased_booted w u [] e = sym (same_moved w (Other entry.Boot)) ∙ e
  erased_booted w u (choice ∷ choices) e = absurd (let none = sym (ap (booted_to atomic w) (is.crashed (choice ∷ choices) w.fields)) ∙ e in cc)

  erased_moved : (w u : WalkState F V) (m : Move V) → walk_moved atomic w m ≡ Ok u → plain_moved plain w (erased m) ≡ Ok u
  erased_moved w u (move.Act n choices) e = erased_acted w u n choices (w.table n) e
  erased_moved w u (move.Boot choices) e = erased_booted w u choices e
  erased_moved w u (move.Other m) e = sym (same_moved w (Other m)) ∙ e

  erased_walk : (w end : WalkState F V) (ms : List (Move V)) → walk_from atomic w ms ≡ Ok end → plain_walk plain w (map erased ms) ≡ Ok end
  erased_walk w end [] e = e
  erased_walk w end (m ∷ ms) e = go (walk_moved atomic w m) refl e (λ u h. erased_walk u end ms h)
    where
      go : (r : Result (WalkState F V) WalkCause) → walk_moved atomic w m ≡ r → onward (λ next. walk_from atomic next ms) r ≡ Ok end
          → ((u : WalkState F V) → walk_from atomic u ms ≡ Ok end → plain_walk plain u (map erased ms) ≡ Ok end) → plain_walk plain w (map erased (m ∷ ms)) ≡ Ok end
      go (Ok u) first h rest = ap (onward (λ next. plain_walk plain next (map erased ms))) (erased_moved w u m first) ∙ rest u h
      go (Err cause) first h rest = absurd cc

  pub erased_explains : (ms : List (Move V)) (history : List (Entry V)) → Explains atomic ms history → PlainExplains plain (map erased ms) history
  erased_explains ms history x = record {
    entries = erased_entries ms ∙ x.entries;
    end = x.end;
    passes = ap (λ w. plain_walk plain w (map erased ms)) (sym same_first) ∙ erased_walk (first_walk atomic) x.end ms x.passes;
  }

  pub plain_explains : (ms : List (PlainMove V)) (history : List (Entry V)) → PlainExplains plain ms history → Explains atomic (map choosing_none ms) history
  plain_explains ms history x = record { entries = none_entries ms ∙ x.entries; end = x.end; passes = same_walks ms ∙ x.passes }

pub walks_are_same : (F V : Type 0) → SameWalks F V
walks_are_same F V atomic plain is moves = same_walks atomic plain is moves

pub explains_erased : (F V : Type 0) → ErasedExplains F V
explains_erased F V atomic plain is moves history x = erased_explains atomic plain is moves history x

pub explained_same : (F V : Type 0) → SameExplained F V
explained_same F V atomic plain is history = (
  (λ found. (map erased found.0, erased_explains atomic plain is found.0 history found.1)),
  (λ found. (map choosing_none found.0, plain_explains atomic plain is found.0 history found.1)),
)
