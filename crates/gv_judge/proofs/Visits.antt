-- The nodes that a judge has visited, and what they tell in the end.
use Rattle.std.proofs.Common.{◌≡◌, ℕ, ◌+◌, ◌*◌, ◌<◌, ◌≤◌, zero, suc, Bool, true, false, List, [], ◌∷◌, ◌++◌, map, length, take, None, refl, sym, ap, subst, ◌∙◌, arith, inl, inr, append_assoc}
use Rattle.std.specs.Prelude.{IsTrue}
use Rattle.std.specs.List.{All}
use Rattle.std.proofs.lemmas.List.Elements.{All-head, All-tail, All-push, All-nil}
use Rattle.gv_terms.specs.declared.value.Value.{Value}
use Rattle.gv_atomic.specs.declared.spec.Spec.{Spec}
use Rattle.gv_spec.specs.declared.entry.Entry as held_entry
use Rattle.gv_spec.specs.declared.explanation.Move as held_moves
use Rattle.gv_spec.specs.Move.{Move}
use Rattle.gv_spec.specs.Atomic.{atomic_of}
use Rattle.gv_spec.specs.History.{entry_of, move_of, IsExplanation}
use Rattle.gv_judge.specs.declared.search.Search.{Search}
use Rattle.gv_judge.specs.Choosing.{choosing_of}
use Rattle.gv_judge.specs.Search.{IsFull, IsFirstFull, AreNoneFull, IsSpent}
use Rattle.gv_judge.specs.SearchLaws.{IsIn}
use Rattle.gv_judge.specs.Bound.{IsOneByOne}
use Rattle.gv_judge.specs.Explained.{search_order, IsUnexplained, PicksNothing}
use Rattle.gv_judge.specs.Open.{IsAt, Goes}
use Rattle.gv_judge.specs.declared.judging.Judged as judged
use Rattle.gv_judge.specs.declared.judging.Judged.TheVariants as answer
use Rattle.gv_judge.specs.Judged.{IsJudgement, Tells, IsDecided}
use Rattle.gv_judge.proofs.Members.{in_right}
use Rattle.gv_judge.proofs.Choosing.{is_choosing}
use Rattle.gv_judge.proofs.SearchLaws.{nodes_walk}
use Rattle.gv_judge.proofs.Explained.{full_are_explanations, no_full_no_explanation, few_without_picks}

-- so many nodes were visited, none of them full, and the search stands at the next one
pub record HasVisited (s : Spec) (history : List held_entry.Entry) (x : Search) (number : ℕ) : Type 0 where
  pub visited : List (List (Move Value))
  pub todo : List (List (Move Value))
  pub order : search_order s history ≡ visited ++ map move_of x.moves ∷ todo
  pub none : All (λ ms. IsFull (map entry_of history) ms → ⊥) visited
  pub count : length visited ≡ number
  pub at : IsAt s history x todo

all_in : {A : Type 0} (P : A → Type 0) (x : A) (xs : List A) → All P xs → IsIn x xs → P x
all_in P x [] all h = absurd h
all_in P x (y ∷ ys) all (inl e) = subst P (sym e) (All-head P y ys all)
all_in P x (y ∷ ys) all (inr h) = all_in P x ys (All-tail P y ys all) h

long_last : {A : Type 0} (xs : List A) (x : A) → length (xs ++ x ∷ []) ≡ length xs + 1
long_last [] x = omega arith
long_last (y ∷ xs) x = (let rest = long_last xs x in omega (arith, rest))

long_parts : {A : Type 0} (xs : List A) (y : A) (ys : List A) → length (xs ++ y ∷ ys) ≡ length xs + 1 + length ys
long_parts [] y ys = omega arith
long_parts (x ∷ xs) y ys = (let rest = long_parts xs y ys in omega (arith, rest))

take_all : {A : Type 0} (n : ℕ) (xs ys : List A) → length xs ≡ n → take n (xs ++ ys) ≡ xs
take_all zero [] ys long = refl
take_all zero (x ∷ xs) ys long = absurd (omega (arith, long))
take_all (suc n) [] ys long = absurd (omega (arith, long))
take_all (suc n) (x ∷ xs) ys long = ap (λ l. x ∷ l) (take_all n xs ys (omega (arith, long)))

is_not : (b : Bool) → b ≡ false → IsTrue b → ⊥
is_not b e h = (let clash = sym e ∙ h in cc)

module _ (s : Spec) (history : List held_entry.Entry) where
  pub none_visited : (x : Search) → x.moves ≡ [] → (todo : List (List (Move Value))) × (search_order s history ≡ [] ∷ todo) × IsAt s history x todo → HasVisited s history x 0
  none_visited x none h = record {
    visited = [];
    todo = h.0;
    order = h.1 ∙ ap (λ ms. map move_of ms ∷ h.0) (sym none);
    none = All-nil (λ ms. IsFull (map entry_of history) ms → ⊥);
    count = refl;
    at = h.2;
  }

  module _ (x : Search) (number : ℕ) (v : HasVisited s history x number) where
    not_full : x.is_full ≡ false → IsFull (map entry_of history) (map move_of x.moves) → ⊥
    not_full e f = is_not x.is_full e (v.at.full.1 f)

    pub more_visited : (y : Search) → x.is_full ≡ false → Goes s history true y v.todo → HasVisited s history y (number + 1)
    more_visited y e g = record {
      visited = v.visited ++ map move_of x.moves ∷ [];
      todo = g.0;
      order = v.order ∙ ap (λ l. v.visited ++ map move_of x.moves ∷ l) g.1 ∙ sym (append_assoc v.visited (map move_of x.moves ∷ []) (map move_of y.moves ∷ g.0));
      none = All-push (λ ms. IsFull (map entry_of history) ms → ⊥) v.visited (map move_of x.moves) v.none (not_full e);
      count = (let one = long_last v.visited (map move_of x.moves) in let c = v.count in omega (arith, one, c));
      at = g.2;
    }

    pub first_full : (most : ℕ) → number < most → x.is_full ≡ true → IsFirstFull (search_order s history) (map entry_of history) most (map move_of x.moves)
    first_full most lt e = record {
      before = v.visited;
      behind = v.todo;
      order = v.order;
      none_before = v.none;
      full = v.at.full.0 e;
      number = (let c = v.count in omega (arith, c, lt));
    }

    pub none_full : (most : ℕ) → number < most → x.is_full ≡ false → v.todo ≡ [] → AreNoneFull (search_order s history) (map entry_of history) most
    none_full most lt e end =
        let all : search_order s history ≡ v.visited ++ map move_of x.moves ∷ [] = v.order ∙ ap (λ l. v.visited ++ map move_of x.moves ∷ l) end in
        record {
          count = (let long : length (search_order s history) ≡ length (v.visited ++ map move_of x.moves ∷ []) = ap length all in
              let one = long_last v.visited (map move_of x.moves) in let c = v.count in omega (arith, long, one, c, lt));
          none = subst (All (λ ms. IsFull (map entry_of history) ms → ⊥)) (sym all)
              (All-push (λ ms. IsFull (map entry_of history) ms → ⊥) v.visited (map move_of x.moves) v.none (not_full e));
        }

    pub is_spent : (most : ℕ) → number ≡ most → IsSpent (search_order s history) (map entry_of history) most
    is_spent most e = record {
      count = (let long : length (search_order s history) ≡ length (v.visited ++ map move_of x.moves ∷ v.todo) = ap length v.order in
          let parts = long_parts v.visited (map move_of x.moves) v.todo in let c = v.count in omega (arith, long, parts, c, e));
      none = subst (All (λ ms. IsFull (map entry_of history) ms → ⊥))
          (sym (ap (take most) v.order ∙ take_all most v.visited (map move_of x.moves ∷ v.todo) (v.count ∙ e))) v.none;
    }

  -- ---- what the answers tell

  pub explains : (most : ℕ) (moves : List held_moves.Move) → IsFirstFull (search_order s history) (map entry_of history) most (map move_of moves) → IsExplanation s moves history
  explains most moves f =
      let among : IsIn (map move_of moves) (search_order s history) =
      subst (IsIn (map move_of moves)) (sym f.order) (in_right (map move_of moves) f.before (map move_of moves ∷ f.behind) (inl refl)) in
      let node = (nodes_walk (atomic_of s) (choosing_of s) (is_choosing s) (map entry_of history) (map move_of moves)).0 among in
      (full_are_explanations s history moves node.written).0 (among, f.full)

  pub unexplained : (most : ℕ) → AreNoneFull (search_order s history) (map entry_of history) most → IsUnexplained s history
  unexplained most n = no_full_no_explanation s history (λ moves among full. all_in (λ ms. IsFull (map entry_of history) ms → ⊥) moves (search_order s history) n.none among full)

  pub not_spent : (most : ℕ) → PicksNothing s → IsOneByOne None (map entry_of history) → 2 * length history + 1 ≤ most
      → IsSpent (search_order s history) (map entry_of history) most → ⊥
  not_spent most picks one le spent = (let few = few_without_picks s picks history one in let many = spent.count in omega (arith, few, many, le))

  pub tells : (most : ℕ) (j : judged.Judged) → IsJudgement s history most j → Tells s history j
  tells most (answer.Yes moves) h = explains most moves h
  tells most answer.No h = unexplained most h
  tells most answer.Spent h = tt

  pub decides : (most : ℕ) → PicksNothing s → IsOneByOne None (map entry_of history) → 2 * length history + 1 ≤ most → (j : judged.Judged) → IsJudgement s history most j → IsDecided j
  decides most picks one le (answer.Yes moves) h = tt
  decides most picks one le answer.No h = tt
  decides most picks one le answer.Spent h = not_spent most picks one le h

  pub goes_on : (b : Bool) (x : Search) (todo : List (List (Move Value))) → b ≡ true → Goes s history b x todo → Goes s history true x todo
  goes_on b x todo e h = subst (λ t. Goes s history t x todo) e h

  pub goes_not : (b : Bool) (x : Search) (todo : List (List (Move Value))) → b ≡ false → Goes s history b x todo → todo ≡ []
  goes_not b x todo e h = subst (λ t. Goes s history t x todo) e h
