-- Of the three answers to a search no two hold.
use Rattle.std.proofs.Common.{◌≡◌, ℕ, ◌+◌, ◌≤◌, zero, suc, List, [], ◌∷◌, ◌++◌, length, take, sym, subst, ◌∙◌, arith}
use Rattle.std.specs.List.{All}
use Rattle.std.proofs.lemmas.List.Elements.{All-head, All-tail}
use Rattle.gv_judge.specs.Search.{IsFull}
use Rattle.gv_judge.specs.SearchLaws.{AnswersExclude}

module _ {A : Type 0} (P : A → Type 0) where
  at_place : (xs : List A) (y : A) (ys : List A) → All P (xs ++ y ∷ ys) → P y
  at_place [] y ys h = All-head P y ys h
  at_place (x ∷ xs) y ys h = at_place xs y ys (All-tail P x (xs ++ y ∷ ys) h)

  within_first : (n : ℕ) (xs : List A) (y : A) (ys : List A) → length xs + 1 ≤ n → All P (take n (xs ++ y ∷ ys)) → P y
  within_first zero xs y ys h all = absurd (omega (arith, h))
  within_first (suc n) [] y ys h all = All-head P y (take n ys) all
  within_first (suc n) (x ∷ xs) y ys h all = within_first n xs y ys (omega (arith, h)) (All-tail P x (take n (xs ++ y ∷ ys)) all)

  -- of two places with nothing of the kind before them both are the first
  same_first : (xs us : List A) (y v : A) (ys vs : List A) → xs ++ y ∷ ys ≡ us ++ v ∷ vs → All (λ a. P a → ⊥) xs → All (λ a. P a → ⊥) us → P y → P v → y ≡ v
  same_first [] [] y v ys vs e before others p q = cc
  same_first [] (u ∷ us) y v ys vs e before others p q = (let same : y ≡ u = cc in absurd (All-head (λ a. P a → ⊥) u us others (subst P same p)))
  same_first (x ∷ xs) [] y v ys vs e before others p q = (let same : x ≡ v = cc in absurd (All-head (λ a. P a → ⊥) x xs before (subst P (sym same) q)))
  same_first (x ∷ xs) (u ∷ us) y v ys vs e before others p q =
      let rest : xs ++ y ∷ ys ≡ us ++ v ∷ vs = cc in
      same_first xs us y v ys vs rest (All-tail (λ a. P a → ⊥) x xs before) (All-tail (λ a. P a → ⊥) u us others) p q

pub answers_exclude : (V : Type 0) → AnswersExclude V
answers_exclude V = record {
  first_or_none = λ all history most moves f n. at_place (λ ms. IsFull history ms → ⊥) f.before moves f.behind (subst (All (λ ms. IsFull history ms → ⊥)) f.order n.none) f.full;
  first_or_spent = λ all history most moves f s.
      within_first (λ ms. IsFull history ms → ⊥) most f.before moves f.behind f.number (subst (λ a. All (λ ms. IsFull history ms → ⊥) (take most a)) f.order s.none) f.full;
  none_or_spent = λ all history most n s. (let few = n.count in let more = s.count in omega (arith, few, more));
  one_first = λ all history most moves others f g.
      same_first (IsFull history) f.before g.before moves others f.behind g.behind (sym f.order ∙ g.order) f.none_before g.none_before f.full g.full;
}
