-- A row over numbered unknowns has the value of its summands, and its items ascend.
use Rattle.std.proofs.Common.{◌≡◌, ◌⊎◌, inl, inr, ℕ, zero, suc, ◌+◌, ◌<◌, ◌≤◌, List, [], ◌∷◌, ◌++◌, map, length, get_or, Bool, true, false, ◌||◌, cond, Option, Some, None, refl, sym, ap, ◌∙◌, subst, arith, eqb}
use Rattle.std.specs.Prelude.{nat_eq, AllPairs}
use Rattle.std.specs.List.{All}
use Rattle.std.proofs.Math.IntN.{ℤ, pos, ◌+ℤ◌, ◌-ℤ◌, ◌*ℤ◌, neg_ℤ, zero-*ℤ}
use Rattle.std.proofs.lemmas.Int.{ints}
use Rattle.std.proofs.lemmas.Bool.{cases_order, cases_lt}
use Rattle.std.proofs.lemmas.Bool.Decides.{Decides-eqb}
use Rattle.gv_linear.specs.Row.{items_sum, IsInOrder}
use Rattle.gv_linear.proofs.IntegerLaws.{spread_right}
use Rattle.gv_terms.specs.declared.operator.Operator.TheVariants as op
use Rattle.gv_terms.specs.declared.tree.Head.{Head}
use Rattle.gv_terms.specs.declared.tree.Head.TheVariants as head
use Rattle.gv_terms.specs.declared.tree.TermTree.{TermTree}
use Rattle.gv_terms.specs.declared.value.Env.{Env}
use Rattle.gv_terms.specs.Values.{word_of}
use Rattle.gv_terms.specs.Trees.{rooted, root_of, branches_of, value_under}
use Rattle.gv_terms.proofs.Valued.{value_apply}
use Rattle.gv_certs.specs.Trees.{tree_eq, contains}
use Rattle.gv_certs.specs.Sums.{Summands, number_at, number_in, with_unknown, with_unknowns, place_in, to_constant, to_coefficient, constant_of, coefficient_of, items_from, items_of, Comparison, row_of, row_summands, taken_away, summands}
use Rattle.gv_certs.specs.Proving.{unknowns_in, unknowns, sides}
use Rattle.gv_certs.proofs.Folding.{rooted_again}
use Rattle.gv_certs.proofs.Equality.{same_tree, tree_eq_decides}
use Rattle.gv_certs.proofs.Known.{either}
use Rattle.gv_certs.proofs.Totals.{whole, total}

-- ---- literals

module _ (env : Env) where
  by_head : (h : Head) (bs : List TermTree) (n : ℕ) → number_at h ≡ Some n → whole env (rooted h bs) ≡ pos n
  by_head (head.Variable m s) bs n e = absurd cc
  by_head (head.Apply (op.Number k)) bs n e = let same : k ≡ n = cc in ap (λ v. pos (word_of v)) (value_apply env (op.Number k) bs) ∙ ap pos same
  by_head (head.Apply _) bs n e = absurd cc

  pub literal_whole : (t : TermTree) (n : ℕ) → number_in t ≡ Some n → whole env t ≡ pos n
  literal_whole t n e = ap (whole env) (sym (rooted_again t)) ∙ by_head (root_of t) (branches_of t) n e

-- ---- places

pub place_within : (us : List TermTree) (t : TermTree) → contains us t ≡ true → place_in us t < length us
place_within [] t e = absurd cc
place_within (u ∷ us) t e = by_test (tree_eq u t) e (place_within us t)
  where
    by_test : (b : Bool) → (b || contains us t) ≡ true → (contains us t ≡ true → place_in us t < length us) → cond b 0 (suc (place_in us t)) < suc (length us)
    by_test true f h = omega arith
    by_test false f h = let rest = h f in omega (arith, rest)

pub found_at : (us : List TermTree) (t d : TermTree) → contains us t ≡ true → get_or us (place_in us t) d ≡ t
found_at [] t d e = absurd cc
found_at (u ∷ us) t d e = by_test (tree_eq u t) refl e (found_at us t d)
  where
    by_test : (b : Bool) → tree_eq u t ≡ b → (b || contains us t) ≡ true → (contains us t ≡ true → get_or us (place_in us t) d ≡ t)
        → get_or (u ∷ us) (cond b 0 (suc (place_in us t))) d ≡ t
    by_test true g f h = same_tree u t g
    by_test false g f h = h f

-- ---- what a summand adds to a row

module _ (env : Env) (us : List TermTree) (d : TermTree) where
  -- the values of the unknowns
  abbrev pub unknown : ℕ → ℤ
  unknown k = whole env (get_or us k d)

  -- what a summand adds to the items from u on
  abbrev alone : ℤ → ℕ → Option ℕ → ℕ → ℕ → ℤ
  alone sign place n u zero = pos 0
  alone sign place n u (suc more) = (to_coefficient u sign place n *ℤ unknown u) +ℤ alone sign place n (suc u) more

  one_more : (u more : ℕ) (s : ℤ × TermTree) (ss : Summands)
      → items_sum unknown (items_from us u more (s ∷ ss)) ≡ alone s.0 (place_in us s.1) (number_in s.1) u more +ℤ items_sum unknown (items_from us u more ss)
  one_more u zero s ss = omega (arith, ints)
  one_more u (suc more) s ss =
      let rest = one_more (suc u) more s ss in
      let here = spread_right (to_coefficient u s.0 (place_in us s.1) (number_in s.1)) (coefficient_of us u ss) (unknown u) in
      omega (arith, ints, rest, here)

  none_at_all : (u more : ℕ) → items_sum unknown (items_from us u more []) ≡ pos 0
  none_at_all u zero = refl
  none_at_all u (suc more) = let rest = none_at_all (suc u) more in let here = zero-*ℤ (unknown u) in omega (arith, ints, rest, here)

  of_literal : (sign : ℤ) (place n u more : ℕ) → alone sign place (Some n) u more ≡ pos 0
  of_literal sign place n u zero = refl
  of_literal sign place n u (suc more) = let rest = of_literal sign place n (suc u) more in let here = zero-*ℤ (unknown u) in omega (arith, ints, rest, here)

  other_place : (sign : ℤ) (place u : ℕ) → (place ≡ u → ⊥) → to_coefficient u sign place None ≡ pos 0
  other_place sign place u h = by_test (nat_eq place u) refl
    where
      by_test : (b : Bool) → nat_eq place u ≡ b → cond b sign (pos 0) ≡ pos 0
      by_test true e = absurd (h ((Decides-eqb place u).0 e))
      by_test false e = refl

  same_place : (sign : ℤ) (place u : ℕ) → place ≡ u → to_coefficient u sign place None ≡ sign
  same_place sign place u e = ap (λ b. cond b sign (pos 0)) ((Decides-eqb place u).1 e)

  behind : (sign : ℤ) (place u more : ℕ) → place < u → alone sign place None u more ≡ pos 0
  behind sign place u zero lt = refl
  behind sign place u (suc more) lt =
      let rest = behind sign place (suc u) more (omega arith) in
      let here : to_coefficient u sign place None *ℤ unknown u ≡ pos 0 = ap (λ y. y *ℤ unknown u) (other_place sign place u (λ e. absurd (omega (arith, e)))) ∙ zero-*ℤ (unknown u) in
      omega (arith, ints, rest, here)

  at_place : (sign : ℤ) (place u more : ℕ) → u ≤ place → place < u + more → alone sign place None u more ≡ sign *ℤ unknown place
  at_place sign place u zero low high = absurd (omega arith)
  at_place sign place u (suc more) low high = elim (cases_order place u) [
    | inl same ↦
        (let rest = behind sign place (suc u) more (omega arith) in
        let here : to_coefficient u sign place None *ℤ unknown u ≡ sign *ℤ unknown place = ap (λ y. y *ℤ unknown u) (same_place sign place u same) ∙ ap (λ k. sign *ℤ unknown k) (sym same) in
        omega (arith, ints, rest, here))
    | inr other ↦ elim other [
      | inl below ↦ absurd (omega arith)
      | inr above ↦
          (let rest = at_place sign place (suc u) more (omega arith) (omega arith) in
          let here : to_coefficient u sign place None *ℤ unknown u ≡ pos 0 = ap (λ y. y *ℤ unknown u) (other_place sign place u (λ e. absurd (omega (arith, e)))) ∙ zero-*ℤ (unknown u) in
          omega (arith, ints, rest, here))
    ]
  ]

  -- each summand is a literal or one of the unknowns
  abbrev pub IsCovered : ℤ × TermTree → Type 0
  IsCovered s = number_in s.1 ≡ None → contains us s.1 ≡ true

  abbrev pub AreCovered : Summands → Type 0
  AreCovered [] = Unit {0}
  AreCovered (s ∷ ss) = IsCovered s × AreCovered ss

  one_value : (s : ℤ × TermTree) (o : Option ℕ) → number_in s.1 ≡ o → IsCovered s
      → alone s.0 (place_in us s.1) o 0 (length us) +ℤ to_constant s.0 o ≡ s.0 *ℤ whole env s.1
  one_value s (Some n) e covered =
      let none = of_literal s.0 (place_in us s.1) n 0 (length us) in
      let literal : s.0 *ℤ whole env s.1 ≡ s.0 *ℤ pos n = ap (λ y. s.0 *ℤ y) (literal_whole env s.1 n e) in
      omega (arith, ints, none, literal)
  one_value s None e covered =
      let there = at_place s.0 (place_in us s.1) 0 (length us) (omega arith) (omega (arith, place_within us s.1 (covered e))) in
      let same : s.0 *ℤ unknown (place_in us s.1) ≡ s.0 *ℤ whole env s.1 = ap (λ t. s.0 *ℤ whole env t) (found_at us s.1 d (covered e)) in
      omega (arith, ints, there, same)

  pub items_value : (ss : Summands) → AreCovered ss → items_sum unknown (items_of us ss) +ℤ constant_of ss ≡ total env ss
  items_value [] covered = let none = none_at_all 0 (length us) in omega (arith, ints, none)
  items_value (s ∷ ss) covered =
      let rest = items_value ss covered.1 in
      let more = one_more 0 (length us) s ss in
      let here = one_value s (number_in s.1) refl covered.0 in
      omega (arith, ints, rest, more, here)

-- ---- items ascend

length_items : (us : List TermTree) (u more : ℕ) (ss : Summands) → length (items_from us u more ss) ≡ more
length_items us u zero ss = refl
length_items us u (suc more) ss = ap suc (length_items us (suc u) more ss)

number_of_item : (us : List TermTree) (u more : ℕ) (ss : Summands) (k : ℕ) (d : ℕ × ℤ) → k < more → (get_or (items_from us u more ss) k d).0 ≡ u + k
number_of_item us u zero ss k d lt = absurd (omega arith)
number_of_item us u (suc more) ss zero d lt = omega arith
number_of_item us u (suc more) ss (suc k) d lt = let rest = number_of_item us (suc u) more ss k d (omega arith) in omega (arith, rest)

pub in_order : (sums us : List TermTree) (c : Comparison) → IsInOrder (length us) (row_of sums us c)
in_order sums us c = record {
  ascending = λ i j d l m.
      let long = length_items us 0 (length us) (row_summands sums c) in
      let first = number_of_item us 0 (length us) (row_summands sums c) i d (omega (arith, long, l, m)) in
      let second = number_of_item us 0 (length us) (row_summands sums c) j d (omega (arith, long, m)) in
      omega (arith, first, second, l);
  below = λ k d l.
      let long = length_items us 0 (length us) (row_summands sums c) in
      let first = number_of_item us 0 (length us) (row_summands sums c) k d (omega (arith, long, l)) in
      omega (arith, first, long, l);
}

-- ---- the list of unknowns has them all

contains_more : (us ws : List TermTree) (t : TermTree) → contains us t ≡ true → contains (us ++ ws) t ≡ true
contains_more [] ws t e = absurd cc
contains_more (u ∷ us) ws t e = by_test (tree_eq u t) e (contains_more us ws t)
  where
    by_test : (b : Bool) → (b || contains us t) ≡ true → (contains us t ≡ true → contains (us ++ ws) t ≡ true) → (b || contains (us ++ ws) t) ≡ true
    by_test true f h = refl
    by_test false f h = h f

contains_last : (us : List TermTree) (t : TermTree) → contains (us ++ (t ∷ [])) t ≡ true
contains_last [] t = ap (λ b. b || false) ((tree_eq_decides t t).1 refl)
contains_last (u ∷ us) t = by_test (tree_eq u t) (contains_last us t)
  where
    by_test : (b : Bool) → contains (us ++ (t ∷ [])) t ≡ true → (b || contains (us ++ (t ∷ [])) t) ≡ true
    by_test true h = refl
    by_test false h = h

-- nothing is lost
kept_by_one : (us : List TermTree) (t v : TermTree) (o : Option ℕ) → contains us v ≡ true → contains (with_unknown us t o) v ≡ true
kept_by_one us t v (Some n) e = e
kept_by_one us t v None e = by_test (contains us t)
  where
    by_test : (b : Bool) → contains (cond b us (us ++ (t ∷ []))) v ≡ true
    by_test true = e
    by_test false = contains_more us (t ∷ []) v e

kept_by_all : (us : List TermTree) (ss : Summands) (v : TermTree) → contains us v ≡ true → contains (with_unknowns us ss) v ≡ true
kept_by_all us [] v e = e
kept_by_all us (s ∷ ss) v e = kept_by_all (with_unknown us s.1 (number_in s.1)) ss v (kept_by_one us s.1 v (number_in s.1) e)

added_one : (us : List TermTree) (t : TermTree) (o : Option ℕ) → o ≡ None → contains (with_unknown us t o) t ≡ true
added_one us t (Some n) e = absurd cc
added_one us t None e = by_test (contains us t) refl
  where
    by_test : (b : Bool) → contains us t ≡ b → contains (cond b us (us ++ (t ∷ []))) t ≡ true
    by_test true f = f
    by_test false f = contains_last us t

module _ (env : Env) (d : TermTree) where
  covered_by_all : (us : List TermTree) (ss : Summands) → AreCovered env (with_unknowns us ss) d ss
  covered_by_all us [] = tt
  covered_by_all us (s ∷ ss) =
      let now = with_unknown us s.1 (number_in s.1) in
      ((λ e. kept_by_all now ss s.1 (added_one us s.1 (number_in s.1) e)), covered_by_all now ss)

  still_covered : (us ws : List TermTree) → ((v : TermTree) → contains us v ≡ true → contains ws v ≡ true) → (ss : Summands) → AreCovered env us d ss → AreCovered env ws d ss
  still_covered us ws h [] covered = tt
  still_covered us ws h (s ∷ ss) covered = ((λ e. h s.1 (covered.0 e)), still_covered us ws h ss covered.1)

  kept_in : (sums us ts : List TermTree) (v : TermTree) → contains us v ≡ true → contains (unknowns_in sums us ts) v ≡ true
  kept_in sums us [] v e = e
  kept_in sums us (t ∷ ts) v e = kept_in sums (with_unknowns us (summands sums t)) ts v (kept_by_all us (summands sums t) v e)

  abbrev pub EachCovered : List TermTree → List TermTree → List TermTree → Type 0
  EachCovered sums us [] = Unit {0}
  EachCovered sums us (t ∷ ts) = AreCovered env us d (summands sums t) × EachCovered sums us ts

  each_covered : (sums us ts : List TermTree) → EachCovered sums (unknowns_in sums us ts) ts
  each_covered sums us [] = tt
  each_covered sums us (t ∷ ts) =
      let now = with_unknowns us (summands sums t) in
      (still_covered now (unknowns_in sums now ts) (kept_in sums now ts) (summands sums t) (covered_by_all us (summands sums t)), each_covered sums now ts)

  of_second : (sums us xs ys : List TermTree) → EachCovered sums us (xs ++ ys) → EachCovered sums us ys
  of_second sums us [] ys h = h
  of_second sums us (x ∷ xs) ys h = of_second sums us xs ys h.1

  -- of the rows
  pub sides_covered : (sums : List TermTree) (cs : List Comparison) → EachCovered sums (unknowns sums cs) (sides cs)
  sides_covered sums cs = of_second sums (unknowns sums cs) sums (sides cs) (each_covered sums [] (sums ++ sides cs))

  pub both_covered : (us : List TermTree) (x y : Summands) → AreCovered env us d x → AreCovered env us d y → AreCovered env us d (x ++ y)
  both_covered us [] y h g = g
  both_covered us (s ∷ x) y h g = (h.0, both_covered us x y h.1 g)

  pub taken_away_covered : (us : List TermTree) (x : Summands) → AreCovered env us d x → AreCovered env us d (taken_away x)
  taken_away_covered us [] h = tt
  taken_away_covered us (s ∷ x) h = (h.0, taken_away_covered us x h.1)
