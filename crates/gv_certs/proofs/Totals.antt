-- The value of a term over whole numbers is the sum of what it is the sum of.
use Rattle.std.proofs.Common.{◌≡◌, ◌⊎◌, inl, inr, ℕ, zero, suc, ◌+◌, ◌-◌, ◌%◌, ◌<◌, ◌≤◌, List, [], ◌∷◌, ◌++◌, map, Bool, true, false, ◌||◌, cond, Option, Some, None, IsSome, refl, sym, ap, ◌∙◌, subst, arith, rules}
use Rattle.std.proofs.Math.IntN.{ℤ, pos, ◌+ℤ◌, ◌*ℤ◌, neg_ℤ, zero-*ℤ, +ℤ_idr}
use Rattle.std.proofs.lemmas.Int.{ints}
use Rattle.std.specs.List.{All, list_all}
use Rattle.std.proofs.lemmas.Bool.{and_parts}
use Rattle.std.proofs.lemmas.List.Elements.{All-head, All-tail}
use Rattle.gv_linear.proofs.IntegerLaws.{spread_right}
use Rattle.gv_terms.specs.declared.sort.Sort.{Sort}
use Rattle.gv_terms.specs.declared.operator.Operator.{Operator}
use Rattle.gv_terms.specs.declared.operator.Operator.TheVariants as op
use Rattle.gv_terms.specs.declared.tree.Head.{Head}
use Rattle.gv_terms.specs.declared.tree.Head.TheVariants as head
use Rattle.gv_terms.specs.declared.tree.TermTree.{TermTree}
use Rattle.gv_terms.specs.declared.tree.TermTree.TheVariants as tree
use Rattle.gv_terms.specs.declared.value.Value.TheVariants as val
use Rattle.gv_terms.specs.declared.value.Env.{Env}
use Rattle.gv_terms.specs.Values.{word_of}
use Rattle.gv_terms.specs.Sorts.{sort_given}
use Rattle.gv_terms.specs.Trees.{rooted, root_of, branches_of, sort_of, all_sorts, with_sorts, value_under}
use Rattle.gv_terms.specs.Ranges.{IsValuation, numbers_are_words, is_word_if_number}
use Rattle.gv_terms.proofs.NodeSorts.{sort_apply}
use Rattle.gv_terms.proofs.Numbers.{numbers_apply}
use Rattle.gv_terms.proofs.Trees.{same_root, same_parts}
use Rattle.gv_terms.proofs.Valued.{value_apply}
use Rattle.gv_terms.proofs.ValueRanges.{values_in_range}
use Rattle.gv_words.specs.Words.{words, plus, minus}
use Rattle.gv_axioms.specs.Truth.{IsTrueUnder, AreTerms}
use Rattle.gv_axioms.proofs.Values.{below, yes, less, at_most}
use Rattle.gv_certs.specs.Trees.{contains, parts_under, and_pass, over_two, tree_eq}
use Rattle.gv_certs.specs.Known.{is_known}
use Rattle.gv_certs.specs.Sums.{is_sum, Summands, taken_away, of_both, summands, number_at, number_in}
use Rattle.gv_certs.proofs.Folding.{Each, trees, by_induction, root_variable, root_apply, rooted_again, folded_variable, folded_apply}
use Rattle.gv_certs.proofs.Equality.{same_tree}
use Rattle.gv_certs.proofs.Known.{either, passes, is_over, value_over, known_true}

-- ---- parts of terms

abbrev pub IsTerm : TermTree → Type 0
IsTerm t = IsSome (sort_of t) × (numbers_are_words t ≡ true)

first_sorted : (o : Option Sort) (os : List (Option Sort)) (f : List Sort → Option Sort) → IsSome (with_sorts (all_sorts (o ∷ os)) f) → IsSome o
first_sorted None os f h = absurd (search rules)
first_sorted (Some s) os f h = search rules

-- the first part of a term is one
first_term : (o : Operator) (a b : TermTree) → IsTerm (over_two o a b) → IsTerm a
first_term o a b is =
    let numbers = and_parts (is_word_if_number o) (list_all (λ b. b) (map numbers_are_words (a ∷ b ∷ []))) (sym (numbers_apply o (a ∷ b ∷ [])) ∙ is.1) in
    (first_sorted (sort_of a) (sort_of b ∷ []) (sort_given o) (subst (λ s. IsSome s) (sort_apply o (a ∷ b ∷ [])) is.0), (and_parts (numbers_are_words a) (list_all (λ b. b) (map numbers_are_words (b ∷ []))) numbers.1).0)

sort_there : (o : Option Sort) → IsSome o → (s : Sort) × (o ≡ Some s)
sort_there None h = absurd (search rules)
sort_there (Some s) h = (s, refl)

-- ---- whole numbers

module _ (env : Env) where
  -- the value of a term of a word
  abbrev pub count : TermTree → ℕ
  count t = word_of (value_under env t)

  abbrev pub whole : TermTree → ℤ
  whole t = pos (count t)

  abbrev pub total : Summands → ℤ
  total [] = pos 0
  total (s ∷ ss) = (s.0 *ℤ whole s.1) +ℤ total ss

  pub total_of_both : (x y : Summands) → total (x ++ y) ≡ total x +ℤ total y
  total_of_both [] y = omega (arith, ints)
  total_of_both (s ∷ x) y = let rest = total_of_both x y in omega (arith, ints, rest)

  negative_times : (a b : ℤ) → neg_ℤ a *ℤ b ≡ neg_ℤ (a *ℤ b)
  negative_times a b =
      let sum = spread_right (neg_ℤ a) a b in
      let none : neg_ℤ a +ℤ a ≡ pos 0 = omega (arith, ints) in
      let gone : (neg_ℤ a +ℤ a) *ℤ b ≡ pos 0 = ap (λ y. y *ℤ b) none ∙ zero-*ℤ b in
      omega (arith, ints, sum, gone)

  pub total_taken_away : (y : Summands) → total (taken_away y) ≡ neg_ℤ (total y)
  total_taken_away [] = omega (arith, ints)
  total_taken_away (s ∷ y) = let rest = total_taken_away y in let here = negative_times s.0 (whole s.1) in omega (arith, ints, rest, here)

  -- ---- sums and differences that are none of words alone

  sum_whole : (a b : TermTree) → IsTrueUnder env (over_two op.Fits a b) → whole (over_two op.Plus a b) ≡ whole a +ℤ whole b
  sum_whole a b e =
      let fits : count a + count b < words = less (count a + count b) words (sym (value_over env op.Fits a b) ∙ e) in
      let value : count (over_two op.Plus a b) ≡ (count a + count b) % words = ap word_of (value_over env op.Plus a b) in
      let small : (count a + count b) % words ≡ count a + count b = grind arith in
      omega (arith, ints, value, small)

  difference_whole : (a b : TermTree) → count a < words → IsTrueUnder env (over_two op.AtMost b a) → whole (over_two op.Minus a b) ≡ whole a +ℤ neg_ℤ (whole b)
  difference_whole a b lt e =
      let low : count b ≤ count a = at_most (count b) (count a) (sym (value_over env op.AtMost b a) ∙ e) in
      let value : count (over_two op.Minus a b) ≡ (count a + words - count b) % words = ap word_of (value_over env op.Minus a b) in
      let small : (count a + words - count b) % words ≡ count a - count b = omega (arith, low, lt) in
      omega (arith, ints, value, small, low)

  -- ---- terms as sums

  module _ (valuation : IsValuation env) (facts : List TermTree) (true_facts : All (IsTrueUnder env) facts) (sums : List TermTree) where
    abbrev pub AreSums : List TermTree → Type 0
    AreSums ts = All (λ t. (is_sum facts t ≡ true) × IsTerm t) ts

    listed : (ts : List TermTree) (t : TermTree) → AreSums ts → contains ts t ≡ true → (is_sum facts t ≡ true) × IsTerm t
    listed [] t all e = absurd cc
    listed (u ∷ ts) t all e = elim (either (tree_eq u t) (contains ts t) e) [
      | inl here ↦ subst (λ v. (is_sum facts v ≡ true) × IsTerm v) (same_tree u t here) (All-head (λ v. (is_sum facts v ≡ true) × IsTerm v) u ts all)
      | inr later ↦ listed ts t (All-tail (λ v. (is_sum facts v ≡ true) × IsTerm v) u ts all) later
    ]

    abbrev IsTotal : TermTree → Type 0
    IsTotal t = total (summands sums t) ≡ whole t

    abbrev made : TermTree → List Summands → Summands
    made t parts = cond (contains sums t) (of_both (root_of t) parts) ((pos 1, t) ∷ [])

    summands_variable : (n : List ℕ) (s : Sort) → summands sums (tree.Variable n s) ≡ made (tree.Variable n s) []
    unfolding summands
    summands_variable n s = folded_variable made n s

    summands_apply : (o : Operator) (ts : List TermTree) → summands sums (tree.Apply o ts) ≡ made (tree.Apply o ts) (map (summands sums) ts)
    unfolding summands
    summands_apply o ts = folded_apply made o ts

    itself : (t : TermTree) → total ((pos 1, t) ∷ []) ≡ whole t
    itself t = let one : pos 1 *ℤ whole t ≡ whole t = omega (arith, ints) in omega (arith, ints, one)

    -- the parts of a sum or difference, and its value
    pub record Splits (t : TermTree) : Type 0 where
      pub operator : Operator
      pub first : TermTree
      pub second : TermTree
      pub is : t ≡ over_two operator first second
      pub value : (x y : Summands) → total x ≡ whole first → total y ≡ whole second → total (of_both (head.Apply operator) (x ∷ y ∷ [])) ≡ whole t

    in_range : (a : TermTree) → IsTerm a → count a < words
    in_range a is = let s = sort_there (sort_of a) is.0 in below (value_under env a) (values_in_range env a s.0 valuation s.1 is.1)

    splits : (t : TermTree) → is_sum facts t ≡ true → IsTerm t → Splits t
    splits t e term = elim (either _ _ e) [ inl plus ↦ added plus | inr minus ↦ less_by minus ]
      where
        added : and_pass (parts_under op.Plus t) (λ a b. is_known facts (over_two op.Fits a b)) ≡ true → Splits t
        added f =
            let p = passes (parts_under op.Plus t) (λ a b. is_known facts (over_two op.Fits a b)) f in
            let is = is_over op.Plus t p.0 p.1 in
            let value = sum_whole p.0.0 p.0.1 (known_true env facts (over_two op.Fits p.0.0 p.0.1) true_facts p.2) in
            record {
              operator = op.Plus;
              first = p.0.0;
              second = p.0.1;
              is = is;
              value = λ x y g h. total_of_both x y ∙ ap (λ z. z +ℤ total y) g ∙ ap (λ z. whole p.0.0 +ℤ z) h ∙ sym value ∙ ap whole (sym is);
            }

        less_by : and_pass (parts_under op.Minus t) (λ a b. is_known facts (over_two op.AtMost b a)) ≡ true → Splits t
        less_by f =
            let p = passes (parts_under op.Minus t) (λ a b. is_known facts (over_two op.AtMost b a)) f in
            let is = is_over op.Minus t p.0 p.1 in
            let part = first_term op.Minus p.0.0 p.0.1 (subst IsTerm is term) in
            let value = difference_whole p.0.0 p.0.1 (in_range p.0.0 part) (known_true env facts (over_two op.AtMost p.0.1 p.0.0) true_facts p.2) in
            record {
              operator = op.Minus;
              first = p.0.0;
              second = p.0.1;
              is = is;
              value = λ x y g h.
                  total_of_both x (taken_away y) ∙ ap (λ z. z +ℤ total (taken_away y)) g ∙ ap (λ z. whole p.0.0 +ℤ z) (total_taken_away y ∙ ap neg_ℤ h) ∙ sym value ∙ ap whole (sym is);
            }

    -- of a listed term that is over these trees
    of_parts : (o : Operator) (es : Each IsTotal) → Splits (tree.Apply o (trees es)) → total (of_both (head.Apply o) (map (summands sums) (trees es))) ≡ whole (tree.Apply o (trees es))
    of_parts o es s = by_shape es (same_root (head.Apply o) (head.Apply s.operator) (trees es) (s.first ∷ s.second ∷ []) s.is) (same_parts o s.operator (trees es) (s.first ∷ s.second ∷ []) s.is)
      where
        by_shape : (ds : Each IsTotal) → head.Apply o ≡ head.Apply s.operator → trees ds ≡ s.first ∷ s.second ∷ [] → total (of_both (head.Apply o) (map (summands sums) (trees ds))) ≡ whole (tree.Apply o (trees es))
        by_shape [] f g = absurd cc
        by_shape (d ∷ []) f g = absurd cc
        by_shape (d ∷ e ∷ []) f g =
            let first : d.0 ≡ s.first = cc in
            let second : e.0 ≡ s.second = cc in
            ap (λ h. total (of_both h (summands sums d.0 ∷ summands sums e.0 ∷ []))) f
            ∙ s.value (summands sums d.0) (summands sums e.0) (d.1 ∙ ap whole first) (e.1 ∙ ap whole second)
        by_shape (d ∷ e ∷ c ∷ ds) f g = absurd cc

    module _ (are_sums : AreSums sums) where
      of_variable : (n : List ℕ) (s : Sort) → IsTotal (tree.Variable n s)
      of_variable n s = ap total (summands_variable n s) ∙ by_test (contains sums (tree.Variable n s)) refl
        where
          by_test : (b : Bool) → contains sums (tree.Variable n s) ≡ b → total (cond b (of_both (root_of (tree.Variable n s)) []) ((pos 1, tree.Variable n s) ∷ [])) ≡ whole (tree.Variable n s)
          by_test true e =
              let is = listed sums (tree.Variable n s) are_sums e in
              let split = splits (tree.Variable n s) is.0 is.1 in
              let no = same_root (head.Variable n s) (head.Apply split.operator) [] (split.first ∷ split.second ∷ []) split.is in
              absurd cc
          by_test false e = itself (tree.Variable n s)

      of_apply : (o : Operator) (es : Each IsTotal) → IsTotal (tree.Apply o (trees es))
      of_apply o es = ap total (summands_apply o (trees es)) ∙ by_test (contains sums (tree.Apply o (trees es))) refl
        where
          by_test : (b : Bool) → contains sums (tree.Apply o (trees es)) ≡ b → total (cond b (of_both (root_of (tree.Apply o (trees es))) (map (summands sums) (trees es))) ((pos 1, tree.Apply o (trees es)) ∷ [])) ≡ whole (tree.Apply o (trees es))
          by_test true e =
              let is = listed sums (tree.Apply o (trees es)) are_sums e in
              ap (λ h. total (of_both h (map (summands sums) (trees es)))) (root_apply o (trees es)) ∙ of_parts o es (splits (tree.Apply o (trees es)) is.0 is.1)
          by_test false e = itself (tree.Apply o (trees es))

      -- the value of each term is the sum of its summands
      pub total_is : (t : TermTree) → IsTotal t
      total_is = by_induction IsTotal of_variable of_apply
