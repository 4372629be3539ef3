-- Rows that say what others say have the same answer.
use Rattle.std.proofs.Common.{◌≡◌, ℕ, zero, suc, ◌+◌, ◌<◌, ◌≤◌, List, [], ◌∷◌, ◌++◌, map, length, take, get_or, Bool, true, false, ◌==◌, if◌then◌else◌, refl, sym, ap, subst, ◌∙◌, arith}
use Rattle.std.proofs.Math.IntN.{ℤ, pos, ◌*ℤ◌}
use Rattle.std.specs.Prelude.{◌<ℤ◌}
use Rattle.std.proofs.lemmas.List.{take_more, map-append}
use Rattle.std.proofs.lemmas.List.Elements.{All-nil, All-cons}
use Rattle.std.specs.List.{All, zip}
use Rattle.gv_linear.specs.declared.row.Row.{Row}
use Rattle.gv_linear.specs.declared.answer.Linear.{Linear}
use Rattle.gv_linear.specs.declared.answer.Linear.TheVariants.{Yes, Negative, Wide, NotContradiction}
use Rattle.gv_linear.specs.Row.{coefficient, entry, IsInOrder}
use Rattle.gv_linear.specs.Columns.{products, total, IsNarrow, IsFirstWideIn}
use Rattle.gv_linear.specs.Answer.{IsNegative, IsNegativeAt, IsContradiction, IsSummed, IsAnswer}
use Rattle.gv_terms.specs.declared.tree.TermTree.{TermTree}
use Rattle.gv_certs.specs.Sums.{row_of}
use Rattle.gv_sums.specs.declared.comparison.Compared.{Compared}
use Rattle.gv_sums.specs.Reading.{comparison_at, comparisons_at, IsLike, AreLike}

-- ---- one more

pub one_more_like : (n : ℕ) (rs ss : List Row) (r s : Row) → AreLike n rs ss → IsLike n r s → AreLike n (rs ++ r ∷ []) (ss ++ s ∷ [])
one_more_like n [] [] r s like one = (one, tt)
one_more_like n [] (t ∷ ss) r s like one = absurd like
one_more_like n (t ∷ rs) [] r s like one = absurd like
one_more_like n (t ∷ rs) (u ∷ ss) r s like one = (like.0, one_more_like n rs ss r s like.1 one)

pub rows_in_order : (n : ℕ) (rs ss : List Row) → AreLike n rs ss → All (IsInOrder n) rs
rows_in_order n [] ss like = All-nil (IsInOrder n)
rows_in_order n (r ∷ rs) [] like = absurd like
rows_in_order n (r ∷ rs) (s ∷ ss) like = All-cons (IsInOrder n) r rs like.0.order (rows_in_order n rs ss like.1)

-- ---- columns

entry_like : (n c : ℕ) (r s : Row) → c ≤ n → IsLike n r s → entry n c r ≡ entry n c s
entry_like n c r s le like = by_test (c == n) refl
  where
    by_test : (b : Bool) → (c == n) ≡ b → entry n c r ≡ entry n c s
    by_test true e = ap (λ t. if t then r.constant else coefficient c r.items) e ∙ like.constant ∙ sym (ap (λ t. if t then s.constant else coefficient c s.items) e)
    by_test false e =
        let lt : c < n = grind (arith, e, le) in
        ap (λ t. if t then r.constant else coefficient c r.items) e ∙ like.coefficients c lt ∙ sym (ap (λ t. if t then s.constant else coefficient c s.items) e)

products_like : (n c : ℕ) (rs ss : List Row) (fs : List ℤ) → c ≤ n → AreLike n rs ss → products rs fs n c ≡ products ss fs n c
products_like n c [] [] fs le like = refl
products_like n c [] (s ∷ ss) fs le like = absurd like
products_like n c (r ∷ rs) [] fs le like = absurd like
products_like n c (r ∷ rs) (s ∷ ss) [] le like = refl
products_like n c (r ∷ rs) (s ∷ ss) (f ∷ fs) le like =
    ap (λ z. (f *ℤ z) ∷ products rs fs n c) (entry_like n c r s le like.0) ∙ ap (λ zs. (f *ℤ entry n c s) ∷ zs) (products_like n c rs ss fs le like.1)

-- ---- factors

abbrev NegativeIn : List Row → List ℤ → ℕ → Type 0
NegativeIn rs fs k = (d : Row × ℤ) → IsNegative (get_or (zip rs fs) k d)

pub length_like : (n : ℕ) (rs ss : List Row) → AreLike n rs ss → length rs ≡ length ss
length_like n [] [] like = refl
length_like n [] (s ∷ ss) like = absurd like
length_like n (r ∷ rs) [] like = absurd like
length_like n (r ∷ rs) (s ∷ ss) like = ap suc (length_like n rs ss like.1)

negative_in : (n : ℕ) (rs ss : List Row) (fs : List ℤ) (k : ℕ) → AreLike n rs ss → k < length rs → NegativeIn rs fs k → NegativeIn ss fs k
negative_in n [] ss fs k like lt h = absurd (omega (arith, lt))
negative_in n (r ∷ rs) [] fs k like lt h = absurd like
negative_in n (r ∷ rs) (s ∷ ss) [] k like lt h = h
negative_in n (r ∷ rs) (s ∷ ss) (f ∷ fs) zero like lt h = λ d. (sym like.0.same ∙ (h d).0, (h d).1)
negative_in n (r ∷ rs) (s ∷ ss) (f ∷ fs) (suc k) like lt h = negative_in n rs ss fs k like.1 (omega (arith, lt)) h

negative_back : (n : ℕ) (rs ss : List Row) (fs : List ℤ) (k : ℕ) → AreLike n rs ss → k < length rs → NegativeIn ss fs k → NegativeIn rs fs k
negative_back n [] ss fs k like lt h = absurd (omega (arith, lt))
negative_back n (r ∷ rs) [] fs k like lt h = absurd like
negative_back n (r ∷ rs) (s ∷ ss) [] k like lt h = h
negative_back n (r ∷ rs) (s ∷ ss) (f ∷ fs) zero like lt h = λ d. (like.0.same ∙ (h d).0, (h d).1)
negative_back n (r ∷ rs) (s ∷ ss) (f ∷ fs) (suc k) like lt h = negative_back n rs ss fs k like.1 (omega (arith, lt)) h

-- ---- the answer

module _ (n : ℕ) (rs ss : List Row) (fs : List ℤ) (like : AreLike n rs ss) where
  long : length rs ≡ length ss
  long = length_like n rs ss like

  to : (k : ℕ) → IsNegativeAt rs fs k → IsNegativeAt ss fs k
  to k h = (subst (λ m. k < m) long h.0, negative_in n rs ss fs k like h.0 h.1)

  back : (k : ℕ) → IsNegativeAt ss fs k → IsNegativeAt rs fs k
  back k h = let lt : k < length rs = subst (λ m. k < m) (sym long) h.0 in (lt, negative_back n rs ss fs k like lt h.1)

  same : (c : ℕ) → c ≤ n → products rs fs n c ≡ products ss fs n c
  same c le = products_like n c rs ss fs le like

  narrow : (c : ℕ) → c ≤ n → IsNarrow (products rs fs n c) → IsNarrow (products ss fs n c)
  narrow c le h = subst IsNarrow (same c le) h

  summed : IsSummed rs fs n → IsSummed ss fs n
  summed h = record { signed = λ r k. h.signed r (back r k); narrow = λ c le. narrow c le (h.narrow c le) }

  contradiction : IsContradiction rs fs n → IsContradiction ss fs n
  contradiction h = record {
    zero = λ c lt. ap total (sym (same c (omega (arith, lt)))) ∙ h.zero c lt;
    below = subst (λ ps. total ps <ℤ pos 0) (same n (omega arith)) h.below;
  }

  no_contradiction : IsContradiction ss fs n → IsContradiction rs fs n
  no_contradiction h = record {
    zero = λ c lt. ap total (same c (omega (arith, lt))) ∙ h.zero c lt;
    below = subst (λ ps. total ps <ℤ pos 0) (sym (same n (omega arith))) h.below;
  }

  pub answer_like : (answer : Linear) → IsAnswer rs fs n answer → IsAnswer ss fs n answer
  answer_like Yes h = (summed h.0, contradiction h.1)
  answer_like (Negative row) h = record { negative = to row h.negative; first = λ r l k. h.first r l (back r k) }
  answer_like (Wide row column) h = (
    λ r k. h.0 r (back r k),
    record {
      within = h.1.within;
      wide = subst (λ ps. IsFirstWideIn ps row) (same column h.1.within) h.1.wide;
      first = λ c l. narrow c (omega (arith, l, h.1.within)) (h.1.first c l);
    },
  )
  answer_like NotContradiction h = (summed h.0, λ k. h.1 (no_contradiction k))

-- ---- the rows of comparisons

abbrev pub no_comparison : Compared
no_comparison = record { same = false; strict = false; low = record { id = 0 }; high = record { id = 0 } }

pub row_more : (n : ℕ) (st sums us : List TermTree) (cs : List Compared) (i : ℕ) (rows more : List Row) (r : Row) → i < length cs
    → AreLike n rows (map (row_of sums us) (comparisons_at st (take i cs))) → IsLike n r (row_of sums us (comparison_at st (get_or cs i no_comparison))) → more ≡ rows ++ r ∷ []
    → AreLike n more (map (row_of sums us) (comparisons_at st (take (i + 1) cs)))
row_more n st sums us cs i rows more r lt stand one e =
    let c = get_or cs i no_comparison in
    let front = comparisons_at st (take i cs) in
    let whole : map (row_of sums us) (comparisons_at st (take (i + 1) cs)) ≡ map (row_of sums us) front ++ row_of sums us (comparison_at st c) ∷ [] =
    ap (λ ds. map (row_of sums us) (comparisons_at st ds)) (take_more cs i no_comparison lt)
    ∙ ap (map (row_of sums us)) (map-append (comparison_at st) (take i cs) (c ∷ [])) ∙ map-append (row_of sums us) front (comparison_at st c ∷ []) in
    subst (AreLike n more) (sym whole) (subst (λ rs. AreLike n rs (map (row_of sums us) front ++ row_of sums us (comparison_at st c) ∷ [])) (sym e)
    (one_more_like n rows (map (row_of sums us) front) r (row_of sums us (comparison_at st c)) stand one))
