-- What a row and its factor are in the lists that the definitions speak of.
use Rattle.std.proofs.Common.{◌≡◌, ℕ, ◌+◌, ◌<◌, true, false, List, length, get_or, take, sym, ap, subst, ◌∙◌, ◌⊎◌, inl, inr, arith}
use Rattle.std.proofs.Math.IntN.{ℤ, pos, ◌+ℤ◌, ◌*ℤ◌}
use Rattle.std.proofs.lemmas.Int.{ints, to_z-of_z}
use Rattle.std.proofs.lemmas.Bool.{cases_lt}
use Rattle.std.proofs.lemmas.List.{get_or_default, get_or-map, length-map}
use Rattle.std.proofs.lemmas.List.Sums.{fold_more}
use Rattle.std.proofs.lemmas.Slice.Zip.{length-zip, get_or-zip}
use Rattle.std.specs.Prelude.{All, FitsSigned, ◌<ℤ◌}
use Rattle.std.proofs.Common.{to_z, of_z}
use Rattle.std.specs.Int.Signed.{lt_z}
use Rattle.std.specs.Int.{w128}
use Rattle.std.specs.List.{zip}
use Rattle.gv_linear.specs.declared.row.Row.{Row}
use Rattle.gv_linear.specs.Row.{entry, IsInOrder}
use Rattle.gv_linear.specs.Columns.{products, total, IsWide, IsFirstWideIn}
use Rattle.gv_linear.specs.Answer.{IsNegative, IsNegativeAt}

pub row_in_order : (unknowns : ℕ) (rows : List Row) (i : ℕ) (row : Row) → All (IsInOrder unknowns) rows → i < length rows → row ≡ get_or rows i row → IsInOrder unknowns row
row_in_order unknowns rows i row h l e = subst (λ (r : Row). IsInOrder unknowns r) (sym e) (h i row l)

module _ (rows : List Row) (factors : List ℤ) (lengths : length rows ≡ length factors) where
  pair_at : (i : ℕ) (row : Row) (d : Row × ℤ) → i < length rows → row ≡ get_or rows i row → get_or (zip rows factors) i d ≡ (row, get_or factors i (pos 0))
  pair_at i row d l e =
      let pair : get_or (zip rows factors) i d ≡ (get_or rows i d.0, get_or factors i d.1) = get_or-zip rows factors i d l (omega arith) in
      let first : get_or rows i d.0 ≡ row = get_or_default rows i d.0 row l ∙ sym e in
      let second : get_or factors i d.1 ≡ get_or factors i (pos 0) = get_or_default factors i d.1 (pos 0) (omega arith) in
      pair ∙ ap (λ (r : Row). (r, get_or factors i d.1)) first ∙ ap (λ (f : ℤ). (row, f)) second

  pub length-products : (unknowns column : ℕ) → length (products rows factors unknowns column) ≡ length rows
  length-products unknowns column = length-map (zip rows factors) (λ (p : Row × ℤ). p.1 *ℤ entry unknowns column p.0) ∙ length-zip rows factors ∙ omega arith

  pub product_at : (unknowns column i : ℕ) (row : Row) → i < length rows → row ≡ get_or rows i row → get_or (products rows factors unknowns column) i (pos 0) ≡ get_or factors i (pos 0) *ℤ entry unknowns column row
  product_at unknowns column i row l e =
      let f : Row × ℤ → ℤ = λ p. p.1 *ℤ entry unknowns column p.0 in
      let d : Row × ℤ = (row, pos 0) in
      let short : i < length (zip rows factors) = omega (arith, length-zip rows factors, lengths) in
      get_or-map f (zip rows factors) i d (pos 0) short ∙ ap f (pair_at i row d l e)

  pub negative_at : (i : ℕ) (row : Row) → i < length rows → row ≡ get_or rows i row → row.same ≡ false → get_or factors i (pos 0) <ℤ pos 0 → IsNegativeAt rows factors i
  negative_at i row l e same below = (l, λ d. subst (λ (p : Row × ℤ). IsNegative p) (sym (pair_at i row d l e)) (same, below))

  pub not_negative_at : (i : ℕ) (row : Row) → i < length rows → row ≡ get_or rows i row → (row.same ≡ false → get_or factors i (pos 0) <ℤ pos 0 → ⊥) → IsNegativeAt rows factors i → ⊥
  not_negative_at i row l e other negative =
      let d : Row × ℤ = (row, pos 0) in
      let here : IsNegative (row, get_or factors i (pos 0)) = subst (λ (p : Row × ℤ). IsNegative p) (pair_at i row d l e) (negative.1 d) in
      other here.0 here.1

-- ---- a column, product by product

module _ (ps : List ℤ) (i : ℕ) (sum product : ℤ) (within : i < length ps) (at : get_or ps i (pos 0) ≡ product) (so_far : sum ≡ total (take i ps)) where
  next_total : total (take (i + 1) ps) ≡ sum +ℤ product
  next_total = fold_more ◌+ℤ◌ (pos 0) ps i (pos 0) within ∙ ap (λ y. y +ℤ get_or ps i (pos 0)) (sym so_far) ∙ ap (λ y. sum +ℤ y) at

  pub total_more : (more : ℤ) → more ≡ sum +ℤ product → more ≡ total (take (i + 1) ps)
  total_more more e = e ∙ sym next_total

  pub narrow_more : ((r : ℕ) → r < i → IsWide ps r → ⊥) → FitsSigned w128 product → FitsSigned w128 (sum +ℤ product) → (r : ℕ) → r < i + 1 → IsWide ps r → ⊥
  narrow_more before fits sum_fits r l wide = elim (cases_lt r i) [ inl low ↦ before r low wide | inr high ↦ here (omega arith) ]
    where
      now : IsWide ps i → ⊥
      now w = elim w.1 [ inl p ↦ p (subst (λ y. FitsSigned w128 y) (sym at) fits) | inr s ↦ s (subst (λ y. FitsSigned w128 y) (sym next_total) sum_fits) ]

      here : r ≡ i → ⊥
      here e = now (subst (λ (n : ℕ). IsWide ps n) e wide)

  pub wide_here : ((r : ℕ) → r < i → IsWide ps r → ⊥) → (¬ FitsSigned w128 product ⊎ ¬ FitsSigned w128 (sum +ℤ product)) → IsFirstWideIn ps i
  wide_here before outside = record {
    wide = (within, elim outside [ inl p ↦ inl (λ fits. p (subst (λ y. FitsSigned w128 y) at fits)) | inr s ↦ inr (λ fits. s (subst (λ y. FitsSigned w128 y) next_total fits)) ]);
    first = before;
  }

-- ---- numbers as the program holds them

pub below_from_test : (z : ℤ) → FitsSigned w128 z → lt_z (to_z w128 (of_z w128 z)) (pos 0) ≡ true → z <ℤ pos 0
below_from_test z fits h = grind (arith, ints, to_z-of_z w128 z fits)

pub not_below_from_test : (z : ℤ) → FitsSigned w128 z → lt_z (to_z w128 (of_z w128 z)) (pos 0) ≡ false → z <ℤ pos 0 → ⊥
not_below_from_test z fits h below = grind (arith, ints, to_z-of_z w128 z fits)

pub same_product : (f e g : ℤ) → FitsSigned w128 f → FitsSigned w128 e → e ≡ g → f *ℤ g ≡ to_z w128 (of_z w128 f) *ℤ to_z w128 (of_z w128 e)
same_product f e g f_fits e_fits same = let first = to_z-of_z w128 f f_fits in let second = to_z-of_z w128 e e_fits in cc
