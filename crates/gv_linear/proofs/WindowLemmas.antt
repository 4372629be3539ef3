-- Sums of several columns, one row after another.
use Rattle.std.proofs.Common.{rules, ◌≡◌, ℕ, zero, suc, ◌+◌, ◌-◌, ◌<◌, ◌≤◌, Bool, true, false, List, [], ◌∷◌, length, get_or, set, take, Some, refl, sym, ap, subst, ◌∙◌, inl, inr, arith}
use Rattle.std.proofs.Math.IntN.{ℤ, pos, ◌+ℤ◌, ◌*ℤ◌, *ℤ-zero}
use Rattle.std.proofs.lemmas.Int.{ints, to_z-of_z}
use Rattle.std.proofs.Common.{to_z, of_z}
use Rattle.std.proofs.lemmas.Bool.{cases_lt}
use Rattle.std.proofs.lemmas.List.{get_or-set_same, get_or-set_other, take_all}
use Rattle.std.specs.Prelude.{◌≢◌, All, MatchBool, FitsSigned, IsTrue}
use Rattle.std.specs.Bool.{IsFalse}
use Rattle.std.specs.Int.{w128}
use Rattle.gv_linear.specs.declared.row.Row.{Row}
use Rattle.gv_linear.specs.Row.{coefficient, entry, IsInOrder}
use Rattle.gv_linear.specs.Columns.{products, total, IsWide, IsNarrow, IsAdded, IsSumOf, AreColumnsTo, AreSummed}
use Rattle.gv_linear.specs.Answer.{IsSummedTo}
use Rattle.gv_linear.proofs.ColumnLemmas.{length-products, product_at, total_more, narrow_more}
use Rattle.gv_linear.proofs.CheckLemmas.{nothing_in, total_of_zeros, zeros_narrow}

-- ---- one sum after another

module _ (old sums : List ℤ) (k : ℕ) (ps : ℕ → ℤ) (more : ℤ) (within : k < length sums)
    (left : (j : ℕ) → k ≤ j → get_or sums j (pos 0) ≡ get_or old j (pos 0)) where
  pub left_more : (j : ℕ) → k + 1 ≤ j → get_or (set sums k more) j (pos 0) ≡ get_or old j (pos 0)
  left_more j l = get_or-set_other sums k j more (pos 0) (λ e. omega arith) ∙ left j (omega arith)

  pub added_more : ((j : ℕ) → j < k → IsAdded (get_or old j (pos 0)) (ps j) (Some (get_or sums j (pos 0))))
      → IsAdded (get_or sums k (pos 0)) (ps k) (Some more)
      → (j : ℕ) → j < k + 1 → IsAdded (get_or old j (pos 0)) (ps j) (Some (get_or (set sums k more) j (pos 0)))
  added_more before now j l = elim (cases_lt j k) [
    | inl low ↦ subst (λ (z : ℤ). IsAdded (get_or old j (pos 0)) (ps j) (Some z)) (sym (get_or-set_other sums k j more (pos 0) (λ e. omega arith))) (before j low)
    | inr high ↦ here j (omega arith)
  ]
    where
      at : IsAdded (get_or old k (pos 0)) (ps k) (Some (get_or (set sums k more) k (pos 0)))
      at =
          let there = subst (λ (z : ℤ). IsAdded z (ps k) (Some more)) (left k (omega arith)) now in
          subst (λ (z : ℤ). IsAdded (get_or old k (pos 0)) (ps k) (Some z)) (sym (get_or-set_same sums k more (pos 0) within)) there

      here : (j : ℕ) → j ≡ k → IsAdded (get_or old j (pos 0)) (ps j) (Some (get_or (set sums k more) j (pos 0)))
      here j e = subst (λ (n : ℕ). IsAdded (get_or old n (pos 0)) (ps n) (Some (get_or (set sums k more) n (pos 0)))) (sym e) at

-- numbers as the program holds them
pub told_added : (sum f e g more : ℤ) → FitsSigned w128 sum → FitsSigned w128 e → e ≡ g
    → IsAdded (to_z w128 (of_z w128 sum)) (f *ℤ to_z w128 (of_z w128 e)) (Some more) → IsAdded sum (f *ℤ g) (Some (to_z w128 (of_z w128 more)))
told_added sum f e g more sum_fits e_fits same h =
    let here = subst (λ (z : ℤ). IsAdded z (f *ℤ to_z w128 (of_z w128 e)) (Some more)) (to_z-of_z w128 sum sum_fits) h in
    let there = subst (λ (z : ℤ). IsAdded sum (f *ℤ z) (Some more)) (to_z-of_z w128 e e_fits ∙ same) here in
    let more_fits : FitsSigned w128 more = subst (λ (z : ℤ). FitsSigned w128 z) (sym there.2) there.1 in
    subst (λ (z : ℤ). IsAdded sum (f *ℤ g) (Some z)) (sym (to_z-of_z w128 more more_fits)) there

-- ---- one row after another

pub no_row : (ps : List ℤ) (sum : ℤ) → sum ≡ pos 0 → IsSumOf ps 0 sum
no_row ps sum e = record { sum_is = e; fits = subst (λ (z : ℤ). FitsSigned w128 z) (sym e) (search rules); narrow = λ r l. absurd (omega arith) }

module _ (rows : List Row) (factors : List ℤ) (lengths : length rows ≡ length factors) (unknowns from i : ℕ) (row : Row)
    (below : i < length rows) (is : row ≡ get_or rows i row) (sums new : List ℤ)
    (before : AreColumnsTo rows factors unknowns from i sums) (same : length new ≡ length sums) where
  pub row_more : ((k : ℕ) → k < length sums → IsAdded (get_or sums k (pos 0)) (get_or factors i (pos 0) *ℤ entry unknowns (from + k) row) (Some (get_or new k (pos 0))))
      → AreColumnsTo rows factors unknowns from (i + 1) new
  row_more added k l =
      let ps = products rows factors unknowns (from + k) in
      let short : k < length sums = omega arith in
      let was = before k short in
      let now = added k short in
      let within : i < length ps = omega (arith, length-products rows factors lengths unknowns (from + k)) in
      let at = product_at rows factors lengths unknowns (from + k) i row below is in
      record {
        sum_is = total_more ps i (get_or sums k (pos 0)) _ within at was.sum_is (get_or new k (pos 0)) now.2;
        fits = subst (λ (z : ℤ). FitsSigned w128 z) (sym now.2) now.1;
        narrow = narrow_more ps i (get_or sums k (pos 0)) _ within at was.sum_is was.narrow now.0 now.1;
      }

-- a product of 0 leaves a sum
zero_added : (sum factor e : ℤ) → FitsSigned w128 sum → e ≡ pos 0 → IsAdded sum (factor *ℤ e) (Some sum)
zero_added sum factor e fits is =
    let p : factor *ℤ e ≡ pos 0 = ap (λ y. factor *ℤ y) is ∙ *ℤ-zero factor in
    let s : sum +ℤ (factor *ℤ e) ≡ sum = omega (arith, ints, p) in
    (subst (λ (z : ℤ). FitsSigned w128 z) (sym p) (search rules), subst (λ (z : ℤ). FitsSigned w128 z) (sym s) fits, sym s)

-- the entry of a column of an unknown
entry_of : (unknowns c : ℕ) (row : Row) → c < unknowns → coefficient c row.items ≡ pos 0 → entry unknowns c row ≡ pos 0
entry_of unknowns c row l h = grind (arith, h)

-- a row without an item in these columns changes no sum
pub row_passed : (rows : List Row) (factors : List ℤ) (lengths : length rows ≡ length factors) (unknowns from i : ℕ) (row : Row)
    → i < length rows → row ≡ get_or rows i row → (sums : List ℤ) → from + length sums ≤ unknowns
    → AreColumnsTo rows factors unknowns from i sums
    → ((c : ℕ) → from ≤ c → c < from + length sums → coefficient c row.items ≡ pos 0)
    → AreColumnsTo rows factors unknowns from (i + 1) sums
row_passed rows factors lengths unknowns from i row below is sums within before none =
    row_more rows factors lengths unknowns from i row below is sums sums before refl
    (λ k l. zero_added (get_or sums k (pos 0)) (get_or factors i (pos 0)) (entry unknowns (from + k) row) (before k l).fits
    (entry_of unknowns (from + k) row (omega arith) (none (from + k) (omega arith) (omega arith))))

-- ---- all rows

pub columns_narrow : (rows : List Row) (factors : List ℤ) (lengths : length rows ≡ length factors) (unknowns from : ℕ) (sums : List ℤ)
    → AreColumnsTo rows factors unknowns from (length rows) sums
    → (k : ℕ) → k < length sums → IsNarrow (products rows factors unknowns (from + k)) × (get_or sums k (pos 0) ≡ total (products rows factors unknowns (from + k)))
columns_narrow rows factors lengths unknowns from sums h k l =
    let ps = products rows factors unknowns (from + k) in
    let long = length-products rows factors lengths unknowns (from + k) in
    let told = h k l in
    (λ r wide. told.narrow r (omega (arith, long, wide.0)) wide, told.sum_is ∙ ap total (take_all (length rows) ps (omega (arith, long))))

module _ (rows : List Row) (factors : List ℤ) (lengths : length rows ≡ length factors) (unknowns from width : ℕ) (sums : List ℤ)
    (long : length sums ≡ width) (h : AreColumnsTo rows factors unknowns from (length rows) sums) where
  column_at : (c : ℕ) → from ≤ c → c < from + width → IsNarrow (products rows factors unknowns c) × ((k : ℕ) × (k < length sums) × (get_or sums k (pos 0) ≡ total (products rows factors unknowns c)))
  column_at c low high =
      let k : ℕ = c - from in
      let short : k < length sums = omega arith in
      let at : from + k ≡ c = omega arith in
      let told = columns_narrow rows factors lengths unknowns from sums h k short in
      (subst (λ (n : ℕ). IsNarrow (products rows factors unknowns n)) at told.0, (k, short, told.1 ∙ ap (λ n. total (products rows factors unknowns n)) at))

  pub all_zero : All (λ z. z ≡ pos 0) sums → AreSummed rows factors unknowns from width true
  all_zero zeros = record {
    narrow = λ c low high. (column_at c low high).0;
    zeros = λ c low high. let at = (column_at c low high).1 in sym at.2 ∙ zeros at.0 (pos 0) at.1;
  }

  pub some_other : (k : ℕ) → k < length sums → (get_or sums k (pos 0) ≡ pos 0 → ⊥) → AreSummed rows factors unknowns from width false
  some_other k l other = record {
    narrow = λ c low high. (column_at c low high).0;
    zeros = λ all. other ((columns_narrow rows factors lengths unknowns from sums h k l).1 ∙ all (from + k) (omega arith) (omega arith));
  }

-- ---- from one window of columns to the next

-- columns in which no row has anything, behind those that are summed
module _ (rows : List Row) (factors : List ℤ) (unknowns column width next : ℕ) (zero : Bool)
    (low : column + width ≤ next) (high : next ≤ unknowns)
    (between : (c : ℕ) → column + width ≤ c → c < next → All (λ row. coefficient c row.items ≡ pos 0) rows)
    (zeros : Bool) (told : AreSummed rows factors unknowns column width zeros) where
  narrow_on : ((c : ℕ) → c < column → IsNarrow (products rows factors unknowns c)) → (c : ℕ) → c < next → IsNarrow (products rows factors unknowns c)
  narrow_on before c l = elim (cases_lt c column) [
    | inl lower ↦ before c lower
    | inr upper ↦ elim (cases_lt c (column + width)) [
      | inl inside ↦ told.narrow c (omega arith) inside
      | inr above ↦ zeros_narrow (products rows factors unknowns c) (nothing_in rows factors unknowns c (omega arith) (between c (omega arith) l))
    ]
  ]

  zeros_on : ((c : ℕ) → c < column → total (products rows factors unknowns c) ≡ pos 0) → ((c : ℕ) → column ≤ c → c < column + width → total (products rows factors unknowns c) ≡ pos 0)
      → (c : ℕ) → c < next → total (products rows factors unknowns c) ≡ pos 0
  zeros_on before now c l = elim (cases_lt c column) [
    | inl lower ↦ before c lower
    | inr upper ↦ elim (cases_lt c (column + width)) [
      | inl inside ↦ now c (omega arith) inside
      | inr above ↦ total_of_zeros (products rows factors unknowns c) (nothing_in rows factors unknowns c (omega arith) (between c (omega arith) l))
    ]
  ]

-- all sums were 0, and those of the window say whether they still are
pub window_zero : (rows : List Row) (factors : List ℤ) (unknowns column width next : ℕ) (zeros : Bool) → column + width ≤ next → next ≤ unknowns
    → ((c : ℕ) → column + width ≤ c → c < next → All (λ row. coefficient c row.items ≡ pos 0) rows)
    → AreSummed rows factors unknowns column width zeros → IsSummedTo rows factors unknowns column true → IsSummedTo rows factors unknowns next zeros
window_zero rows factors unknowns column width next true low high between told before = record {
  within = high;
  narrow = narrow_on rows factors unknowns column width next true low high between true told before.narrow;
  zeros = zeros_on rows factors unknowns column width next true low high between true told before.zeros told.zeros;
}
window_zero rows factors unknowns column width next false low high between told before = record {
  within = high;
  narrow = narrow_on rows factors unknowns column width next true low high between false told before.narrow;
  zeros = λ all. told.zeros (λ c l h. all c (omega arith));
}

-- an earlier sum wasn't 0
pub window_other : (rows : List Row) (factors : List ℤ) (unknowns column width next : ℕ) (zeros : Bool) → column + width ≤ next → next ≤ unknowns
    → ((c : ℕ) → column + width ≤ c → c < next → All (λ row. coefficient c row.items ≡ pos 0) rows)
    → AreSummed rows factors unknowns column width zeros → IsSummedTo rows factors unknowns column false → IsSummedTo rows factors unknowns next false
window_other rows factors unknowns column width next zeros low high between told before = record {
  within = high;
  narrow = narrow_on rows factors unknowns column width next false low high between zeros told before.narrow;
  zeros = before.zeros;
}

pub window_summed : (rows : List Row) (factors : List ℤ) (lengths : length rows ≡ length factors) (unknowns from width : ℕ) (sums : List ℤ) → length sums ≡ width
    → AreColumnsTo rows factors unknowns from (length rows) sums
    → (zero : Bool) → (IsTrue zero → All (λ z. z ≡ pos 0) sums) → (IsFalse zero → (k : ℕ) × (k < length sums) × (get_or sums k (pos 0) ≢ pos 0))
    → AreSummed rows factors unknowns from width zero
window_summed rows factors lengths unknowns from width sums long h true all some = all_zero rows factors lengths unknowns from width sums long h (all refl)
window_summed rows factors lengths unknowns from width sums long h false all some = let other = some refl in some_other rows factors lengths unknowns from width sums long h other.0 other.1 other.2
