-- Columns that are summed, one after another.
use Rattle.std.proofs.Common.{rules, ◌≡◌, ℕ, zero, suc, ◌+◌, ◌<◌, ◌≤◌, Bool, true, false, List, [], ◌∷◌, get_or, take, refl, sym, ap, subst, ◌∙◌, inl, inr, arith}
use Rattle.std.proofs.Math.IntN.{ℤ, pos, ◌*ℤ◌, *ℤ-zero}
use Rattle.std.proofs.lemmas.Int.{ints}
use Rattle.std.proofs.lemmas.Bool.{cases_lt}
use Rattle.std.specs.Prelude.{All, MatchBool, FitsSigned}
use Rattle.std.proofs.Common.{of_z, eqb}
use Rattle.std.specs.Int.{w128}
use Rattle.gv_linear.specs.declared.row.Row.{Row}
use Rattle.gv_linear.specs.Row.{coefficient, entry}
use Rattle.gv_linear.specs.Columns.{products, total, IsNarrow}
use Rattle.gv_linear.specs.Answer.{IsSummedTo}
use Rattle.gv_linear.proofs.SoundLemmas.{total-cons}

-- a column in which no row has anything
pub nothing_in : (rows : List Row) (factors : List ℤ) (unknowns c : ℕ) → c < unknowns → All (λ row. coefficient c row.items ≡ pos 0) rows → All (λ z. z ≡ pos 0) (products rows factors unknowns c)
nothing_in [] factors unknowns c h none k d l = absurd (omega arith)
nothing_in (row ∷ rows) [] unknowns c h none k d l = absurd (omega arith)
nothing_in (row ∷ rows) (f ∷ factors) unknowns c h none zero d l =
    let here : coefficient c row.items ≡ pos 0 = none 0 row (omega arith) in
    let at : entry unknowns c row ≡ pos 0 = grind (arith, here) in
    ap (λ y. f *ℤ y) at ∙ *ℤ-zero f
nothing_in (row ∷ rows) (f ∷ factors) unknowns c h none (suc k) d l = nothing_in rows factors unknowns c h (λ k d l. none (suc k) d (omega arith)) k d (omega arith)

pub total_of_zeros : (ps : List ℤ) → All (λ z. z ≡ pos 0) ps → total ps ≡ pos 0
total_of_zeros [] h = refl
total_of_zeros (p ∷ ps) h =
    let head : p ≡ pos 0 = h 0 p (omega arith) in
    let tail = total_of_zeros ps (λ k d l. h (suc k) d (omega arith)) in
    let e = total-cons p ps in
    omega (arith, ints, e, head, tail)

zeros_in_front : (ps : List ℤ) (n : ℕ) → All (λ z. z ≡ pos 0) ps → All (λ z. z ≡ pos 0) (take n ps)
zeros_in_front ps zero h k d l = absurd (omega arith)
zeros_in_front [] (suc n) h k d l = absurd (omega arith)
zeros_in_front (p ∷ ps) (suc n) h zero d l = h 0 d (omega arith)
zeros_in_front (p ∷ ps) (suc n) h (suc k) d l = zeros_in_front ps n (λ k d l. h (suc k) d (omega arith)) k d (omega arith)

zero_fits : (z : ℤ) → z ≡ pos 0 → FitsSigned w128 z
zero_fits z e = subst (λ y. FitsSigned w128 y) (sym e) (search rules)

pub zeros_narrow : (ps : List ℤ) → All (λ z. z ≡ pos 0) ps → IsNarrow ps
zeros_narrow ps h r wide = elim wide.1 [ inl product ↦ product (zero_fits (get_or ps r (pos 0)) (h r (pos 0) wide.0)) | inr sum ↦ sum (zero_fits (total (take (r + 1) ps)) (total_of_zeros (take (r + 1) ps) (zeros_in_front ps (r + 1) h))) ]

-- the program's test for 0
pub is_zero : (sum : ℤ) → FitsSigned w128 sum → true ≡ eqb (of_z w128 sum) 0 → sum ≡ pos 0
is_zero sum fits h = grind (arith, ints)

pub is_other : (sum : ℤ) → false ≡ eqb (of_z w128 sum) 0 → sum ≡ pos 0 → ⊥
is_other sum h e = grind (arith, ints)

-- ---- on from a column to the next one that occurs

module _ (rows : List Row) (factors : List ℤ) (unknowns column next : ℕ) (zero : Bool)
    (here : column < unknowns) (low : column + 1 ≤ next) (high : next ≤ unknowns)
    (between : (c : ℕ) → column + 1 ≤ c → c < next → All (λ row. coefficient c row.items ≡ pos 0) rows)
    (narrow : IsNarrow (products rows factors unknowns column)) where
  nothing_at : (c : ℕ) → column + 1 ≤ c → c < next → All (λ z. z ≡ pos 0) (products rows factors unknowns c)
  nothing_at c l h = nothing_in rows factors unknowns c (omega arith) (between c l h)

  narrow_on : ((c : ℕ) → c < column → IsNarrow (products rows factors unknowns c)) → (c : ℕ) → c < next → IsNarrow (products rows factors unknowns c)
  narrow_on before c l = elim (cases_lt c column) [ inl lower ↦ before c lower | inr upper ↦ elim (cases_lt column c) [ inl above ↦ zeros_narrow (products rows factors unknowns c) (nothing_at c (omega arith) l) | inr same ↦ subst (λ (n : ℕ). IsNarrow (products rows factors unknowns n)) (omega arith) narrow ] ]

  zeros_on : ((c : ℕ) → c < column → total (products rows factors unknowns c) ≡ pos 0) → total (products rows factors unknowns column) ≡ pos 0 → (c : ℕ) → c < next → total (products rows factors unknowns c) ≡ pos 0
  zeros_on before now c l = elim (cases_lt c column) [ inl lower ↦ before c lower | inr upper ↦ elim (cases_lt column c) [ inl above ↦ total_of_zeros (products rows factors unknowns c) (nothing_at c (omega arith) l) | inr same ↦ subst (λ (n : ℕ). total (products rows factors unknowns n) ≡ pos 0) (omega arith) now ] ]

  -- all sums were 0, and this one is
  pub on_with_zero : IsSummedTo rows factors unknowns column true → total (products rows factors unknowns column) ≡ pos 0 → IsSummedTo rows factors unknowns next true
  on_with_zero before now = record { within = high; narrow = narrow_on before.narrow; zeros = zeros_on before.zeros now }

  -- this one isn't
  pub on_with_other : IsSummedTo rows factors unknowns column zero → (total (products rows factors unknowns column) ≡ pos 0 → ⊥) → IsSummedTo rows factors unknowns next false
  on_with_other before now = record { within = high; narrow = narrow_on before.narrow; zeros = λ all. now (all column here) }

  -- an earlier one wasn't
  pub on_after_other : IsSummedTo rows factors unknowns column false → IsSummedTo rows factors unknowns next false
  on_after_other before = record { within = high; narrow = narrow_on before.narrow; zeros = before.zeros }

  pub on_tested : (sum : ℤ) (z : Bool) → z ≡ eqb (of_z w128 sum) 0 → sum ≡ total (products rows factors unknowns column) → FitsSigned w128 sum → zero ≡ true → IsSummedTo rows factors unknowns column zero → IsSummedTo rows factors unknowns next z
  on_tested sum true tested is fits all before = on_with_zero (subst (λ (b : Bool). IsSummedTo rows factors unknowns column b) all before) (sym is ∙ is_zero sum fits tested)
  on_tested sum false tested is fits all before = on_with_other before (λ none. is_other sum tested (is ∙ none))

  pub on_kept : (z : Bool) → z ≡ false → zero ≡ false → IsSummedTo rows factors unknowns column zero → IsSummedTo rows factors unknowns next z
  on_kept z kept was before = subst (λ (b : Bool). IsSummedTo rows factors unknowns next b) (sym kept) (on_after_other (subst (λ (b : Bool). IsSummedTo rows factors unknowns column b) was before))
