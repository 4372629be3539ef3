-- There is one answer.
use Rattle.std.proofs.Common.{◌≡◌, ℕ, ◌<◌, List, refl, ap, subst, inl, inr}
use Rattle.std.proofs.Math.IntN.{ℤ}
use Rattle.std.proofs.lemmas.Bool.{cases_order}
use Rattle.std.specs.Prelude.{◌↔◌}
use Rattle.gv_linear.specs.declared.row.Row.{Row}
use Rattle.gv_linear.specs.declared.answer.Linear.{Linear}
use Rattle.gv_linear.specs.declared.answer.Linear.TheVariants.{Yes, Negative, Wide, NotContradiction}
use Rattle.gv_linear.specs.Columns.{products, IsWide, IsFirstWideIn}
use Rattle.gv_linear.specs.Answer.{IsNegativeAt, IsFirstWide, IsSummed, IsAnswer}

-- two firsts are the same
one_first : (P : ℕ → Type 0) (a b : ℕ) → P a → ((n : ℕ) → n < a → P n → ⊥) → P b → ((n : ℕ) → n < b → P n → ⊥) → a ≡ b
one_first P a b here before there earlier = elim (cases_order a b) [ inl same ↦ same | inr other ↦ elim other [ inl low ↦ absurd (earlier a low here) | inr high ↦ absurd (before b high there) ] ]

module _ (rows : List Row) (factors : List ℤ) (unknowns : ℕ) where
  same_place : (r c s d : ℕ) → IsFirstWide rows factors unknowns r c → IsFirstWide rows factors unknowns s d → Wide r c ≡ Wide s d
  same_place r c s d p q =
      let column : c ≡ d = elim (cases_order c d) [ inl same ↦ same | inr other ↦ elim other [ inl low ↦ absurd (q.first c low r p.wide.wide) | inr high ↦ absurd (p.first d high s q.wide.wide) ] ] in
      let wide : IsFirstWideIn (products rows factors unknowns d) r = subst (λ (n : ℕ). IsFirstWideIn (products rows factors unknowns n) r) column p.wide in
      let row : r ≡ s = one_first (IsWide (products rows factors unknowns d)) r s wide.wide wide.first q.wide.wide q.wide.first in
      cc

  clash : (r c : ℕ) → IsFirstWide rows factors unknowns r c → IsSummed rows factors unknowns → ⊥
  clash r c wide summed = summed.narrow c wide.within r wide.wide.wide

  one_answer : (a b : Linear) → IsAnswer rows factors unknowns a → IsAnswer rows factors unknowns b → a ≡ b
  one_answer (Negative r) (Negative s) p q = ap Negative (one_first (IsNegativeAt rows factors) r s p.negative p.first q.negative q.first)
  one_answer (Negative r) (Wide s d) p q = absurd (q.0 r p.negative)
  one_answer (Negative r) Yes p q = absurd (q.0.signed r p.negative)
  one_answer (Negative r) NotContradiction p q = absurd (q.0.signed r p.negative)
  one_answer (Wide r c) (Negative s) p q = absurd (p.0 s q.negative)
  one_answer (Wide r c) (Wide s d) p q = same_place r c s d p.1 q.1
  one_answer (Wide r c) Yes p q = absurd (clash r c p.1 q.0)
  one_answer (Wide r c) NotContradiction p q = absurd (clash r c p.1 q.0)
  one_answer Yes (Negative s) p q = absurd (p.0.signed s q.negative)
  one_answer Yes (Wide s d) p q = absurd (clash s d q.1 p.0)
  one_answer Yes Yes p q = refl
  one_answer Yes NotContradiction p q = absurd (q.1 p.1)
  one_answer NotContradiction (Negative s) p q = absurd (p.0.signed s q.negative)
  one_answer NotContradiction (Wide s d) p q = absurd (clash s d q.1 p.0)
  one_answer NotContradiction Yes p q = absurd (p.1 q.1)
  one_answer NotContradiction NotContradiction p q = refl

  pub exactly : (result : Linear) → IsAnswer rows factors unknowns result → (answer : Linear) → (result ≡ answer) ↔ IsAnswer rows factors unknowns answer
  exactly result is answer = (λ same. subst (λ (a : Linear). IsAnswer rows factors unknowns a) same is, one_answer result answer is)
