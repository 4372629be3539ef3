-- Each certificate proves its formula or fails for one cause, and not both.
use Rattle.std.proofs.Common.{◌≡◌, ◌⊎◌, inl, inr, List, [], ◌∷◌, Bool, true, false, Option, Some, None, refl, sym, ap, ◌∙◌, subst}
use Rattle.std.proofs.Math.IntN.{ℤ}
use Rattle.gv_linear.specs.declared.answer.Linear.{Linear}
use Rattle.gv_linear.specs.declared.answer.Linear.TheVariants.{Yes, Negative, Wide, NotContradiction}
use Rattle.gv_linear.proofs.AnswerLemmas.{exactly}
use Rattle.gv_terms.specs.declared.tree.TermTree.{TermTree}
use Rattle.gv_certs.specs.declared.cause.Cause.{Cause}
use Rattle.gv_certs.specs.declared.cause.Cause.TheVariants as cause
use Rattle.gv_certs.specs.Trees.{negation}
use Rattle.gv_certs.specs.Sums.{Comparison, order_of}
use Rattle.gv_certs.specs.Proving.{Sum, Certificate, by, linear, cases, then, Premise, asks, AllHold, FirstFails, premises, order_premises, row_premises, sum_premises, all_rows, matrix, factors, unknowns, Answers, IsCauseOf, with_fact, Proves, Fails}
use Rattle.gv_certs.specs.Laws.{NeverBoth, OneCause, AlwaysOne}
use Rattle.gv_certs.proofs.SomeAnswer.{some_answer}
use Rattle.gv_certs.proofs.Truth.{second_part}

-- ---- lists of premises

pub not_both : (ps : List Premise) (k : Cause) → AllHold ps → FirstFails ps k → ⊥
not_both [] k h f = f
not_both (p ∷ ps) k h f = elim f [ inl here ↦ (let clash : true ≡ false = sym h.0 ∙ here.0 in absurd cc) | inr later ↦ not_both ps k h.1 later.1 ]

pub one_cause : (ps : List Premise) (k l : Cause) → FirstFails ps k → FirstFails ps l → k ≡ l
one_cause [] k l f g = absurd f
one_cause (p ∷ ps) k l f g = elim f [
  | inl a ↦ elim g [ inl b ↦ sym a.1 ∙ b.1 | inr d ↦ (let clash : false ≡ true = sym a.0 ∙ d.0 in absurd cc) ]
  | inr c ↦ elim g [ inl b ↦ (let clash : false ≡ true = sym b.0 ∙ c.0 in absurd cc) | inr d ↦ one_cause ps k l c.1 d.1 ]
]

pub hold_or_fail : (ps : List Premise) → AllHold ps ⊎ ((k : Cause) × FirstFails ps k)
hold_or_fail [] = inl tt
hold_or_fail (p ∷ ps) = by_test p.holds refl (hold_or_fail ps)
  where
    by_test : (b : Bool) → p.holds ≡ b → AllHold ps ⊎ ((k : Cause) × FirstFails ps k) → AllHold (p ∷ ps) ⊎ ((k : Cause) × FirstFails (p ∷ ps) k)
    by_test false e rest = inr (p.cause, inl (e, refl))
    by_test true e rest = elim rest [ inl all ↦ inl (e, all) | inr one ↦ inr (one.0, inr (e, one.1)) ]

-- ---- sums

one_answer : (s : Sum) (o : Option Comparison) (a b : Linear) → Answers s o a → Answers s o b → a ≡ b
one_answer s None a b f g = absurd f
one_answer s (Some c) a b f g = (exactly (matrix s.sums (all_rows s c)) (factors s) _ a f b).1 g

causes : (a : Linear) (k l : Cause) → IsCauseOf a k → IsCauseOf a l → k ≡ l
causes Yes k l f g = absurd f
causes (Negative r) k l f g = f ∙ sym g
causes (Wide r c) k l f g = f ∙ sym g
causes NotContradiction k l f g = f ∙ sym g

order_there : (s : Sum) (o : Option Comparison) → AllHold (order_premises s o) → (c : Comparison) × (o ≡ Some c)
order_there s None h = let clash : false ≡ true = h.0 in absurd cc
order_there s (Some c) h = (c, refl)

by_answer : (facts : List TermTree) (f : TermTree) (s : Sum) → AllHold (sum_premises facts f s) → (a : Linear) → Answers s (order_of f) a
    → Proves facts f (linear s) ⊎ ((k : Cause) × Fails facts f (linear s) k)
by_answer facts f s h Yes is = inl (h, is)
by_answer facts f s h (Negative r) is = inr (cause.Negative, inr (h, (Negative r, is, refl)))
by_answer facts f s h (Wide r c) is = inr (cause.Wide, inr (h, (Wide r c, is, refl)))
by_answer facts f s h NotContradiction is = inr (cause.NotContradiction, inr (h, (NotContradiction, is, refl)))

of_sum : (facts : List TermTree) (f : TermTree) (s : Sum) → Proves facts f (linear s) ⊎ ((k : Cause) × Fails facts f (linear s) k)
of_sum facts f s = elim (hold_or_fail (sum_premises facts f s)) [
  | inr one ↦ inr (one.0, inl one.1)
  | inl all ↦
      (let there = order_there s (order_of f) (second_part _ (order_premises s (order_of f)) all) in
      let answer = some_answer (matrix s.sums (all_rows s there.0)) (factors s) _ in
      by_answer facts f s all answer.0 (subst (λ o. Answers s o answer.0) (sym there.1) answer.1))
]

-- ---- all certificates

pub never_both : NeverBoth
never_both facts f (by leaf) k h g = not_both (premises facts f leaf) k h g
never_both facts f (linear s) k h g = elim g [
  | inl a ↦ not_both (sum_premises facts f s) k h.0 a
  | inr b ↦
      (let same : Yes ≡ b.1.0 = one_answer s (order_of f) Yes b.1.0 h.1 b.1.1 in
      subst (λ a. IsCauseOf a k) (sym same) b.1.2)
]
never_both facts f (cases g c d) k h e = elim e [ inl a ↦ never_both (with_fact facts g) f c k h.0 a | inr b ↦ never_both (with_fact facts (negation g)) f d k h.1 b.1 ]
never_both facts f (then g c d) k h e = elim e [ inl a ↦ never_both facts g c k h.0 a | inr b ↦ never_both (with_fact facts g) f d k h.1 b.1 ]

pub fails_once : OneCause
fails_once facts f (by leaf) k l a b = one_cause (premises facts f leaf) k l a b
fails_once facts f (linear s) k l a b = elim a [
  | inl p ↦ elim b [ inl q ↦ one_cause (sum_premises facts f s) k l p q | inr r ↦ absurd (not_both (sum_premises facts f s) k r.0 p) ]
  | inr u ↦ elim b [
    | inl q ↦ absurd (not_both (sum_premises facts f s) l u.0 q)
    | inr r ↦ causes u.1.0 k l u.1.2 (subst (λ x. IsCauseOf x l) (sym (one_answer s (order_of f) u.1.0 r.1.0 u.1.1 r.1.1)) r.1.2)
  ]
]
fails_once facts f (cases g c d) k l a b = elim a [
  | inl p ↦ elim b [ inl q ↦ fails_once (with_fact facts g) f c k l p q | inr r ↦ absurd (never_both (with_fact facts g) f c k r.0 p) ]
  | inr u ↦ elim b [ inl q ↦ absurd (never_both (with_fact facts g) f c l u.0 q) | inr r ↦ fails_once (with_fact facts (negation g)) f d k l u.1 r.1 ]
]
fails_once facts f (then g c d) k l a b = elim a [
  | inl p ↦ elim b [ inl q ↦ fails_once facts g c k l p q | inr r ↦ absurd (never_both facts g c k r.0 p) ]
  | inr u ↦ elim b [ inl q ↦ absurd (never_both facts g c l u.0 q) | inr r ↦ fails_once (with_fact facts g) f d k l u.1 r.1 ]
]

pub always_one : AlwaysOne
always_one facts f (by leaf) = hold_or_fail (premises facts f leaf)
always_one facts f (linear s) = of_sum facts f s
always_one facts f (cases g c d) = elim (always_one (with_fact facts g) f c) [
  | inr but ↦ inr (but.0, inl but.1)
  | inl so ↦ elim (always_one (with_fact facts (negation g)) f d) [ inl also ↦ inl (so, also) | inr but ↦ inr (but.0, inr (so, but.1)) ]
]
always_one facts f (then g c d) = elim (always_one facts g c) [
  | inr but ↦ inr (but.0, inl but.1)
  | inl so ↦ elim (always_one (with_fact facts g) f d) [ inl also ↦ inl (so, also) | inr but ↦ inr (but.0, inr (so, but.1)) ]
]
