-- Worked rows: small certificates with what they come to.
use Rattle.std.specs.Prelude.{ℕ, List, [], ◌∷◌, ℤ, pos, neg_ℤ, codes}
use Rattle.gv_terms.specs.declared.sort.Sort.TheVariants as sort
use Rattle.gv_terms.specs.declared.operator.Operator.TheVariants as op
use Rattle.gv_terms.specs.declared.tree.TermTree.{TermTree}
use Rattle.gv_terms.specs.declared.tree.TermTree.TheVariants as tree
use Rattle.gv_certs.specs.declared.cause.Cause.TheVariants as cause
use Rattle.gv_certs.specs.Trees.{over_two}
use Rattle.gv_certs.specs.Proving.{Sum, Certificate, by, by_axiom, linear, Proves, Fails}

abbrev pub x : TermTree
x = tree.Variable (codes "x") sort.Word

abbrev pub number : ℕ → TermTree
number n = tree.Apply (op.Number n) []

abbrev pub less : TermTree → TermTree → TermTree
less a b = over_two op.Less a b

-- `x < 5` with a factor
abbrev pub with_factor : ℤ → Certificate
with_factor k = linear (record { sums = []; rows = (k, less x (number 5)) ∷ [] })

abbrev pub x_plus_1 : TermTree
x_plus_1 = over_two op.Plus x (number 1)

pub record AreRows : Type 0 where
  -- below 5 is below 10
  pub below_more : Proves (less x (number 5) ∷ []) (less x (number 10)) (with_factor (pos 1))
  -- the same with the factor -1
  pub negative_factor : Fails (less x (number 5) ∷ []) (less x (number 10)) (with_factor (neg_ℤ (pos 1))) cause.Negative
  -- the sum may be more than the greatest word
  pub may_wrap : Fails [] (less x x_plus_1) (linear (record { sums = x_plus_1 ∷ []; rows = [] })) cause.NotAPlus
  -- no axiom has this number
  pub no_axiom : Fails [] (less (number 1) (number 2)) (by (by_axiom 99 [])) cause.BadAxiom
