-- What holds of certificates: one answer for each, and what is proved is true.
use Rattle.std.specs.Prelude.{◌≡◌, ◌⊎◌, List, [], ◌∷◌, ◌++◌, map}
use Rattle.gv_terms.specs.declared.operator.Operator.TheVariants as op
use Rattle.gv_terms.specs.declared.tree.TermTree.{TermTree}
use Rattle.gv_terms.specs.declared.tree.TermTree.TheVariants as tree
use Rattle.std.specs.List.{All}
use Rattle.gv_terms.specs.declared.value.Env.{Env}
use Rattle.gv_terms.specs.Ranges.{IsValuation}
use Rattle.gv_axioms.specs.Truth.{AreTerms, Entails, IsTrueUnder}
use Rattle.gv_certs.specs.declared.cause.Cause.{Cause}
use Rattle.gv_certs.specs.Proving.{Leaf, known, compute, by_axiom, subst_in, subst, contra, Certificate, by, linear, cases, then, Proves, Fails}

-- a certificate that proves a formula has no premise that fails
abbrev pub NeverBoth : Type 0
NeverBoth = (facts : List TermTree) (f : TermTree) (c : Certificate) (k : Cause) → Proves facts f c → Fails facts f c k → ⊥

-- one that fails does so for one cause
abbrev pub OneCause : Type 0
OneCause = (facts : List TermTree) (f : TermTree) (c : Certificate) (k l : Cause) → Fails facts f c k → Fails facts f c l → k ≡ l

-- each proves its formula or fails
abbrev pub AlwaysOne : Type 0
AlwaysOne = (facts : List TermTree) (f : TermTree) (c : Certificate) → Proves facts f c ⊎ ((k : Cause) × Fails facts f c k)

-- the terms of a certificate
abbrev pub terms_of_leaf : Leaf → List TermTree
terms_of_leaf known = []
terms_of_leaf compute = []
terms_of_leaf (by_axiom number parts) = parts
terms_of_leaf (subst_in a b g) = a ∷ b ∷ g ∷ []
terms_of_leaf (subst a b) = a ∷ b ∷ []
terms_of_leaf (contra g) = g ∷ []

abbrev pub HasTerms : Certificate → Type 0
HasTerms (by leaf) = AreTerms (terms_of_leaf leaf)
HasTerms (linear s) = AreTerms (s.sums ++ map (λ r. r.1) s.rows)
HasTerms (cases g c d) = AreTerms (g ∷ []) × HasTerms c × HasTerms d
HasTerms (then g c d) = AreTerms (g ∷ []) × HasTerms c × HasTerms d

-- what is proved from facts is true under every valuation that meets them
abbrev pub ProofsAreTrue : Type 0
ProofsAreTrue = (facts : List TermTree) (f : TermTree) (c : Certificate) → HasTerms c → Proves facts f c → Entails facts f

abbrev pub falsum : TermTree
falsum = tree.Apply op.False []

-- no valuation meets facts from which `false` is proved
abbrev pub AbsurdIsTrue : Type 0
AbsurdIsTrue = (facts : List TermTree) (c : Certificate) → HasTerms c → Proves facts falsum c
    → (env : Env) → IsValuation env → All (IsTrueUnder env) facts → ⊥
