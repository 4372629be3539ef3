-- Which certificate proves which formula from which facts, and where it doesn't, the cause of its first premise that fails.
use Rattle.std.specs.Prelude.{◌≡◌, ◌⊎◌, ℕ, List, [], ◌∷◌, ◌++◌, map, length, Bool, true, false, ◌&&◌, is_some, Option, Some, None, ℤ, pos}
use Rattle.std.specs.List.{list_all}
use Rattle.gv_terms.specs.declared.tree.TermTree.{TermTree}
use Rattle.gv_linear.specs.declared.row.Row.{Row}
use Rattle.gv_linear.specs.declared.answer.Linear.{Linear}
use Rattle.gv_linear.specs.declared.answer.Linear.TheVariants.{Yes, Negative, Wide, NotContradiction}
use Rattle.gv_linear.specs.Answer.{IsAnswer}
use Rattle.gv_axioms.specs.Instances.{instance_of}
use Rattle.gv_certs.specs.declared.cause.Cause.{Cause}
use Rattle.gv_certs.specs.declared.cause.Cause.TheVariants as cause
use Rattle.gv_certs.specs.Trees.{tree_eq, equation, negation, replaced}
use Rattle.gv_certs.specs.Known.{computes, is_reflexive, is_known}
use Rattle.gv_certs.specs.Sums.{is_sum, summands, with_unknowns, Comparison, order_of, comparison_of, denied, row_of, is_narrow_row, is_narrow_sum}

-- ---- certificates over formulas

-- those that need no other certificate
pub data Leaf : Type 0 where
  known : Leaf
  compute : Leaf
  by_axiom : (number : ℕ) → (parts : List TermTree) → Leaf
  subst_in : (from to within : TermTree) → Leaf
  subst : (from to : TermTree) → Leaf
  contra : (formula : TermTree) → Leaf

-- the terms that are sums, and the formulas that are rows, each with its factor
pub record Sum : Type 0 where
  pub sums : List TermTree
  pub rows : List (ℤ × TermTree)

-- `then` shows a formula, and goes on with what is known besides
pub data Certificate : Type 0 where
  by : Leaf → Certificate
  linear : Sum → Certificate
  cases : (formula : TermTree) → (holds fails : Certificate) → Certificate
  then : (formula : TermTree) → (first rest : Certificate) → Certificate

-- ---- premises

-- what is asked, and the cause where it fails
pub record Premise : Type 0 where
  pub holds : Bool
  pub cause : Cause

abbrev pub asks : Bool → Cause → Premise
asks b c = record { holds = b; cause = c }

abbrev pub AllHold : List Premise → Type 0
AllHold [] = Unit {0}
AllHold (p ∷ ps) = (p.holds ≡ true) × AllHold ps

-- the first that fails has this cause
abbrev pub FirstFails : List Premise → Cause → Type 0
FirstFails [] c = ⊥
FirstFails (p ∷ ps) c = ((p.holds ≡ false) × (p.cause ≡ c)) ⊎ ((p.holds ≡ true) × FirstFails ps c)

-- ---- the rows

abbrev pub is_known_of : List TermTree → TermTree → Premise
is_known_of facts f = asks (is_known facts f) cause.NotKnown

abbrev pub of_instance : List TermTree → TermTree → Option (List TermTree × TermTree) → List Premise
of_instance facts f None = asks false cause.BadAxiom ∷ []
of_instance facts f (Some i) = map (is_known_of facts) i.0 ++ (asks (tree_eq i.1 f) cause.Mismatch ∷ [])

-- what a certificate of a formula asks, in order
abbrev pub premises : List TermTree → TermTree → Leaf → List Premise
premises facts f known = is_known_of facts f ∷ []
premises facts f compute = asks (computes f) cause.NotKnown ∷ []
premises facts f (by_axiom number parts) = of_instance facts f (instance_of number parts)
premises facts f (subst_in a b g) =
    is_known_of facts (equation a b) ∷ is_known_of facts g ∷ asks (tree_eq (replaced a b f) (replaced a b g)) cause.Mismatch ∷ []
premises facts f (subst a b) = is_known_of facts (equation a b) ∷ asks (is_reflexive (replaced a b f)) cause.Mismatch ∷ []
premises facts f (contra g) = is_known_of facts g ∷ is_known_of facts (negation g) ∷ []

-- of a linear certificate: the sums are sums, the rows known comparisons, the formula an order, and no number is wide
abbrev pub row_premises : List TermTree → List (ℤ × TermTree) → List Premise
row_premises facts [] = []
row_premises facts (r ∷ rs) = is_known_of facts r.1 ∷ asks (is_some (comparison_of r.1)) cause.Mismatch ∷ row_premises facts rs

abbrev pub with_comparison : Option Comparison → List Comparison → List Comparison
with_comparison None cs = cs
with_comparison (Some c) cs = c ∷ cs

-- the comparisons of the formulas that are such
abbrev pub comparisons : List (ℤ × TermTree) → List Comparison
comparisons [] = []
comparisons (r ∷ rs) = with_comparison (comparison_of r.1) (comparisons rs)

abbrev pub unknowns_in : List TermTree → List TermTree → List TermTree → List TermTree
unknowns_in sums us [] = us
unknowns_in sums us (t ∷ ts) = unknowns_in sums (with_unknowns us (summands sums t)) ts

abbrev pub sides : List Comparison → List TermTree
sides [] = []
sides (c ∷ cs) = c.low ∷ c.high ∷ sides cs

-- the unknowns of all, the sums first, then the rows, of which the last is the formula denied
abbrev pub unknowns : List TermTree → List Comparison → List TermTree
unknowns sums cs = unknowns_in sums [] (sums ++ sides cs)

-- the comparisons of a linear certificate, the last being the formula denied
abbrev pub all_rows : Sum → Comparison → List Comparison
all_rows s order = comparisons s.rows ++ (denied order ∷ [])

abbrev pub matrix : List TermTree → List Comparison → List Row
matrix sums cs = map (row_of sums (unknowns sums cs)) cs

abbrev pub are_narrow_sums : List TermTree → List Comparison → Bool
are_narrow_sums sums cs = list_all (is_narrow_sum sums (unknowns sums cs)) sums && list_all is_narrow_row (matrix sums cs)

abbrev pub order_premises : Sum → Option Comparison → List Premise
order_premises s None = asks false cause.Mismatch ∷ []
order_premises s (Some c) = asks (are_narrow_sums s.sums (all_rows s c)) cause.Wide ∷ []

abbrev pub sum_premises : List TermTree → TermTree → Sum → List Premise
sum_premises facts f s =
    map (λ t. asks (is_sum facts t) cause.NotAPlus) s.sums ++ row_premises facts s.rows ++ order_premises s (order_of f)

abbrev pub factors : Sum → List ℤ
factors s = map (λ r. r.0) s.rows ++ (pos 1 ∷ [])

-- what the check of the factors answers
abbrev pub Answers : Sum → Option Comparison → Linear → Type 0
Answers s None answer = ⊥
Answers s (Some c) answer = IsAnswer (matrix s.sums (all_rows s c)) (factors s) (length (unknowns s.sums (all_rows s c))) answer

abbrev pub IsCauseOf : Linear → Cause → Type 0
IsCauseOf Yes c = ⊥
IsCauseOf (Negative row) c = c ≡ cause.Negative
IsCauseOf (Wide row column) c = c ≡ cause.Wide
IsCauseOf NotContradiction c = c ≡ cause.NotContradiction

-- ---- proofs

abbrev pub with_fact : List TermTree → TermTree → List TermTree
with_fact facts f = facts ++ (f ∷ [])

-- the certificate proves the formula from the facts
abbrev pub Proves : List TermTree → TermTree → Certificate → Type 0
Proves facts f (by leaf) = AllHold (premises facts f leaf)
Proves facts f (linear s) = AllHold (sum_premises facts f s) × Answers s (order_of f) Yes
Proves facts f (cases g c d) = Proves (with_fact facts g) f c × Proves (with_fact facts (negation g)) f d
Proves facts f (then g c d) = Proves facts g c × Proves (with_fact facts g) f d

-- its first premise that fails has this cause
abbrev pub Fails : List TermTree → TermTree → Certificate → Cause → Type 0
Fails facts f (by leaf) k = FirstFails (premises facts f leaf) k
Fails facts f (linear s) k =
    FirstFails (sum_premises facts f s) k
    ⊎ (AllHold (sum_premises facts f s) × ((answer : Linear) × Answers s (order_of f) answer × IsCauseOf answer k))
Fails facts f (cases g c d) k =
    Fails (with_fact facts g) f c k ⊎ (Proves (with_fact facts g) f c × Fails (with_fact facts (negation g)) f d k)
Fails facts f (then g c d) k = Fails facts g c k ⊎ (Proves facts g c × Fails (with_fact facts g) f d k)
