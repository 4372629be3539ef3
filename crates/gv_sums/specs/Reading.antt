-- Sums, comparisons and rows over terms of a store, and what each stands for.
use Rattle.std.specs.Prelude.{◌≡◌, ◌⊎◌, Some, ℕ, ◌<◌, ◌^◌, length, List, [], ◌∷◌, ◌++◌, map, Bool, true, false, not, Option, ℤ, pos, neg_ℤ, ◌+ℤ◌}
use Rattle.gv_terms.specs.declared.term.Term.{Term}
use Rattle.gv_terms.specs.declared.tree.TermTree.{TermTree}
use Rattle.gv_terms.specs.Store.{tree_at, trees_at}
use Rattle.gv_terms.specs.declared.operator.Operator.{Operator}
use Rattle.gv_terms.specs.declared.operator.Operator.TheVariants as op
use Rattle.gv_certs.specs.Trees.{parts_under, over_two}
use Rattle.gv_certs.specs.Sums.{Summands, summands, taken_away, number_in, place_in, with_unknown, with_unknowns, row_of, compared_as, of_words, to_constant, to_coefficient, Comparison}
use Rattle.std.specs.List.{All, AllPairs}
use Rattle.gv_linear.specs.declared.row.Row.{Row}
use Rattle.gv_linear.specs.Row.{coefficient, IsInOrder}
use Rattle.gv_linear.specs.declared.answer.Linear.{Linear}
use Rattle.gv_linear.specs.Answer.{IsAnswer}
use Rattle.gv_certs.specs.Proving.{Sum, sides, unknowns_in, unknowns, matrix, Certificate, linear}
use Rattle.gv_sums.specs.declared.summand.Summand.{Summand}
use Rattle.gv_sums.specs.declared.summand.Numbered.{Numbered}
use Rattle.gv_sums.specs.declared.comparison.Compared.{Compared}
use Rattle.gv_sums.specs.declared.factored.FactoredTerm.{FactoredTerm}

-- ---- summands

abbrev pub sign_of : Bool → ℤ
sign_of true = neg_ℤ (pos 1)
sign_of false = pos 1

abbrev pub summand_at : List TermTree → Summand → ℤ × TermTree
summand_at st s = (sign_of s.negative, tree_at st s.term.id)

abbrev pub summands_at : List TermTree → List Summand → Summands
summands_at st ss = map (summand_at st) ss

-- all of them taken away, where that is so
abbrev pub taken_if : Bool → Summands → Summands
taken_if true ss = taken_away ss
taken_if false ss = ss

-- what a term of a store is the sum of
abbrev pub summands_of : List TermTree → List Term → Term → Summands
summands_of st sums t = summands (trees_at st sums) (tree_at st t.id)

-- what a term is the sum of comes behind summands, all of it taken away where that is so
abbrev pub AreAdded : List TermTree → List Term → Term → Bool → List Summand → List Summand → Type 0
AreAdded st sums t negative old new = summands_at st new ≡ summands_at st old ++ taken_if negative (summands_of st sums t)

-- one summand more where a term is no literal and there is none such
abbrev pub added_to : List TermTree → List Term → Term → List TermTree
added_to st us t = with_unknown (trees_at st us) (tree_at st t.id) (number_in (tree_at st t.id))

-- the unknowns with those of summands, and of terms
abbrev pub with_all : List TermTree → List Term → Summands → List TermTree
with_all st us ss = with_unknowns (trees_at st us) ss

abbrev pub with_terms : List TermTree → List Term → List Term → List Term → List TermTree
with_terms st sums us ts = unknowns_in (trees_at st sums) (trees_at st us) (trees_at st ts)

-- the terms of summands
abbrev pub terms_in : List Summand → List Term
terms_in ss = map (λ s. s.term) ss

-- ---- summands with the numbers of their unknowns

abbrev pub numbered_at : List TermTree → List TermTree → Summand → Numbered
numbered_at st us s = record { negative = s.negative; number = number_in (tree_at st s.term.id); place = place_in us (tree_at st s.term.id) }

abbrev pub coefficient_in : ℕ → List Numbered → ℤ
coefficient_in u [] = pos 0
coefficient_in u (n ∷ ns) = to_coefficient u (sign_of n.negative) n.place n.number +ℤ coefficient_in u ns

-- items of the unknowns below a number, with the coefficients that the summands have
pub record AreItems (n : ℕ) (ns : List Numbered) (items : List (ℕ × ℤ)) : Type 0 where
  pub ascending : AllPairs (λ i j. i.0 < j.0) items
  pub below : All (λ i. i.0 < n) items
  pub coefficients : (c : ℕ) → c < n → coefficient c items ≡ coefficient_in c ns

abbrev pub constant_in : List Numbered → ℤ
constant_in [] = pos 0
constant_in (n ∷ ns) = to_constant (sign_of n.negative) n.number +ℤ constant_in ns

-- ---- comparisons

abbrev pub comparison_at : List TermTree → Compared → Comparison
comparison_at st c = record { same = c.same; strict = c.strict; low = tree_at st c.low.id; high = tree_at st c.high.id }

abbrev pub comparisons_at : List TermTree → List Compared → List Comparison
comparisons_at st cs = map (comparison_at st) cs

-- the unknowns of sums and comparisons
abbrev pub unknowns_at : List TermTree → List Term → List Compared → List TermTree
unknowns_at st sums cs = unknowns (trees_at st sums) (comparisons_at st cs)

-- the row of a comparison over unknowns
abbrev pub row_over : List TermTree → List Term → List Term → Compared → Row
row_over st sums us c = row_of (trees_at st sums) (trees_at st us) (comparison_at st c)

abbrev pub rows_over : List TermTree → List Term → List Term → List Compared → List Row
rows_over st sums us cs = map (row_of (trees_at st sums) (trees_at st us)) (comparisons_at st cs)

-- a row in order says what another one says: of the unknowns below a number both have the same coefficients
pub record IsLike (n : ℕ) (r s : Row) : Type 0 where
  pub same : r.same ≡ s.same
  pub constant : r.constant ≡ s.constant
  pub order : IsInOrder n r
  pub coefficients : (c : ℕ) → c < n → coefficient c r.items ≡ coefficient c s.items

-- as many rows as others, each like the one at its place
abbrev pub AreLike : ℕ → List Row → List Row → Type 0
AreLike n [] [] = Unit {0}
AreLike n (r ∷ rs) (s ∷ ss) = IsLike n r s × AreLike n rs ss
AreLike n [] (s ∷ ss) = ⊥
AreLike n (r ∷ rs) [] = ⊥

-- what is so where an order is not
abbrev pub denied_of : Compared → Compared
denied_of c = record { same = false; strict = not c.strict; low = c.high; high = c.low }

-- the comparison that an equation of two words is
abbrev pub equality_of : TermTree → Option Comparison
equality_of f = compared_as true false (of_words (parts_under op.Equal f))

-- both are terms of the store
abbrev pub IsWithin : List TermTree → Compared → Type 0
IsWithin st c = (c.low.id < length st) × (c.high.id < length st)

-- the sides of each, one after the other
abbrev pub sides_in : List Compared → List Term
sides_in [] = []
sides_in (c ∷ cs) = c.low ∷ c.high ∷ sides_in cs

-- each is added or taken away once, and a literal is a word
abbrev pub AreUnits : Summands → Type 0
AreUnits [] = Unit {0}
AreUnits (s ∷ ss) = ((s.0 ≡ pos 1) ⊎ (s.0 ≡ neg_ℤ (pos 1))) × ((n : ℕ) → number_in s.1 ≡ Some n → n < 2 ^ 64) × AreUnits ss

-- and there are fewer than 2^32
pub record IsShort (ss : Summands) : Type 0 where
  pub units : AreUnits ss
  pub few : length ss < 2 ^ 32

-- none of the terms is the sum of 2^32 others or more
abbrev pub AreShort : List TermTree → List TermTree → Type 0
AreShort sums [] = Unit {0}
AreShort sums (t ∷ ts) = IsShort (summands sums t) × AreShort sums ts

-- those of listed sums and of comparisons
abbrev pub AllShort : List TermTree → List Term → List Compared → Type 0
AllShort st sums cs = AreShort (trees_at st sums) (trees_at st sums ++ sides (comparisons_at st cs))

-- the literals among them are words
abbrev pub AreWords : List Numbered → Type 0
AreWords [] = Unit {0}
AreWords (n ∷ ns) = ((k : ℕ) → n.number ≡ Some k → k < 2 ^ 64) × AreWords ns

-- an operator over two terms
abbrev pub over_both : List TermTree → Operator → Term → Term → TermTree
over_both st o a b = over_two o (tree_at st a.id) (tree_at st b.id)

-- ---- certificates

abbrev pub row_at : List TermTree → FactoredTerm → ℤ × TermTree
row_at st r = (r.factor, tree_at st r.formula.id)

abbrev pub formulas_in : List FactoredTerm → List Term
formulas_in rs = map (λ r. r.formula) rs

-- the factors of rows, and 1 for the last row
abbrev pub factors_of : List FactoredTerm → List ℤ
factors_of rs = map (λ r. r.factor) rs ++ (pos 1 ∷ [])

-- what the factors show of comparisons
abbrev pub IsAnswerAt : List TermTree → List Term → List Compared → List FactoredTerm → Linear → Type 0
IsAnswerAt st sums cs rs answer = IsAnswer (matrix (trees_at st sums) (comparisons_at st cs)) (factors_of rs) (length (unknowns_at st sums cs)) answer

abbrev pub sum_at : List TermTree → List Term → List FactoredTerm → Sum
sum_at st sums rows = record { sums = trees_at st sums; rows = map (row_at st) rows }

abbrev pub linear_at : List TermTree → List Term → List FactoredTerm → Certificate
linear_at st sums rows = linear (sum_at st sums rows)
