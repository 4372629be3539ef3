-- Rows of commands that rearrange what is owned: which path may come of which.
use Rattle.std.specs.Prelude.{◌≡◌, ℕ, List, [], ◌∷◌, ◌++◌, Some, map}
use Rattle.gv_terms.specs.declared.operator.Operator.TheVariants as op
use Rattle.gv_terms.specs.declared.sort.Sort.TheVariants as sort
use Rattle.gv_terms.specs.declared.tree.TermTree.{TermTree}
use Rattle.gv_terms.specs.declared.tree.TermTree.TheVariants as tree
use Rattle.gv_terms.specs.Trees.{sort_of}
use Rattle.gv_assertions.specs.Atoms.{Atom, Each, Takes}
use Rattle.gv_instances.specs.Instances.{Given, put_in_atom, AreApart}
use Rattle.gv_instances.specs.Agreeing.{number_var}
use Rattle.gv_seats.specs.Paths.{Path, number}
use Rattle.gv_rules.specs.Rows.{Replaces}
use Rattle.gv_giving.specs.Rows.{AreKnown}

-- ---- terms

abbrev pub at_most : TermTree → TermTree → TermTree
at_most a b = tree.Apply op.AtMost (a ∷ b ∷ [])

abbrev pub less : TermTree → TermTree → TermTree
less a b = tree.Apply op.Less (a ∷ b ∷ [])

abbrev pub differ : TermTree → TermTree → TermTree
differ a b = tree.Apply op.Not (tree.Apply op.Equal (a ∷ b ∷ []) ∷ [])

-- the number behind
abbrev pub next : TermTree → TermTree
next a = tree.Apply op.Plus (a ∷ number 1 ∷ [])

-- each is a word
abbrev pub AreWords : List TermTree → Type 0
AreWords [] = Unit {0}
AreWords (t ∷ ts) = (sort_of t ≡ Some sort.Word) × AreWords ts

-- a term for the number that is bound, and what a range says of it
abbrev pub at_number : List ℕ → TermTree → List Given
at_number index t = record { var = number_var index; term = t } ∷ []

abbrev pub body_at : List ℕ → TermTree → Atom → Atom
body_at index t a = put_in_atom (at_number index t) a

-- ---- rows

-- drop: an assertion is taken, and nobody has it
pub data Drops (h : Path) : Path → Type 0 where
  drops : (a : Atom) (left : List Atom) → Takes h.atoms a left → Drops h (record h { atoms = left })

-- take: a number that is known to be in the range, and none of those that are left out, is one of these, and its assertion comes last
pub data TakesNumber (h : Path) : Path → Type 0 where
  takes_number : (index : List ℕ) (low high t : TermTree) (except : List TermTree) (a : Atom) (atoms : List Atom) → sort_of t ≡ Some sort.Word → AreWords except
      → AreApart (at_number index t) a → AreKnown h (at_most low t ∷ less t high ∷ map (differ t) except) → Replaces h.atoms (Each index low high except a) (Each index low high (except ++ t ∷ []) a) atoms
      → TakesNumber h (record h { atoms = atoms ++ body_at index t a ∷ [] })

-- put: a number that is left out is so no more, and its assertion is taken
pub data PutsNumber (h : Path) : Path → Type 0 where
  puts_number : (index : List ℕ) (low high t : TermTree) (except fewer : List TermTree) (a : Atom) (mid atoms : List Atom) → sort_of t ≡ Some sort.Word → AreApart (at_number index t) a
      → Takes except t fewer → Takes h.atoms (body_at index t a) mid → Replaces mid (Each index low high except a) (Each index low high fewer a) atoms
      → PutsNumber h (record h { atoms = atoms })

-- split: a range of which no number is left out falls into two, which come last
pub data Splits (h : Path) : Path → Type 0 where
  splits : (index : List ℕ) (low mid high : TermTree) (a : Atom) (left : List Atom) → AreKnown h (at_most low mid ∷ at_most mid high ∷ []) → Takes h.atoms (Each index low high [] a) left
      → Splits h (record h { atoms = left ++ Each index low mid [] a ∷ Each index mid high [] a ∷ [] })

-- join: two such ranges, of which the one ends where the other begins, become one, which comes last
pub data Joins (h : Path) : Path → Type 0 where
  joins : (index : List ℕ) (low mid high : TermTree) (a : Atom) (rest left : List Atom) → Takes h.atoms (Each index low mid [] a) rest → Takes rest (Each index mid high [] a) left
      → Joins h (record h { atoms = left ++ Each index low high [] a ∷ [] })

-- none: a range that is known to hold no number comes last
pub data AddsEmpty (h : Path) : Path → Type 0 where
  adds_empty : (index : List ℕ) (low high : TermTree) (except : List TermTree) (a : Atom) → AreKnown h (at_most high low ∷ [])
      → AddsEmpty h (record h { atoms = h.atoms ++ Each index low high except a ∷ [] })

-- one: what a range says of its only number becomes the range
pub data MakesOne (h : Path) : Path → Type 0 where
  makes_one : (index : List ℕ) (low : TermTree) (a : Atom) (atoms : List Atom) → sort_of low ≡ Some sort.Word → AreApart (at_number index low) a
      → Replaces h.atoms (body_at index low a) (Each index low (next low) [] a) atoms → MakesOne h (record h { atoms = atoms })
