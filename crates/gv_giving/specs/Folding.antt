-- Rows of fold and unfold: a case of a predicate for its instance, and back.
use Rattle.std.specs.Prelude.{◌≡◌, ℕ, List, [], ◌∷◌, ◌++◌, Some, map, slice_get}
use Rattle.gv_terms.specs.declared.tree.TermTree.{TermTree}
use Rattle.gv_terms.specs.declared.var.Var.{Var}
use Rattle.gv_assertions.specs.Atoms.{Atom, Instance, Case, Predicate, Takes, facts_of, atoms_of}
use Rattle.gv_instances.specs.Instances.{Given, AreSorted, put_in_all, put_in_atoms, AreAllApart}
use Rattle.gv_instances.specs.Agreeing.{AreClosed, AreClosedAtoms}
use Rattle.gv_seats.specs.Paths.{Path}
use Rattle.gv_seats.specs.Seats.{Proof}
use Rattle.gv_seats.specs.Scoping.{AreNew, variable}
use Rattle.gv_giving.specs.Rows.{AreKnown, TakesAll, vars_of, AreTerms}

abbrev pub terms_of : List Given → List TermTree
terms_of given = map (λ g. g.term) given

-- a case speaks of its predicate's parameters and of its own variables alone
pub record IsClosedCase (pred : Predicate) (case : Case) : Type 0 where
  pub facts : AreClosed (pred.params ++ case.vars) (facts_of case.items)
  pub atoms : AreClosedAtoms (pred.params ++ case.vars) (atoms_of case.items)

-- fold P(t) n (u): the case holds, with the terms for its parameters and its own variables, and is given up for the instance
pub data Folds (o : Proof) (h : Path) : Path → Type 0 where
  folds : (number place : ℕ) (pred : Predicate) (case : Case) (args own : List Given) (left : List Atom) → slice_get o.preds number ≡ Some pred
      → slice_get pred.cases place ≡ Some case → pred.params ≡ vars_of args → case.vars ≡ vars_of own → IsClosedCase pred case
      → AreSorted args → AreSorted own → AreTerms own → AreSorted (args ++ own) → AreAllApart (args ++ own) (atoms_of case.items)
      → AreKnown h (put_in_all (args ++ own) (facts_of case.items)) → TakesAll h.atoms (put_in_atoms (args ++ own) (atoms_of case.items)) left
      → Folds o h (record h { atoms = left ++ Instance number (terms_of args) ∷ [] })

-- variables under new names
abbrev pub named : List Var → List Var → List Given
named [] fresh = []
named (x ∷ vars) [] = []
named (x ∷ vars) (y ∷ fresh) = record { var = x; term = variable y } ∷ named vars fresh

-- as many, of the same sorts
abbrev pub AreSortedAs : List Var → List Var → Type 0
AreSortedAs [] [] = Unit {0}
AreSortedAs [] (y ∷ fresh) = ⊥
AreSortedAs (x ∷ vars) [] = ⊥
AreSortedAs (x ∷ vars) (y ∷ fresh) = (y.sort ≡ x.sort) × AreSortedAs vars fresh

-- the path with a case in place of an instance
abbrev pub unfolded : Path → List Given → Case → List Var → List Atom → Path
unfolded h args case fresh left = record h {
  vars = fresh ++ h.vars;
  facts = h.facts ++ put_in_all (args ++ named case.vars fresh) (facts_of case.items);
  atoms = left ++ put_in_atoms (args ++ named case.vars fresh) (atoms_of case.items);
}

-- a path for each case, with names of its own
pub data UnfoldsCases (h : Path) (pred : Predicate) (args : List Given) (left : List Atom) : List Case → List Path → Type 0 where
  no_case : UnfoldsCases h pred args left [] []
  a_case : {case : Case} {cases : List Case} {ks : List Path} (fresh : List Var) → AreNew h.vars fresh → AreSortedAs case.vars fresh → IsClosedCase pred case
      → AreSorted (args ++ named case.vars fresh) → AreAllApart (args ++ named case.vars fresh) (atoms_of case.items) → UnfoldsCases h pred args left cases ks
      → UnfoldsCases h pred args left (case ∷ cases) (unfolded h args case fresh left ∷ ks)

-- unfold P(t) (x, ..): the instance is taken, and one of its cases holds
pub data Unfolds (o : Proof) (h : Path) : List Path → Type 0 where
  unfolds : (number : ℕ) (pred : Predicate) (args : List Given) (left : List Atom) {ks : List Path} → slice_get o.preds number ≡ Some pred → pred.params ≡ vars_of args
      → AreSorted args → Takes h.atoms (Instance number (terms_of args)) left → AreClosed h.vars (terms_of args) → UnfoldsCases h pred args left pred.cases ks → Unfolds o h ks
