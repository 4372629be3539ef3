-- What putting terms in for variables means.
use Rattle.std.specs.Prelude.{◌≡◌, ◌↔◌, true, List}
use Rattle.gv_terms.specs.declared.tree.TermTree.{TermTree}
use Rattle.gv_terms.specs.declared.value.Env.{Env}
use Rattle.gv_terms.specs.declared.var.Var.{Var}
use Rattle.gv_terms.specs.Scopes.{is_closed}
use Rattle.gv_terms.specs.Trees.{sort_of, value_under}
use Rattle.gv_resources.specs.Pieces.{Piece}
use Rattle.gv_assertions.specs.Atoms.{Atom, Predicate}
use Rattle.gv_assertions.specs.Standing.{StandsFor, StandForAll}
use Rattle.gv_instances.specs.Instances.{Given, AreSorted, put_in, given_under, put_in_atoms, AreAllApart}
use Rattle.gv_instances.specs.Agreeing.{AgreeOn, AgreeOnAtoms, AgreeOnVars, AreClosedAtoms}
use Rattle.gv_instances.specs.Alike.{AreAlike}

-- where two valuations agree on the variables of a term, it has one value under both
abbrev pub AgreementLaw : Type 0
AgreementLaw = (env other : Env) (t : TermTree) → AgreeOn env other t → value_under env t ≡ value_under other t

-- a term with terms put in has the value that it has where the variables have the values of these terms, and keeps its sort
pub record TermLaws (given : List Given) : Type 0 where
  pub value : AreSorted given → (env : Env) (t : TermTree) → value_under env (put_in given t) ≡ value_under (given_under given env) t
  pub sort : AreSorted given → (t : TermTree) → sort_of (put_in given t) ≡ sort_of t

abbrev pub TermsLaw : Type 0
TermsLaw = (given : List Given) → TermLaws given

-- and assertions with terms put in are stood for just where they are where the variables have the values of these terms
abbrev pub AssertionsLaw : Type 0
AssertionsLaw = (preds : List Predicate) (given : List Given) → AreSorted given → (env : Env) (all : List Atom) (p : Piece) → AreAllApart given all
    → StandForAll preds env (put_in_atoms given all) p ↔ StandForAll preds (given_under given env) all p

-- assertions are stood for under every valuation that agrees on their variables
abbrev pub SameStandLaw : Type 0
SameStandLaw = (preds : List Predicate) (env other : Env) (all : List Atom) (p : Piece) → AgreeOnAtoms env other all → StandForAll preds env all p
    → StandForAll preds other all p

-- what speaks of some variables alone means the same under valuations that agree on these
pub record ClosedLaws (vars : List Var) (env other : Env) : Type 0 where
  pub value : AgreeOnVars env other vars → (t : TermTree) → is_closed vars t ≡ true → value_under env t ≡ value_under other t
  pub stands : AgreeOnVars env other vars → (preds : List Predicate) (all : List Atom) (p : Piece) → AreClosedAtoms vars all → StandForAll preds env all p
      → StandForAll preds other all p

abbrev pub ClosedLaw : Type 0
ClosedLaw = (vars : List Var) (env other : Env) → ClosedLaws vars env other

-- assertions that are alike are stood for alike
abbrev pub AlikeLaw : Type 0
AlikeLaw = (preds : List Predicate) (env : Env) (a b : Atom) (p : Piece) → AreAlike a b → StandsFor preds env a p ↔ StandsFor preds env b p
