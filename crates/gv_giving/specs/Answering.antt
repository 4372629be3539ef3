-- The row of a caller that goes on behind its call.
use Rattle.std.specs.Prelude.{◌≡◌, ℕ, ◌<◌, List, [], ◌∷◌, ◌++◌, Option, Some, length, slice_set}
use Rattle.gv_terms.specs.declared.tree.TermTree.{TermTree}
use Rattle.gv_terms.specs.declared.var.Var.{Var}
use Rattle.gv_assertions.specs.Atoms.{facts_of, atoms_of}
use Rattle.gv_instances.specs.Instances.{Given, AreSorted, put_in_all, put_in_atoms, AreAllApart}
use Rattle.gv_instances.specs.Agreeing.{AreClosed, AreClosedAtoms}
use Rattle.gv_seats.specs.Paths.{Path, Procedure}
use Rattle.gv_seats.specs.Scoping.{AreNew, variable}
use Rattle.gv_giving.specs.Rows.{vars_of}
use Rattle.gv_giving.specs.Folding.{terms_of, named, AreSortedAs}

-- locals with variables for some of them
abbrev pub with_variables : List (Option TermTree) → List ℕ → List Var → List (Option TermTree)
with_variables terms [] xs = terms
with_variables terms (x ∷ targets) [] = terms
with_variables terms (x ∷ targets) (v ∷ vars) = with_variables (slice_set terms x (Some (variable v))) targets vars

abbrev pub AreLocals : List (Option TermTree) → List ℕ → Type 0
AreLocals terms [] = Unit {0}
AreLocals terms (x ∷ targets) = (x < length terms) × AreLocals terms targets

-- the path behind a call: the results under new names, and what the callee owed of them
abbrev pub behind_call : Path → List Var → List Given → Procedure → List ℕ → Path
behind_call waiting fresh given p targets = record waiting {
  locals = with_variables waiting.locals targets fresh;
  vars = fresh ++ waiting.vars;
  facts = waiting.facts ++ put_in_all (named p.results fresh ++ given) (facts_of p.owed);
  atoms = waiting.atoms ++ put_in_atoms (named p.results fresh ++ given) (atoms_of p.owed);
}

pub data GoesOnBehind (waiting : Path) (given : List Given) (p : Procedure) (targets : List ℕ) : Path → Type 0 where
  goes_on_behind : (fresh : List Var) → AreNew waiting.vars fresh → AreSortedAs p.results fresh → length targets ≡ length fresh → AreLocals waiting.locals targets
      → p.start ≡ vars_of given → AreSorted given → AreClosed waiting.vars (terms_of given)
      → AreClosed (p.results ++ p.start) (facts_of p.owed) → AreClosedAtoms (p.results ++ p.start) (atoms_of p.owed)
      → AreSorted (named p.results fresh) → AreSorted (named p.results fresh ++ given) → AreAllApart (named p.results fresh ++ given) (atoms_of p.owed)
      → GoesOnBehind waiting given p targets (behind_call waiting fresh given p targets)
