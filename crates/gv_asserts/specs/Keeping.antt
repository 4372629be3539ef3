-- What is noted of predicates is what the logic says of them.
use Rattle.std.specs.Prelude.{◌≡◌, ◌↔◌, true, List}
use Rattle.gv_terms.specs.declared.term.Term.{Term}
use Rattle.gv_terms.specs.declared.tree.TermTree.{TermTree}
use Rattle.gv_assertions.specs.Kept.{IsOfKinds}
use Rattle.gv_commands.specs.declared.atom.Atom.{Atom}
use Rattle.gv_commands.specs.declared.decls.Pred.{Pred}
use Rattle.gv_asserts.specs.declared.quality.Quality.{Quality}
use Rattle.gv_asserts.specs.Kinds.{keeps, atom_keeps, table_of}
use Rattle.gv_asserts.specs.Atoms.{atom_at}
use Rattle.gv_asserts.specs.Predicates.{predicates_of, AreEarlier}

-- an atom has a quality by what is noted of predicates just where all its resources have, through every case of every predicate
abbrev pub NotedLaw : Type 0
NotedLaw = (q : Quality) (preds : List Pred) (st : List TermTree) (a : Atom Term) → AreEarlier preds
    → (atom_keeps q (table_of preds) a ≡ true) ↔ IsOfKinds (keeps q) (predicates_of preds) (atom_at st a)
