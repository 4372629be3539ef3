-- A predicate stands at the same values, however they are spelled.
use Rattle.std.proofs.Common.{◌≡◌, ℕ, List, sym, subst}
use Rattle.gv_terms.specs.declared.tree.TermTree.{TermTree}
use Rattle.gv_terms.specs.declared.value.Env.{Env}
use Rattle.gv_terms.specs.declared.value.Value.{Value}
use Rattle.gv_resources.specs.Pieces.{Piece}
use Rattle.gv_assertions.specs.Atoms.{Instance, Predicate, facts_of, atoms_of}
use Rattle.gv_assertions.specs.Standing.{StandsFor, StandForAll, AreTrueUnder, instance, case_env, valued}

pub at_values : (preds : List Predicate) (env other : Env) (number : ℕ) (args given : List TermTree) (p : Piece) → valued other given ≡ valued env args
    → StandsFor preds env (Instance number args) p → StandsFor preds other (Instance number given) p
at_values preds env other number args given p same (instance pred place case own is_pred is_case values facts stands) =
    instance pred place case own is_pred is_case values
    (subst (λ (xs : List Value). AreTrueUnder (case_env pred case xs own) (facts_of case.items)) (sym same) facts)
    (subst (λ (xs : List Value). StandForAll preds (case_env pred case xs own) (atoms_of case.items) p) (sym same) stands)
