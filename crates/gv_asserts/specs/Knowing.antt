-- Facts that follow, as moves of the logic.
use Rattle.std.specs.Prelude.{◌≡◌, List, [], ◌∷◌, ◌++◌}
use Rattle.std.specs.List.{All}
use Rattle.gv_terms.specs.declared.tree.TermTree.{TermTree}
use Rattle.gv_terms.specs.declared.value.Env.{Env}
use Rattle.gv_terms.specs.Ranges.{IsValuation}
use Rattle.gv_axioms.specs.Truth.{IsTrueUnder}
use Rattle.gv_seats.specs.Paths.{Path}
use Rattle.gv_seats.specs.Seats.{Proof}
use Rattle.gv_seats.specs.Changes.{changes_nothing}
use Rattle.gv_seats.specs.Soundness.{IsSoundMove}

-- every valuation that meets the facts meets a formula
abbrev pub FollowsFrom : List TermTree → TermTree → Type 0
FollowsFrom facts f = (env : Env) → IsValuation env → All (IsTrueUnder env) facts → IsTrueUnder env f

-- no valuation meets the facts
abbrev pub MeetNothing : List TermTree → Type 0
MeetNothing facts = (env : Env) → IsValuation env → All (IsTrueUnder env) facts → ⊥

abbrev pub with_facts : Path → List TermTree → Path
with_facts p facts = record p { facts = facts }

-- what follows from the facts of a path is added by a move that is sound beside every rest
abbrev pub KnowingLaw : Type 0
KnowingLaw = (o : Proof) (p : Path) (f : TermTree) → FollowsFrom p.facts f → IsSoundMove o changes_nothing p (with_facts p (p.facts ++ f ∷ []) ∷ [])

-- where no valuation meets them, no frame stands at the path
abbrev pub EndingLaw : Type 0
EndingLaw = (o : Proof) (p : Path) → MeetNothing p.facts → IsSoundMove o changes_nothing p []

-- Facts of a state became others: at every path with the first ones, for every proof, that is a sound move to the path with the second ones.
abbrev pub IsSoundAddition : List TermTree → List TermTree → Type 0
IsSoundAddition facts more = (o : Proof) (p : Path) → p.facts ≡ facts → IsSoundMove o changes_nothing p (with_facts p more ∷ [])

-- at every path with these facts, for every proof, it is sound to go on nowhere
abbrev pub IsSoundEnd : List TermTree → Type 0
IsSoundEnd facts = (o : Proof) (p : Path) → p.facts ≡ facts → IsSoundMove o changes_nothing p []
