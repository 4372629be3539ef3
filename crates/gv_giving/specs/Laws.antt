-- Rules that give assertions for others, and are sound beside every rest.
use Rattle.std.specs.Prelude.{ℕ, List, [], ◌∷◌}
use Rattle.gv_lang.specs.Tree.{Program}
use Rattle.gv_instances.specs.Instances.{Given}
use Rattle.gv_seats.specs.Paths.{Path, Procedure}
use Rattle.gv_seats.specs.Seats.{Proof}
use Rattle.gv_seats.specs.Changes.{changes_nothing}
use Rattle.gv_seats.specs.Scoping.{IsScoped}
use Rattle.gv_seats.specs.Soundness.{IsSoundMove, IsSoundCall, IsSoundSpawn, IsSoundReturn, IsSoundAnswer}
use Rattle.gv_giving.specs.Answering.{GoesOnBehind}
use Rattle.gv_giving.specs.Folding.{Folds, Unfolds}
use Rattle.gv_giving.specs.Rows.{CallsOne, SpawnsOne, ReturnsFrom}

abbrev pub FoldsLaw : Type 0
FoldsLaw = (o : Proof) (h k : Path) → Folds o h k → IsSoundMove o changes_nothing h (k ∷ [])

abbrev pub UnfoldsLaw : Type 0
UnfoldsLaw = (o : Proof) (h : Path) (ks : List Path) → Unfolds o h ks → IsScoped h → IsSoundMove o changes_nothing h ks

abbrev pub CallsLaw : Type 0
CallsLaw = (o : Proof) (program : Program) (h waiting callee : Path) (given : List Given) → CallsOne program h waiting callee given
    → IsSoundCall o program h waiting callee given

abbrev pub SpawnsLaw : Type 0
SpawnsLaw = (o : Proof) (program : Program) (h k callee : Path) (given : List Given) → SpawnsOne program h k callee given → IsSoundSpawn o program h k callee given

abbrev pub ReturnsLaw : Type 0
ReturnsLaw = (o : Proof) (h : Path) → ReturnsFrom h → IsSoundReturn o h

abbrev pub AnswersLaw : Type 0
AnswersLaw = (o : Proof) (waiting : Path) (given : List Given) (p : Procedure) (targets : List ℕ) (k : Path) → GoesOnBehind waiting given p targets k → IsScoped waiting
    → IsSoundAnswer o waiting given p targets k
