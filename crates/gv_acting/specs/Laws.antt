-- Rules about modes and acts that are sound beside every rest.
use Rattle.std.specs.Prelude.{List, [], ◌∷◌, map}
use Rattle.gv_terms.specs.declared.tree.TermTree.{TermTree}
use Rattle.gv_terms.specs.Trees.{value_under}
use Rattle.gv_assertions.specs.Standing.{number_under}
use Rattle.gv_seats.specs.Paths.{Path}
use Rattle.gv_seats.specs.Seats.{Proof}
use Rattle.gv_seats.specs.Changes as change
use Rattle.gv_seats.specs.Changes.{Shares}
use Rattle.gv_seats.specs.Soundness.{IsSoundMove}
use Rattle.gv_acting.specs.Acts.{Acts, call_number}
use Rattle.gv_acting.specs.Boots.{Boots, IsSoundBoot}
use Rattle.gv_acting.specs.Rows.{BeginsSharing, EndsSharing}

-- recovery begins to share, and ends it
pub record SharingLaws (o : Proof) (h k : Path) : Type 0 where
  pub begin : BeginsSharing o h k → IsSoundMove o (λ env. Shares) h (k ∷ [])
  pub end : EndsSharing o h k → IsSoundMove o (λ env. Shares) h (k ∷ [])

abbrev pub SharingLaw : Type 0
SharingLaw = (o : Proof) (h k : Path) → SharingLaws o h k

-- a call acts, once, under choices
abbrev pub ActsLaw : Type 0
ActsLaw = (o : Proof) (h : Path) (call : TermTree) (choices : List TermTree) (k : Path) → Acts o h call choices k
    → IsSoundMove o (λ env. change.Acts (call_number (value_under env call)) (map (number_under env) choices)) h (k ∷ [])

-- recovery has returned
abbrev pub BootsLaw : Type 0
BootsLaw = (o : Proof) (h : Path) (choices : List TermTree) (k : Path) → Boots o h choices k → IsSoundBoot o choices h k
