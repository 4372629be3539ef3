-- Rules about the blocks of disks that are sound beside every rest.
use Rattle.std.specs.Prelude.{ℕ, List, [], ◌∷◌}
use Rattle.gv_terms.specs.declared.tree.TermTree.{TermTree}
use Rattle.gv_assertions.specs.Standing.{number_under}
use Rattle.gv_seats.specs.Paths.{Path}
use Rattle.gv_seats.specs.Seats.{Proof}
use Rattle.gv_seats.specs.Changes.{SetsBlock, changes_nothing}
use Rattle.gv_seats.specs.Scoping.{IsScoped}
use Rattle.gv_seats.specs.Soundness.{IsSoundStep}
use Rattle.gv_blocks.specs.Rows.{ReadsDisk, WritesDisk}

abbrev pub ReadsLaw : Type 0
ReadsLaw = (o : Proof) (h : Path) (ks : List Path) → ReadsDisk o h ks → IsScoped h → IsSoundStep o changes_nothing h ks

abbrev pub WritesLaw : Type 0
WritesLaw = (o : Proof) (h : Path) (d : ℕ) (address : TermTree) (k : Path) → WritesDisk h d address k
    → IsSoundStep o (λ env. SetsBlock d (number_under env address)) h (k ∷ [])
