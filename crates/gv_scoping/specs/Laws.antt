-- Rules keep that a path speaks of its own variables alone.
use Rattle.gv_seats.specs.Paths.{Path}
use Rattle.gv_seats.specs.Seats.{Proof}
use Rattle.gv_seats.specs.Scoping.{IsScoped}
use Rattle.gv_rules.specs.Rows.{Copies, Opens, Closes, Lets, Loads, Stores, Locks, Unlocks}

-- a rule that leads to one path
abbrev pub KeepsScope : (Path → Path → Type 0) → Type 0
KeepsScope Rule = (h k : Path) → Rule h k → IsScoped h → IsScoped k

pub record RulesKeep : Type 0 where
  pub copies : (o : Proof) → KeepsScope (Copies o)
  pub opens : (o : Proof) → KeepsScope (Opens o)
  pub closes : (o : Proof) → KeepsScope (Closes o)
  pub lets : KeepsScope Lets
  pub loads : KeepsScope Loads
  pub stores : KeepsScope Stores
  pub locks : KeepsScope Locks
  pub unlocks : KeepsScope Unlocks
