-- The table of calls as the function that the definitions speak of.
use Rattle.std.specs.Prelude.{ℕ, Option, nat_eq}
use Rattle.std.specs.HashMap.{get}
use Rattle.gv_terms.specs.declared.value.Value.{Value}
use Rattle.gv_spec.specs.Walks.{Standing}
use Rattle.gv_history.specs.declared.seen.Standing as held
use Rattle.gv_history.specs.declared.table.Table.{Table}
use Rattle.gv_history.specs.Seen.{standing_since, present_since}

abbrev pub standing_in : Table → ℕ → Standing Value
standing_in t n = standing_since t.boots (get nat_eq t.calls n)

abbrev pub present_in : Table → ℕ → Option held.Standing
present_in t n = present_since t.boots (get nat_eq t.calls n)
