use Rattle.std.proofs.Common.{◌≡◌, ℕ, List, take}
use Rattle.std.specs.List.{list_any}
use Rattle.gv_scriptnames.specs.Scopes.{is_field_of}
use Rattle.gv_scriptfaults.specs.Tables.{has}
use Rattle.gv_scriptfaults.proofs.known.cells_of.Given as goal

abbrev pub invariant-loop-of : goal.invariant-loop-of
invariant-loop-of l = (n : List ℕ) → has l.cells n ≡ list_any (is_field_of n) (take l.of-index l.structs)
