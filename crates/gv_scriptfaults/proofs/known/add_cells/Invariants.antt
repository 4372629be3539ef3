use Rattle.std.proofs.Common.{◌≡◌, ◌||◌, ◌++◌, ◌∷◌, ℕ, List, take}
use Rattle.std.specs.List.{list_any}
use Rattle.std.specs.Str.{bytes_eq}
use Rattle.gv_scriptfaults.specs.Tables.{has}
use Rattle.gv_scriptfaults.proofs.known.add_cells.Given as goal

abbrev pub invariant-loop-field : goal.invariant-loop-field
invariant-loop-field l = (n : List ℕ) → has l.cells n ≡ (has l.fn.cells n || list_any (λ f. bytes_eq n (l.of.name ++ (46 ∷ f.name))) (take l.field-index l.of.fields))
