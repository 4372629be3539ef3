-- What the accesses of a store do to the one object that they reach.
use Rattle.std.specs.Prelude.{ℕ, true, false, not, List, Option, Some, length, if◌then◌else◌}
use Rattle.gv_base.specs.declared.reason.Reason.TheVariants.{OutOfRange, Race, UnlockFree}
use Rattle.gv_base.specs.declared.answer.Answer.{Answer}
use Rattle.gv_base.specs.declared.answer.Answer.TheVariants.{Next, Blocked}
use Rattle.gv_base.specs.declared.val.Val.{Val}
use Rattle.gv_world.specs.declared.cell.Cell.{Cell}
use Rattle.gv_world.specs.Answers.{and_then, undefined_if}
use Rattle.gv_world.specs.Store.{Object, Cells, Map, Mutex, counted}
use Rattle.gv_world.specs.Cells.{as_cells, run, is_short, unmarked, with_marks, with_items, only_bytes}
use Rattle.gv_world.specs.FiniteMaps.{as_map, changed}
use Rattle.gv_world.specs.Mutexes.{as_mutex}

-- ---- to a list of cells

abbrev pub cells_begun : List Cell → (index count : ℕ) → Answer (List Cell)
cells_begun cells index count = and_then (unmarked (run cells index count) count) (λ found. Next (with_marks cells index count))

abbrev pub cells_ended : List Cell → ℕ → List Val → Answer (List Cell)
cells_ended cells index items =
    undefined_if (is_short (run cells index (length items)) (length items)) OutOfRange (Next (with_items cells index items))

-- ---- to an object

abbrev pub of_cells : Answer (List Cell) → Answer Object
of_cells answer = and_then answer (λ cells. Next (Cells cells))

abbrev pub begun : Object → (index count : ℕ) → Answer Object
begun object index count = and_then (as_cells (Some object)) (λ cells. of_cells (cells_begun cells index count))

abbrev pub begun_bytes : Object → (index count : ℕ) → Answer Object
begun_bytes object index count =
    and_then (as_cells (Some object)) (λ cells. of_cells (only_bytes (run cells index count) (cells_begun cells index count)))

abbrev pub ended : Object → ℕ → List Val → Answer Object
ended object index items = and_then (as_cells (Some object)) (λ cells. of_cells (cells_ended cells index items))

abbrev pub map_begun : Object → Answer Object
map_begun object = and_then (as_map (Some object)) (λ m. undefined_if m.1 Race (Next (Map m.0 true)))

abbrev pub map_ended : Object → ℕ → Option ℕ → Answer Object
map_ended object key item = and_then (as_map (Some object)) (λ m. Next (Map (changed m.0 key item) false))

-- how many cells an object counts after that
abbrev pub counted_after : Object → ℕ → Option ℕ → ℕ
counted_after (Map entries marked) key item = counted (Map (changed entries key item) false)
counted_after other key item = counted other

abbrev pub locked : Object → Answer Object
locked object = and_then (as_mutex (Some object)) (λ is. if is then Blocked else Next (Mutex true))

abbrev pub unlocked : Object → Answer Object
unlocked object = and_then (as_mutex (Some object)) (λ is. undefined_if (not is) UnlockFree (Next (Mutex false)))
