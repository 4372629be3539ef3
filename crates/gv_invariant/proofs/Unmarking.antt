-- The heap without its marks: all else is told as before.
use Rattle.std.proofs.Common.{◌≡◌, ℕ, zero, suc, Bool, true, false, ◌&&◌, List, [], ◌∷◌, map, length, Option, Some, None, refl, sym, ap, subst, ◌∙◌}
use Rattle.std.specs.Prelude.{slice_get}
use Rattle.gv_terms.specs.declared.value.Value.{Value}
use Rattle.gv_terms.specs.Values.{bool_eq}
use Rattle.gv_world.specs.declared.cell.Cell.{Cell}
use Rattle.gv_world.specs.Store as world
use Rattle.gv_world.specs.Store.{Object, Store as World}
use Rattle.gv_resources.specs.Kinds as kind
use Rattle.gv_resources.specs.Kinds.{Kind}
use Rattle.gv_resources.specs.Ghost.{Ghost}
use Rattle.gv_resources.specs.Told.{Shape, told, only_if, object_at, cells_in, in_cell, cell_at, map_in, locked_in, free_mutex, held_mutex, guarded_by, cell_of, object_of}
use Rattle.gv_seats.specs.Seats.{Target, CellAt, MapAt, IsMarked, is_marked, map_mark}
use Rattle.gv_seats.proofs.Telling.{under_same}

abbrev cell_without : Cell → Cell
cell_without c = record c { marked = false }

abbrev object_without : Object → Object
object_without (world.Cells cells) = world.Cells (map cell_without cells)
object_without (world.Map entries marked) = world.Map entries false
object_without (world.Mutex locked) = world.Mutex locked

abbrev pub unmarked : World → World
unmarked w = record w { objects = map object_without w.objects }

abbrev without : Option Object → Option Object
without None = None
without (Some x) = Some (object_without x)

mapped : (xs : List Object) (n : ℕ) → slice_get (map object_without xs) n ≡ without (slice_get xs n)
mapped [] n = refl
mapped (x ∷ xs) zero = refl
mapped (x ∷ xs) (suc n) = mapped xs n

object_is : (w : World) (o : ℕ) → object_at (unmarked w) o ≡ without (object_at w o)
object_is w zero = refl
object_is w (suc n) = mapped w.objects n

pub as_many : (xs : List Object) → length (map object_without xs) ≡ length xs
as_many [] = refl
as_many (x ∷ xs) = ap suc (as_many xs)

same_cells : (cells : List Cell) (i : ℕ) → in_cell (slice_get (map cell_without cells) i) ≡ in_cell (slice_get cells i)
same_cells [] i = refl
same_cells (c ∷ cells) zero = refl
same_cells (c ∷ cells) (suc i) = same_cells cells i

cell_same : (x : Option Object) (i : ℕ) → in_cell (slice_get (cells_in (without x)) i) ≡ in_cell (slice_get (cells_in x) i)
cell_same None i = refl
cell_same (Some (world.Cells cells)) i = same_cells cells i
cell_same (Some (world.Map entries marked)) i = refl
cell_same (Some (world.Mutex locked)) i = refl

map_same : (x : Option Object) → map_in (without x) ≡ map_in x
map_same None = refl
map_same (Some (world.Cells cells)) = refl
map_same (Some (world.Map entries marked)) = refl
map_same (Some (world.Mutex locked)) = refl

lock_same : (x : Option Object) → locked_in (without x) ≡ locked_in x
lock_same None = refl
lock_same (Some (world.Cells cells)) = refl
lock_same (Some (world.Map entries marked)) = refl
lock_same (Some (world.Mutex locked)) = refl

pub locked_same : (w : World) (o : ℕ) → locked_in (object_at (unmarked w) o) ≡ locked_in (object_at w o)
locked_same w o = ap locked_in (object_is w o) ∙ lock_same (object_at w o)

module _ (z : Shape) (w : World) (g : Ghost) where
  cells_same : (frozen sliced : Bool) (o i : ℕ) → cell_at w g frozen sliced o i ≡ cell_at (unmarked w) g frozen sliced o i
  cells_same frozen sliced o i =
      ap (λ x. only_if (bool_eq (g.frozen o i) frozen && bool_eq (g.sliced o) sliced) x) (sym (ap (λ y. in_cell (slice_get (cells_in y) i)) (object_is w o) ∙ cell_same (object_at w o) i))

  pub told_unmarked : (k : Kind) (key : List Value) → told z w g k key ≡ told z (unmarked w) g k key
  told_unmarked kind.Cell key = under_same (cell_of key) _ _ (λ c. cells_same false false c.0 c.1)
  told_unmarked kind.FrozenCell key = under_same (cell_of key) _ _ (λ c. cells_same true false c.0 c.1)
  told_unmarked kind.Item key = under_same (cell_of key) _ _ (λ c. cells_same false true c.0 c.1)
  told_unmarked kind.FrozenItem key = under_same (cell_of key) _ _ (λ c. cells_same true true c.0 c.1)
  told_unmarked kind.Map key = under_same (object_of key) _ _ (λ o. sym (ap map_in (object_is w o) ∙ map_same (object_at w o)))
  told_unmarked kind.Mutex key = under_same (object_of key) _ _ (λ o. ap (λ x. free_mutex x (g.guards o)) (sym (locked_same w o)))
  told_unmarked kind.Held key = under_same (object_of key) _ _ (λ o. ap (λ x. held_mutex x (g.guards o)) (sym (locked_same w o)))
  told_unmarked kind.Lock key = under_same (object_of key) _ _ (λ o. ap (λ x. guarded_by x (g.guards o)) (sym (locked_same w o)))
  told_unmarked _ key = refl

no_mark : (cells : List Cell) (i : ℕ) → is_marked (slice_get (map cell_without cells) i) ≡ true → ⊥
no_mark [] i m = cc
no_mark (c ∷ cells) zero m = cc
no_mark (c ∷ cells) (suc i) m = no_mark cells i m

-- nothing is marked
pub none_marked : (w : World) (t : Target) → IsMarked (unmarked w) t → ⊥
none_marked w (CellAt o i) m = at (object_at w o) (sym (ap (λ y. is_marked (slice_get (cells_in y) i)) (object_is w o)) ∙ m)
  where
    at : (x : Option Object) → is_marked (slice_get (cells_in (without x)) i) ≡ true → ⊥
    at None m = cc
    at (Some (world.Cells cells)) m = no_mark cells i m
    at (Some (world.Map entries marked)) m = cc
    at (Some (world.Mutex locked)) m = cc
none_marked w (MapAt o) m = at (object_at w o) (sym (ap map_mark (object_is w o)) ∙ m)
  where
    at : (x : Option Object) → map_mark (without x) ≡ true → ⊥
    at None m = cc
    at (Some (world.Cells cells)) m = cc
    at (Some (world.Map entries marked)) m = cc
    at (Some (world.Mutex locked)) m = cc
