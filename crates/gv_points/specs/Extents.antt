-- How many commands each command has in its blocks, in the order of the text.
use Rattle.std.specs.Prelude.{◌≡◌, ℕ, ◌+◌, List, [], ◌∷◌, ◌++◌, Some, slice_get}
use Rattle.gv_lang.specs.Tree.{Cmd, Do, If, Loop, Break, Continue, Return, Block, finish, next}
use Rattle.gv_lang.specs.Graph.{size}
use Rattle.gv_points.specs.declared.extents.Extent.{Extent}

abbrev pub extent : (whole first : ℕ) → Extent
extent whole first = record { whole = whole; first = first }

abbrev mutual
  pub block_extents : Block → List Extent
  block_extents finish = []
  block_extents (next c b) = command_extents c ++ block_extents b

  pub command_extents : Cmd → List Extent
  command_extents (If e t f place) = extent (size t + size f + 1) (size t) ∷ block_extents t ++ block_extents f
  command_extents (Loop body place) = extent (size body + 1) (size body) ∷ block_extents body
  command_extents (Do a place) = extent 1 0 ∷ []
  command_extents (Break place) = extent 1 0 ∷ []
  command_extents (Continue place) = extent 1 0 ∷ []
  command_extents (Return es place) = extent 1 0 ∷ []

abbrev pub HasFrom : List Extent → ℕ → List Extent → Type 0
HasFrom list at [] = Unit {0}
HasFrom list at (x ∷ xs) = (slice_get list at ≡ Some x) × HasFrom list (at + 1) xs

-- a list has these items from a place on, counted from 0
pub record Holds (list : List Extent) (at : ℕ) (xs : List Extent) : Type 0 where
  pub there : HasFrom list at xs
