-- The count of live cells that a store keeps.
use Rattle.std.specs.Prelude.{◌≡◌, ◌≤◌, ◌^◌, ℕ, List, map, sum}
use Rattle.gv_world.specs.Store.{Object, counted}

pub record IsCounted (objects : List Object) (live : ℕ) : Type 0 where
  pub count : live ≡ sum (map counted objects)
  pub within : live ≤ 2 ^ 24
