-- Faults of the items of a list.
use Rattle.std.specs.Prelude.{◌≡◌, ℕ, List, Some, slice_get}
use Rattle.gv_base.specs.declared.answers.Code.{Code}

-- An item of a list has a fault. What is a fault of an item may depend on the items before it, so on its number.
pub record HasItemFault {T : Type 0} (Has : ℕ → T → ℕ → Code → Type 0) (items : List T) (at : ℕ) (code : Code) : Type 0 where
  pub number : ℕ
  pub item : T
  pub there : slice_get items number ≡ Some item
  pub fault : Has number item at code
