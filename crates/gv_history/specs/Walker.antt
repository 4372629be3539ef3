-- The walker as the walk that the definitions speak of.
use Rattle.std.specs.Prelude.{◌≡◌, ℕ, ◌<◌, List, length}
use Rattle.gv_terms.specs.declared.value.Value.{Value}
use Rattle.gv_atomic.specs.declared.spec.Spec.{Spec}
use Rattle.gv_spec.specs.Walks.{Called, WalkState}
use Rattle.gv_history.specs.declared.walker.Walker.{Walker}
use Rattle.gv_history.specs.Table.{standing_in}

abbrev pub walk_in : Walker → WalkState (List Value) Value
walk_in w = record { fields = w.fields.values; table = standing_in w.table }

-- each call in the table is of an operation of the specification
abbrev pub HasOps : Spec → WalkState (List Value) Value → Type 0
HasOps s w = (n op : ℕ) (args : List Value) → w.table n ≡ Called op args → op < length s.ops
