-- Tables in which the first of the values that are put at a name counts.
use Rattle.std.specs.Prelude.{ℕ, Bool, if◌then◌else◌, List, Option, Some, None}
use Rattle.std.specs.Str.{bytes_eq}
use Rattle.std.specs.HashMap.{HashMap, get_by}
use Rattle.std.specs.Prelude.{Vec}
use Rattle.std.specs.declared.alloc.Global.{Global}

-- what a table has at a name
abbrev pub value_at : {V S : Type 0} → HashMap (Vec ℕ Global) V S → List ℕ → Option V
value_at table name = get_by (λ k. bytes_eq name k.items) table

-- a value, or another where there is none and the name is its own
abbrev pub or_first : {V : Type 0} → Option V → Bool → V → Option V
or_first (Some x) own v = Some x
or_first None own v = if own then Some v else None
