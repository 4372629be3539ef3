-- The operations of a specification by their names.
use Rattle.std.specs.Prelude.{ℕ, ◌+◌, if◌then◌else◌, Option, Some, None, option_map, List, [], ◌∷◌}
use Rattle.std.specs.Str.{bytes_eq}
use Rattle.gv_atomic.specs.declared.spec.Op.{Op}

-- the number of the first operation with a name
abbrev pub op_named : List ℕ → List Op → Option ℕ
op_named name [] = None
op_named name (o ∷ os) = if bytes_eq o.name name then Some 0 else option_map (λ n. n + 1) (op_named name os)
