-- The table of operations.
use Rattle.std.specs.Prelude.{◌≡◌, ℕ, Option, List}
use Rattle.std.specs.HashMap.{get}
use Rattle.std.specs.Str.{bytes_eq}
use Rattle.gv_atomic.specs.declared.spec.Op.{Op}
use Rattle.gv_replay.specs.declared.operations.Operations.{Operations}
use Rattle.gv_replay.specs.Operations.{op_named}

-- the number that the table holds for a name
abbrev pub number_in : Operations → List ℕ → Option ℕ
number_in table name = get bytes_eq table.numbers name

-- the table holds for each name the number of the first operation with it
abbrev pub IsTableOf : List Op → Operations → Type 0
IsTableOf ops table = (name : List ℕ) → number_in table name ≡ op_named name ops
