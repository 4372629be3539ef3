-- Tables of numbers by names.
use Rattle.std.specs.Prelude.{◌≡◌, ℕ, ◌+◌, List, [], ◌∷◌, Option, Some, None, option_map, if◌then◌else◌}
use Rattle.std.specs.HashMap.{get}
use Rattle.std.specs.Str.{bytes_eq}
use Rattle.gv_interfaces.specs.declared.names.NameTable.{NameTable}

-- the number of the first one, from 0
abbrev pub number_among : List (List ℕ) → List ℕ → Option ℕ
number_among [] name = None
number_among (n ∷ ns) name = if bytes_eq n name then Some 0 else option_map (λ k. k + 1) (number_among ns name)

abbrev pub number_in : NameTable → List ℕ → Option ℕ
number_in table name = get bytes_eq table.numbers name

-- the table holds the number of each name
abbrev pub IsTableOf : List (List ℕ) → NameTable → Type 0
IsTableOf names table = (name : List ℕ) → number_in table name ≡ number_among names name
