-- Tables of names, and what they say of the names of a list.
use Rattle.std.specs.Prelude.{◌≡◌, ℕ, Bool, List, Option, Some, None, option_map, if◌then◌else◌}
use Rattle.std.specs.HashSet.{contains}
use Rattle.std.specs.HashMap.{get}
use Rattle.std.specs.Str.{bytes_eq}
use Rattle.gv_scriptnames.specs.Scopes.{is_borne, named}
use Rattle.gv_scriptfaults.specs.declared.names.NameSet.{NameSet}
use Rattle.gv_scriptfaults.specs.declared.names.Table.{Table}

-- the set has this name
abbrev pub has : NameSet → List ℕ → Bool
has s n = contains bytes_eq s.names n

-- it has just these names
abbrev pub Holds : List (List ℕ) → NameSet → Type 0
Holds names s = (n : List ℕ) → has s n ≡ is_borne names n

-- what a table has for a name
abbrev pub entry : {V : Type 0} → Table V → List ℕ → Option V
entry t n = get bytes_eq t.entries n

-- it has for each name a value of the first item that bears it
abbrev pub IsTable : {T V : Type 0} → (T → List ℕ) → (T → V) → List T → Table V → Type 0
IsTable name_of value_of items t = (n : List ℕ) → entry t n ≡ option_map value_of (named name_of items n)

-- what is had for a name after a value was kept for one, where that is the name
abbrev pub kept : {V : Type 0} → Option V → Bool → V → Option V
kept (Some v) same value = Some v
kept None same value = if same then Some value else None
