-- Scopes that a walk opened.
use Rattle.std.specs.Prelude.{◌≡◌, List, [], ◌∷◌, Option}
use Rattle.gv_operands.specs.declared.types.GoType.{GoType}
use Rattle.gv_gotypes.specs.Scopes.{Env}

-- some scope was opened and isn't closed yet
abbrev pub IsAround : List Env → Type 0
IsAround [] = ⊥
IsAround (env ∷ envs) = Unit {0}

-- within a function that gives results of these types
abbrev pub with_results : Env → List (Option GoType) → Env
with_results env results = record { source = env.source; declared = env.declared; entries = env.entries; results = results }
