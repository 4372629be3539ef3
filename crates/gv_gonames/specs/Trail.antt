-- Scopes by the trail of what was declared and opened, the last step first.
use Rattle.std.specs.Prelude.{◌≡◌, ℕ, suc, Bool, true, false, ◌==◌, nat_lt, if◌then◌else◌, List, [], ◌∷◌, reverse, Option, Some, None, option_map, option_and_then}
use Rattle.std.specs.Str.{bytes_eq}
use Rattle.gv_operands.specs.declared.types.GoType.{GoType}
use Rattle.gv_gotypes.specs.declared.names.Entity.{Entity}
use Rattle.gv_gotypes.specs.declared.names.Found.{Found}
use Rattle.gv_gotypes.specs.Scopes.{Named, Entry, is_here}
use Rattle.gv_gotypes.specs.Scopes as entry
use Rattle.gv_gonames.specs.declared.trail.Local.{Local}
use Rattle.gv_gonames.specs.declared.trail.DeclaredStep.{DeclaredStep}
use Rattle.gv_gonames.specs.declared.trail.Step.{Step}
use Rattle.gv_gonames.specs.declared.trail.Step.TheVariants.{Declared, Opened, Literal, Function}

-- ---- what contracts see

-- entries, and the types of the results of the function around
pub record Around : Type 0 where
  pub entries : List Entry
  pub results : List (Option GoType)

-- with the same for each scope that isn't closed, as it was when that was opened, the last one first
pub record ScopesOf : Type 0 where
  pub here : Around
  pub outer : List Around

abbrev pub with_entry : Around → Entry → Around
with_entry a e = record { entries = e ∷ a.entries; results = a.results }

abbrev pub entered : ScopesOf → Around → ScopesOf
entered s here = record { here = here; outer = s.here ∷ s.outer }

abbrev pub is_around : List Around → Bool
is_around [] = false
is_around (a ∷ more) = true

-- behind a declaration, where the block that was opened last has none of this name
abbrev pub entry_with : List Entry → List ℕ → Entity → List Entry
entry_with es name e = if is_here es name then es else entry.Declared (record { name = name; entity = e }) ∷ es

abbrev pub with_declared : ScopesOf → List ℕ → Entity → ScopesOf
with_declared s name e = record { here = record { entries = entry_with s.here.entries name e; results = s.here.results }; outer = s.outer }

-- ---- the trail

abbrev pub step_name : DeclaredStep → Named
step_name d = record { name = d.name.items; entity = d.entity }

abbrev pub entries_of : List Step → List Entry
entries_of [] = []
entries_of (Declared d ∷ ss) = entry.Declared (step_name d) ∷ entries_of ss
entries_of (Opened ∷ ss) = entry.Opened ∷ entries_of ss
entries_of (Literal r ∷ ss) = entry.Literal ∷ entries_of ss
entries_of (Function r ∷ ss) = entries_of ss

abbrev pub around : List Step → List (Option GoType) → Around
around ss r = record { entries = entries_of ss; results = r }

abbrev pub outer_of : List (Option GoType) → List Step → List Around
outer_of r [] = []
outer_of r (Declared d ∷ ss) = outer_of r ss
outer_of r (Opened ∷ ss) = around ss r ∷ outer_of r ss
outer_of r (Literal b ∷ ss) = around ss b.items ∷ outer_of b.items ss
outer_of r (Function b ∷ ss) = around ss b.items ∷ outer_of b.items ss

abbrev pub scopes_of : List Step → List (Option GoType) → ScopesOf
scopes_of trail r = record { here = around (reverse trail) r; outer = outer_of r (reverse trail) }

-- ---- the innermost declaration of a name

abbrev pub count_blocks : List Entry → ℕ
count_blocks [] = 0
count_blocks (entry.Declared n ∷ es) = count_blocks es
count_blocks (entry.Opened ∷ es) = suc (count_blocks es)
count_blocks (entry.Literal ∷ es) = suc (count_blocks es)

abbrev pub count_literals : List Entry → ℕ
count_literals [] = 0
count_literals (entry.Declared n ∷ es) = count_literals es
count_literals (entry.Opened ∷ es) = count_literals es
count_literals (entry.Literal ∷ es) = suc (count_literals es)

abbrev pub local_of : List Entry → Entity → Local
local_of es e = record { entity = e; blocks = count_blocks es; literals = count_literals es }

abbrev pub local_in : List Entry → List ℕ → Option Local
local_in [] name = None
local_in (entry.Declared n ∷ es) name = if bytes_eq n.name name then Some (local_of es n.entity) else local_in es name
local_in (entry.Opened ∷ es) name = local_in es name
local_in (entry.Literal ∷ es) name = local_in es name

-- ---- what the table keeps

abbrev pub flat : {T : Type 0} → Option (Option T) → Option T
flat o = option_and_then (λ x. x) o

-- each declaration has what its name stood for before it
abbrev pub AreChained : List Step → Type 0
AreChained [] = Unit {0}
AreChained (Declared d ∷ ss) = (d.before ≡ local_in (entries_of ss) d.name.items) × AreChained ss
AreChained (Opened ∷ ss) = AreChained ss
AreChained (Literal r ∷ ss) = AreChained ss
AreChained (Function r ∷ ss) = AreChained ss

-- a table has of each name the innermost declaration
pub record IsKept (ss : List Step) (at : List ℕ → Option (Option Local)) (blocks literals : ℕ) : Type 0 where
  pub found : (name : List ℕ) → flat (at name) ≡ local_in (entries_of ss) name
  pub chained : AreChained ss
  pub blocks_are : blocks ≡ count_blocks (entries_of ss)
  pub literals_are : literals ≡ count_literals (entries_of ss)

-- what a name stands for by its innermost declaration, or that of the package
abbrev pub found_by : Option Local → Option Entity → ℕ → Option Found
found_by (Some l) other literals = Some (record { entity = l.entity; is_outer = nat_lt l.literals literals })
found_by None other literals = option_map (λ e. record { entity = e; is_outer = nat_lt 0 literals }) other

abbrev pub is_here_by : Option Local → ℕ → Bool
is_here_by None blocks = false
is_here_by (Some l) blocks = l.blocks == blocks
