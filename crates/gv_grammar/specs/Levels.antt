-- Levels of nesting, by marks among the steps.
use Rattle.std.specs.Prelude.{◌≡◌, ℕ, ◌+◌, ◌-◌, ◌<◌, ◌≤◌, ◌==◌, ◌++◌, nat_lt, length, take, List, [], ◌∷◌, Option, Some, None, if◌then◌else◌}
use Rattle.gv_grammar.specs.declared.steps.Step.{Step}
use Rattle.gv_grammar.specs.declared.steps.Step.TheVariants.{Take, Do}
use Rattle.gv_grammar.specs.declared.levels.TheConstants.{OPEN, SAVE, RESTORE, OPEN_BEFORE}
use Rattle.gv_grammar.specs.Derivation.{Tables, Spells, IsViable}

-- the level kept last, or the present one where none is
abbrev pub top : ℕ → List ℕ → ℕ
top level [] = level
top level (kept ∷ saved) = kept

abbrev pub below_top : List ℕ → List ℕ
below_top [] = []
below_top (kept ∷ saved) = saved

-- the first token that opens a level above the limit, where tokens are numbered from `at` on
abbrev pub deep_from : ℕ → ℕ → List ℕ → ℕ → List Step → Option ℕ
deep_from limit level saved at [] = None
deep_from limit level saved at (Take ∷ steps) = deep_from limit level saved (at + 1) steps
deep_from limit level saved at (Do act ∷ steps) =
    if act == OPEN then (if nat_lt level limit then deep_from limit (level + 1) saved at steps else Some at)
    else (if act == OPEN_BEFORE then (if nat_lt level limit then deep_from limit (level + 1) saved at steps else Some (at - 1))
    else (if act == SAVE then deep_from limit level (level ∷ saved) at steps
    else (if act == RESTORE then deep_from limit (top level saved) (below_top saved) at steps
    else deep_from limit level saved at steps)))

-- how many tokens the steps take
abbrev pub takes_in : List Step → ℕ
takes_in [] = 0
takes_in (Take ∷ steps) = takes_in steps + 1
takes_in (Do act ∷ steps) = takes_in steps

-- no token before this place is too deep
abbrev pub NotBefore : ℕ → Option ℕ → Type 0
NotBefore at deep = (i : ℕ) → deep ≡ Some i → at ≤ i

-- what of a token too deep is found by looking at those before the end alone
abbrev pub IsDeepBefore : ℕ → Option ℕ → Option ℕ → Type 0
IsDeepBefore end deep (Some at) = (deep ≡ Some at) × (at < end)
IsDeepBefore end deep None = NotBefore end deep

module _ (g : Tables) (root level limit : ℕ) where
  -- in each derived list that begins so, this holds of the first token that opens a level above the limit
  abbrev pub EachDerived : List ℕ → (Option ℕ → Type 0) → Type 0
  EachDerived front P = (steps : List Step) (more : List ℕ) → Spells g root steps (front ++ more) → P (deep_from limit level [] 0 steps)

  -- The tokens up to this one, with the next where it takes that to tell, begin a derived list, and in each one that
  -- begins so this is the first token that opens a level above the limit.
  pub record IsTooDeep (classes : List ℕ) (at : ℕ) : Type 0 where
    pub end : ℕ
    pub past : at < end
    pub near : end ≤ at + 2
    pub within : end ≤ length classes
    pub viable : IsViable g root (take end classes)
    pub each : EachDerived (take end classes) (λ deep. deep ≡ Some at)

  -- no token is too deep
  abbrev pub IsShallow : List ℕ → Type 0
  IsShallow classes = (at : ℕ) → IsTooDeep classes at → ⊥
