-- Where numbers lead, by the rows of those that each of them names.
use Rattle.std.specs.Prelude.{◌≡◌, ℕ, suc, zero, ◌⊎◌, List, [], ◌∷◌, map}
use Rattle.std.specs.Global.{Vec}

abbrev pub items_of : Vec ℕ → List ℕ
items_of v = v.items

abbrev pub lists_of : List (Vec ℕ) → List (List ℕ)
lists_of vs = map items_of vs

abbrev pub IsIn : ℕ → List ℕ → Type 0
IsIn n [] = ⊥
IsIn n (m ∷ ms) = (m ≡ n) ⊎ IsIn n ms

-- what a number names; one without a row names nothing
abbrev pub row : List (List ℕ) → ℕ → List ℕ
row [] n = []
row (r ∷ rs) zero = r
row (r ∷ rs) (suc n) = row rs n

-- a number leads to another over so many steps, each to one that is named
abbrev pub LeadsIn : ℕ → List (List ℕ) → ℕ → ℕ → Type 0
LeadsIn zero rows from to = from ≡ to
LeadsIn (suc steps) rows from to = (next : ℕ) × (IsIn next (row rows from) × LeadsIn steps rows next to)

-- it leads there, if only by being it
pub record Leads (rows : List (List ℕ)) (from to : ℕ) : Type 0 where
  pub steps : ℕ
  pub path : LeadsIn steps rows from to
