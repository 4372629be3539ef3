-- Which of the faults that are found is told.
use Rattle.std.specs.Prelude.{◌≡◌, ℕ, Bool, ◌&&◌, ◌||◌, ◌==◌, nat_lt, nat_le, if◌then◌else◌, ◌⊎◌, List, [], ◌∷◌, Option, Some, None}
use Rattle.gv_base.specs.Codes.{code_number}
use Rattle.gv_base.specs.declared.answers.Code.{Code}
use Rattle.gv_gotypes.specs.Types.{Finding, Fault, Outer, Assigned}

-- a fault is among what is found
abbrev pub IsFound : List Finding → ℕ → Code → Type 0
IsFound [] at code = ⊥
IsFound (Fault place kind ∷ fs) at code = ((place ≡ at) × (kind ≡ code)) ⊎ IsFound fs at code
IsFound (Outer place declared ∷ fs) at code = IsFound fs at code
IsFound (Assigned declared ∷ fs) at code = IsFound fs at code

-- a fault is told before another: it stands before it, or at its place and has no higher number
abbrev pub is_told_before : ℕ → Code → ℕ → Code → Bool
is_told_before at code other other_code = nat_lt at other || at == other && nat_le (code_number code) (code_number other_code)

abbrev pub first_with : ℕ → Code → Option (ℕ × Code) → ℕ × Code
first_with at code None = (at, code)
first_with at code (Some f) = if is_told_before at code f.0 f.1 then (at, code) else f

-- the one that is told before all others, where there is one
abbrev pub told : List Finding → Option (ℕ × Code)
told [] = None
told (Fault at code ∷ fs) = Some (first_with at code (told fs))
told (Outer at declared ∷ fs) = told fs
told (Assigned declared ∷ fs) = told fs
