-- Trees from steps, by acts on a stack of parts.
use Rattle.std.specs.Prelude.{ℕ, ◌-◌, Bool, true, false, ◌&&◌, nat_lt, slice_get, List, [], ◌∷◌, Option, Some, None, if◌then◌else◌}
use Rattle.std.specs.Option.{option_and_then}
use Rattle.gv_grammar.specs.declared.steps.Step.{Step}
use Rattle.gv_grammar.specs.declared.steps.Step.TheVariants.{Take, Do}
use Rattle.gv_grammar.specs.declared.levels.TheConstants.{FIRST_ACT}

-- the parts on top pass these tests, the top one the first
abbrev pub has_tops : {P : Type 0} → List (P → Bool) → List P → Bool
has_tops [] parts = true
has_tops (test ∷ tests) [] = false
has_tops (test ∷ tests) (part ∷ parts) = test part && has_tops tests parts

-- An act: tests of the parts that it takes off the top, and what it makes of a stack whose top passes them.
pub record Reduction (P : Type 0) : Type 0 where
  pub takes : List (P → Bool)
  pub makes : List P → List P

-- whether an act takes what is on top; acts are numbered behind the marks
abbrev pub accepts : {P : Type 0} → List (Reduction P) → ℕ → List P → Bool
accepts acts number parts = elim (slice_get acts (number - FIRST_ACT)) [ None ↦ false | Some act ↦ has_tops act.takes parts ]

abbrev pub made_by : {P : Type 0} → List (Reduction P) → ℕ → List P → List P
made_by acts number parts = elim (slice_get acts (number - FIRST_ACT)) [ None ↦ parts | Some act ↦ act.makes parts ]

-- what an act makes of the parts, if it takes them
abbrev pub act_of : {P : Type 0} → List (Reduction P) → ℕ → List P → Option (List P)
act_of acts number parts = if accepts acts number parts then Some (made_by acts number parts) else None

-- the parts that steps leave, where a token taken is a part
abbrev pub run : {X P : Type 0} → (X → P) → (ℕ → List P → Option (List P)) → List Step → List X → List P → Option (List P)
run part_of make [] [] parts = Some parts
run part_of make [] (token ∷ tokens) parts = None
run part_of make (Take ∷ steps) [] parts = None
run part_of make (Take ∷ steps) (token ∷ tokens) parts = run part_of make steps tokens (part_of token ∷ parts)
run part_of make (Do number ∷ steps) tokens parts =
    option_and_then (λ made. run part_of make steps tokens made) (if nat_lt number FIRST_ACT then Some parts else make number parts)

-- one part is left, which passes this test
abbrev pub is_whole : {P : Type 0} → (P → Bool) → Option (List P) → Bool
is_whole test None = false
is_whole test (Some []) = false
is_whole test (Some (part ∷ [])) = test part
is_whole test (Some (part ∷ more ∷ rest)) = false
