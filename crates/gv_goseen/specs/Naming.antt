-- Names that are declared one after another.
use Rattle.std.specs.Prelude.{◌≡◌, ℕ, ◌<◌, ◌≤◌, Bool, ◌||◌, not, if◌then◌else◌, List, [], ◌∷◌, ◌++◌, Option, Some, None, slice_get}
use Rattle.gv_base.specs.declared.answers.Code.TheVariants.{Twice}
use Rattle.gv_gosyntax.specs.declared.lexeme.Lexeme.{Lexeme}
use Rattle.gv_gotypes.specs.Scopes.{Source, Method, StructType, Package, is_blank}
use Rattle.gv_gotypes.specs.Types.{Finding, unless}
use Rattle.gv_gotypes.specs.Files.{is_taken}
use Rattle.gv_gotyped.specs.declared.fault.Fault.{Fault}
use Rattle.gv_gonames.specs.declared.span.Span.{Span}

abbrev pub source_with : List ℕ → List Lexeme → Source
source_with text tokens = record { text = text; tokens = tokens }

abbrev pub span_by : Lexeme → Span
span_by t = record { start = t.start; end = t.end }

-- the fault of a name that isn't new
abbrev pub twice_by : List ℕ → Bool → ℕ → Option Fault
twice_by name new start = if new || is_blank name then None else Some (record { start = start; code = Twice })

-- ---- methods

-- what is found of a method with such a name and number, of the struct with a number
abbrev pub method_twice_in : Package → ℕ → List ℕ → ℕ → ℕ → List Finding
method_twice_in p procedure name number start = unless (is_blank name || not (is_taken p procedure name (Some number))) start Twice

-- the struct with a number has these fields, and these methods before the rest
pub record IsGrown (p : Package) (number : ℕ) (s : StructType) (rest : List Method) : Type 0 where
  pub whole : StructType
  pub there : slice_get p.structs number ≡ Some whole
  pub fields : whole.fields ≡ s.fields
  pub methods : whole.methods ≡ s.methods ++ rest

-- all have lower numbers
abbrev pub AreBelow : ℕ → List Method → Type 0
AreBelow number [] = Unit {0}
AreBelow number (m ∷ ms) = (m.procedure < number) × AreBelow number ms

-- none has a lower number
abbrev pub AreFrom : ℕ → List Method → Type 0
AreFrom number [] = Unit {0}
AreFrom number (m ∷ ms) = (number ≤ m.procedure) × AreFrom number ms
