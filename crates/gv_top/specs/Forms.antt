-- The forms of the texts that are read.
use Rattle.std.specs.Prelude.{◌≡◌, ℕ, List, Vec, map, All}
use Rattle.std.specs.declared.alloc.Global.{Global}
use Rattle.gv_base.specs.Places.{place_at}
use Rattle.gv_base.specs.declared.answers.Place.{Place}
use Rattle.gv_base.specs.declared.answers.Code.{Code}
use Rattle.gv_base.specs.declared.answers.Code.TheVariants.{NotInProfile}
use Rattle.gv_base.specs.declared.small.Small.{Small}
use Rattle.gv_small.specs.Tokens.{start}
use Rattle.gv_top.specs.SmallScript.{IsSmallScript}
use Rattle.gv_top.specs.declared.small_script.SmallScript.{SmallScript}
use Rattle.gv_top.specs.Files.{Form}
use Rattle.gv_top.specs.Packages.{IsPackageOf, IsRefusedPackage}
use Rattle.gv_top.specs.Specifications.{IsSpecFor, IsRefusedSpecFor}
use Rattle.gv_atomic.specs.declared.spec.Spec.{Spec}
use Rattle.gv_spec.specs.declared.entry.Entry.{Entry}
use Rattle.gv_spec.specs.declared.explanation.Move.{Move}
use Rattle.gv_spec.specs.History.{IsEntryOf, IsMoveOf}
use Rattle.gv_specs.specs.Reading as written
use Rattle.gv_replay.specs.Reading as lines

-- a text that spells nothing is refused at its first place
abbrev pub IsOfNone : {A : Type 0} → (List ℕ → A → Type 0) → List ℕ → Place → Code → Type 0
IsOfNone {A} Spells text place code = (place ≡ start) × (code ≡ NotInProfile) × ((x : A) → Spells text x → ⊥)

abbrev pub small_form : {A : Type 0} → (List ℕ → A → Type 0) → Form A
small_form Spells = record { spells = Spells; refuses = IsOfNone Spells }

-- a script with a block for each of the package's operations, in their order
abbrev pub IsScriptFor : Small → List ℕ → SmallScript → Type 0
IsScriptFor program text script = IsSmallScript text script × (map (λ op. op.name) program.ops ≡ map (λ b. b.name) script.ops)

abbrev pub packages : Form Small
packages = record { spells = IsPackageOf; refuses = IsRefusedPackage }

abbrev pub specs_for : Small → Form Small
specs_for program = record { spells = IsSpecFor program; refuses = IsRefusedSpecFor program }

abbrev pub scripts_for : Small → Form SmallScript
scripts_for program = small_form (IsScriptFor program)

-- ---- written specifications, and the texts of lines that they give a meaning

-- a text is refused at the place of one of its bytes
abbrev pub IsPlaced : (List ℕ → ℕ → Code → Type 0) → List ℕ → Place → Code → Type 0
IsPlaced IsRefused text place code = (at : ℕ) × (place ≡ place_at text at) × IsRefused text at code

abbrev pub placed_form : {A : Type 0} → (List ℕ → A → Type 0) → (List ℕ → ℕ → Code → Type 0) → Form A
placed_form Spells IsRefused = record { spells = Spells; refuses = IsPlaced IsRefused }

abbrev pub written_specs : Form Spec
written_specs = placed_form written.Spells written.IsRefused

-- its calls are of operations of the specification, with arguments of their sorts
abbrev pub IsHistoryOf : Spec → List ℕ → Vec Entry Global → Type 0
IsHistoryOf s text history = lines.TellsHistory s text history.items × All (IsEntryOf s) history.items

abbrev pub AreMovesOf : Spec → List ℕ → Vec Move Global → Type 0
AreMovesOf s text moves = lines.TellsMoves s text moves.items × All (IsMoveOf s) moves.items

abbrev pub histories_of : Spec → Form (Vec Entry Global)
histories_of s = placed_form (IsHistoryOf s) (lines.IsRefusedHistory s)

abbrev pub moves_of : Spec → Form (Vec Move Global)
moves_of s = placed_form (AreMovesOf s) (lines.AreRefusedMoves s)
