-- What holds of the programs of packages of the small form.
use Rattle.std.specs.Prelude.{◌≡◌, ℕ, ◌+◌, ◌^◌, ◌<◌, Bool, true, not, ◌&&◌, nat_eq, nat_lt, List, Some, length, map}
use Rattle.std.specs.List.{list_all}
use Rattle.gv_base.specs.declared.small.Small.{Small}
use Rattle.gv_base.specs.declared.small.SmallOp.{SmallOp}
use Rattle.gv_base.specs.declared.small.Part.{Part}
use Rattle.gv_base.specs.declared.small.Part.TheVariants as part
use Rattle.gv_small.specs.Forms.{is_distinct}
use Rattle.gv_gotree.specs.SmallPackage.{IsSmallPackage}
use Rattle.gv_lang.specs.WellShaped.{is_well_shaped, too_many}
use Rattle.gv_terms.specs.declared.value.Value.{Value}
use Rattle.gv_atomic.specs.declared.spec.Spec.{Spec}
use Rattle.gv_smallspec.specs.SmallSpec.{IsSmallOf}
use Rattle.gv_spec.specs.Atomic.{atomic_of}
use Rattle.gv_smallprogram.specs.Sums.{SameInterface, AgreeOps}
use Rattle.gv_spec.specs.Refines.{Refines, RefinesWithoutCrash}
use Rattle.gv_runs.specs.Machine as runs
use Rattle.gv_runs.specs.Machine.{machine_of}
use Rattle.gv_smallprogram.specs.Program.{Unkept, program_with}
use Rattle.gv_smallprogram.specs.Specification.{setting_of, reply_to, specification_of}

-- ---- what a reader of the small form makes sure of

-- an argument that is there, or a number below 2 ^ 64
abbrev pub is_sound_part : ℕ → Part → Bool
is_sound_part count (part.Param place) = nat_lt place count
is_sound_part count (part.Number value) = nat_lt value (2 ^ 64)

abbrev pub is_sound_op : SmallOp → Bool
is_sound_op op = is_sound_part (length op.params) op.first && list_all (λ turn. is_sound_part (length op.params) turn.part) op.rest

-- no two operations have one name, and each Sum is of the operation's own arguments
pub record IsSound (small : Small) : Type 0 where
  pub names : is_distinct (map (λ op. op.name) small.ops) ≡ true
  pub sums : list_all is_sound_op small.ops ≡ true

-- every package that a text spells is so
abbrev pub PackagesAreSound : Type 0
PackagesAreSound = (text : List ℕ) (small : Small) → IsSmallPackage text small → IsSound small

-- ---- the program

-- the name of the package's type is a word, so that what follows the first dot of a method's name is the operation's
abbrev pub IsWord : Unkept → Type 0
IsWord unkept = list_all (λ c. not (nat_eq c 46)) unkept.type_name ≡ true

-- a program has fewer than 2 ^ 32 - 1 commands
abbrev pub AreFew : Small → Type 0
AreFew small = length small.ops + 2 < too_many

abbrev pub ProgramsAreWellShaped : Type 0
ProgramsAreWellShaped = (unkept : Unkept) (small : Small) → IsWord unkept → IsSound small → AreFew small
    → is_well_shaped (program_with unkept small) ≡ true

-- ---- its runs

-- every run of the program, and every one without a crash, has no undefined step and a history that the specification explains
pub record ProgramRefines (unkept : Unkept) (program small : Small) : Type 0 where
  pub every : Refines (machine_of (program_with unkept program) (setting_of small)) (specification_of small)
  pub without_crash : RefinesWithoutCrash (machine_of (program_with unkept program) (setting_of small)) (specification_of small)

-- where both have the same operations with the same Sums
abbrev pub ProgramsRefine : Type 0
ProgramsRefine = (unkept : Unkept) (program small : Small) → IsWord unkept → IsSound program → AgreeOps program small → ProgramRefines unkept program small

-- the same of a specification as it was written
pub record RefinesWritten (unkept : Unkept) (program : Small) (s : Spec) : Type 0 where
  pub every : Refines (machine_of (program_with unkept program) (runs.setting_of s)) (atomic_of s)
  pub without_crash : RefinesWithoutCrash (machine_of (program_with unkept program) (runs.setting_of s)) (atomic_of s)

-- where it is of the small form, and both have the same operations with the same Sums
abbrev pub ProgramsRefineWritten : Type 0
ProgramsRefineWritten = (unkept : Unkept) (program small : Small) (s : Spec) → IsWord unkept → IsSound program → IsSmallOf s small → AgreeOps program small
    → RefinesWritten unkept program s

-- ---- its replies

-- what both reply to the same arguments is the same
abbrev pub SameReplies : Small → Small → Type 0
SameReplies program small = (number : ℕ) (args : List Value) (x y : ℕ) → reply_to program number args ≡ Some x → reply_to small number args ≡ Some y → x ≡ y

-- a program that refines a specification with the same operations, if only without crashes, gives its replies
abbrev pub RefinesOnlySameReplies : Type 0
RefinesOnlySameReplies = (unkept : Unkept) (program small : Small) → IsWord unkept → IsSound program → SameInterface program small
    → RefinesWithoutCrash (machine_of (program_with unkept program) (setting_of small)) (specification_of small) → SameReplies program small
