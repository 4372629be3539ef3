-- The command `replay PKG SPEC SCHEDULE`.
use Rattle.std.specs.Prelude.{◌≡◌, ◌⊎◌, ℕ, List, Result, Ok, Err}
use Rattle.gv_base.specs.declared.answers.Code.TheVariants.{Interface, TooManyCells}
use Rattle.gv_base.specs.declared.answers.Place.{Place}
use Rattle.gv_base.specs.declared.small.Small.{Small}
use Rattle.gv_atomic.specs.declared.spec.Spec.{Spec}
use Rattle.gv_spec.specs.declared.entry.Entry.{Entry}
use Rattle.gv_smallprogram.specs.Program.{program_of}
use Rattle.gv_replay.specs.declared.schedule.Line.{Line}
use Rattle.gv_played.specs.Played.{IsRan, IsTooMany}
use Rattle.gv_lines.specs.Lines.{entry_lines}
use Rattle.gv_interfaces.specs.declared.difference.Difference.{Difference}
use Rattle.gv_interfaces.specs.declared.difference.Difference.TheVariants.{InSpec, InPackage}
use Rattle.gv_interfaces.specs.Interfaces.{SameOperations}
use Rattle.gv_interfaces.specs.Places.{IsFirstDifference}
use Rattle.gv_report.specs.declared.ran.Ran.{Ran}
use Rattle.gv_report.specs.declared.report.Report.{Report}
use Rattle.gv_report.specs.declared.report.Report.TheVariants as report
use Rattle.gv_top.specs.declared.files.Halt.{Halt}
use Rattle.gv_top.specs.declared.files.Halt.TheVariants.{NoMemory, CannotRead, Refused}
use Rattle.gv_top.specs.declared.replay_forms.WrittenPackage.{WrittenPackage}
use Rattle.gv_top.specs.declared.replay_forms.WrittenSpec.{WrittenSpec}
use Rattle.gv_top.specs.Files.{Source, Course, Then, Keeps}
use Rattle.gv_top.specs.ReplayForms.{written_packages, kept_specs, schedules_of}

-- ---- before the schedule is fetched

-- the file and the place of a difference
abbrev pub StandsIn : List ℕ → List ℕ → Difference → List ℕ → Place → Type 0
StandsIn package_name spec_name (InSpec at) name place = (name ≡ spec_name) × (place ≡ at)
StandsIn package_name spec_name (InPackage at) name place = (name ≡ package_name) × (place ≡ at)

-- the operations of the package and of the specification are not the same, which is told where they first differ
pub record IsOther (package_name spec_name : List ℕ) (p : WrittenPackage) (s : WrittenSpec) (name : List ℕ) (place : Place) : Type 0 where
  pub difference : Difference
  pub first : IsFirstDifference p.small p.text s.spec s.text difference
  pub stands : StandsIn package_name spec_name difference name place

-- the command halts at that; want of memory is free
abbrev pub HaltsBetween : List ℕ → List ℕ → WrittenPackage → WrittenSpec → Halt → Type 0
HaltsBetween package_name spec_name p s NoMemory = Unit {0}
HaltsBetween package_name spec_name p s (CannotRead name) = ⊥
HaltsBetween package_name spec_name p s (Refused name place code) = (code ≡ Interface) × IsOther package_name spec_name p s name place

-- the command halts there; or the operations are the same, and it goes on
abbrev pub IfSame : {O : Type 0} → List ℕ → List ℕ → WrittenPackage → WrittenSpec → Course O → Course O
IfSame package_name spec_name p s Next before outcome after =
    ((halt : Halt) × (outcome ≡ Err halt) × HaltsBetween package_name spec_name p s halt × (after ≡ before))
    ⊎ (SameOperations p.small s.spec × Next before outcome after)

-- ---- the run

-- The lines of the history of the run of a schedule's events, and the event that was undefined, if one was: on the machine of the
-- package's program in the setting of the specification.
pub record IsReplayed (program : Small) (s : Spec) (lines : List Line) (ran : Ran) : Type 0 where
  pub history : List Entry
  pub is_ran : IsRan (program_of program) s lines (record { history = history; undefined = ran.undefined })
  pub lines_are : ran.lines ≡ entry_lines s history

-- that, or a refusal of the line of the first event that would leave too many live cells
abbrev pub Plays : Small → Spec → List ℕ → List Line → Result Ran Halt → Type 0
Plays program s schedule_name lines (Ok ran) = IsReplayed program s lines ran
Plays program s schedule_name lines (Err NoMemory) = Unit {0}
Plays program s schedule_name lines (Err (CannotRead name)) = ⊥
Plays program s schedule_name lines (Err (Refused name place code)) =
    (name ≡ schedule_name) × (code ≡ TooManyCells) × IsTooMany (program_of program) s lines place

-- Each file is fetched and read before the next; the operations are compared before the schedule is fetched; and then its events are run.
abbrev pub Replays : Source → List ℕ → List ℕ → List ℕ → Course Ran
Replays source package_name spec_name schedule_name =
    Then source written_packages package_name (λ p.
    Then source kept_specs spec_name (λ s.
    IfSame package_name spec_name p s (
    Then source (schedules_of s.spec) schedule_name (λ schedule.
    Keeps (Plays p.small s.spec schedule_name schedule.events)))))

abbrev pub report_of : Ran → Report
report_of ran = report.Ran ran
