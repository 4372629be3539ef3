-- The forms of the texts that a replay reads.
use Rattle.std.specs.Prelude.{◌≡◌, ℕ, List, All}
use Rattle.gv_atomic.specs.declared.spec.Spec.{Spec}
use Rattle.gv_spec.specs.History.{IsEventOf}
use Rattle.gv_specs.specs.Reading as written
use Rattle.gv_replay.specs.declared.schedule.Schedule.{Schedule}
use Rattle.gv_replay.specs.Reading as lines
use Rattle.gv_top.specs.declared.replay_forms.WrittenPackage.{WrittenPackage}
use Rattle.gv_top.specs.declared.replay_forms.WrittenSpec.{WrittenSpec}
use Rattle.gv_top.specs.Files.{Form}
use Rattle.gv_top.specs.Forms.{placed_form}
use Rattle.gv_top.specs.Packages.{IsPackageOf, IsRefusedPackage}

-- a package with its text, which may yet be refused for what another text says
abbrev pub IsWrittenPackage : List ℕ → WrittenPackage → Type 0
IsWrittenPackage text p = IsPackageOf text p.small × (p.text ≡ text)

abbrev pub written_packages : Form WrittenPackage
written_packages = record { spells = IsWrittenPackage; refuses = IsRefusedPackage }

-- a specification with its text
abbrev pub IsWrittenSpec : List ℕ → WrittenSpec → Type 0
IsWrittenSpec text s = written.Spells text s.spec × (s.text ≡ text)

abbrev pub kept_specs : Form WrittenSpec
kept_specs = placed_form IsWrittenSpec written.IsRefused

-- its calls are of operations of the specification, with arguments of their sorts
abbrev pub IsScheduleOf : Spec → List ℕ → Schedule → Type 0
IsScheduleOf s text schedule = lines.TellsSchedule s text schedule × All (λ l. IsEventOf s l.event) schedule.events

abbrev pub schedules_of : Spec → Form Schedule
schedules_of s = placed_form (IsScheduleOf s) (lines.IsRefusedSchedule s)
