-- What comes of a command, and the report that tells it.
use Rattle.std.specs.Prelude.{◌≡◌, Result, Ok, Err}
use Rattle.gv_report.specs.declared.report.Report.{Report}
use Rattle.gv_report.specs.declared.report.Report.TheVariants as report
use Rattle.gv_report.specs.declared.format.Format.{Format}
use Rattle.gv_top.specs.declared.files.Halt.{Halt}
use Rattle.gv_top.specs.declared.files.Halt.TheVariants.{NoMemory, CannotRead, Refused}
use Rattle.gv_top.specs.Files.{Source, Course}

abbrev pub halt_report : Halt → Report
halt_report NoMemory = report.OutOfMemory
halt_report (CannotRead name) = report.CannotRead name
halt_report (Refused name place code) = report.Refused name place code

-- the report of what came of a command
abbrev pub reported : {O : Type 0} → (O → Report) → Result O Halt → Report
reported report_of (Ok outcome) = report_of outcome
reported report_of (Err halt) = halt_report halt

-- what may come of a command: an outcome in its course, told by its report
abbrev pub ComesBy : {O : Type 0} → (Source → Course O) → (O → Report) → Source → Format → Report → Format → Type 0
ComesBy {O} course report_of source before r after = (outcome : Result O Halt) × course source before outcome after × (r ≡ reported report_of outcome)
