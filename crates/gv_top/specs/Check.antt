-- The command `check PKG SPEC SCRIPT`.
use Rattle.std.specs.Prelude.{◌≡◌, ℕ, List}
use Rattle.gv_base.specs.declared.small.Small.{Small}
use Rattle.gv_certs.specs.declared.cause.Cause.TheVariants.{NoAtom}
use Rattle.gv_report.specs.declared.report.Report.{Report}
use Rattle.gv_report.specs.declared.report.Report.TheVariants as report
use Rattle.gv_top.specs.declared.small_script.SmallScript.{SmallScript}
use Rattle.gv_top.specs.declared.check.Verdict.{Verdict}
use Rattle.gv_top.specs.declared.check.Verdict.TheVariants.{Unjustified, AcceptedWithoutCrash}
use Rattle.gv_top.specs.Files.{Source, Course, Then, Keeps, Ends}
use Rattle.gv_top.specs.Forms.{packages, specs_for, scripts_for}
use Rattle.gv_top.specs.Comparing.{AllSameSums, IsFirstDifference}

-- what the operations of the three texts give beside each other
abbrev pub Compares : Small → Small → SmallScript → Verdict → Type 0
Compares program small script (Unjustified place why) = (why ≡ NoAtom) × IsFirstDifference program.ops small.ops script.ops place
Compares program small script AcceptedWithoutCrash = AllSameSums program.ops small.ops

-- each file is fetched and read, and its operations compared with the package's, before the next
abbrev pub Checks : Source → List ℕ → List ℕ → List ℕ → Course Verdict
Checks source package_name spec_name script_name =
    Then source packages package_name (λ program.
    Then source (specs_for program) spec_name (λ small.
    Then source (scripts_for program) script_name (λ script.
    Keeps (Ends (Compares program small script)))))

abbrev pub report_of : Verdict → Report
report_of (Unjustified place why) = report.Unjustified place why
report_of AcceptedWithoutCrash = report.AcceptedWithoutCrash
