-- A report as it is written: in the format that was asked for.
use Rattle.std.specs.Prelude.{◌≡◌, ℕ, List, [], ◌∷◌, ◌++◌}
use Rattle.gv_digest.specs.Digests.{digest_of}
use Rattle.gv_json.specs.Line.{line_of}
use Rattle.gv_report.specs.declared.report.Report.{Report}
use Rattle.gv_report.specs.declared.report.Report.TheVariants.{Usage, OutOfMemory}
use Rattle.gv_report.specs.declared.format.Format.{Format}
use Rattle.gv_report.specs.declared.format.Format.TheVariants.{Text, Json}
use Rattle.gv_report.specs.Heard.{Heard, IsWritten, IsPrefixWritten, NoneFailed, OneFailed}
use Rattle.gv_report.specs.Report.{lines_of, status_of, text_of, IsAnswerTo}

-- ---- formats

-- The line of a report in JSON, with the digests of the files that were fetched. The usage line and `out of memory` are always their texts.
abbrev pub json_of : List (List ℕ) → Report → List ℕ
json_of digests Usage = text_of Usage
json_of digests OutOfMemory = text_of OutOfMemory
json_of digests report = line_of digests (lines_of report) (status_of report)

-- the format once these bytes of a file were fetched: in JSON their digest stands behind those of the files before it
abbrev pub noted : Format → List ℕ → Format
noted Text bytes = Text
noted (Json digests) bytes = Json (digests ++ digest_of bytes ∷ [])

-- all that is written of a report
abbrev pub output_of : Format → Report → List ℕ
output_of Text report = text_of report
output_of (Json digests) report = json_of digests report

-- ---- what a sink hears

-- a report, and how it is written
pub record Shown : Type 0 where
  pub report : Report
  pub format : Format

-- it is this report in this format, or `out of memory` in its place, which the usage line never gives way to
abbrev pub IsOutputOf : Report → Format → Shown → Type 0
IsOutputOf report format shown = IsAnswerTo report shown.report × (shown.format ≡ format)

-- the status, and what was written: the report's in its format, or 6 and a prefix of it where a put failed
pub data Puts (shown : Shown) (h : Heard) : ℕ → Type 0 where
  whole : IsWritten h (output_of shown.format shown.report) → NoneFailed h → Puts shown h (status_of shown.report)
  cut : OneFailed h → IsPrefixWritten h (output_of shown.format shown.report) → Puts shown h 6
