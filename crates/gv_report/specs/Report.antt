-- What a command line is answered: the report, its status and its text.
use Rattle.std.specs.Prelude.{◌≡◌, ◌≢◌, ℕ, ◌⊎◌, List, [], ◌∷◌, ◌++◌, codes}
use Rattle.std.specs.Fmt.{decimal}
use Rattle.gv_base.specs.declared.answers.Place.{Place}
use Rattle.gv_base.specs.Codes.{code_name}
use Rattle.gv_history.specs.Fault.{cause_name as walk_cause_name}
use Rattle.gv_certs.specs.Causes.{cause_name}
use Rattle.gv_report.specs.declared.report.Report.{Report}
use Rattle.gv_report.specs.declared.report.Report.TheVariants.{Usage, OutOfMemory, CannotRead, Refused, Unjustified, Accepted, AcceptedWithoutCrash}
use Rattle.gv_report.specs.declared.report.Report.TheVariants.{Explained, NotExplained, Ran, Moves, NoExplanation, Spent, Points, Made}
use Rattle.gv_report.specs.declared.bytes.Bytes.{Bytes}
use Rattle.gv_report.specs.declared.bytes.Bytes.TheVariants as bytes
use Rattle.gv_report.specs.Made.{made_line}
use Rattle.gv_report.specs.Judged.{no_explanation_line, spent_line}
use Rattle.gv_report.specs.Ran.{ran_lines, ran_status}

-- ---- parts of lines

-- a line and a column
abbrev pub place_text : Place → List ℕ
place_text place = decimal place.line ++ codes ":" ++ decimal place.column

-- ---- a report: each has a line in the two tables

-- the status that the program ends with, where the report is written
abbrev pub status_of : Report → ℕ
status_of Accepted = 0
status_of AcceptedWithoutCrash = 0
status_of Explained = 0
status_of (Moves lines) = 0
status_of (Points lines) = 0
status_of (Made made) = 0
status_of (Unjustified place why) = 1
status_of (NotExplained at why) = 1
status_of NoExplanation = 1
status_of Usage = 2
status_of (CannotRead name) = 3
status_of (Refused name place code) = 4
status_of OutOfMemory = 5
status_of (Spent most) = 7
status_of (Ran ran) = ran_status ran

-- the lines without their newlines
abbrev pub lines_of : Report → List (List ℕ)
lines_of Accepted = codes "accepted" ∷ []
lines_of AcceptedWithoutCrash = codes "accepted for runs without crash" ∷ []
lines_of (Unjustified place why) = (codes "unjustified " ++ place_text place ++ codes " " ++ cause_name why) ∷ []
lines_of Explained = codes "explained" ∷ []
lines_of (NotExplained at why) = (codes "not explained at " ++ decimal at ++ codes " " ++ walk_cause_name why) ∷ []
lines_of Usage =
    codes "usage: goosecheck check PKG SPEC SCRIPT, replay PKG SPEC SCHEDULE, explain SPEC HISTORY MOVES, points PKG, gen NUMBER, judge SPEC HISTORY MOST, each with or without json"
    ∷ []
lines_of (CannotRead name) = (codes "cannot read " ++ name) ∷ []
lines_of (Refused name place code) = (name ++ codes ":" ++ place_text place ++ codes " " ++ code_name code) ∷ []
lines_of OutOfMemory = codes "out of memory" ∷ []
lines_of (Ran ran) = ran_lines ran
lines_of (Moves lines) = lines
lines_of NoExplanation = no_explanation_line ∷ []
lines_of (Spent most) = spent_line most ∷ []
lines_of (Points lines) = lines
lines_of (Made made) = made_line made ∷ []

-- ---- its text

-- the lines, each with a newline behind it
abbrev pub joined : List (List ℕ) → List ℕ
joined [] = []
joined (line ∷ lines) = line ++ 10 ∷ joined lines

abbrev pub text_of : Report → List ℕ
text_of report = joined (lines_of report)

-- ---- a text as the program holds it

abbrev pub bytes_of : Bytes → List ℕ
bytes_of (bytes.Fixed text) = text.now
bytes_of (bytes.Made text) = text.items

-- it is this report, or `out of memory` in its place, which the usage line never gives way to
abbrev pub IsAnswerTo : Report → Report → Type 0
IsAnswerTo report answer = (answer ≡ report) ⊎ ((answer ≡ OutOfMemory) × (report ≢ Usage))
