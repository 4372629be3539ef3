-- What a schedule came to, as it is written.
use Rattle.std.specs.Prelude.{ℕ, List, [], ◌∷◌, ◌++◌, Option, Some, None, codes}
use Rattle.std.specs.Fmt.{decimal}
use Rattle.gv_base.specs.declared.reason.Reason.{Reason}
use Rattle.gv_base.specs.Reasons.{reason_name}
use Rattle.gv_report.specs.declared.ran.Ran.{Ran}

-- the last line: that the schedule came to its end, or the event that was undefined, by its number from 1, and why
abbrev pub last_line : Option (ℕ × Reason) → List ℕ
last_line None = codes "end"
last_line (Some found) = codes "undefined " ++ decimal found.0 ++ codes " " ++ reason_name found.1

-- all lines, without their newlines
abbrev pub ran_lines : Ran → List (List ℕ)
ran_lines ran = ran.lines ++ last_line ran.undefined ∷ []

abbrev pub status_after : Option (ℕ × Reason) → ℕ
status_after None = 0
status_after (Some found) = 8

-- the status that the program ends with where this is written
abbrev pub ran_status : Ran → ℕ
ran_status ran = status_after ran.undefined
