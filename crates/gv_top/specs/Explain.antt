-- The command `explain SPEC HISTORY MOVES`.
use Rattle.std.specs.Prelude.{◌≡◌, ℕ, List, Err}
use Rattle.gv_atomic.specs.declared.spec.Spec.{Spec}
use Rattle.gv_spec.specs.declared.entry.Entry.{Entry}
use Rattle.gv_spec.specs.declared.explanation.Move.{Move}
use Rattle.gv_spec.specs.History.{IsExplanation, walked}
use Rattle.gv_history.specs.Fault.{cause_of}
use Rattle.gv_report.specs.declared.report.Report.{Report}
use Rattle.gv_report.specs.declared.report.Report.TheVariants as report
use Rattle.gv_top.specs.declared.explain.Explanation.{Explanation}
use Rattle.gv_top.specs.declared.explain.Explanation.TheVariants.{Explained, NotExplained}
use Rattle.gv_top.specs.Files.{Source, Course, Then, Keeps, Finishes}
use Rattle.gv_top.specs.Forms.{written_specs, histories_of, moves_of}

-- The moves explain the history; or they don't, and the walk along them beside the history refuses this one first, for this cause.
abbrev pub Tells : Spec → List Entry → List Move → Explanation → Type 0
Tells s history moves Explained = IsExplanation s moves history
Tells s history moves (NotExplained at cause) =
    (IsExplanation s moves history → ⊥) × (walked s history moves ≡ Err (record { index = at; cause = cause_of cause }))

-- each file is fetched and read before the next, and then the moves are walked along
abbrev pub Explains : Source → List ℕ → List ℕ → List ℕ → Course Explanation
Explains source spec_name history_name moves_name =
    Then source written_specs spec_name (λ s.
    Then source (histories_of s) history_name (λ history.
    Then source (moves_of s) moves_name (λ moves.
    Keeps (Finishes (Tells s history.items moves.items)))))

abbrev pub report_of : Explanation → Report
report_of Explained = report.Explained
report_of (NotExplained at cause) = report.NotExplained at cause
