-- The command `judge SPEC HISTORY MOST`.
use Rattle.std.specs.Prelude.{◌≡◌, ℕ, ◌≤◌, List, map}
use Rattle.std.specs.Fmt.{decimal}
use Rattle.gv_atomic.specs.declared.spec.Spec.{Spec}
use Rattle.gv_spec.specs.declared.entry.Entry.{Entry}
use Rattle.gv_spec.specs.declared.explanation.Move.{Move}
use Rattle.gv_spec.specs.History.{entry_of, move_of, IsExplanation}
use Rattle.gv_judge.specs.Explained.{search_order, IsUnexplained}
use Rattle.gv_judge.specs.Search as nodes
use Rattle.gv_lines.specs.Moves.{move_lines}
use Rattle.gv_report.specs.declared.report.Report.{Report}
use Rattle.gv_report.specs.declared.report.Report.TheVariants as report
use Rattle.gv_top.specs.declared.judge.Judgement.{Judgement}
use Rattle.gv_top.specs.declared.judge.Judgement.TheVariants.{Explained, Unexplained, Spent}
use Rattle.gv_top.specs.Files.{Source, Course, Then, Keeps, Finishes}
use Rattle.gv_top.specs.Forms.{written_specs, histories_of}

-- ---- words

-- at least one node is gone through, and at most ten million are
pub record AreFewNodes (most : ℕ) : Type 0 where
  pub some : 1 ≤ most
  pub few : most ≤ 10000000

-- a word that tells so many nodes: in decimal, without a leading zero
pub record IsMost (word : List ℕ) (most : ℕ) : Type 0 where
  pub spelled : word ≡ decimal most
  pub within : AreFewNodes most

-- ---- the nodes of the search for an explanation of a history (`gv_judge` has their order)

-- these moves are the first full node, and its number is at most `most`
abbrev pub IsFirstFull : Spec → List Entry → ℕ → List Move → Type 0
IsFirstFull s history most moves = nodes.IsFirstFull (search_order s history) (map entry_of history) most (map move_of moves)

-- no node is full, and there are at most so many
abbrev pub AreNoneFull : Spec → List Entry → ℕ → Type 0
AreNoneFull s history most = nodes.AreNoneFull (search_order s history) (map entry_of history) most

-- there are more nodes, and none of the first so many is full
abbrev pub AreSpent : Spec → List Entry → ℕ → Type 0
AreSpent s history most = nodes.IsSpent (search_order s history) (map entry_of history) most

-- ---- what comes of it

-- the first full node's moves, which explain the history, and their lines
pub record IsFound (s : Spec) (history : List Entry) (most : ℕ) (lines : List (List ℕ)) : Type 0 where
  pub moves : List Move
  pub first : IsFirstFull s history most moves
  pub explains : IsExplanation s moves history
  pub lines_are : lines ≡ move_lines s moves

-- the first full node; or none is full, and nothing explains the history; or as many nodes as were asked for are spent
abbrev pub Tells : Spec → List Entry → ℕ → Judgement → Type 0
Tells s history most (Explained lines) = IsFound s history most lines
Tells s history most Unexplained = AreNoneFull s history most × IsUnexplained s history
Tells s history most (Spent spent) = (spent ≡ most) × AreSpent s history most

-- each file is fetched and read before the next, and then the nodes are gone through
abbrev pub Judges : Source → List ℕ → List ℕ → ℕ → Course Judgement
Judges source spec_name history_name most =
    Then source written_specs spec_name (λ s.
    Then source (histories_of s) history_name (λ history.
    Keeps (Finishes (Tells s history.items most))))

abbrev pub report_of : Judgement → Report
report_of (Explained lines) = report.Moves lines
report_of Unexplained = report.NoExplanation
report_of (Spent most) = report.Spent most
