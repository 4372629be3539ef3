-- What a text tells, and where it is refused.
use Rattle.std.specs.Prelude.{◌≡◌, ℕ, Result, Ok, Err, List, [], ◌∷◌, length}
use Rattle.gv_base.specs.declared.answers.Code.{Code}
use Rattle.gv_base.specs.declared.token.Token.{Token}
use Rattle.gv_lex.specs.Reading as lex
use Rattle.gv_spec.specs.declared.entry.Entry.{Entry}
use Rattle.gv_spec.specs.declared.entry.Entry.TheVariants as entry
use Rattle.gv_spec.specs.declared.explanation.Move.{Move}
use Rattle.gv_spec.specs.declared.explanation.Move.TheVariants as move
use Rattle.gv_atomic.specs.declared.spec.Spec.{Spec}
use Rattle.gv_text.specs.Stops.{Fault}
use Rattle.gv_replay.specs.declared.line.Line.{Line}
use Rattle.gv_replay.specs.declared.line.TextKind.{TextKind}
use Rattle.gv_replay.specs.declared.line.TextKind.TheVariants as text_kind
use Rattle.gv_replay.specs.declared.plan.Plan.{Plan}
use Rattle.gv_replay.specs.declared.schedule.Schedule.{Schedule}
use Rattle.gv_replay.specs.Beginnings.{IsMisplaced}
use Rattle.gv_replay.specs.Lines.{lines_of}
use Rattle.gv_replay.specs.Meaning.{with_moves}
use Rattle.gv_replay.specs.Plans.{with_plan, no_plan, lines_placed}
use Rattle.gv_replay.specs.Results.{and_then}
use Rattle.gv_replay.specs.Sights.{sights_of}
use Rattle.gv_replay.specs.Spelling.{AreLines}
use Rattle.gv_replay.specs.Told.{tell_all}

-- for any kind of account of lines
module _ {T : Type 0} (with_line : T → Line → Result T Fault) (start : T) (kind : TextKind) (text : List ℕ) where
  -- a text tells this: its tokens are lines, which come to it
  pub record Tells (account : T) : Type 0 where
    pub tokens : List Token
    pub lines : List Line
    pub read : lex.IsRead text tokens
    pub spelled : AreLines kind (sights_of text tokens) lines
    pub told : tell_all with_line (Ok start) lines ≡ Ok account

  -- A text is refused at a byte: for its characters; or, where it has tokens, for the first one that no lines have there; or,
  -- where these are lines, for what the lines say of names, numbers and sorts.
  pub data IsRefused (at : ℕ) (code : Code) : Type 0 where
    characters : lex.IsRefused text at code → IsRefused at code
    grammar : (tokens : List Token) → lex.IsRead text tokens → IsMisplaced kind (length text) (sights_of text tokens) at code → IsRefused at code
    meaning : (tokens : List Token) (lines : List Line) → lex.IsRead text tokens → AreLines kind (sights_of text tokens) lines
        → tell_all with_line (Ok start) lines ≡ Err (at, code) → IsRefused at code

  -- what the pass over a text with these tokens computes
  abbrev pub told_by : List Token → Result T Fault
  told_by tokens = and_then (tell_all with_line (Ok start)) (lines_of kind (length text) (sights_of text tokens))

-- ---- moves

-- a text tells these moves of an explanation
abbrev pub TellsMoves : Spec → List ℕ → List Move → Type 0
TellsMoves s text moves = Tells (with_moves s) [] text_kind.Moves text moves

abbrev pub AreRefusedMoves : Spec → List ℕ → ℕ → Code → Type 0
AreRefusedMoves s text at code = IsRefused (with_moves s) [] text_kind.Moves text at code

-- ---- histories

-- the entries that moves show, in order
abbrev pub entries_in : List Move → List Entry
entries_in [] = []
entries_in (move.Act n choices ∷ ms) = entries_in ms
entries_in (move.Boot choices ∷ ms) = entry.Boot ∷ entries_in ms
entries_in (move.Other e ∷ ms) = e ∷ entries_in ms

-- a text tells this history
pub record TellsHistory (s : Spec) (text : List ℕ) (history : List Entry) : Type 0 where
  pub moves : List Move
  pub told : Tells (with_moves s) [] text_kind.History text moves
  pub entries : history ≡ entries_in moves

abbrev pub IsRefusedHistory : Spec → List ℕ → ℕ → Code → Type 0
IsRefusedHistory s text at code = IsRefused (with_moves s) [] text_kind.History text at code

-- ---- schedules

-- a text tells this schedule
pub record TellsSchedule (s : Spec) (text : List ℕ) (schedule : Schedule) : Type 0 where
  pub plan : Plan
  pub told : Tells (with_plan s) no_plan text_kind.Schedule text plan
  pub events : schedule.events ≡ lines_placed text plan

abbrev pub IsRefusedSchedule : Spec → List ℕ → ℕ → Code → Type 0
IsRefusedSchedule s text at code = IsRefused (with_plan s) no_plan text_kind.Schedule text at code
