-- All faults of names, numbers and sorts that lines have, wherever they stand; and that the one that is told is the first of
-- them: at the least place, and there by the code with the least number.
use Rattle.std.specs.Prelude.{◌≡◌, ◌↔◌, ◌⊎◌, ℕ, ◌+◌, ◌^◌, ◌==◌, nat_lt, nat_le, if◌then◌else◌, Option, Some, None, Result, Ok, Err, List, [], ◌∷◌, ◌++◌, length, slice_get}
use Rattle.gv_base.specs.Codes.{code_number}
use Rattle.gv_base.specs.declared.answers.Code.{Code}
use Rattle.gv_base.specs.declared.answers.Code.TheVariants as codes
use Rattle.gv_base.specs.declared.token.Token.{Token}
use Rattle.gv_lex.specs.Reading as lex
use Rattle.gv_text.specs.Answers.{IsFirst}
use Rattle.gv_text.specs.Stops.{Fault}
use Rattle.gv_terms.specs.declared.sort.Sort.{Sort}
use Rattle.gv_terms.specs.declared.var.Var.{Var}
use Rattle.gv_atomic.specs.declared.spec.Spec.{Spec}
use Rattle.gv_replay.specs.declared.argument.Argument.{Argument}
use Rattle.gv_replay.specs.declared.argument.Number.{Number}
use Rattle.gv_replay.specs.declared.argument.Written.{Written}
use Rattle.gv_replay.specs.declared.argument.Written.TheVariants as written
use Rattle.gv_replay.specs.declared.line.CallLine.{CallLine}
use Rattle.gv_replay.specs.declared.line.Line.{Line}
use Rattle.gv_replay.specs.declared.line.Line.TheVariants as line
use Rattle.gv_replay.specs.declared.line.TextKind.{TextKind}
use Rattle.gv_replay.specs.declared.line.TextKind.TheVariants as text_kind
use Rattle.gv_replay.specs.Meaning.{largest_count, has_sort, params_at, with_moves}
use Rattle.gv_replay.specs.Operations.{op_named}
use Rattle.gv_replay.specs.Plans.{most_events, size_of, with_plan, no_plan}
use Rattle.gv_replay.specs.Sights.{sights_of}
use Rattle.gv_replay.specs.Spelling.{AreLines}
use Rattle.gv_replay.specs.Told.{tell_all}

-- ---- the faults of parts

-- a number that isn't below a bound
abbrev pub large : ℕ → Number → List Fault
large bound n = if nat_lt n.value bound then [] else (n.at, codes.TooMany) ∷ []

-- a byte that stands too often
abbrev pub of_written : Written → List Fault
of_written (written.Word n) = []
of_written (written.Bool b) = []
of_written (written.Bytes bs) = []
of_written (written.Repeated b n) = large (largest_count + 1) n

-- an argument of another sort than its parameter
abbrev pub of_argument : Sort → Argument → List Fault
of_argument s a = (if has_sort a.written s then [] else (a.at, codes.WrongType) ∷ []) ++ of_written a.written

abbrev pub of_arguments : List Var → List Argument → List Fault
of_arguments [] [] = []
of_arguments (x ∷ xs) [] = []
of_arguments [] (a ∷ rest) = of_written a.written ++ of_arguments [] rest
of_arguments (x ∷ xs) (a ∷ rest) = of_argument x.sort a ++ of_arguments xs rest

-- a name that is no operation's, and the arguments
abbrev pub of_called : Spec → CallLine → Option ℕ → List Fault
of_called s c None = (c.op_at, codes.Undeclared) ∷ of_arguments [] c.args
of_called s c (Some op) = of_arguments (params_at s op) c.args

-- another number of arguments than the operation has parameters
abbrev pub of_arity_by : Spec → CallLine → Option ℕ → List Fault
of_arity_by s c None = []
of_arity_by s c (Some op) = if length (params_at s op) == length c.args then [] else (c.at, codes.WrongCount) ∷ []

abbrev pub of_arity : Spec → CallLine → List Fault
of_arity s c = of_arity_by s c (op_named c.op s.ops)

abbrev pub of_number : Option Number → List Fault
of_number None = []
of_number (Some n) = large (2 ^ 32) n

abbrev pub of_reply : Option Argument → List Fault
of_reply None = []
of_reply (Some a) = of_written a.written

-- ---- the faults of lines

-- among moves and in histories
abbrev pub of_line : Spec → Line → List Fault
of_line s (line.Call c) = of_arity s c ++ (of_number c.number ++ of_called s c (op_named c.op s.ops))
of_line s (line.Answer number reply) = large (2 ^ 32) number ++ of_reply reply
of_line s (line.Act number choices) = large (2 ^ 32) number
of_line s (line.Crash at) = []
of_line s (line.Boot choices) = []
of_line s line.End = []
of_line s (line.Step at thread count) = []
of_line s (line.Fail at disk) = []
of_line s (line.Grow at thread extra) = []

abbrev pub of_lines : Spec → List Line → List Fault
of_lines s [] = []
of_lines s (l ∷ ls) = of_line s l ++ of_lines s ls

-- in schedules: with more events than there may be the line is at fault that brings them
abbrev pub of_room : ℕ → ℕ × ℕ → List Fault
of_room events size = if nat_le (events + size.0) most_events then [] else (size.1, codes.TooManyEvents) ∷ []

abbrev pub of_line_arity : Spec → Line → List Fault
of_line_arity s (line.Call c) = of_arity s c
of_line_arity s (line.Answer number reply) = []
of_line_arity s (line.Act number choices) = []
of_line_arity s (line.Crash at) = []
of_line_arity s (line.Boot choices) = []
of_line_arity s line.End = []
of_line_arity s (line.Step at thread count) = []
of_line_arity s (line.Fail at disk) = []
of_line_arity s (line.Grow at thread extra) = []

abbrev pub of_event : Spec → Line → List Fault
of_event s (line.Call c) = of_called s c (op_named c.op s.ops)
of_event s (line.Answer number reply) = []
of_event s (line.Act number choices) = []
of_event s (line.Crash at) = []
of_event s (line.Boot choices) = []
of_event s line.End = []
of_event s (line.Step at thread count) = large (2 ^ 32) thread
of_event s (line.Fail at disk) = large 2 disk
of_event s (line.Grow at thread extra) = large (2 ^ 32) thread

-- the number counts the events of the lines before
abbrev pub of_plan : Spec → ℕ → List Line → List Fault
of_plan s events [] = []
of_plan s events (l ∷ ls) = (of_line_arity s l ++ (of_room events (size_of l) ++ of_event s l)) ++ of_plan s (events + (size_of l).0) ls

-- ---- the first of them is told

abbrev pub IsAmong : List Fault → ℕ → Code → Type 0
IsAmong [] at code = ⊥
IsAmong (f ∷ fs) at code = ((f.0 ≡ at) × (f.1 ≡ code)) ⊎ IsAmong fs at code

-- what comes of lines is right where there is no fault, and else their first one
pub record TellsFirst {T : Type 0} (told : Result T Fault) (faults : List Fault) : Type 0 where
  pub none : (t : T) → told ≡ Ok t → faults ≡ []
  pub first : (at : ℕ) (code : Code) → (told ≡ Err (at, code)) ↔ IsFirst code_number (IsAmong faults) at code

-- for all lines of all texts
abbrev pub MovesTellFirst : Type 0
MovesTellFirst = (s : Spec) (kind : TextKind) (text : List ℕ) (tokens : List Token) (lines : List Line) → lex.IsRead text tokens
    → AreLines kind (sights_of text tokens) lines
    → TellsFirst (tell_all (with_moves s) (Ok []) lines) (of_lines s lines)

abbrev pub PlansTellFirst : Type 0
PlansTellFirst = (s : Spec) (text : List ℕ) (tokens : List Token) (lines : List Line) → lex.IsRead text tokens
    → AreLines text_kind.Schedule (sights_of text tokens) lines
    → TellsFirst (tell_all (with_plan s) (Ok no_plan) lines) (of_plan s 0 lines)
