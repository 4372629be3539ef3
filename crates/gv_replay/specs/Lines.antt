-- The lines of a text, one after another.
use Rattle.std.specs.Prelude.{ℕ, if◌then◌else◌, Option, Some, None, option_map, option_and_then, Result, Ok, Err, List, [], ◌∷◌}
use Rattle.gv_base.specs.declared.answers.Code.TheVariants as codes
use Rattle.gv_text.specs.Stops.{Fault}
use Rattle.gv_replay.specs.declared.line.Line.{Line}
use Rattle.gv_replay.specs.declared.line.Line.TheVariants as line
use Rattle.gv_replay.specs.declared.line.TextKind.{TextKind}
use Rattle.gv_replay.specs.declared.lines.Step.{Step}
use Rattle.gv_replay.specs.declared.part.Part.{Part}
use Rattle.gv_replay.specs.declared.sight.Sight.{Sight}
use Rattle.gv_replay.specs.Parts.{first, next, line_of}
use Rattle.gv_replay.specs.Results.{map_ok}
use Rattle.gv_replay.specs.Sights.{code_of}

-- a token that may not stand where it does
abbrev pub fault_at : Sight → Fault
fault_at s = (s.at, code_of s.what)

abbrev pub made : Option Line → Part → Step
made done p = record { done = done; part = p }

-- a token that begins a line
abbrev pub begun : TextKind → Option Line → Sight → Option Step
begun kind done s = option_map (made done) (first kind s)

-- a token that begins a line behind another, which may not be `end`
abbrev pub turned : TextKind → Line → Sight → Option Step
turned kind (line.Call c) s = begun kind (Some (line.Call c)) s
turned kind (line.Answer number reply) s = begun kind (Some (line.Answer number reply)) s
turned kind (line.Act number choices) s = begun kind (Some (line.Act number choices)) s
turned kind (line.Crash at) s = begun kind (Some (line.Crash at)) s
turned kind (line.Boot choices) s = begun kind (Some (line.Boot choices)) s
turned kind (line.Step at thread count) s = begun kind (Some (line.Step at thread count)) s
turned kind (line.Fail at disk) s = begun kind (Some (line.Fail at disk)) s
turned kind (line.Grow at thread extra) s = begun kind (Some (line.Grow at thread extra)) s
turned kind line.End s = None

-- One more token of a text, where it may stand there: it goes on with the line, or it begins a line, and the one
-- before it is done.
abbrev pub stepped : TextKind → Option Part → Sight → Option Step
stepped kind None s = begun kind None s
stepped kind (Some p) s = if s.starts then option_and_then (λ l. turned kind l s) (line_of p) else option_map (made None) (next p s)

abbrev pub put : Option Line → List Line → List Line
put None ls = ls
put (Some l) ls = l ∷ ls

abbrev pub last_line : ℕ → Option Line → Result (List Line) Fault
last_line end (Some l) = Ok (l ∷ [])
last_line end None = Err (end, codes.EndOfText)

-- what a text comes to at its end
abbrev pub ended : ℕ → Option Part → Result (List Line) Fault
ended end None = Ok []
ended end (Some p) = last_line end (line_of p)

-- what follows a step, or the fault where there is none
abbrev pub behind : Fault → (Step → Result (List Line) Fault) → Option Step → Result (List Line) Fault
behind fault more None = Err fault
behind fault more (Some x) = map_ok (put x.done) (more x)

-- The lines that tokens spell, behind the front of a line, or the first token that may not stand where it does. The
-- number is the end of the text.
abbrev pub lines_from : TextKind → ℕ → Option Part → List Sight → Result (List Line) Fault
lines_from kind end current [] = ended end current
lines_from kind end current (s ∷ ss) = behind (fault_at s) (λ x. lines_from kind end (Some x.part) ss) (stepped kind current s)

abbrev pub lines_of : TextKind → ℕ → List Sight → Result (List Line) Fault
lines_of kind end ss = lines_from kind end None ss
