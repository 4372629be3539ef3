-- How far the pass over a text has come.
use Rattle.std.specs.Prelude.{ℕ, Option, Some, None, Result, Ok, Err, List}
use Rattle.gv_base.specs.declared.answers.Code.TheVariants as codes
use Rattle.gv_text.specs.Stops.{Fault}
use Rattle.gv_replay.specs.declared.line.Line.{Line}
use Rattle.gv_replay.specs.declared.line.TextKind.{TextKind}
use Rattle.gv_replay.specs.declared.lines.Step.{Step}
use Rattle.gv_replay.specs.declared.progress.Progress.{Progress}
use Rattle.gv_replay.specs.declared.part.Part.{Part}
use Rattle.gv_replay.specs.declared.sight.Sight.{Sight}
use Rattle.gv_replay.specs.Lines.{fault_at, stepped, lines_from}
use Rattle.gv_replay.specs.Parts.{line_of}
use Rattle.gv_replay.specs.Results.{and_then}
use Rattle.gv_replay.specs.Told.{tell, tell_all, tell_done}

abbrev pub beginning : {T : Type 0} → T → Progress T
beginning start = record { current = None; told = Ok start }

module _ {T : Type 0} (with_line : T → Line → Result T Fault) where
  abbrev pub taken_by : Result T Fault → Fault → Option Step → Result (Progress T) Fault
  taken_by told fault None = Err fault
  taken_by told fault (Some x) = Ok (record { current = Some x.part; told = tell_done with_line told x.done })

  -- one more token
  abbrev pub taken : TextKind → Progress T → Sight → Result (Progress T) Fault
  taken kind p sight = taken_by p.told (fault_at sight) (stepped kind p.current sight)

  abbrev pub finished_by : Result T Fault → ℕ → Option Line → Result (Result T Fault) Fault
  finished_by told end None = Err (end, codes.EndOfText)
  finished_by told end (Some l) = Ok (tell with_line told l)

  abbrev pub finished_part : Result T Fault → ℕ → Option Part → Result (Result T Fault) Fault
  finished_part told end None = Ok told
  finished_part told end (Some p) = finished_by told end (line_of p)

  -- the end of the text
  abbrev pub finished : ℕ → Progress T → Result (Result T Fault) Fault
  finished end p = finished_part p.told end p.current

  -- what the rest of a text comes to
  abbrev pub told_from : TextKind → ℕ → Progress T → List Sight → Result T Fault
  told_from kind end p ss = and_then (tell_all with_line p.told) (lines_from kind end p.current ss)
