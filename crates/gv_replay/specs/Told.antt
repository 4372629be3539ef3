-- What lines come to, one after another, for any kind of account T of them: what a line adds to it, or why the line is
-- refused.
use Rattle.std.specs.Prelude.{Option, Some, None, Result, List, fold}
use Rattle.gv_text.specs.Stops.{Fault}
use Rattle.gv_replay.specs.declared.line.Line.{Line}
use Rattle.gv_replay.specs.Results.{and_then}

module _ {T : Type 0} (with_line : T → Line → Result T Fault) where
  -- one more line; what comes behind a fault counts for nothing
  abbrev pub tell : Result T Fault → Line → Result T Fault
  tell told l = and_then (λ t. with_line t l) told

  -- all of some lines
  abbrev pub tell_all : Result T Fault → List Line → Result T Fault
  tell_all told ls = fold tell told ls

  -- a line, where one is done
  abbrev pub tell_done : Result T Fault → Option Line → Result T Fault
  tell_done told None = told
  tell_done told (Some l) = tell told l
