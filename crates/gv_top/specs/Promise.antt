-- What `run` promises of the files, by the command that its words are.
use Rattle.std.specs.Prelude.{◌≡◌, ◌≢◌, ◌↔◌, ℕ, ◌+◌, ◌*◌, ◌≤◌, ◌⊎◌, true, not, ◌==◌, List, [], ◌∷◌, ◌++◌, length, map, Some, None, Err, All, Vec}
use Rattle.std.specs.List.{list_all}
use Rattle.std.specs.declared.alloc.Global.{Global}
use Rattle.gv_base.specs.Outside.{Told}
use Rattle.gv_base.specs.declared.small.Small.{Small}
use Rattle.gv_atomic.specs.declared.spec.Spec.{Spec}
use Rattle.gv_smallprogram.specs.Sums.{SameInterface}
use Rattle.gv_spec.specs.Refines.{RefinesWithoutCrash}
use Rattle.gv_spec.specs.declared.entry.Entry.{Entry}
use Rattle.gv_spec.specs.declared.explanation.Move.{Move}
use Rattle.gv_spec.specs.History.{IsExplanation, entry_of, walked}
use Rattle.gv_spec.specs.Atomic.{atomic_of}
use Rattle.gv_runs.specs.Machine.{setting_of, machine_of}
use Rattle.gv_smallspec.specs.SmallSpec.{IsSmallOf}
use Rattle.gv_smallprogram.specs.Program.{program_of}
use Rattle.gv_history.specs.declared.fault.WalkCause.{WalkCause}
use Rattle.gv_history.specs.Fault.{cause_of}
use Rattle.gv_report.specs.declared.format.Format.{Format}
use Rattle.gv_report.specs.declared.report.Report.TheVariants.{AcceptedWithoutCrash, NotExplained, Ran}
use Rattle.gv_report.specs.Report.{status_of}
use Rattle.gv_report.specs.Heard.{Heard, IsWritten}
use Rattle.gv_report.specs.Output.{output_of}
use Rattle.gv_top.specs.Files.{Reads, outside, noted_all}
use Rattle.gv_top.specs.Forms.{packages, written_specs, histories_of, moves_of}
use Rattle.gv_top.specs.Commands.{check, explain, replay, judge, Asks, files_of, format_for}
use Rattle.gv_replay.specs.declared.schedule.Schedule.{Schedule}
use Rattle.gv_played.specs.declared.replaying.Ran as played
use Rattle.gv_played.specs.Played.{IsRan}
use Rattle.gv_lines.specs.Lines.{entry_lines}
use Rattle.gv_interfaces.specs.Interfaces.{SameOperations}
use Rattle.gv_top.specs.ReplayForms.{schedules_of}
use Rattle.gv_judge.specs.Bound.{IsOneByOne}
use Rattle.gv_judge.specs.Explained.{PicksNothing}
use Rattle.gv_top.specs.declared.judge.Judgement.{Judgement}
use Rattle.gv_top.specs.Judge.{Tells, IsFirstFull, AreNoneFull, AreSpent, report_of}

-- no byte of the name is a newline
abbrev pub IsOneLine : List ℕ → Type 0
IsOneLine name = list_all (λ byte. not (byte == 10)) name ≡ true

-- THE PREMISE of `check`: `run` on these words accepts.
pub data IsAccepted (words : List (List ℕ)) (heard : Heard) (status : ℕ) : Type 0 where
  -- They ask for a check, and it ended with status 0.
  ended : (package_name spec_name script_name : List ℕ) → Asks words (check package_name spec_name script_name) → status ≡ 0
      → IsAccepted words heard status
  -- Or it wrote the whole line of acceptance and nothing more, as text or in JSON, with whatever digests, and whatever the status is,
  -- and the name of no file that the words ask for holds a newline, so that no other report begins with this line.
  written : (old : List ℕ) (format : Format) → heard.before ≡ Some old → heard.now ≡ Some (old ++ output_of format AcceptedWithoutCrash) →
      ((command : _) → Asks words command → All IsOneLine (files_of command)) → IsAccepted words heard status

-- THE PROMISE of `check`, of what the files held when `run` was called. Of a file of which nothing is told, as of real files, it says
-- by itself only that there are such bytes; that the file has them rests on `fetch`, which alone gives `run` a text.
pub record AcceptedPromise (words : List (List ℕ)) (held : List ℕ → Told) : Type 0 where
  -- The words are `check`, and the names of a package, a specification and a script.
  pub package_name : List ℕ
  pub spec_name : List ℕ
  pub script_name : List ℕ
  pub asked : Asks words (check package_name spec_name script_name)
  -- The bytes held under the first name, where that is told, are a package of the grammar, and spell this one of the small form.
  pub program : Small
  pub is_package : Reads (outside held) packages package_name program
  -- The bytes held under the second name, where that is told, spell this specification, which is of the small form. It names the
  -- package's operations: the same names, with the same parameters, in the same order.
  pub atomic : Spec
  pub is_spec : Reads (outside held) written_specs spec_name atomic
  pub operations : Small
  pub small_form : IsSmallOf atomic operations
  pub interface : SameInterface program operations
  -- For every list of calls, thread steps and disk failures, of any length and in any order, without a crash: no step of the
  -- package's machine is undefined, and its history has an explanation by the specification as it is written, in which each answered
  -- call acts once, between its start and its answer, with the reply that the specification gives then.
  pub refines : RefinesWithoutCrash (machine_of (program_of program) (setting_of atomic)) (atomic_of atomic)

-- THE PROMISE of `explain` on files of these names, where it ends with status 0 or 1.
pub record ExplainedPromise (words : List (List ℕ)) (held : List ℕ → Told) (heard : Heard) (status : ℕ) (spec_name history_name moves_name : List ℕ) : Type 0 where
  -- What the files held, where that is told, spells a specification, a history of its calls, and moves.
  pub atomic : Spec
  pub is_spec : Reads (outside held) written_specs spec_name atomic
  pub history : Vec Entry Global
  pub is_history : Reads (outside held) (histories_of atomic) history_name history
  pub moves : Vec Move Global
  pub are_moves : Reads (outside held) (moves_of atomic) moves_name moves
  -- It is written in the format that the words ask for, in JSON with the digests of these three texts.
  pub format : Format
  pub format_is : format ≡ noted_all (format_for words) (is_spec.bytes ∷ is_history.bytes ∷ are_moves.bytes ∷ [])
  -- The status is 0 exactly where the moves explain the history.
  pub explains : status ≡ 0 ↔ IsExplanation atomic moves.items history.items
  -- With status 1 it wrote the first move that is refused, by its number from 1, and why: the walk's first fault.
  pub fault : status ≡ 1 → (at : ℕ) × (cause : WalkCause) × IsWritten heard (output_of format (NotExplained at cause))
      × (walked atomic history.items moves.items ≡ Err (record { index = at; cause = cause_of cause }))

-- THE PROMISE of `replay` on files of these names, where it ends with status 0 or 8.
pub record ReplayedPromise (words : List (List ℕ)) (held : List ℕ → Told) (heard : Heard) (status : ℕ) (package_name spec_name schedule_name : List ℕ) : Type 0 where
  -- What the files held, where that is told, is a package of the grammar that spells this one of the small form, a specification with
  -- the same operations, and a schedule of its calls.
  pub program : Small
  pub is_package : Reads (outside held) packages package_name program
  pub atomic : Spec
  pub is_spec : Reads (outside held) written_specs spec_name atomic
  pub operations : SameOperations program atomic
  pub schedule : Schedule
  pub is_schedule : Reads (outside held) (schedules_of atomic) schedule_name schedule
  -- This is the run of the schedule's events, one after another, on the machine of the package's program in the setting of the
  -- specification: its history, and the event that was undefined, if one was, by its number from 1, and why. No event would leave too
  -- many live cells.
  pub run : played.Ran
  pub is_run : IsRan (program_of program) atomic schedule.events run
  -- The history was written, an entry a line, and behind it `end` with status 0, or the undefined event with status 8, in the format that
  -- the words ask for.
  pub format : Format
  pub format_is : format ≡ noted_all (format_for words) (is_package.bytes ∷ is_spec.bytes ∷ is_schedule.bytes ∷ [])
  pub written : IsWritten heard (output_of format (Ran (record { lines = entry_lines atomic run.history; undefined = run.undefined })))
  pub ended : status ≡ 0 ↔ (run.undefined ≡ None)

-- THE PROMISE of `judge` on files of these names, with so many nodes to go through, where it ends with status 0, 1 or 7.
pub record JudgedPromise (words : List (List ℕ)) (held : List ℕ → Told) (heard : Heard) (status : ℕ) (spec_name history_name : List ℕ) (most : ℕ) : Type 0 where
  -- What the files held, where that is told, spells a specification, and a history of its calls.
  pub atomic : Spec
  pub is_spec : Reads (outside held) written_specs spec_name atomic
  pub history : Vec Entry Global
  pub is_history : Reads (outside held) (histories_of atomic) history_name history
  -- It told this of the history: the first full node's moves, which explain it; that nothing does; or that the nodes are spent.
  pub judgement : Judgement
  pub tells : Tells atomic history.items most judgement
  pub format : Format
  pub format_is : format ≡ noted_all (format_for words) (is_spec.bytes ∷ is_history.bytes ∷ [])
  pub written : IsWritten heard (output_of format (report_of judgement))
  pub ended : status ≡ status_of (report_of judgement)
  -- So the status is 0 exactly where the number of the first full node is at most `most`, 1 exactly where there are at most so many
  -- nodes and none is full, and 7 exactly where there are more and none of the first so many is full.
  pub yes : status ≡ 0 ↔ ((moves : List Move) × IsFirstFull atomic history.items most moves)
  pub no : status ≡ 1 ↔ AreNoneFull atomic history.items most
  pub spent : status ≡ 7 ↔ AreSpent atomic history.items most
  -- Where nothing is picked, nothing crashes and each call answers before the next one starts, 2n + 1 nodes suffice for n entries.
  pub enough : PicksNothing atomic → IsOneByOne None (map entry_of history.items) → 2 * length history.items + 1 ≤ most → status ≢ 7

-- All of it: a field for each command.
pub record Promise (words : List (List ℕ)) (held : List ℕ → Told) (heard : Heard) (status : ℕ) : Type 0 where
  pub accepted : IsAccepted words heard status → AcceptedPromise words held
  pub explained : (spec_name history_name moves_name : List ℕ) → Asks words (explain spec_name history_name moves_name) → status ≤ 1
      → ExplainedPromise words held heard status spec_name history_name moves_name
  pub replayed : (package_name spec_name schedule_name : List ℕ) → Asks words (replay package_name spec_name schedule_name) → (status ≡ 0) ⊎ (status ≡ 8)
      → ReplayedPromise words held heard status package_name spec_name schedule_name
  pub judged : (spec_name history_name : List ℕ) (most : ℕ) → Asks words (judge spec_name history_name most)
      → (status ≡ 0) ⊎ ((status ≡ 1) ⊎ (status ≡ 7)) → JudgedPromise words held heard status spec_name history_name most
