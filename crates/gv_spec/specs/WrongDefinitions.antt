-- Wrong definitions: what each of them would let pass. A definition of walks or runs is told again with
-- one equation changed, and beside it stands what the definition itself says of the same moves or events.
use Rattle.std.specs.Prelude.{◌≡◌, ℕ, ◌*◌, true, List, [], ◌∷◌, ◌++◌, fold, Option, Some, None, Result, Ok, Err, IsTrue, is_ok}
use Rattle.gv_base.specs.declared.reason.Reason.TheVariants as reason
use Rattle.gv_spec.specs.Event as event
use Rattle.gv_spec.specs.Entry as entry
use Rattle.gv_spec.specs.Move as move
use Rattle.gv_spec.specs.Event.{Event}
use Rattle.gv_spec.specs.Entry.{Entry}
use Rattle.gv_spec.specs.Move.{Move}
use Rattle.gv_base.specs.declared.answer.Answer.{Answer}
use Rattle.gv_base.specs.declared.answer.Answer.TheVariants.{Next, Undefined}
use Rattle.gv_spec.specs.Machine.{Machine}
use Rattle.gv_spec.specs.Runs.{Recovers, RunState, call_started, settled, first_state, crash_made, after, outcome_of, run_of}
use Rattle.gv_spec.specs.Walks.{Standing, Called, Acted, Answered, dropped, WalkState, WalkCause, Repeated, NotCalled, ActedAlready, NotActed, WrongReply, Missing, BadChoice, entered, onward, first_walk, walk_called, acted_to, walk_moved, walk_from, walk}
use Rattle.gv_spec.specs.Examples.{AdderThread, AdderResult, Reference, adder, adding, add, adder_run, drawer}

-- ---- walks, over a specification with a field and with choices

abbrev pub Walk : Type 0
Walk = WalkState ℕ ℕ

-- a walk that makes its moves by this equation
abbrev pub walk_by : (Walk → Move ℕ → Result Walk WalkCause) → Walk → List (Move ℕ) → Result Walk WalkCause
walk_by moved w [] = Ok w
walk_by moved w (m ∷ moves) = onward (λ next. walk_by moved next moves) (moved w m)

-- by this equation the moves would pass, which the walk refuses for a cause
pub record PassesWrongly (moved : Walk → Move ℕ → Result Walk WalkCause) (moves : List (Move ℕ)) (cause : WalkCause) : Type 0 where
  pub passes : IsTrue (is_ok (walk_by moved (first_walk drawer) moves))
  pub refuses : walk_from drawer (first_walk drawer) moves ≡ Err cause

-- operations of the specification
abbrev pub call : ℕ → ℕ → Move ℕ
call n op = move.Other (entry.Call n op [])

abbrev pub answer : ℕ → ℕ → Move ℕ
answer n reply = move.Other (entry.Answer n reply)

abbrev pub crash : Move ℕ
crash = move.Other entry.Crash

-- the boot that keeps the field, and the one that sets it to 0
abbrev pub keeping : Move ℕ
keeping = move.Boot (1 ∷ [])

abbrev pub clearing : Move ℕ
clearing = move.Boot (0 ∷ [])

-- a boot that keeps the table
abbrev pub table_kept : Walk → Option ℕ → Result Walk WalkCause
table_kept w None = Err BadChoice
table_kept w (Some fields) = Ok (record w { fields = fields })

abbrev pub keeps_table : Walk → Move ℕ → Result Walk WalkCause
keeps_table w (move.Boot choices) = table_kept w (drawer.crashed choices w.fields)
keeps_table w m = walk_moved drawer w m

-- a boot that keeps the fields
abbrev pub keeps_fields : Walk → Move ℕ → Result Walk WalkCause
keeps_fields w (move.Boot choices) = Ok (record w { table = λ n. dropped (w.table n) })
keeps_fields w m = walk_moved drawer w m

-- a boot whose choices aren't tested
abbrev pub boots_untested : Walk → Move ℕ → Result Walk WalkCause
boots_untested w (move.Boot (x ∷ choices)) = Ok (record { fields = w.fields * x; table = λ n. dropped (w.table n) })
boots_untested w m = walk_moved drawer w m

-- an act whose choices aren't tested
abbrev pub acted_untested : Walk → ℕ → ℕ → Standing ℕ → Result Walk WalkCause
acted_untested w n x (Called op args) = Ok (record w { table = entered w.table n (Acted x) })
acted_untested w n x _ = Err NotCalled

abbrev pub acts_untested : Walk → Move ℕ → Result Walk WalkCause
acts_untested w (move.Act n (x ∷ choices)) = acted_untested w n x (w.table n)
acts_untested w m = walk_moved drawer w m

-- a second act of a call, which increments once more
abbrev pub acted_again : Walk → ℕ → List ℕ → Standing ℕ → Result Walk WalkCause
acted_again w n choices (Called op args) = acted_to drawer w n (drawer.applied op args choices w.fields)
acted_again w n choices (Acted reply) = acted_to drawer w n (drawer.applied 0 [] choices w.fields)
acted_again w n choices _ = Err NotCalled

abbrev pub acts_again : Walk → Move ℕ → Result Walk WalkCause
acts_again w (move.Act n choices) = acted_again w n choices (w.table n)
acts_again w m = walk_moved drawer w m

-- an answer whose reply isn't compared
abbrev pub answered_anyhow : Walk → ℕ → Standing ℕ → Result Walk WalkCause
answered_anyhow w n (Acted kept) = Ok (record w { table = entered w.table n Answered })
answered_anyhow w n (Called op args) = Err NotActed
answered_anyhow w n _ = Err NotCalled

abbrev pub ignores_replies : Walk → Move ℕ → Result Walk WalkCause
ignores_replies w (move.Other (entry.Answer n reply)) = answered_anyhow w n (w.table n)
ignores_replies w m = walk_moved drawer w m

-- an answer that needs no act
abbrev pub answered_early : Walk → ℕ → Standing ℕ → Result Walk WalkCause
answered_early w n (Called op args) = Ok (record w { table = entered w.table n Answered })
answered_early w n _ = Err NotCalled

abbrev pub answers_early : Walk → Move ℕ → Result Walk WalkCause
answers_early w (move.Other (entry.Answer n reply)) = answered_early w n (w.table n)
answers_early w m = walk_moved drawer w m

-- a number that serves a second call once the first one has answered
abbrev pub called_again : Walk → ℕ → ℕ → List ℕ → Standing ℕ → Result Walk WalkCause
called_again w n op args Answered = Ok (record w { table = entered w.table n (Called op args) })
called_again w n op args standing = walk_called drawer w n op args standing

abbrev pub calls_again : Walk → Move ℕ → Result Walk WalkCause
calls_again w (move.Other (entry.Call n op args)) = called_again w n op args (w.table n)
calls_again w m = walk_moved drawer w m

pub record WrongWalks : Type 0 where
  -- a call of before a crash would act and answer after the next boot
  pub table : PassesWrongly keeps_table (keeping ∷ call 1 0 ∷ crash ∷ keeping ∷ move.Act 1 [] ∷ answer 1 5 ∷ []) NotCalled
  -- what a crash loses would still be there
  pub fields : PassesWrongly keeps_fields
      (keeping ∷ call 1 0 ∷ move.Act 1 [] ∷ answer 1 5 ∷ crash ∷ clearing ∷ call 2 2 ∷ move.Act 2 [] ∷ answer 2 6 ∷ []) WrongReply
  -- a crash would choose what it may not, and the field would grow by it
  pub boot_choices : PassesWrongly boots_untested (move.Boot (3 ∷ []) ∷ call 1 2 ∷ move.Act 1 [] ∷ answer 1 15 ∷ []) BadChoice
  -- and so would an operation
  pub act_choices : PassesWrongly acts_untested (keeping ∷ call 1 1 ∷ move.Act 1 (10 ∷ []) ∷ answer 1 10 ∷ []) BadChoice
  -- one call would increment twice
  pub twice : PassesWrongly acts_again (keeping ∷ call 1 0 ∷ move.Act 1 [] ∷ move.Act 1 [] ∷ answer 1 6 ∷ []) ActedAlready
  -- a call would answer anything
  pub replies : PassesWrongly ignores_replies (keeping ∷ call 1 0 ∷ move.Act 1 [] ∷ answer 1 99 ∷ []) WrongReply
  -- and without having acted
  pub early : PassesWrongly answers_early (keeping ∷ call 1 0 ∷ answer 1 99 ∷ []) NotActed
  -- two calls would answer under one number
  pub numbers : PassesWrongly calls_again (keeping ∷ call 1 2 ∷ move.Act 1 [] ∷ answer 1 5 ∷ call 1 2 ∷ []) Repeated
  -- if moves that pass were enough, no moves at all would explain any history
  pub unshown : IsTrue (is_ok (walk_from drawer (first_walk drawer) []))
  pub shown : walk drawer (entry.Boot ∷ entry.Call 1 0 [] ∷ entry.Answer 1 99 ∷ []) [] ≡ Err (record { index = 1; cause = Missing })

-- ---- runs, of the machine that adds

abbrev pub Run : Type 0
Run = RunState (Unit {0}) AdderThread AdderResult ℕ

abbrev pub adder_after : Run → Event ℕ → Run
adder_after s e = after adder adding.allows s e

abbrev pub adder_crashed : Run → Run
adder_crashed s = crash_made adder s

-- a run in which a crash does this
abbrev pub crash_after : (Run → Run) → Run → Event ℕ → Run
crash_after crashed s event.Crash = crashed s
crash_after crashed s e = adder_after s e

abbrev pub history_by : (Run → Event ℕ → Run) → List (Event ℕ) → List (Entry ℕ)
history_by made events = (fold made (first_state adder) events).history

-- by this equation the events would leave one history, and they leave another
pub record LeavesWrongly (made : Run → Event ℕ → Run) (events : List (Event ℕ)) (wrong right : List (Entry ℕ)) : Type 0 where
  pub wrongly : history_by made events ≡ wrong
  pub rightly : (adder_run events).history ≡ right

-- a crash that keeps the threads
abbrev pub keeps_threads : Run → Run
keeps_threads s = record (adder_crashed s) { threads = s.threads ++ Some (Recovers, adder.recovery) ∷ [] }

-- a crash that keeps the receiver
abbrev pub keeps_receiver : Run → Run
keeps_receiver s = record (adder_crashed s) { receiver = s.receiver }

-- a crash after which the numbers of threads begin again
abbrev pub numbers_again : Run → Run
numbers_again s = record (adder_crashed s) { threads = Some (Recovers, adder.recovery) ∷ [] }

-- a crash that leaves no entry
abbrev pub tells_nothing : Run → Run
tells_nothing s = record (adder_crashed s) { history = s.history }

-- a call that needs no boot
abbrev pub called_early : Run → ℕ → List ℕ → Option AdderResult → Run
called_early s op args None = settled s (call_started s op args (adder.called (Reference 1) op args s.world))
called_early s op args (Some receiver) = adder_after s (event.Call op args)

abbrev pub calls_early : Run → Event ℕ → Run
calls_early s (event.Call op args) = called_early s op args s.receiver
calls_early s e = adder_after s e

abbrev pub two_steps : List (Event ℕ) → List (Event ℕ)
two_steps events = event.Step 1 0 ∷ event.Step 1 0 ∷ events

abbrev pub called_once : Entry ℕ
called_once = entry.Call 1 0 (1 ∷ 2 ∷ [])

-- a machine whose first step races
abbrev pub racer : Machine (Unit {0}) (Unit {0}) (Unit {0}) ℕ
racer = record {
  first_world = tt;
  recovery = tt;
  stepped = λ extra thread world. Undefined reason.Race;
  called = λ receiver op args world. None;
  reply = λ result world. Ok 0;
  crashed = λ world. world;
  failed = λ disk world. None;
}

-- an undefined step that is forgotten
abbrev pub forgotten : {S : Type 0} → S → Answer S → S
forgotten s (Next next) = next
forgotten s _ = s

abbrev pub racer_state : RunState (Unit {0}) (Unit {0}) (Unit {0}) ℕ
racer_state = first_state racer

pub record WrongRuns : Type 0 where
  -- a dropped call would answer after the crash
  pub threads : LeavesWrongly (crash_after keeps_threads) (two_steps (add 1 2 ∷ event.Crash ∷ event.Step 2 0 ∷ []))
      (entry.Boot ∷ called_once ∷ entry.Crash ∷ entry.Answer 1 3 ∷ []) (entry.Boot ∷ called_once ∷ entry.Crash ∷ [])
  -- a call would start, and answer, while nothing has recovered
  pub receiver : LeavesWrongly (crash_after keeps_receiver) (two_steps (event.Crash ∷ add 1 2 ∷ event.Step 3 0 ∷ []))
      (entry.Boot ∷ entry.Crash ∷ called_once ∷ entry.Answer 1 3 ∷ []) (entry.Boot ∷ entry.Crash ∷ [])
  -- a thread that has ended would take steps
  pub numbers : LeavesWrongly (crash_after numbers_again) (two_steps (event.Crash ∷ event.Step 1 0 ∷ event.Step 1 0 ∷ []))
      (entry.Boot ∷ entry.Crash ∷ entry.Boot ∷ []) (entry.Boot ∷ entry.Crash ∷ [])
  -- nobody would see that a call was lost
  pub entries : LeavesWrongly (crash_after tells_nothing) (two_steps (add 1 2 ∷ event.Crash ∷ event.Step 3 0 ∷ event.Step 3 0 ∷ []))
      (entry.Boot ∷ called_once ∷ entry.Boot ∷ []) (entry.Boot ∷ called_once ∷ entry.Crash ∷ entry.Boot ∷ [])
  -- a call would answer before anything has recovered
  pub unbooted : LeavesWrongly calls_early (add 1 2 ∷ event.Step 2 0 ∷ []) (called_once ∷ entry.Answer 1 3 ∷ []) []
  -- a run with a race would count as defined
  pub race_forgotten : (forgotten racer_state (outcome_of racer (λ op args. true) racer_state (event.Step 1 0))).fault ≡ None
  pub race_kept : (run_of racer (λ op args. true) (event.Step 1 0 ∷ [])).fault ≡ Some reason.Race
