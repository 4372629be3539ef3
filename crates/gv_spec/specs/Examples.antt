-- Worked runs and walks, of a machine and a specification by hand with one operation, which makes the sum of two numbers.
use Rattle.std.specs.Prelude.{◌≡◌, ◌+◌, ◌-◌, ◌*◌, ◌%◌, ◌^◌, ◌==◌, ◌&&◌, ℕ, zero, suc, true, false, List, [], ◌∷◌, map, length, take, Option, Some, None, Result, Ok, Err, IsTrue, is_ok, is_some, nat_lt, if◌then◌else◌, option_map}
use Rattle.std.proofs.Common.{eqb-true, eq-eqb}
use Rattle.gv_spec.specs.Event as event
use Rattle.gv_spec.specs.Entry as entry
use Rattle.gv_spec.specs.Move as move
use Rattle.gv_spec.specs.Event.{Event}
use Rattle.gv_spec.specs.Entry.{Entry}
use Rattle.gv_spec.specs.Move.{Move}
use Rattle.gv_base.specs.declared.reason.Reason.{Reason}
use Rattle.gv_base.specs.declared.reason.Reason.TheVariants as reason
use Rattle.gv_base.specs.declared.answer.Answer.{Answer}
use Rattle.gv_base.specs.declared.answer.Answer.TheVariants.{Next, Blocked}
use Rattle.gv_spec.specs.Machine.{Stepped, GoesOn, Returns, Machine}
use Rattle.gv_spec.specs.Specification.{Specification}
use Rattle.gv_spec.specs.Runs.{Recovers, Answers, Spawned, RunState, outcome_of, run_of}
use Rattle.gv_spec.specs.Walks.{Standing, NeverCalled, Acted, Answered, WalkState, WalkFault, WalkCause, Repeated, NotCalled, ActedAlready, NotActed, WrongReply, Order, Missing, BadChoice, first_walk, walk_from, Explains, walk}
use Rattle.gv_spec.specs.Plain.{unless_chosen}
use Rattle.gv_spec.specs.Refines.{RefinesWithoutCrash}

-- ---- a machine and a specification by hand

-- a thread of a package with one operation on two numbers
pub data AdderThread : Type 0 where
  -- recovery is to make its object
  Makes : AdderThread
  -- recovery is to return this object
  Hands : ℕ → AdderThread
  -- a call is to return what its operation makes of two numbers
  Adds : ℕ → ℕ → AdderThread

-- what a first frame returns
pub data AdderResult : Type 0 where
  Reference : ℕ → AdderResult
  Word : ℕ → AdderResult

-- the thread of a call: of operation 0, with two numbers below 2 ^ 64
abbrev pub adds : ℕ → List ℕ → Option AdderThread
adds zero (x ∷ y ∷ []) = if nat_lt x (2 ^ 64) && nat_lt y (2 ^ 64) then Some (Adds x y) else None
adds op args = None

-- no step makes a slice larger, so each takes any extra room
abbrev pub adder_stepped : (ℕ → ℕ → ℕ) → ℕ → AdderThread → Unit {0} → Answer (Stepped (Unit {0}) AdderThread AdderResult)
adder_stepped made extra Makes world = Next (GoesOn world (Hands 1) [])
adder_stepped made extra (Hands object) world = Next (Returns world (Reference object))
adder_stepped made extra (Adds x y) world = Next (Returns world (Word (made x y)))

abbrev pub adder_reply : AdderResult → Unit {0} → Result ℕ Reason
adder_reply (Reference object) world = Err reason.Kind
adder_reply (Word value) world = Ok value

-- an object without fields leaves nothing in the world
abbrev pub machine_that : (ℕ → ℕ → ℕ) → Machine (Unit {0}) AdderThread AdderResult ℕ
machine_that made = record {
  first_world = tt;
  recovery = Makes;
  stepped = adder_stepped made;
  called = λ receiver op args world. option_map (λ thread. (world, thread)) (adds op args);
  reply = adder_reply;
  crashed = λ world. world;
  failed = λ disk world. None;
}

-- both around at 2 ^ 64
abbrev pub sum : ℕ → ℕ → ℕ
sum x y = (x + y) % 2 ^ 64

abbrev pub difference : ℕ → ℕ → ℕ
difference x y = (x + (2 ^ 64 - y)) % 2 ^ 64

abbrev pub adder : Machine (Unit {0}) AdderThread AdderResult ℕ
adder = machine_that sum

abbrev pub subtractor : Machine (Unit {0}) AdderThread AdderResult ℕ
subtractor = machine_that difference

abbrev pub sum_of : List ℕ → ℕ
sum_of (x ∷ y ∷ []) = sum x y
sum_of args = 0

-- it has no fields, its operation replies the sum, and nothing is chosen
abbrev pub adding : Specification (Unit {0}) ℕ
adding = record {
  first_fields = tt;
  allows = λ op args. is_some (adds op args);
  applied = λ op args choices fields. unless_chosen choices (fields, sum_of args);
  crashed = λ choices fields. unless_chosen choices fields;
  same = ◌==◌;
  decides = λ x y. (eqb-true x y, eq-eqb x y);
}

abbrev pub adder_run : List (Event ℕ) → RunState (Unit {0}) AdderThread AdderResult ℕ
adder_run events = run_of adder adding.allows events

abbrev pub adder_outcome : List (Event ℕ) → Event ℕ → Answer (RunState (Unit {0}) AdderThread AdderResult ℕ)
adder_outcome events e = outcome_of adder adding.allows (adder_run events) e

abbrev pub adder_walk : List (Entry ℕ) → List (Move ℕ) → Result (WalkState (Unit {0}) ℕ) WalkFault
adder_walk history moves = walk adding history moves

abbrev pub add : ℕ → ℕ → Event ℕ
add x y = event.Call 0 (x ∷ y ∷ [])

-- ---- two calls at the same time

-- a call before the boot, the boot, two calls, a call with one argument, and a step of each call's
-- thread, one of them once more, and a failure of a disk that isn't there
abbrev pub two_calls : List (Event ℕ)
two_calls = add 1 2 ∷ event.Step 1 0 ∷ event.Step 1 0 ∷ add 1 2 ∷ add 3 4 ∷ event.Call 0 (5 ∷ []) ∷ event.Step 3 0 ∷ event.Step 3 0 ∷ event.Step 2 0
    ∷ event.Fail 0 ∷ []

abbrev pub two_calls_history : List (Entry ℕ)
two_calls_history = entry.Boot ∷ entry.Call 1 0 (1 ∷ 2 ∷ []) ∷ entry.Call 2 0 (3 ∷ 4 ∷ []) ∷ entry.Answer 2 7 ∷ entry.Answer 1 3 ∷ []

abbrev pub two_calls_moves : List (Move ℕ)
two_calls_moves = move.Other entry.Boot ∷ move.Other (entry.Call 1 0 (1 ∷ 2 ∷ [])) ∷ move.Act 1 [] ∷ move.Other (entry.Call 2 0 (3 ∷ 4 ∷ []))
    ∷ move.Act 2 [] ∷ move.Other (entry.Answer 2 7) ∷ move.Other (entry.Answer 1 3) ∷ []

-- each call acts just before its answer
abbrev pub two_calls_late_moves : List (Move ℕ)
two_calls_late_moves = move.Other entry.Boot ∷ move.Other (entry.Call 1 0 (1 ∷ 2 ∷ [])) ∷ move.Other (entry.Call 2 0 (3 ∷ 4 ∷ []))
    ∷ move.Act 2 [] ∷ move.Other (entry.Answer 2 7) ∷ move.Act 1 [] ∷ move.Other (entry.Answer 1 3) ∷ []

-- how many entries the history has after so many of the events
abbrev pub entries_after : ℕ → ℕ
entries_after count = length (adder_run (take count two_calls)).history

abbrev pub standing_in : Result (WalkState (Unit {0}) ℕ) WalkCause → ℕ → Standing ℕ
standing_in (Ok w) n = w.table n
standing_in (Err cause) n = NeverCalled

-- where call n stands after so many of the moves
abbrev pub standing_after : ℕ → ℕ → Standing ℕ
standing_after count n = standing_in (walk_from adding (first_walk adding) (take count two_calls_moves)) n

pub record TwoCalls : Type 0 where
  pub history : (adder_run two_calls).history ≡ two_calls_history
  pub defined : (adder_run two_calls).fault ≡ None
  -- recovery makes its object, the boot hands it on, and both calls are under way after their starts
  pub made : (adder_run (take 2 two_calls)).threads ≡ Some (Recovers, Hands 1) ∷ []
  pub booted : (adder_run (take 3 two_calls)).receiver ≡ Some (Reference 1)
  pub under_way : (adder_run (take 5 two_calls)).threads ≡ None ∷ Some (Answers 1, Adds 1 2) ∷ Some (Answers 2, Adds 3 4) ∷ []
  pub all_ended : (adder_run two_calls).threads ≡ None ∷ None ∷ None ∷ []
  pub explained : IsTrue (is_ok (adder_walk two_calls_history two_calls_moves))
  pub explained_late : IsTrue (is_ok (adder_walk two_calls_history two_calls_late_moves))
  pub growing : map entries_after (0 ∷ 1 ∷ 2 ∷ 3 ∷ 4 ∷ 5 ∷ 6 ∷ 7 ∷ 8 ∷ 9 ∷ 10 ∷ []) ≡ 0 ∷ 0 ∷ 0 ∷ 1 ∷ 2 ∷ 3 ∷ 3 ∷ 4 ∷ 4 ∷ 5 ∷ 5 ∷ []
  -- the walk after the two acts, and after all moves
  pub first_acted : standing_after 5 1 ≡ Acted 3
  pub second_acted : standing_after 5 2 ≡ Acted 7
  pub first_answered : standing_after 7 1 ≡ Answered
  -- what isn't possible, each time after the events before it
  pub before_boot : adder_outcome [] (add 1 2) ≡ Blocked
  pub one_argument : adder_outcome (take 5 two_calls) (event.Call 0 (5 ∷ [])) ≡ Blocked
  pub has_ended : adder_outcome (take 7 two_calls) (event.Step 3 0) ≡ Blocked
  pub no_disk : adder_outcome (take 9 two_calls) (event.Fail 0) ≡ Blocked
  pub no_thread : adder_outcome (take 9 two_calls) (event.Step 4 0) ≡ Blocked
  pub no_operation : adder_outcome (take 9 two_calls) (event.Call 1 (1 ∷ 2 ∷ [])) ≡ Blocked
  pub too_large : adder_outcome (take 9 two_calls) (add (2 ^ 64) 1) ≡ Blocked

-- ---- a crash, and a Sum that wraps

abbrev pub crashed_call : List (Event ℕ)
crashed_call = event.Step 1 0 ∷ event.Step 1 0 ∷ add 1 2 ∷ event.Crash ∷ event.Step 2 0 ∷ event.Step 3 0 ∷ event.Step 3 0 ∷ add (2 ^ 64 - 1) 1
    ∷ event.Step 4 0 ∷ []

pub record CrashedCall : Type 0 where
  pub history : (adder_run crashed_call).history ≡ entry.Boot ∷ entry.Call 1 0 (1 ∷ 2 ∷ []) ∷ entry.Crash ∷ entry.Boot
      ∷ entry.Call 2 0 ((2 ^ 64 - 1) ∷ 1 ∷ []) ∷ entry.Answer 2 0 ∷ []
  pub was_dropped : adder_outcome (take 4 crashed_call) (event.Step 2 0) ≡ Blocked

-- ---- a machine that does something else

-- the specification of a sum isn't refined by a difference
abbrev pub WrongPackage : Type 0
WrongPackage = RefinesWithoutCrash subtractor adding → ⊥

-- ---- what refuses a list of moves, at which move

abbrev pub one_call : List (Entry ℕ)
one_call = entry.Boot ∷ entry.Call 1 0 (1 ∷ 2 ∷ []) ∷ entry.Answer 1 3 ∷ []

abbrev pub start : List (Move ℕ)
start = move.Other entry.Boot ∷ move.Other (entry.Call 1 0 (1 ∷ 2 ∷ [])) ∷ []

abbrev pub refused : ℕ → WalkCause → Result (WalkState (Unit {0}) ℕ) WalkFault
refused index cause = Err (record { index = index; cause = cause })

pub record Refusals : Type 0 where
  pub not_acted : adder_walk one_call (move.Other entry.Boot ∷ move.Other (entry.Call 1 0 (1 ∷ 2 ∷ [])) ∷ move.Other (entry.Answer 1 3) ∷ [])
      ≡ refused 3 NotActed
  pub missing : adder_walk one_call start ≡ refused 3 Missing
  pub order : adder_walk one_call (move.Other entry.Boot ∷ move.Other (entry.Call 1 0 (1 ∷ 2 ∷ [])) ∷ move.Act 1 [] ∷ move.Other (entry.Answer 1 4) ∷ [])
      ≡ refused 4 Order
  pub wrong_reply : adder_walk (entry.Boot ∷ entry.Call 1 0 (1 ∷ 2 ∷ []) ∷ entry.Answer 1 4 ∷ [])
      (move.Other entry.Boot ∷ move.Other (entry.Call 1 0 (1 ∷ 2 ∷ [])) ∷ move.Act 1 [] ∷ move.Other (entry.Answer 1 4) ∷ []) ≡ refused 4 WrongReply
  pub acted_already : adder_walk one_call (move.Other entry.Boot ∷ move.Other (entry.Call 1 0 (1 ∷ 2 ∷ [])) ∷ move.Act 1 [] ∷ move.Act 1 [] ∷ [])
      ≡ refused 4 ActedAlready
  pub not_called : adder_walk one_call (move.Act 1 [] ∷ []) ≡ refused 1 NotCalled
  pub repeated : adder_walk (entry.Boot ∷ entry.Call 1 0 (1 ∷ 2 ∷ []) ∷ entry.Call 1 0 (1 ∷ 2 ∷ []) ∷ [])
      (move.Other entry.Boot ∷ move.Other (entry.Call 1 0 (1 ∷ 2 ∷ [])) ∷ move.Other (entry.Call 1 0 (1 ∷ 2 ∷ [])) ∷ []) ≡ refused 3 Repeated
  -- a call that a boot left behind is in the table no more
  pub left_behind : adder_walk (entry.Boot ∷ entry.Call 1 0 (1 ∷ 2 ∷ []) ∷ entry.Crash ∷ entry.Boot ∷ [])
      (move.Other entry.Boot ∷ move.Other (entry.Call 1 0 (1 ∷ 2 ∷ [])) ∷ move.Other entry.Crash ∷ move.Other entry.Boot ∷ move.Act 1 [] ∷ [])
      ≡ refused 5 NotCalled
  -- between a crash and the next boot it may still act
  pub helped : IsTrue (is_ok (adder_walk (entry.Boot ∷ entry.Call 1 0 (1 ∷ 2 ∷ []) ∷ entry.Crash ∷ entry.Boot ∷ [])
      (move.Other entry.Boot ∷ move.Other (entry.Call 1 0 (1 ∷ 2 ∷ [])) ∷ move.Other entry.Crash ∷ move.Act 1 [] ∷ move.Other entry.Boot ∷ [])))
  -- no moves at all explain the wrong answer
  pub none_explains : (moves : List (Move ℕ)) → Explains adding moves (entry.Boot ∷ entry.Call 1 0 (1 ∷ 2 ∷ []) ∷ entry.Answer 1 4 ∷ []) → ⊥

-- ---- choices

-- one field, first 5. Operation 0 raises it by one and replies what it was, operation 1 replies any number below 10,
-- and operation 2 replies the field. A crash keeps the field or sets it to 0.
abbrev pub drawer_applied : ℕ → List ℕ → List ℕ → ℕ → Option (ℕ × ℕ)
drawer_applied zero args [] n = Some (suc n, n)
drawer_applied (suc zero) args (x ∷ []) n = if nat_lt x 10 then Some (n, x) else None
drawer_applied (suc (suc zero)) args [] n = Some (n, n)
drawer_applied op args choices n = None

abbrev pub drawer_crashed : List ℕ → ℕ → Option ℕ
drawer_crashed (x ∷ []) n = if nat_lt x 2 then Some (n * x) else None
drawer_crashed choices n = None

abbrev pub drawer : Specification ℕ ℕ
drawer = record {
  first_fields = 5;
  allows = λ op args. nat_lt op 3;
  applied = drawer_applied;
  crashed = drawer_crashed;
  same = ◌==◌;
  decides = λ x y. (eqb-true x y, eq-eqb x y);
}

abbrev pub drawer_walk : ℕ → ℕ → List (Move ℕ) → Result (WalkState ℕ ℕ) WalkFault
drawer_walk op reply moves = walk drawer (entry.Boot ∷ entry.Call 1 op [] ∷ entry.Answer 1 reply ∷ []) moves

-- a boot, a call, its act and its answer
abbrev pub drawn : List ℕ → ℕ → List ℕ → ℕ → List (Move ℕ)
drawn at_boot op choices reply = move.Boot at_boot ∷ move.Other (entry.Call 1 op []) ∷ move.Act 1 choices ∷ move.Other (entry.Answer 1 reply) ∷ []

abbrev pub undrawn : ℕ → WalkCause → Result (WalkState ℕ ℕ) WalkFault
undrawn index cause = Err (record { index = index; cause = cause })

pub record Choices : Type 0 where
  pub explained : IsTrue (is_ok (drawer_walk 1 7 (drawn (1 ∷ []) 1 (7 ∷ []) 7)))
  pub largest : IsTrue (is_ok (drawer_walk 1 9 (drawn (1 ∷ []) 1 (9 ∷ []) 9)))
  pub its_bound : drawer_walk 1 10 (drawn (1 ∷ []) 1 (10 ∷ []) 10) ≡ undrawn 3 BadChoice
  pub none : drawer_walk 1 7 (drawn (1 ∷ []) 1 [] 7) ≡ undrawn 3 BadChoice
  pub two : drawer_walk 1 7 (drawn (1 ∷ []) 1 (7 ∷ 7 ∷ []) 7) ≡ undrawn 3 BadChoice
  pub not_asked : drawer_walk 2 5 (drawn (1 ∷ []) 2 (0 ∷ []) 5) ≡ undrawn 3 BadChoice
  pub another_reply : drawer_walk 1 8 (drawn (1 ∷ []) 1 (7 ∷ []) 8) ≡ undrawn 4 WrongReply
  -- a crash chooses too
  pub kept : IsTrue (is_ok (drawer_walk 2 5 (drawn (1 ∷ []) 2 [] 5)))
  pub cleared : drawer_walk 2 5 (drawn (0 ∷ []) 2 [] 5) ≡ undrawn 4 WrongReply
  pub beyond : drawer_walk 2 5 (drawn (2 ∷ []) 2 [] 5) ≡ undrawn 1 BadChoice
  pub no_choice : drawer_walk 2 5 (move.Other entry.Boot ∷ []) ≡ undrawn 1 BadChoice
  -- other causes come first
  pub not_called_first : drawer_walk 1 7 (move.Boot (1 ∷ []) ∷ move.Act 1 [] ∷ []) ≡ undrawn 2 NotCalled
  pub acted_first : drawer_walk 1 7 (move.Boot (1 ∷ []) ∷ move.Other (entry.Call 1 1 []) ∷ move.Act 1 (7 ∷ []) ∷ move.Act 1 [] ∷ []) ≡ undrawn 4 ActedAlready
  pub order_first : drawer_walk 1 7 (move.Boot (1 ∷ []) ∷ move.Boot (2 ∷ []) ∷ []) ≡ undrawn 2 Order

-- ---- threads that start threads

-- a thread that starts another one with nothing to do, or returns at once
pub data Starter : Type 0 where
  Starts : Starter
  Ends : Starter

abbrev pub starter_stepped : ℕ → Starter → Unit {0} → Answer (Stepped (Unit {0}) Starter (Unit {0}))
starter_stepped extra Starts world = Next (GoesOn world Ends (Ends ∷ []))
starter_stepped extra Ends world = Next (Returns world tt)

-- recovery and each call start a thread, then they return; a call replies 5
abbrev pub starters : Machine (Unit {0}) Starter (Unit {0}) ℕ
starters = record {
  first_world = tt;
  recovery = Starts;
  stepped = starter_stepped;
  called = λ receiver op args world. Some (world, Starts);
  reply = λ result world. Ok 5;
  crashed = λ world. world;
  failed = λ disk world. None;
}

abbrev pub starters_run : List (Event ℕ) → RunState (Unit {0}) Starter (Unit {0}) ℕ
starters_run events = run_of starters (λ op args. true) events

pub record StartedThreads : Type 0 where
  -- thread 1 starts thread 2, which ends without a boot
  pub second : (starters_run (event.Step 1 0 ∷ [])).threads ≡ Some (Recovers, Ends) ∷ Some (Spawned, Ends) ∷ []
  pub no_boot : (starters_run (event.Step 1 0 ∷ event.Step 2 0 ∷ [])).receiver ≡ None
  -- a call in thread 3 starts thread 4, which ends after the call has answered and tells nothing
  pub history : (starters_run (event.Step 1 0 ∷ event.Step 1 0 ∷ event.Step 2 0 ∷ event.Call 0 [] ∷ event.Step 3 0 ∷ event.Step 3 0 ∷ event.Step 4 0
      ∷ [])).history
      ≡ entry.Boot ∷ entry.Call 1 0 [] ∷ entry.Answer 1 5 ∷ []
  pub ended : (starters_run (event.Step 1 0 ∷ event.Step 1 0 ∷ event.Step 2 0 ∷ event.Call 0 [] ∷ event.Step 3 0 ∷ event.Step 3 0 ∷ event.Step 4 0
      ∷ [])).threads
      ≡ None ∷ None ∷ None ∷ None ∷ []

-- ---- two disks, of which one may fail

-- the disk that has failed, if one has
abbrev pub fail_once : ℕ → Option ℕ → Option (Option ℕ)
fail_once disk None = if nat_lt disk 2 then Some (Some disk) else None
fail_once disk (Some failed) = None

-- a machine that does nothing but lose a disk
abbrev pub two_disks : Machine (Option ℕ) (Unit {0}) (Unit {0}) ℕ
two_disks = record {
  first_world = None;
  recovery = tt;
  stepped = λ extra thread world. Next (Returns world tt);
  called = λ receiver op args world. None;
  reply = λ result world. Ok 0;
  crashed = λ world. world;
  failed = fail_once;
}

pub record SecondFailure : Type 0 where
  pub no_third_disk : outcome_of two_disks (λ op args. false) (run_of two_disks (λ op args. false) []) (event.Fail 2) ≡ Blocked
  pub second : outcome_of two_disks (λ op args. false) (run_of two_disks (λ op args. false) (event.Fail 1 ∷ [])) (event.Fail 0) ≡ Blocked
  -- a crash keeps what has failed
  pub after_crash : (run_of two_disks (λ op args. false) (event.Fail 1 ∷ event.Crash ∷ event.Fail 0 ∷ event.Fail 1 ∷ [])).world ≡ Some 1
