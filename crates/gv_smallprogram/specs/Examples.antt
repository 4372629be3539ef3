-- Worked Sums and runs: the program of the package with the one operation `Add(a, b)`, which returns `a + b`.
use Rattle.std.specs.Prelude.{◌≡◌, ℕ, ◌-◌, ◌^◌, true, false, List, [], ◌∷◌, ◌++◌, map, replicate, Some, None, IsTrue, is_ok, codes}
use Rattle.gv_base.specs.declared.answers.Place.{Place}
use Rattle.gv_base.specs.declared.answer.Answer.{Answer}
use Rattle.gv_base.specs.declared.answer.Answer.TheVariants.{Blocked}
use Rattle.gv_base.specs.declared.small.Small.{Small}
use Rattle.gv_base.specs.declared.small.SmallOp.{SmallOp}
use Rattle.gv_base.specs.declared.small.Turn.{Turn}
use Rattle.gv_base.specs.declared.small.Part.{Part}
use Rattle.gv_base.specs.declared.small.Part.TheVariants as part
use Rattle.gv_base.specs.declared.val.Val.{Val}
use Rattle.gv_base.specs.declared.val.Val.TheVariants as val
use Rattle.gv_world.specs.Store.{Cells, Store as World}
use Rattle.gv_lang.specs.declared.pure.Binary.TheVariants as binary
use Rattle.gv_lang.specs.Tree.{LocalAt, Two, New, Do, Return}
use Rattle.gv_lang.specs.Graph.{ProcGraph, graphs_of}
use Rattle.gv_lang.specs.Threads.{Thread}
use Rattle.gv_lang.specs.WellShaped.{is_well_shaped}
use Rattle.gv_terms.specs.declared.value.Value.{Value}
use Rattle.gv_terms.specs.declared.value.Value.TheVariants as value
use Rattle.gv_spec.specs.Event as event
use Rattle.gv_spec.specs.Event.{Event}
use Rattle.gv_spec.specs.Entry as entry
use Rattle.gv_spec.specs.Move as move
use Rattle.gv_spec.specs.Move.{Move}
use Rattle.gv_spec.specs.Runs.{RunState, outcome_of, run_of}
use Rattle.gv_spec.specs.Walks.{walk}
use Rattle.gv_runs.specs.Machine.{machine_of}
use Rattle.gv_smallprogram.specs.Program.{Unkept, program_with, program_of}
use Rattle.gv_smallprogram.specs.Specification.{setting_of, specification_of}
use Rattle.gv_smallprogram.specs.Sums.{sum_value}

abbrev pub add_op : SmallOp
add_op = record {
  name = codes "Add";
  params = codes "a" ∷ codes "b" ∷ [];
  first = part.Param 0;
  rest = record { minus = false; part = part.Param 1 } ∷ [];
}

abbrev pub adder : Small
adder = record { ops = add_op ∷ [] }

-- the same but for `a - b + 1`
abbrev pub subtractor : Small
subtractor = record {
  ops = record add_op { rest = record { minus = true; part = part.Param 1 } ∷ record { minus = false; part = part.Number 1 } ∷ [] } ∷ [];
}

-- ---- Sums

-- the value of a Sum of two parts that begins with the first of two arguments
abbrev pub two_parts : Turn → ℕ → ℕ → ℕ
two_parts turn x y = sum_value (record add_op { rest = turn ∷ [] }) (x ∷ y ∷ [])

abbrev pub plus : Part → Turn
plus value = record { minus = false; part = value }

abbrev pub minus : Part → Turn
minus value = record { minus = true; part = value }

pub record SumValues : Type 0 where
  pub sum : two_parts (plus (part.Param 1)) 2 3 ≡ 5
  pub around : two_parts (plus (part.Param 1)) (2 ^ 64 - 1) 3 ≡ 2
  pub difference : two_parts (minus (part.Param 1)) 5 3 ≡ 2
  pub below_zero : two_parts (minus (part.Param 1)) 3 5 ≡ 2 ^ 64 - 2
  pub nothing : two_parts (minus (part.Param 0)) 5 3 ≡ 0
  pub number : two_parts (minus (part.Number 3)) 10 0 ≡ 7
  -- `10 - a + b - 1`, from the left
  pub from_left : sum_value (record add_op { first = part.Number 10; rest = minus (part.Param 0) ∷ plus (part.Param 1) ∷ minus (part.Number 1) ∷ [] })
      (4 ∷ 7 ∷ []) ≡ 12
  pub alone : sum_value (record add_op { first = part.Param 1; rest = [] }) (4 ∷ 7 ∷ []) ≡ 7

-- ---- its program

abbrev at : (line column : ℕ) → Place
at line column = record { line = line; column = column }

-- what the text of the package tells besides: statements in lines 6 and 10, behind a tab
abbrev pub adder_text : Unkept
adder_text = record { type_name = codes "Adder"; receiver = λ number. codes "s"; recovers = at 6 2; returns = λ number. at 10 2 }

abbrev adder_points : List ProcGraph
adder_points =
    record {
      entry = 1;
      points =
          record { action = Do (New 0 0 []) (at 6 2); place = at 6 2; targets = 0 ∷ []; next = 2 ∷ [] }
          ∷ record { action = Return (LocalAt 0 ∷ []) (at 6 2); place = at 6 2; targets = []; next = [] } ∷ [];
    }
    ∷ record {
      entry = 1;
      points = record { action = Return (Two binary.Plus (LocalAt 1) (LocalAt 2) ∷ []) (at 10 2); place = at 10 2; targets = []; next = [] } ∷ [];
    } ∷ []

pub record ProgramRows : Type 0 where
  pub shaped : is_well_shaped (program_of adder) ≡ true
  pub names : map (λ p. p.name) (program_with adder_text adder).procs ≡ codes "Recover" ∷ codes "Adder.Add" ∷ []
  pub locals : map (λ p. map (λ l. l.name) p.locals) (program_with adder_text adder).procs ≡ (codes "t.1" ∷ []) ∷ (codes "s" ∷ codes "a" ∷ codes "b" ∷ []) ∷ []
  pub points : graphs_of (program_with adder_text adder) ≡ adder_points

-- ---- its runs

abbrev pub State : Type 0
State = RunState World Thread (List Val) Value

abbrev pub run : Small → List (Event Value) → State
run small events = run_of (machine_of (program_of small) (setting_of small)) (specification_of small).allows events

abbrev pub outcome : List (Event Value) → Event Value → Answer State
outcome events e = outcome_of (machine_of (program_of adder) (setting_of adder)) (specification_of adder).allows (run adder events) e

-- so many steps of a thread
abbrev pub steps : (thread count : ℕ) → List (Event Value)
steps thread count = replicate count (event.Step thread 0)

abbrev pub words : (a b : ℕ) → List Value
words a b = value.Word a ∷ value.Word b ∷ []

abbrev pub add : (a b : ℕ) → Event Value
add a b = event.Call 0 (words a b)

-- recovery and one call
abbrev pub one_call : (a b : ℕ) → List (Event Value)
one_call a b = steps 1 2 ++ add a b ∷ steps 2 1

-- a crash drops a call, and the next one is made after the second recovery
abbrev pub crashed_call : List (Event Value)
crashed_call = steps 1 2 ++ add 1 2 ∷ event.Crash ∷ steps 2 1 ++ steps 3 2 ++ add 3 4 ∷ steps 4 1

-- two calls under way, the second answered first
abbrev pub two_calls : List (Event Value)
two_calls = steps 1 2 ++ add 1 2 ∷ add 3 4 ∷ steps 3 1 ++ steps 2 1

abbrev two_calls_moves : List (Move Value)
two_calls_moves = move.Other entry.Boot ∷ move.Other (entry.Call 1 0 (words 1 2)) ∷ move.Act 1 [] ∷ move.Other (entry.Call 2 0 (words 3 4))
    ∷ move.Act 2 [] ∷ move.Other (entry.Answer 2 (value.Word 7)) ∷ move.Other (entry.Answer 1 (value.Word 3)) ∷ []

pub record RunRows : Type 0 where
  -- recovery makes its object, and hands it on
  pub made : (run adder (steps 1 1)).world.objects ≡ Cells [] ∷ []
  pub not_booted : (run adder (steps 1 1)).receiver ≡ None
  pub booted : (run adder (steps 1 2)).receiver ≡ Some (val.Ref 1 ∷ [])
  pub started : (run adder (steps 1 2 ++ add 1 2 ∷ [])).history ≡ entry.Boot ∷ entry.Call 1 0 (words 1 2) ∷ []
  pub adds : (run adder (one_call 1 2)).history ≡ entry.Boot ∷ entry.Call 1 0 (words 1 2) ∷ entry.Answer 1 (value.Word 3) ∷ []
  pub goes_around : (run adder (one_call (2 ^ 64 - 1) 1)).history ≡ entry.Boot ∷ entry.Call 1 0 (words (2 ^ 64 - 1) 1) ∷ entry.Answer 1 (value.Word 0) ∷ []
  pub takes_away : (run subtractor (one_call 7 5)).history ≡ entry.Boot ∷ entry.Call 1 0 (words 7 5) ∷ entry.Answer 1 (value.Word 3) ∷ []
  pub below_zero : (run subtractor (one_call 0 3)).history ≡ entry.Boot ∷ entry.Call 1 0 (words 0 3) ∷ entry.Answer 1 (value.Word (2 ^ 64 - 2)) ∷ []
  pub crashes : (run adder crashed_call).history
      ≡ entry.Boot ∷ entry.Call 1 0 (words 1 2) ∷ entry.Crash ∷ entry.Boot ∷ entry.Call 2 0 (words 3 4) ∷ entry.Answer 2 (value.Word 7) ∷ []
  pub one_object : (run adder crashed_call).world.objects ≡ Cells [] ∷ []
  pub defined : (run adder crashed_call).fault ≡ None
  pub explained : IsTrue (is_ok (walk (specification_of adder) (run adder two_calls).history two_calls_moves))
  -- what isn't possible, each time after the events before it
  pub no_call_before_the_boot : outcome (steps 1 1) (add 1 2) ≡ Blocked
  pub one_argument : outcome (steps 1 2) (event.Call 0 (value.Word 1 ∷ [])) ≡ Blocked
  pub a_truth_value : outcome (steps 1 2) (event.Call 0 (value.Word 1 ∷ value.Bool true ∷ [])) ≡ Blocked
  pub too_large : outcome (steps 1 2) (add (2 ^ 64) 0) ≡ Blocked
  pub no_operation : outcome (steps 1 2) (event.Call 1 (words 1 2)) ≡ Blocked
  pub has_ended : outcome (one_call 1 2) (event.Step 2 0) ≡ Blocked
  pub was_dropped : outcome (steps 1 2 ++ add 1 2 ∷ event.Crash ∷ []) (event.Step 2 0) ≡ Blocked
  pub no_disk : outcome (steps 1 2) (event.Fail 0) ≡ Blocked
