-- What lines mean under a specification.
use Rattle.std.specs.Prelude.{ℕ, ◌+◌, ◌^◌, Bool, ◌==◌, nat_lt, if◌then◌else◌, Option, Some, None, Result, Ok, Err, List, [], ◌∷◌, ◌++◌, length, slice_get, replicate}
use Rattle.gv_base.specs.declared.answers.Code.TheVariants as codes
use Rattle.gv_terms.specs.declared.sort.Sort.{Sort}
use Rattle.gv_terms.specs.declared.sort.Sort.TheVariants as sort
use Rattle.gv_terms.specs.Sorts.{sort_eq}
use Rattle.gv_terms.specs.declared.value.Value.{Value}
use Rattle.gv_terms.specs.declared.value.Value.TheVariants as val
use Rattle.gv_terms.specs.declared.var.Var.{Var}
use Rattle.gv_atomic.specs.declared.spec.Op.{Op}
use Rattle.gv_atomic.specs.declared.spec.Spec.{Spec}
use Rattle.gv_spec.specs.declared.entry.Entry.{Entry}
use Rattle.gv_spec.specs.declared.entry.Entry.TheVariants as entry
use Rattle.gv_spec.specs.declared.explanation.Move.{Move}
use Rattle.gv_spec.specs.declared.explanation.Move.TheVariants as move
use Rattle.gv_replay.specs.declared.argument.Argument.{Argument}
use Rattle.gv_replay.specs.declared.argument.Number.{Number}
use Rattle.gv_replay.specs.declared.argument.Written.{Written}
use Rattle.gv_replay.specs.declared.argument.Written.TheVariants as written
use Rattle.gv_replay.specs.declared.line.CallLine.{CallLine}
use Rattle.gv_replay.specs.declared.line.Line.{Line}
use Rattle.gv_replay.specs.declared.line.Line.TheVariants as line
use Rattle.gv_text.specs.Stops.{Fault}
use Rattle.gv_replay.specs.Operations.{op_named}
use Rattle.gv_replay.specs.Results.{and_then, map_ok}

-- a number below a bound, or it is too large
abbrev pub bounded : ℕ → Number → Result ℕ Fault
bounded bound n = if nat_lt n.value bound then Ok n.value else Err (n.at, codes.TooMany)

-- the number of a call or of a thread
abbrev pub narrow : Number → Result ℕ Fault
narrow n = bounded (2 ^ 32) n

-- how often a byte stands in a literal
abbrev pub largest_count : ℕ
largest_count = 16777216

abbrev pub count_of : Number → Result ℕ Fault
count_of n = bounded (largest_count + 1) n

abbrev pub repeated : ℕ → Number → Result Value Fault
repeated b n = map_ok (λ count. val.Bytes (replicate count b)) (count_of n)

-- what is written, as a value
abbrev pub value_of : Written → Result Value Fault
value_of (written.Word n) = Ok (val.Word n)
value_of (written.Bool b) = Ok (val.Bool b)
value_of (written.Bytes bs) = Ok (val.Bytes bs)
value_of (written.Repeated b n) = repeated b n

-- the sort of what is written
abbrev pub sort_of : Written → Sort
sort_of (written.Word n) = sort.Word
sort_of (written.Bool b) = sort.Bool
sort_of (written.Bytes bs) = sort.Bytes
sort_of (written.Repeated b n) = sort.Bytes

abbrev pub has_sort : Written → Sort → Bool
has_sort w s = sort_eq (sort_of w) s

-- the value for a parameter of a sort
abbrev pub value_for : Sort → Argument → Result Value Fault
value_for s a = if has_sort a.written s then value_of a.written else Err (a.at, codes.WrongType)

-- the values for parameters, of which there are as many as arguments
abbrev pub values_for : List Var → List Argument → Result (List Value) Fault
values_for [] [] = Ok []
values_for [] (a ∷ rest) = Ok []
values_for (x ∷ xs) [] = Ok []
values_for (x ∷ xs) (a ∷ rest) = and_then (λ v. map_ok (λ vs. v ∷ vs) (values_for xs rest)) (value_for x.sort a)

abbrev pub params_of : Option Op → List Var
params_of None = []
params_of (Some o) = o.params

abbrev pub params_at : Spec → ℕ → List Var
params_at s op = params_of (slice_get s.ops op)

-- a call has as many arguments as its operation has parameters, where there is such an operation
abbrev pub arity_by : Spec → CallLine → Option ℕ → Result (Unit {0}) Fault
arity_by s c None = Ok tt
arity_by s c (Some op) = if length (params_at s op) == length c.args then Ok tt else Err (c.at, codes.WrongCount)

abbrev pub arity : Spec → CallLine → Result (Unit {0}) Fault
arity s c = arity_by s c (op_named c.op s.ops)

abbrev pub with_values : ℕ → List Value → ℕ × List Value
with_values op vs = (op, vs)

abbrev pub called_by : Spec → CallLine → Option ℕ → Result (ℕ × List Value) Fault
called_by s c None = Err (c.op_at, codes.Undeclared)
called_by s c (Some op) = map_ok (with_values op) (values_for (params_at s op) c.args)

-- the operation of a call and its arguments
abbrev pub called : Spec → CallLine → Result (ℕ × List Value) Fault
called s c = called_by s c (op_named c.op s.ops)

-- the number of a call, which is 0 where it has none
abbrev pub call_number : Option Number → Result ℕ Fault
call_number None = Ok 0
call_number (Some n) = narrow n

abbrev pub entry_of_call : ℕ → ℕ × List Value → Entry
entry_of_call n o = entry.Call n o.0 o.1

-- a call: its parts are tested as they stand, and the number of arguments at the word `call`
abbrev pub call_entry : Spec → CallLine → Result Entry Fault
call_entry s c = and_then (λ _. and_then (λ n. map_ok (entry_of_call n) (called s c)) (call_number c.number)) (arity s c)

abbrev pub reply_of : Option Argument → Result Value Fault
reply_of None = Ok val.Unit
reply_of (Some a) = value_of a.written

-- an answer: its reply may have any sort
abbrev pub answer_entry : Number → Option Argument → Result Entry Fault
answer_entry number reply = and_then (λ n. map_ok (λ v. entry.Answer n v) (reply_of reply)) (narrow number)

abbrev pub told_entry : Entry → Option Move
told_entry e = Some (move.Other e)

abbrev pub told_act : List ℕ → ℕ → Option Move
told_act choices n = Some (move.Act n choices)

-- the move that a line tells, none of `end` and of lines of schedules, or why it is refused
abbrev pub move_in : Spec → Line → Result (Option Move) Fault
move_in s (line.Call c) = map_ok told_entry (call_entry s c)
move_in s (line.Answer number reply) = map_ok told_entry (answer_entry number reply)
move_in s (line.Act number choices) = map_ok (told_act choices) (narrow number)
move_in s (line.Crash at) = Ok (told_entry entry.Crash)
move_in s (line.Boot choices) = Ok (Some (move.Boot choices))
move_in s line.End = Ok None
move_in s (line.Step at thread count) = Ok None
move_in s (line.Fail at disk) = Ok None
move_in s (line.Grow at thread extra) = Ok None

abbrev pub listed : Option Move → List Move
listed None = []
listed (Some m) = m ∷ []

abbrev pub with_move : List Move → Option Move → List Move
with_move moves m = moves ++ listed m

-- moves, and the one that a line tells
abbrev pub with_moves : Spec → List Move → Line → Result (List Move) Fault
with_moves s moves l = map_ok (with_move moves) (move_in s l)
