-- What the lines of a schedule mean under a specification.
use Rattle.std.specs.Prelude.{ℕ, ◌+◌, nat_le, if◌then◌else◌, Option, Some, None, Result, Ok, Err, List, [], ◌∷◌, ◌++◌, map}
use Rattle.gv_base.specs.Places.{place_at}
use Rattle.gv_base.specs.declared.answers.Code.TheVariants as codes
use Rattle.gv_base.specs.declared.answers.Place.{Place}
use Rattle.gv_text.specs.Stops.{Fault}
use Rattle.gv_terms.specs.declared.value.Value.{Value}
use Rattle.gv_atomic.specs.declared.spec.Spec.{Spec}
use Rattle.gv_spec.specs.declared.event.Event.{Event}
use Rattle.gv_spec.specs.declared.event.Event.TheVariants as event
use Rattle.gv_replay.specs.declared.argument.Number.{Number}
use Rattle.gv_replay.specs.declared.line.Line.{Line}
use Rattle.gv_replay.specs.declared.line.Line.TheVariants as line
use Rattle.gv_replay.specs.declared.plan.Plan.{Plan}
use Rattle.gv_replay.specs.declared.plan.Planned.{Planned}
use Rattle.gv_replay.specs.declared.schedule.Line as schedule
use Rattle.gv_replay.specs.Meaning.{bounded, narrow, arity, called}
use Rattle.gv_replay.specs.Results.{and_then, map_ok}

-- the most events that a schedule has
abbrev pub most_events : ℕ
most_events = 1000000

-- there are two disks at most
abbrev pub disk_number : Number → Result ℕ Fault
disk_number n = bounded 2 n

abbrev pub told_call : ℕ × List Value → Option Event
told_call o = Some (event.Call o.0 o.1)

abbrev pub told_step : ℕ → ℕ → Option Event
told_step extra thread = Some (event.Step thread extra)

abbrev pub told_fail : ℕ → Option Event
told_fail disk = Some (event.Fail disk)

-- the event of a line, none of lines that stand in no schedule, or why it is refused
abbrev pub event_in : Spec → Line → Result (Option Event) Fault
event_in s (line.Call c) = map_ok told_call (called s c)
event_in s (line.Answer number reply) = Ok None
event_in s (line.Act number choices) = Ok None
event_in s (line.Crash at) = Ok (Some event.Crash)
event_in s (line.Boot choices) = Ok None
event_in s line.End = Ok None
event_in s (line.Step at thread count) = map_ok (told_step 0) (narrow thread)
event_in s (line.Fail at disk) = map_ok told_fail (disk_number disk)
event_in s (line.Grow at thread extra) = map_ok (told_step extra.value) (narrow thread)

abbrev pub count_of : Option Number → ℕ
count_of None = 1
count_of (Some n) = n.value

-- how many events a line stands for, and the byte of its first token
abbrev pub size_of : Line → ℕ × ℕ
size_of (line.Call c) = (1, c.at)
size_of (line.Answer number reply) = (0, 0)
size_of (line.Act number choices) = (0, 0)
size_of (line.Crash at) = (1, at)
size_of (line.Boot choices) = (0, 0)
size_of line.End = (0, 0)
size_of (line.Step at thread count) = (count_of count, at)
size_of (line.Fail at disk) = (1, at)
size_of (line.Grow at thread extra) = (1, at)

-- a call has as many arguments as its operation has parameters
abbrev pub arity_in : Spec → Line → Result (Unit {0}) Fault
arity_in s (line.Call c) = arity s c
arity_in s (line.Answer number reply) = Ok tt
arity_in s (line.Act number choices) = Ok tt
arity_in s (line.Crash at) = Ok tt
arity_in s (line.Boot choices) = Ok tt
arity_in s line.End = Ok tt
arity_in s (line.Step at thread count) = Ok tt
arity_in s (line.Fail at disk) = Ok tt
arity_in s (line.Grow at thread extra) = Ok tt

-- so many events more are not too many; else the line stands where there are
abbrev pub room : ℕ → ℕ × ℕ → Result (Unit {0}) Fault
room events size = if nat_le (events + size.0) most_events then Ok tt else Err (size.1, codes.TooManyEvents)

abbrev pub planned : Plan → ℕ × ℕ → Option Event → Plan
planned p size None = p
planned p size (Some e) = record {
  lines = p.lines ++ record { at = size.1; event = e; count = size.0 } ∷ [];
  events = p.events + size.0;
}

abbrev pub no_plan : Plan
no_plan = record { lines = []; events = 0 }

-- A plan with one more line. At the line's first token a wrong number of arguments is told before too many events.
abbrev pub with_plan : Spec → Plan → Line → Result Plan Fault
with_plan s p l = and_then (λ _. and_then (λ _. map_ok (planned p (size_of l)) (event_in s l)) (room p.events (size_of l))) (arity_in s l)

-- a line with its place in the text
abbrev pub at_place : Planned → Place → schedule.Line
at_place l place = record { event = l.event; count = l.count; place = place }

abbrev pub placed : List ℕ → Planned → schedule.Line
placed text l = at_place l (place_at text l.at)

abbrev pub lines_placed : List ℕ → Plan → List schedule.Line
lines_placed text p = map (placed text) p.lines
