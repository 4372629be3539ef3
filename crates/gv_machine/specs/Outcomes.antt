-- What comes of an event, as the definition answers, apart from memory and the limit on live cells.
use Rattle.std.specs.Prelude.{◌≡◌, Bool, true, false, not, Option, Some, None, Result, Ok, Err}
use Rattle.gv_base.specs.declared.answer.Answer.{Answer}
use Rattle.gv_base.specs.declared.answer.Answer.TheVariants.{Next, Blocked, Undefined}
use Rattle.gv_world.specs.Store.{Store as World, is_within_limit}
use Rattle.gv_lang.specs.Threads as plain
use Rattle.gv_store.specs.declared.grow.Grow.{Grow}
use Rattle.gv_store.specs.declared.grow.Grow.TheVariants as grow
use Rattle.gv_thread.specs.declared.frame.Thread.{Thread}
use Rattle.gv_thread.specs.Frames.{thread_of}
use Rattle.gv_runs.specs.Laws.{State}
use Rattle.gv_spec.specs.Runs.{settled}
use Rattle.gv_machine.specs.declared.outcome.Outcome.{Outcome}
use Rattle.gv_machine.specs.declared.outcome.Outcome.TheVariants as outcome

-- whether an event would leave more live cells than there may be
abbrev pub leaves_too_many : Answer State → Bool
leaves_too_many (Next s) = not (is_within_limit s.world)
leaves_too_many Blocked = false
leaves_too_many (Undefined reason) = false

-- What comes of an event in a state, and the state that it leaves: what the definition answers, or that it is refused. The
-- limit refuses it exactly where it would leave too many live cells; memory may refuse any. What is refused or isn't possible
-- changes nothing.
abbrev pub Comes : Answer State → State → Outcome → State → Type 0
Comes wanted old outcome.Done new = (wanted ≡ Next new) × (leaves_too_many wanted ≡ false)
Comes wanted old outcome.Blocked new = (wanted ≡ Blocked) × (new ≡ old)
Comes wanted old (outcome.Undefined reason) new = (wanted ≡ Undefined reason) × (new ≡ settled old wanted)
Comes wanted old outcome.TooMany new = (leaves_too_many wanted ≡ true) × (new ≡ old)
Comes wanted old outcome.NoMemory new = new ≡ old

-- ---- parts of an event

-- the same before a reason is kept
abbrev pub Makes : Answer State → State → Result (Answer (Unit {0})) Grow → State → Type 0
Makes wanted old (Ok (Next done)) new = (wanted ≡ Next new) × (leaves_too_many wanted ≡ false)
Makes wanted old (Ok Blocked) new = (wanted ≡ Blocked) × (new ≡ old)
Makes wanted old (Ok (Undefined reason)) new = (wanted ≡ Undefined reason) × (new ≡ old)
Makes wanted old (Err grow.TooMany) new = (leaves_too_many wanted ≡ true) × (new ≡ old)
Makes wanted old (Err grow.NoMemory) new = new ≡ old

abbrev pub is_over : Option (World × plain.Thread) → Bool
is_over (Some called) = not (is_within_limit called.0)
is_over None = false

-- the thread of a call, and the store with the buffers of its arguments
abbrev pub Starts : Option (World × plain.Thread) → World → Result (Option Thread) Grow → World → Type 0
Starts wanted old (Ok (Some thread)) new = (wanted ≡ Some (new, thread_of thread)) × (is_over wanted ≡ false)
Starts wanted old (Ok None) new = (wanted ≡ None) × (new ≡ old)
Starts wanted old (Err grow.TooMany) new = (is_over wanted ≡ true) × (new ≡ old)
Starts wanted old (Err grow.NoMemory) new = new ≡ old
