-- What a step of a thread gives and leaves, as the definition answers.
use Rattle.std.specs.Prelude.{◌≡◌, Bool, true, false, not, ◌&&◌, List, [], ◌∷◌, Option, Some, None, Result, Ok, Err, Vec}
use Rattle.std.specs.declared.alloc.Global.{Global}
use Rattle.std.specs.List.{list_all}
use Rattle.gv_base.specs.declared.answer.Answer.{Answer}
use Rattle.gv_base.specs.declared.answer.Answer.TheVariants.{Next, Blocked, Undefined}
use Rattle.gv_base.specs.declared.answers.NoMemory.{NoMemory}
use Rattle.gv_base.specs.declared.val.Val.{Val}
use Rattle.gv_world.specs.Store.{Store as World, is_within_limit}
use Rattle.gv_lang.specs.Threads as plain
use Rattle.gv_lang.specs.Step.{Stepped, GoesOn, Returns}
use Rattle.gv_store.specs.declared.grow.Grow.{Grow}
use Rattle.gv_store.specs.declared.grow.Grow.TheVariants as grow
use Rattle.gv_thread.specs.declared.frame.Thread.{Thread}
use Rattle.gv_thread.specs.Frames.{thread_of}
use Rattle.gv_steps.specs.declared.after.After.{After}
use Rattle.gv_steps.specs.declared.after.After.TheVariants as after
use Rattle.gv_steps.specs.Bounds.{are_bounded_values, is_bounded_thread}

abbrev pub started_of : Option Thread → List plain.Thread
started_of None = []
started_of (Some thread) = thread_of thread ∷ []

-- the definition's step, of the store and the thread that code left and of what it handed out
abbrev pub left_by : World → plain.Thread → After → Stepped
left_by w th (after.GoesOn started) = GoesOn w th (started_of started)
left_by w th (after.Returns values) = Returns w values.items

-- whether a step leaves more live cells than there may be
abbrev pub leaves_too_many : Answer Stepped → Bool
leaves_too_many (Next (GoesOn w th started)) = not (is_within_limit w)
leaves_too_many (Next (Returns w vs)) = not (is_within_limit w)
leaves_too_many Blocked = false
leaves_too_many (Undefined reason) = false

-- the step as the definition has it; where it isn't a next one thread and store stay
abbrev pub Steps : Answer Stepped → plain.Thread → World → Answer After → plain.Thread → World → Type 0
Steps wanted old before (Next after) new now = wanted ≡ Next (left_by now new after)
Steps wanted old before Blocked new now = (wanted ≡ Blocked) × (new ≡ old) × (now ≡ before)
Steps wanted old before (Undefined reason) new now = (wanted ≡ Undefined reason) × (new ≡ old) × (now ≡ before)

-- the same, which the limit refuses only where the step would leave too many live cells
abbrev pub StepsOrRefuses : Answer Stepped → plain.Thread → World → Result (Answer After) Grow → plain.Thread → World → Type 0
StepsOrRefuses wanted old before (Ok answer) new now = Steps wanted old before answer new now
StepsOrRefuses wanted old before (Err grow.TooMany) new now = (leaves_too_many wanted ≡ true) × (new ≡ old) × (now ≡ before)
StepsOrRefuses wanted old before (Err grow.NoMemory) new now = (new ≡ old) × (now ≡ before)

-- the same, which the limit refuses just where the step would leave too many live cells; memory may refuse any, and
-- what is refused changes nothing
abbrev pub StepsWithin : Answer Stepped → plain.Thread → World → Result (Answer After) Grow → plain.Thread → World → Type 0
StepsWithin wanted old before (Ok answer) new now = Steps wanted old before answer new now × (leaves_too_many wanted ≡ false)
StepsWithin wanted old before (Err grow.TooMany) new now = (leaves_too_many wanted ≡ true) × (new ≡ old) × (now ≡ before)
StepsWithin wanted old before (Err grow.NoMemory) new now = (new ≡ old) × (now ≡ before)

-- what is left of the thread and what is handed out have bounded slices alone
abbrev pub is_bounded_after : plain.Thread → Answer After → Bool
is_bounded_after th (Next (after.GoesOn started)) = is_bounded_thread th && list_all is_bounded_thread (started_of started)
is_bounded_after th (Next (after.Returns values)) = are_bounded_values values.items
is_bounded_after th Blocked = is_bounded_thread th
is_bounded_after th (Undefined reason) = is_bounded_thread th

-- ---- what came of a command, as what comes after a step

-- the thread goes on, and no other one starts
abbrev pub gone : Answer (Unit {0}) → Answer After
gone (Next done) = Next (after.GoesOn None)
gone Blocked = Blocked
gone (Undefined reason) = Undefined reason

abbrev pub gone_within : Result (Answer (Unit {0})) Grow → Result (Answer After) Grow
gone_within (Ok answer) = Ok (gone answer)
gone_within (Err e) = Err e

abbrev pub gone_in_memory : Result (Answer (Unit {0})) NoMemory → Result (Answer After) Grow
gone_in_memory (Ok answer) = Ok (gone answer)
gone_in_memory (Err e) = Err grow.NoMemory

abbrev pub begun : Answer Thread → Answer After
begun (Next started) = Next (after.GoesOn (Some started))
begun Blocked = Blocked
begun (Undefined reason) = Undefined reason

abbrev pub begun_in_memory : Result (Answer Thread) NoMemory → Result (Answer After) Grow
begun_in_memory (Ok answer) = Ok (begun answer)
begun_in_memory (Err e) = Err grow.NoMemory

abbrev ended : Option (Vec Val Global) → After
ended None = after.GoesOn None
ended (Some values) = after.Returns values

abbrev pub given_back : Answer (Option (Vec Val Global)) → Answer After
given_back (Next values) = Next (ended values)
given_back Blocked = Blocked
given_back (Undefined reason) = Undefined reason

abbrev pub given_back_in_memory : Result (Answer (Option (Vec Val Global))) NoMemory → Result (Answer After) Grow
given_back_in_memory (Ok answer) = Ok (given_back answer)
given_back_in_memory (Err e) = Err grow.NoMemory
