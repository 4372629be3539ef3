-- A step's answer apart from the thread that it started.
use Rattle.std.specs.Prelude.{Option, Some, None, Result, Ok, Err}
use Rattle.gv_base.specs.declared.answer.Answer.{Answer}
use Rattle.gv_base.specs.declared.answer.Answer.TheVariants.{Next, Blocked, Undefined}
use Rattle.gv_store.specs.declared.grow.Grow.{Grow}
use Rattle.gv_steps.specs.declared.after.After.{After}
use Rattle.gv_steps.specs.declared.after.After.TheVariants as after
use Rattle.gv_thread.specs.declared.frame.Thread.{Thread}

abbrev pub answer_of : Result (Answer After) Grow → Result (Answer (Unit {0})) Grow
answer_of (Ok (Next after)) = Ok (Next tt)
answer_of (Ok Blocked) = Ok Blocked
answer_of (Ok (Undefined reason)) = Ok (Undefined reason)
answer_of (Err grow) = Err grow

abbrev pub started_by : Result (Answer After) Grow → Option Thread
started_by (Ok (Next (after.GoesOn started))) = started
started_by (Ok (Next (after.Returns values))) = None
started_by (Ok Blocked) = None
started_by (Ok (Undefined reason)) = None
started_by (Err grow) = None
