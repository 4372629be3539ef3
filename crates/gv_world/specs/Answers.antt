-- Answers in a row: the first that is no next one counts.
use Rattle.std.specs.Prelude.{Bool, if◌then◌else◌}
use Rattle.gv_base.specs.declared.reason.Reason.{Reason}
use Rattle.gv_base.specs.declared.answer.Answer.{Answer}
use Rattle.gv_base.specs.declared.answer.Answer.TheVariants.{Next, Blocked, Undefined}

-- goes on with what was answered, where it is a next one
abbrev pub and_then : {A B : Type 0} → Answer A → (A → Answer B) → Answer B
and_then (Next a) f = f a
and_then Blocked f = Blocked
and_then (Undefined reason) f = Undefined reason

-- undefined for this reason where the test holds, else the answer
abbrev pub undefined_if : {A : Type 0} → Bool → Reason → Answer A → Answer A
undefined_if test reason answer = if test then Undefined reason else answer
