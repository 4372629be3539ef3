-- Answers in a row.
use Rattle.std.proofs.Common.{◌≡◌, refl}
use Rattle.gv_base.specs.declared.answer.Answer.{Answer}
use Rattle.gv_base.specs.declared.answer.Answer.TheVariants.{Next, Blocked, Undefined}
use Rattle.gv_world.specs.Answers.{and_then}

-- a row of three, from either end
pub chained : {A B C : Type 0} (found : Answer A) (f : A → Answer B) (h : B → Answer C)
    → and_then (and_then found f) h ≡ and_then found (λ a. and_then (f a) h)
chained (Next a) f h = refl
chained Blocked f h = refl
chained (Undefined reason) f h = refl
