-- What calls of code give and leave, as the definitions answer.
use Rattle.std.specs.Prelude.{◌≡◌, ℕ, List, Vec}
use Rattle.std.specs.declared.alloc.Global.{Global}
use Rattle.gv_base.specs.declared.reason.Reason.{Reason}
use Rattle.gv_base.specs.declared.answer.Answer.{Answer}
use Rattle.gv_base.specs.declared.answer.Answer.TheVariants.{Next, Blocked, Undefined}

-- an access that changes what it is made to: it leaves what the definition does, and where that is no next one
-- what there was
abbrev pub Does : {S : Type 0} → Answer S → S → Answer (Unit {0}) → S → Type 0
Does wanted old (Next done) new = wanted ≡ Next new
Does wanted old Blocked new = (wanted ≡ Blocked) × (new ≡ old)
Does wanted old (Undefined reason) new = (wanted ≡ Undefined reason) × (new ≡ old)

-- the same of an access that gives something too
abbrev pub Gives : {S A : Type 0} → Answer (S × A) → S → Answer A → S → Type 0
Gives wanted old (Next a) new = wanted ≡ Next (new, a)
Gives wanted old Blocked new = (wanted ≡ Blocked) × (new ≡ old)
Gives wanted old (Undefined reason) new = (wanted ≡ Undefined reason) × (new ≡ old)

-- what was found, as the bytes of a vector
abbrev pub Reads : Answer (List ℕ) → Answer (Vec ℕ Global) → Type 0
Reads wanted (Next v) = wanted ≡ Next v.items
Reads wanted Blocked = wanted ≡ Blocked
Reads wanted (Undefined reason) = wanted ≡ Undefined reason
