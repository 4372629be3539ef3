-- Calls that may make a store larger: what they answer where memory or the limit on live cells refuses.
use Rattle.std.specs.Prelude.{◌≡◌, ℕ, Bool, true, false, not, Result, Ok, Err}
use Rattle.gv_base.specs.declared.answer.Answer.{Answer}
use Rattle.gv_base.specs.declared.answer.Answer.TheVariants.{Next, Blocked, Undefined}
use Rattle.gv_world.specs.Store.{Object, Store, fresh, with_new, is_within_limit}
use Rattle.gv_cells.specs.Outcomes.{Does, Gives}
use Rattle.gv_store.specs.declared.grow.Grow.{Grow}
use Rattle.gv_store.specs.declared.grow.Grow.TheVariants as grow

-- whether an access leaves more live cells than there may be
abbrev pub is_over : Answer Store → Bool
is_over (Next s) = not (is_within_limit s)
is_over Blocked = false
is_over (Undefined reason) = false

abbrev pub is_over_with : {A : Type 0} → Answer (Store × A) → Bool
is_over_with (Next left) = not (is_within_limit left.0)
is_over_with Blocked = false
is_over_with (Undefined reason) = false

-- an access that the limit refuses just where it would leave too many live cells; memory may refuse any other
abbrev pub DoesWithin : Answer Store → Store → Result (Answer (Unit {0})) Grow → Store → Type 0
DoesWithin wanted old (Ok answer) new = Does wanted old answer new × (is_over wanted ≡ false)
DoesWithin wanted old (Err grow.TooMany) new = (is_over wanted ≡ true) × (new ≡ old)
DoesWithin wanted old (Err grow.NoMemory) new = (is_over wanted ≡ false) × (new ≡ old)

-- the same of an access that gives something too
abbrev pub GivesWithin : {A : Type 0} → Answer (Store × A) → Store → Result (Answer A) Grow → Store → Type 0
GivesWithin wanted old (Ok answer) new = Gives wanted old answer new × (is_over_with wanted ≡ false)
GivesWithin wanted old (Err grow.TooMany) new = (is_over_with wanted ≡ true) × (new ≡ old)
GivesWithin wanted old (Err grow.NoMemory) new = (is_over_with wanted ≡ false) × (new ≡ old)

-- the same of a fresh object, whose number is given
abbrev pub Makes : Object → Store → Result ℕ Grow → Store → Type 0
Makes object old (Ok number) new = (number ≡ fresh old) × (new ≡ with_new old object) × (is_within_limit new ≡ true)
Makes object old (Err grow.TooMany) new = (is_within_limit (with_new old object) ≡ false) × (new ≡ old)
Makes object old (Err grow.NoMemory) new = (is_within_limit (with_new old object) ≡ true) × (new ≡ old)
