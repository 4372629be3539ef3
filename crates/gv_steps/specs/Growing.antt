-- Actions that may make the store larger: what their steps answer where memory or the limit on live cells refuses.
use Rattle.std.specs.Prelude.{◌≡◌, ℕ, Bool, true, false, not, Result, Ok, Err}
use Rattle.gv_base.specs.declared.answer.Answer.{Answer}
use Rattle.gv_base.specs.declared.answer.Answer.TheVariants.{Next}
use Rattle.gv_world.specs.Store.{Store as World, is_within_limit}
use Rattle.gv_lang.specs.Tree.{Action, Program}
use Rattle.gv_lang.specs.Threads.{Thread}
use Rattle.gv_lang.specs.Table.{Effect, Goes, acted}
use Rattle.gv_store.specs.declared.grow.Grow.{Grow}
use Rattle.gv_store.specs.declared.grow.Grow.TheVariants as grow
use Rattle.gv_steps.specs.Acting.{Acts, ActsIn}

-- whether a command, once it is done, leaves more live cells than there may be; the first of two steps makes none
abbrev pub is_over : Answer Effect → Bool
is_over (Next (Goes w locals)) = not (is_within_limit w)
is_over _ = false

abbrev pub row_of : Program → ℕ → Thread → World → Action → Answer Effect
row_of g extra th w a = acted g extra th.begun th.top.locals w a

-- the action's step, which the limit refuses just where it would leave too many live cells; memory may refuse any, and
-- what is refused changes nothing
abbrev pub ActsWithin : Action → Thread → World → Result (Answer (Unit {0})) Grow → Thread → World → Type 0
ActsWithin a old before (Ok answer) new after =
    Acts a old before answer new after
    × ((g : Program) (extra : ℕ) → is_within_limit before ≡ true → is_over (row_of g extra old before a) ≡ false)
ActsWithin a old before (Err grow.TooMany) new after =
    ((g : Program) (extra : ℕ) → is_over (row_of g extra old before a) ≡ true) × (new ≡ old) × (after ≡ before)
ActsWithin a old before (Err grow.NoMemory) new after = (new ≡ old) × (after ≡ before)

-- the same in one program and with one extra room
abbrev pub ActsWithinIn : Program → ℕ → Action → Thread → World → Result (Answer (Unit {0})) Grow → Thread → World → Type 0
ActsWithinIn g extra a old before (Ok answer) new after =
    ActsIn g extra a old before answer new after
    × (is_within_limit before ≡ true → is_over (row_of g extra old before a) ≡ false)
ActsWithinIn g extra a old before (Err grow.TooMany) new after =
    (is_over (row_of g extra old before a) ≡ true) × (new ≡ old) × (after ≡ before)
ActsWithinIn g extra a old before (Err grow.NoMemory) new after = (new ≡ old) × (after ≡ before)
