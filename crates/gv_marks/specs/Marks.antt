-- The marks that a step leaves: those of before, and of what it begins to write.
use Rattle.std.specs.Prelude.{◌≡◌, ◌⊎◌, ℕ, Bool, true, false}
use Rattle.gv_base.specs.declared.answer.Answer.TheVariants.{Next}
use Rattle.gv_world.specs.Store.{Store as World}
use Rattle.gv_lang.specs.Tree.{Program}
use Rattle.gv_lang.specs.Threads.{Thread}
use Rattle.gv_lang.specs.Step.{Stepped, GoesOn, Returns, stepped}
use Rattle.gv_seats.specs.Seats.{Target, IsMarked, Writes}

abbrev pub world_after : Stepped → World
world_after (GoesOn w th started) = w
world_after (Returns w vs) = w

-- whether the thread is in the middle of a write then
abbrev pub is_begun : Stepped → Bool
is_begun (GoesOn w th started) = th.begun
is_begun (Returns w vs) = false

-- each mark was there before, or the thread has begun to write what it marks
abbrev pub MarksLaw : Type 0
MarksLaw = (program : Program) (extra : ℕ) (th : Thread) (w : World) (after : Stepped) → stepped program extra th w ≡ Next after → (t : Target)
    → IsMarked (world_after after) t → IsMarked w t ⊎ ((is_begun after ≡ true) × Writes th.top t)
