-- What the next step of a thread comes to, as far as its next command tells.
use Rattle.std.specs.Prelude.{◌≡◌, Option, Some, None, option_map}
use Rattle.gv_lang.specs.Threads.{Thread}
use Rattle.gv_spec.specs.Runs as runs
use Rattle.gv_machine.specs.declared.ending.Ending.{Ending}
use Rattle.gv_machine.specs.declared.ending.Ending.TheVariants as ending
use Rattle.gv_machine.specs.Returning.{returned_next, EndsWith}
use Rattle.gv_machine.specs.Seen.{role_of}

-- what the next step of the thread under a number comes to, where there is one
abbrev pub ComesTo : Option (runs.Role × Thread) → Ending → Type 0
ComesTo None ending.Gone = Unit {0}
ComesTo None ending.GoesOn = ⊥
ComesTo None (ending.Ends role found) = ⊥
ComesTo (Some thread) ending.Gone = ⊥
ComesTo (Some thread) ending.GoesOn = returned_next thread.1 ≡ None
ComesTo (Some thread) (ending.Ends role found) = (thread.0 ≡ role_of role) × EndsWith thread.1 (option_map (λ vs. vs.items) found)

-- the step of a thread doesn't end it
abbrev pub GoesOn : Option (runs.Role × Thread) → Type 0
GoesOn None = ⊥
GoesOn (Some thread) = returned_next thread.1 ≡ None
