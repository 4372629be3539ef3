-- A schedule comes to one thing.
use Rattle.std.specs.Prelude.{◌≡◌, List}
use Rattle.gv_base.specs.declared.answers.Place.{Place}
use Rattle.gv_lang.specs.Tree.{Program}
use Rattle.gv_atomic.specs.declared.spec.Spec.{Spec}
use Rattle.gv_replay.specs.declared.schedule.Line.{Line}
use Rattle.gv_played.specs.declared.replaying.Ran.{Ran}
use Rattle.gv_played.specs.Played.{IsRan, IsTooMany}

-- to one history, and to one undefined event or to none
abbrev pub OneRun : Type 0
OneRun = (g : Program) (s : Spec) (lines : List Line) (x y : Ran) → IsRan g s lines x → IsRan g s lines y → x ≡ y

-- or to too many live cells, at one line
abbrev pub OneLine : Type 0
OneLine = (g : Program) (s : Spec) (lines : List Line) (p q : Place) → IsTooMany g s lines p → IsTooMany g s lines q → p ≡ q

abbrev pub NotBoth : Type 0
NotBoth = (g : Program) (s : Spec) (lines : List Line) (x : Ran) (p : Place) → IsRan g s lines x → IsTooMany g s lines p → ⊥
