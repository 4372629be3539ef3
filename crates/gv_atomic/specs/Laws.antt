-- Laws of specifications.
use Rattle.std.specs.Prelude.{◌≡◌, ◌↔◌, ℕ, List, [], true}
use Rattle.gv_terms.specs.declared.tree.TermTree.{TermTree}
use Rattle.gv_terms.specs.declared.value.Value.{Value}
use Rattle.gv_terms.specs.declared.value.Binding.{Binding}
use Rattle.gv_atomic.specs.declared.spec.Pick.{Pick}
use Rattle.gv_atomic.specs.declared.spec.Op.{Op}
use Rattle.gv_atomic.specs.declared.spec.Spec.{Spec}
use Rattle.gv_atomic.specs.Choices.{are_allowed, AreAllowed}
use Rattle.gv_atomic.specs.Specification.{op_applied, crashed}
use Rattle.gv_atomic.specs.Plain.{plain_fields, plain_reply, plain_crashed, unless_chosen}

-- a list of choices is allowed exactly where it has one number for each pick, and each number fits the value
-- that its pick's bound has under what stands before and the earlier picks
abbrev pub ChoicesFit : Type 0
ChoicesFit = (ts : List TermTree) (before : List Binding) (picks : List Pick) (choices : List ℕ)
    → (are_allowed ts before picks choices ≡ true) ↔ AreAllowed ts before picks choices

-- an operation without picks does what its assignments and its reply say of the fields and the arguments, and
-- allows no choice
abbrev pub OperationsWithoutPicks : Type 0
OperationsWithoutPicks = (s : Spec) (o : Op) (args : List Value) (choices : List ℕ) (fields : List Value) → o.picks ≡ []
    → op_applied s o args choices fields ≡ unless_chosen choices (plain_fields s o args fields, plain_reply s o args fields)

-- and so a crash without picks
abbrev pub CrashesWithoutPicks : Type 0
CrashesWithoutPicks = (s : Spec) (choices : List ℕ) (fields : List Value) → s.crash_picks ≡ []
    → crashed s choices fields ≡ unless_chosen choices (plain_crashed s fields)
