-- How many nodes a history has in which calls come one after the other and nothing crashes.
use Rattle.std.specs.Prelude.{ℕ, ◌+◌, ◌*◌, ◌≤◌, List, [], ◌∷◌, length, Option, Some, None, if◌then◌else◌, ◌==◌}
use Rattle.gv_spec.specs.Entry as entry
use Rattle.gv_spec.specs.Entry.{Entry}
use Rattle.gv_spec.specs.Specification.{Specification}
use Rattle.gv_judge.specs.Search.{Choosing, nodes}

-- nothing crashes, and no call starts while another one has not answered; the number is that of the call that has not
abbrev pub IsOneByOne : {V : Type 0} → Option ℕ → List (Entry V) → Type 0
IsOneByOne unanswered [] = Unit {0}
IsOneByOne None (entry.Call n op args ∷ left) = IsOneByOne (Some n) left
IsOneByOne (Some m) (entry.Call n op args ∷ left) = ⊥
IsOneByOne None (entry.Answer n reply ∷ left) = IsOneByOne None left
IsOneByOne (Some m) (entry.Answer n reply ∷ left) = IsOneByOne (if n == m then None else Some m) left
IsOneByOne unanswered (entry.Crash ∷ left) = ⊥
IsOneByOne unanswered (entry.Boot ∷ left) = IsOneByOne unanswered left

-- at most one list of choices is allowed, as where nothing is picked
pub record ChoosesNothing {F V : Type 0} (choosing : Choosing F V) : Type 0 where
  pub acts : (op : ℕ) (args : List V) (fields : F) → length (choosing.of_operation op args fields) ≤ 1
  pub boots : (fields : F) → length (choosing.of_crash fields) ≤ 1

module _ (F V : Type 0) where
  -- then there are at most twice as many nodes as entries, and one
  abbrev pub FewNodes : Type 0
  FewNodes = (atomic : Specification F V) (choosing : Choosing F V) → ChoosesNothing choosing → (history : List (Entry V)) → IsOneByOne None history
      → length (nodes atomic choosing history) ≤ 2 * length history + 1
