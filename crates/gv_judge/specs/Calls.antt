-- The calls in the table, as lists: those that have not acted, by ascending numbers, and those that have, with their replies.
use Rattle.std.specs.Prelude.{ℕ, ◌+◌, ◌<◌, ◌≤◌, ◌==◌, List, [], ◌∷◌, Option, Some, None, if◌then◌else◌, nat_lt}
use Rattle.gv_terms.specs.declared.value.Value.{Value}
use Rattle.gv_spec.specs.Entry as entry
use Rattle.gv_spec.specs.Entry.{Entry}
use Rattle.gv_judge.specs.declared.calls.Waiting.{Waiting}
use Rattle.gv_judge.specs.declared.calls.Kept.{Kept}

-- the operation and the arguments of the call under a number
abbrev pub waiting_under : List Waiting → ℕ → Option (ℕ × List Value)
waiting_under [] n = None
waiting_under (c ∷ calls) n = if n == c.number then Some (c.op, c.args.now) else waiting_under calls n

-- the reply of the call under a number
abbrev pub kept_under : List Kept → ℕ → Option Value
kept_under [] n = None
kept_under (c ∷ calls) n = if n == c.number then Some c.reply else kept_under calls n

-- one call more, before those of greater numbers
abbrev pub put_in : Waiting → List Waiting → List Waiting
put_in new [] = new ∷ []
put_in new (c ∷ calls) = if nat_lt new.number c.number then new ∷ c ∷ calls else c ∷ put_in new calls

-- the calls but for the one under a number
abbrev pub taken_out : ℕ → List Waiting → List Waiting
taken_out n [] = []
taken_out n (c ∷ calls) = if n == c.number then taken_out n calls else c ∷ taken_out n calls

abbrev pub kept_without : ℕ → List Kept → List Kept
kept_without n [] = []
kept_without n (c ∷ calls) = if n == c.number then kept_without n calls else c ∷ kept_without n calls

-- the calls are of so many operations, and their numbers ascend from one on
abbrev pub AreCalls : ℕ → ℕ → List Waiting → Type 0
AreCalls ops low [] = Unit {0}
AreCalls ops low (c ∷ calls) = (low ≤ c.number) × (c.op < ops) × AreCalls ops (c.number + 1) calls

-- the numbers of the calls among entries
abbrev pub numbers_called : {V : Type 0} → List (Entry V) → List ℕ
numbers_called [] = []
numbers_called (entry.Call n op args ∷ entries) = n ∷ numbers_called entries
numbers_called (entry.Answer n reply ∷ entries) = numbers_called entries
numbers_called (entry.Crash ∷ entries) = numbers_called entries
numbers_called (entry.Boot ∷ entries) = numbers_called entries
