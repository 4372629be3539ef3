-- How many calls have not acted yet, and how many moves a node can still take at most.
use Rattle.std.specs.Prelude.{◌≡◌, ℕ, ◌+◌, ◌*◌, ◌<◌, ◌≤◌, zero, suc, List, length}
use Rattle.gv_spec.specs.Entry.{Entry}
use Rattle.gv_spec.specs.Walks.{Standing, NeverCalled, Called, Acted, Answered, Dropped, WalkState}
use Rattle.gv_judge.specs.Search.{call_bound}

abbrev pub waits : {V : Type 0} → Standing V → ℕ
waits (Called op args) = 1
waits NeverCalled = 0
waits (Acted reply) = 0
waits Answered = 0
waits Dropped = 0

-- how many of the calls below a number have not acted
abbrev pub waiting : {V : Type 0} → (ℕ → Standing V) → ℕ → ℕ
waiting table zero = 0
waiting table (suc b) = waits (table b) + waiting table b

-- how many moves may still be added at most
abbrev pub room : {F V : Type 0} → ℕ → WalkState F V → List (Entry V) → ℕ
room bound w left = 2 * length left + waiting w.table bound

-- the calls in the table, and those that the history still has, are below the bound
pub record IsBound {F V : Type 0} (bound : ℕ) (w : WalkState F V) (left : List (Entry V)) : Type 0 where
  pub table : (n op : ℕ) (args : List V) → w.table n ≡ Called op args → n < bound
  pub history : call_bound left ≤ bound
