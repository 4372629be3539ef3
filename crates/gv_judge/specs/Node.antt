-- How a node of the search that the program holds tells where the walk stands.
use Rattle.std.specs.Prelude.{◌≡◌, ◌↔◌, ℕ, ◌<◌, Bool, List, [], ◌∷◌, ◌++◌, length, Option, Some, None, Ok, Err, IsTrue}
use Rattle.gv_terms.specs.declared.value.Value.{Value}
use Rattle.gv_atomic.specs.declared.spec.Spec.{Spec}
use Rattle.gv_spec.specs.Entry as entry
use Rattle.gv_spec.specs.Entry.{Entry}
use Rattle.gv_spec.specs.Move as move
use Rattle.gv_spec.specs.Move.{Move, entries_of}
use Rattle.gv_spec.specs.Atomic.{atomic_of}
use Rattle.gv_spec.specs.Walks.{Standing, NeverCalled, Called, Acted, Answered, Dropped, WalkState, WalkCause, walk_moved}
use Rattle.gv_judge.specs.declared.calls.Waiting.{Waiting}
use Rattle.gv_judge.specs.declared.node.Node.{Node}
use Rattle.gv_judge.specs.SearchLaws.{IsIn}
use Rattle.gv_judge.specs.Calls.{waiting_under, kept_under, AreCalls, numbers_called}

-- what a call that has not acted will do, and what one that has will answer
abbrev pub to_do : Standing Value → Option (ℕ × List Value)
to_do (Called op args) = Some (op, args)
to_do NeverCalled = None
to_do (Acted reply) = None
to_do Answered = None
to_do Dropped = None

abbrev pub to_answer : Standing Value → Option Value
to_answer (Acted reply) = Some reply
to_answer NeverCalled = None
to_answer (Called op args) = None
to_answer Answered = None
to_answer Dropped = None

-- the calls that have not acted are of operations, and ascend by their numbers
abbrev pub IsReady : Spec → Node → Type 0
IsReady s n = AreCalls (length s.ops) 0 n.waiting.items

-- The walk stands so after these entries: the node has its fields and the calls in its table, and a number was used where a call
-- among the entries bears it.
pub record StandsAt (s : Spec) (before : List (Entry Value)) (n : Node) (w : WalkState (List Value) Value) : Type 0 where
  pub fields : w.fields ≡ n.fields.values
  pub waiting : (k : ℕ) → to_do (w.table k) ≡ waiting_under n.waiting.items k
  pub kept : (k : ℕ) → to_answer (w.table k) ≡ kept_under n.acted.items k
  pub ready : IsReady s n
  pub fresh : (k : ℕ) → (w.table k ≡ NeverCalled) ↔ (IsIn k (numbers_called before) → ⊥)
  pub place : n.place ≡ length before

-- so it is wherever the walk stands so
abbrev pub StandsHere : Spec → Node → (List (Entry Value) → WalkState (List Value) Value → Type 0) → Type 0
StandsHere s n Holds = (before : List (Entry Value)) (w : WalkState (List Value) Value) → StandsAt s before n w → Holds before w

-- the node after a move, or none where the walk refuses it
abbrev pub Takes : Spec → List (Entry Value) → WalkState (List Value) Value → Move Value → Option Node → Type 0
Takes s before w m None = (cause : WalkCause) × (walk_moved (atomic_of s) w m ≡ Err cause)
Takes s before w m (Some n) = (u : WalkState (List Value) Value) × (walk_moved (atomic_of s) w m ≡ Ok u) × StandsAt s (before ++ entries_of (m ∷ [])) n u

-- the node after a call, or none where the walk refuses it, once it is told whether an entry before bears the call's number
abbrev pub TakesCall : Node → Waiting → Bool → Option Node → Type 0
TakesCall n c is_repeat o = (s : Spec) → c.op < length s.ops → StandsHere s n (λ before w.
    (IsTrue is_repeat ↔ IsIn c.number (numbers_called before)) → Takes s before w (move.Other (entry.Call c.number c.op c.args.now)) o)
