-- The walk along a list of moves: which calls are under way, what has acted, and what refuses a move.
use Rattle.std.specs.Prelude.{◌≡◌, ℕ, ◌+◌, Bool, true, false, if◌then◌else◌, List, [], ◌∷◌, ◌==◌, Option, Some, None, Result, Ok, Err}
use Rattle.gv_spec.specs.Entry as entry
use Rattle.gv_spec.specs.Move as move
use Rattle.gv_spec.specs.Entry.{Entry, same_entry}
use Rattle.gv_spec.specs.Move.{Move, shown, entries_of}
use Rattle.gv_spec.specs.Specification.{Specification}

-- where the call under a number stands
pub data Standing (V : Type 0) : Type 0 where
  NeverCalled : Standing V
  -- in the table: its operation and its arguments
  Called : ℕ → List V → Standing V
  -- in the table: the reply that its act kept
  Acted : V → Standing V
  Answered : Standing V
  -- it stood in the table when recovery returned
  Dropped : Standing V

pub record WalkState (F V : Type 0) : Type 0 where
  pub fields : F
  pub table : ℕ → Standing V

-- why a move is refused
pub data WalkCause : Type 0 where
  -- a call under a number that was used before
  Repeated : WalkCause
  -- an act or an answer of a call that is not in the table
  NotCalled : WalkCause
  -- a second act
  ActedAlready : WalkCause
  -- an answer before the act
  NotActed : WalkCause
  -- an answer that isn't the reply of the act
  WrongReply : WalkCause
  -- an entry that isn't the next one of the history
  Order : WalkCause
  -- no move is left, and the history goes on
  Missing : WalkCause
  -- choices that the operation of an act, or the crash that a boot ends, doesn't allow
  BadChoice : WalkCause

-- the first move that is refused, counted from 1, and why
pub record WalkFault : Type 0 where
  pub index : ℕ
  pub cause : WalkCause

-- the table with this standing of the call under n
abbrev pub entered : {V : Type 0} → (ℕ → Standing V) → ℕ → Standing V → ℕ → Standing V
entered table n standing m = if m == n then standing else table m

-- recovery returned: what is still in the table leaves it
abbrev pub dropped : {V : Type 0} → Standing V → Standing V
dropped (Called op args) = Dropped
dropped (Acted reply) = Dropped
dropped NeverCalled = NeverCalled
dropped Answered = Answered
dropped Dropped = Dropped

-- goes on where a move was not refused
abbrev pub onward : {A B : Type 0} → (A → Result B WalkCause) → Result A WalkCause → Result B WalkCause
onward next (Ok w) = next w
onward next (Err cause) = Err cause

-- the same, with the number of the move
abbrev pub located : {A : Type 0} → ℕ → (A → Result A WalkFault) → Result A WalkCause → Result A WalkFault
located index next (Ok w) = next w
located index next (Err cause) = Err (record { index = index; cause = cause })

-- whether a move may stand here by what it shows: it shows nothing, or the history's next entry
abbrev pub in_order : {V : Type 0} → (V → V → Bool) → List (Entry V) → Option (Entry V) → Bool
in_order same left None = true
in_order same [] (Some e) = false
in_order same (next ∷ left) (Some e) = same_entry same e next

-- what is left of the history behind it
abbrev pub left_after : {V : Type 0} → List (Entry V) → Option (Entry V) → List (Entry V)
left_after left None = left
left_after [] (Some e) = []
left_after (next ∷ left) (Some e) = left

module _ {F V : Type 0} (atomic : Specification F V) where
  abbrev pub first_walk : WalkState F V
  first_walk = record { fields = atomic.first_fields; table = λ n. NeverCalled }

  -- a number serves one call
  abbrev pub walk_called : WalkState F V → ℕ → ℕ → List V → Standing V → Result (WalkState F V) WalkCause
  walk_called w n op args NeverCalled = Ok (record w { table = entered w.table n (Called op args) })
  walk_called w n op args _ = Err Repeated

  -- the operation is applied to the fields, and its reply kept; the choices are tested last
  abbrev pub acted_to : WalkState F V → ℕ → Option (F × V) → Result (WalkState F V) WalkCause
  acted_to w n None = Err BadChoice
  acted_to w n (Some after) = Ok (record { fields = after.0; table = entered w.table n (Acted after.1) })

  abbrev pub walk_acted : WalkState F V → ℕ → List ℕ → Standing V → Result (WalkState F V) WalkCause
  walk_acted w n choices (Called op args) = acted_to w n (atomic.applied op args choices w.fields)
  walk_acted w n choices (Acted reply) = Err ActedAlready
  walk_acted w n choices _ = Err NotCalled

  -- the answer is the reply that the act kept
  abbrev pub walk_answered : WalkState F V → ℕ → V → Standing V → Result (WalkState F V) WalkCause
  walk_answered w n reply (Acted kept) =
      if atomic.same reply kept then Ok (record w { table = entered w.table n Answered }) else Err WrongReply
  walk_answered w n reply (Called op args) = Err NotActed
  walk_answered w n reply _ = Err NotCalled

  -- the crash has its effect on the fields, and the table is emptied
  abbrev pub booted_to : WalkState F V → Option F → Result (WalkState F V) WalkCause
  booted_to w None = Err BadChoice
  booted_to w (Some fields) = Ok (record { fields = fields; table = λ n. dropped (w.table n) })

  -- the walk after one move, or why it refuses the move
  abbrev pub walk_moved : WalkState F V → Move V → Result (WalkState F V) WalkCause
  walk_moved w (move.Act n choices) = walk_acted w n choices (w.table n)
  walk_moved w (move.Boot choices) = booted_to w (atomic.crashed choices w.fields)
  walk_moved w (move.Other (entry.Call n op args)) = walk_called w n op args (w.table n)
  walk_moved w (move.Other (entry.Answer n reply)) = walk_answered w n reply (w.table n)
  walk_moved w (move.Other entry.Crash) = Ok w
  walk_moved w (move.Other entry.Boot) = booted_to w (atomic.crashed [] w.fields)

  -- the walk after a list of moves, or the first cause
  abbrev pub walk_from : WalkState F V → List (Move V) → Result (WalkState F V) WalkCause
  walk_from w [] = Ok w
  walk_from w (m ∷ moves) = onward (λ next. walk_from next moves) (walk_moved w m)

  -- the moves explain the history: what they show is the history, and the walk refuses none
  pub record Explains (moves : List (Move V)) (history : List (Entry V)) : Type 0 where
    pub entries : entries_of moves ≡ history
    pub end : WalkState F V
    pub passes : walk_from first_walk moves ≡ Ok end

  -- The same question asked move by move, which tells the first fault: an entry that isn't the history's
  -- next one is refused before the walk's own causes.
  abbrev pub moved_beside : WalkState F V → List (Entry V) → Move V → Result (WalkState F V) WalkCause
  moved_beside w left m = if in_order atomic.same left (shown m) then walk_moved w m else Err Order

  -- after the last move no history may be left
  abbrev pub at_end : ℕ → WalkState F V → List (Entry V) → Result (WalkState F V) WalkFault
  at_end index w [] = Ok w
  at_end index w (e ∷ left) = Err (record { index = index; cause = Missing })

  abbrev pub walk_beside : ℕ → WalkState F V → List (Entry V) → List (Move V) → Result (WalkState F V) WalkFault
  walk_beside index w left [] = at_end index w left
  walk_beside index w left (m ∷ moves) =
      located index (λ next. walk_beside (index + 1) next (left_after left (shown m)) moves) (moved_beside w left m)

  -- the state after all moves, or the first fault
  abbrev pub walk : List (Entry V) → List (Move V) → Result (WalkState F V) WalkFault
  walk history moves = walk_beside 1 first_walk history moves
