-- The moves that a turn and all later ones of its node add.
use Rattle.std.specs.Prelude.{◌≡◌, ℕ, ◌<◌, List, [], ◌∷◌, ◌++◌, map, drop, length, Option, Some, None, slice_get}
use Rattle.std.specs.List.{flat_map}
use Rattle.gv_terms.specs.declared.value.Value.{Value}
use Rattle.gv_atomic.specs.declared.spec.Op.{Op}
use Rattle.gv_atomic.specs.declared.spec.Spec.{Spec}
use Rattle.gv_atomic.specs.Specification.{fields_bound, op_before}
use Rattle.gv_spec.specs.declared.entry.Entry as held_entry
use Rattle.gv_spec.specs.declared.entry.Entry.TheVariants as held
use Rattle.gv_spec.specs.Entry as entry
use Rattle.gv_spec.specs.Move as move
use Rattle.gv_spec.specs.Move.{Move}
use Rattle.gv_judge.specs.declared.calls.Waiting.{Waiting}
use Rattle.gv_judge.specs.declared.node.Node.{Node}
use Rattle.gv_judge.specs.declared.turn.Turn as turns
use Rattle.gv_judge.specs.declared.turn.Turn.TheVariants as turn
use Rattle.gv_judge.specs.Choosing.{lists_of_op}
use Rattle.gv_judge.specs.Calls.{waiting_under}
use Rattle.gv_judge.specs.Later.{later_lists}

-- the acts of these calls
abbrev pub acts_from : Spec → List Value → List Waiting → List (Move Value)
acts_from s fields calls = flat_map (λ c. map (λ cs. move.Act c.number cs) (lists_of_op s (slice_get s.ops c.op) c.args.now fields)) calls

-- the lists of choices of an operation that come after one
abbrev pub later_of_op : Spec → Option Op → List Value → List Value → List ℕ → List (List ℕ)
later_of_op s None args fields choices = []
later_of_op s (Some o) args fields choices = later_lists s.store (op_before s o args fields) o.picks choices

-- the move that a turn adds
abbrev pub move_first : turns.Turn → Move Value
move_first (turn.Call c) = move.Other (entry.Call c.number c.op c.args.now)
move_first (turn.Answer number reply) = move.Other (entry.Answer number reply.now)
move_first turn.Crash = move.Other entry.Crash
move_first (turn.Boot choices) = move.Boot choices.items
move_first (turn.Act c next choices) = move.Act c.number choices.items

-- the acts of a call that come after one under these choices, and those of the calls from a place on
abbrev pub acts_later : Spec → Node → Waiting → ℕ → List ℕ → List (Move Value)
acts_later s n c next choices =
    map (λ cs. move.Act c.number cs) (later_of_op s (slice_get s.ops c.op) c.args.now n.fields.values choices)
    ++ acts_from s n.fields.values (drop next n.waiting.items)

-- the boots that come after one under these choices, and all acts
abbrev pub boots_later : Spec → Node → List ℕ → List (Move Value)
boots_later s n choices =
    map (λ cs. move.Boot cs) (later_lists s.store (fields_bound s.fields n.fields.values) s.crash_picks choices)
    ++ acts_from s n.fields.values n.waiting.items

-- the moves that come after it
abbrev pub moves_later : Spec → Node → turns.Turn → List (Move Value)
moves_later s n (turn.Boot choices) = boots_later s n choices.items
moves_later s n (turn.Act c next choices) = acts_later s n c next choices.items
moves_later s n (turn.Call c) = acts_from s n.fields.values n.waiting.items
moves_later s n (turn.Answer number reply) = acts_from s n.fields.values n.waiting.items
moves_later s n turn.Crash = acts_from s n.fields.values n.waiting.items

-- both, where there is a turn
abbrev pub turn_moves : Spec → Node → Option turns.Turn → List (Move Value)
turn_moves s n None = []
turn_moves s n (Some t) = move_first t ∷ moves_later s n t

-- a turn is one of the node: a call is the history's next entry and of an operation, and an act is of a call that has not acted
abbrev pub IsTurn : Spec → List held_entry.Entry → Node → Option turns.Turn → Type 0
IsTurn s history n None = Unit {0}
IsTurn s history n (Some (turn.Call c)) = (slice_get history n.place ≡ Some (held.Call c.number c.op c.args.now)) × (c.op < length s.ops)
IsTurn s history n (Some (turn.Answer number reply)) = Unit {0}
IsTurn s history n (Some turn.Crash) = Unit {0}
IsTurn s history n (Some (turn.Boot choices)) = Unit {0}
IsTurn s history n (Some (turn.Act c next choices)) = (waiting_under n.waiting.items c.number ≡ Some (c.op, c.args.now)) × (c.op < length s.ops)

-- a turn that shows no call is one of the node whatever the history
abbrev pub IsLaterTurn : Spec → Node → Option turns.Turn → Type 0
IsLaterTurn s n o = (history : List held_entry.Entry) → IsTurn s history n o
