-- Events, entries and moves as the program holds them, as those of the definitions.
use Rattle.std.specs.Prelude.{IsTrue, List, Result, map}
use Rattle.gv_terms.specs.declared.value.Value.{Value}
use Rattle.gv_atomic.specs.declared.spec.Spec.{Spec}
use Rattle.gv_spec.specs.declared.entry.Entry as held
use Rattle.gv_spec.specs.declared.entry.Entry.TheVariants as held_entry
use Rattle.gv_spec.specs.declared.explanation.Move as held_moves
use Rattle.gv_spec.specs.declared.explanation.Move.TheVariants as held_move
use Rattle.gv_spec.specs.declared.event.Event as held_events
use Rattle.gv_spec.specs.declared.event.Event.TheVariants as held_event
use Rattle.gv_spec.specs.Entry as entry
use Rattle.gv_spec.specs.Event as event
use Rattle.gv_spec.specs.Move as move
use Rattle.gv_spec.specs.Entry.{Entry}
use Rattle.gv_spec.specs.Event.{Event}
use Rattle.gv_spec.specs.Move.{Move}
use Rattle.gv_spec.specs.Atomic.{atomic_of, are_args}
use Rattle.gv_spec.specs.Walks.{WalkState, WalkFault, Explains, walk}

abbrev pub event_of : held_events.Event → Event Value
event_of (held_event.Call op args) = event.Call op args
event_of (held_event.Step thread extra) = event.Step thread extra
event_of held_event.Crash = event.Crash
event_of (held_event.Fail disk) = event.Fail disk

abbrev pub entry_of : held.Entry → Entry Value
entry_of (held_entry.Call number op args) = entry.Call number op args
entry_of (held_entry.Answer number reply) = entry.Answer number reply
entry_of held_entry.Crash = entry.Crash
entry_of held_entry.Boot = entry.Boot

abbrev pub move_of : held_moves.Move → Move Value
move_of (held_move.Act number choices) = move.Act number choices
move_of (held_move.Boot choices) = move.Boot choices
move_of (held_move.Other e) = move.Other (entry_of e)

-- a call is of an operation of the specification, with arguments of its parameters' sorts
abbrev pub IsEntryOf : Spec → held.Entry → Type 0
IsEntryOf s (held_entry.Call number op args) = IsTrue (are_args s op args)
IsEntryOf s (held_entry.Answer number reply) = Unit {0}
IsEntryOf s held_entry.Crash = Unit {0}
IsEntryOf s held_entry.Boot = Unit {0}

abbrev pub IsEventOf : Spec → held_events.Event → Type 0
IsEventOf s (held_event.Call op args) = IsTrue (are_args s op args)
IsEventOf s (held_event.Step thread extra) = Unit {0}
IsEventOf s held_event.Crash = Unit {0}
IsEventOf s (held_event.Fail disk) = Unit {0}

abbrev pub IsMoveOf : Spec → held_moves.Move → Type 0
IsMoveOf s (held_move.Act number choices) = Unit {0}
IsMoveOf s (held_move.Boot choices) = Unit {0}
IsMoveOf s (held_move.Other e) = IsEntryOf s e

-- the walk of a specification along the moves, beside the history
abbrev pub walked : Spec → List held.Entry → List held_moves.Move → Result (WalkState (List Value) Value) WalkFault
walked s history moves = walk (atomic_of s) (map entry_of history) (map move_of moves)

-- the moves explain the history, by the specification
abbrev pub IsExplanation : Spec → List held_moves.Move → List held.Entry → Type 0
IsExplanation s moves history = Explains (atomic_of s) (map move_of moves) (map entry_of history)
