-- Faults as the program tells them, as those of the definitions.
use Rattle.std.specs.Prelude.{◌≡◌, ℕ, List, Result, Ok, Err, codes}
use Rattle.gv_history.specs.declared.fault.WalkCause as held_cause
use Rattle.gv_history.specs.declared.fault.WalkCause.TheVariants as told
use Rattle.gv_history.specs.declared.fault.WalkFault as held_fault
use Rattle.gv_history.specs.declared.fault.WalkFault.TheVariants as fault
use Rattle.gv_atomic.specs.declared.spec.Spec.{Spec}
use Rattle.gv_spec.specs.declared.entry.Entry as held_entry
use Rattle.gv_spec.specs.declared.explanation.Move as held_move
use Rattle.gv_spec.specs.History.{IsExplanation}
use Rattle.gv_spec.specs.Walks.{WalkState, WalkCause, WalkFault, Repeated, NotCalled, ActedAlready, NotActed, WrongReply, Order, Missing, BadChoice}

abbrev pub cause_of : held_cause.WalkCause → WalkCause
cause_of told.Repeated = Repeated
cause_of told.NotCalled = NotCalled
cause_of told.ActedAlready = ActedAlready
cause_of told.NotActed = NotActed
cause_of told.WrongReply = WrongReply
cause_of told.Order = Order
cause_of told.Missing = Missing
cause_of told.BadChoice = BadChoice

-- the name, as a report writes it
abbrev pub cause_name : held_cause.WalkCause → List ℕ
cause_name told.Repeated = codes "Repeated"
cause_name told.NotCalled = codes "NotCalled"
cause_name told.ActedAlready = codes "ActedAlready"
cause_name told.NotActed = codes "NotActed"
cause_name told.WrongReply = codes "WrongReply"
cause_name told.Order = codes "Order"
cause_name told.Missing = codes "Missing"
cause_name told.BadChoice = codes "BadChoice"

-- the fields where a walk ended, or its fault
abbrev pub fields_at_end : {F V : Type 0} → Result (WalkState F V) WalkFault → Result F WalkFault
fields_at_end (Ok w) = Ok w.fields
fields_at_end (Err fault) = Err fault

-- the walk has this fault; want of memory tells nothing of it
abbrev pub IsFaultOf : {A : Type 0} → Result A WalkFault → held_fault.WalkFault → Type 0
IsFaultOf walked fault.NoMemory = Unit {0}
IsFaultOf walked (fault.At index cause) = walked ≡ Err (record { index = index; cause = cause_of cause })

-- the moves don't explain the history; want of memory tells nothing of them
abbrev pub IsUnexplained : Spec → List held_move.Move → List held_entry.Entry → held_fault.WalkFault → Type 0
IsUnexplained s moves history fault.NoMemory = Unit {0}
IsUnexplained s moves history (fault.At index cause) = IsExplanation s moves history → ⊥

-- the move under this number is refused for this cause
abbrev pub IsRefused : {A : Type 0} → ℕ → Result A WalkCause → held_fault.WalkFault → Type 0
IsRefused index moved fault.NoMemory = Unit {0}
IsRefused index moved (fault.At at cause) = (at ≡ index) × (moved ≡ Err (cause_of cause))

-- the walk stands so after the move under this number, or the move is refused
abbrev pub Follows : {A W : Type 0} → ℕ → Result A held_fault.WalkFault → Result W WalkCause → W → Type 0
Follows index (Ok a) moved after = moved ≡ Ok after
Follows index (Err e) moved after = IsRefused index moved e
