-- Which of several faults is told, and what is said of each item of a list.
use Rattle.std.specs.Prelude.{◌≡◌, ℕ, ◌⊎◌, Bool, false, List, length, Option, Some, None, MatchOption, slice_get}
use Rattle.gv_base.specs.Codes.{code_number}
use Rattle.gv_base.specs.declared.answers.Code.{Code}
use Rattle.gv_text.specs.Answers.{IsFirst}
use Rattle.gv_typing.specs.declared.term_fault.Fault.{Fault}

-- ---- lists

-- An item of a list has a fault. What is a fault of an item may depend on the items before it, so on its number.
pub record HasItemFault {T : Type 0} (Has : ℕ → T → ℕ → Code → Type 0) (items : List T) (at : ℕ) (code : Code) : Type 0 where
  pub number : ℕ
  pub item : T
  pub there : slice_get items number ≡ Some item
  pub fault : Has number item at code

-- two lists have as many items, and this holds of the items with one number
pub record AreEach {S T : Type 0} (Is : ℕ → S → T → Type 0) (items : List S) (others : List T) : Type 0 where
  pub count : length others ≡ length items
  pub each : (number : ℕ) (item : S) (other : T) → slice_get items number ≡ Some item → slice_get others number ≡ Some other → Is number item other

-- ---- faults

-- there is this one fault
pub data IsFault (start : ℕ) (kind : Code) : ℕ → Code → Type 0 where
  this : IsFault start kind start kind

-- there is this one fault unless something holds
pub data IsFaultUnless (holds : Bool) (start : ℕ) (kind : Code) : ℕ → Code → Type 0 where
  this_unless : holds ≡ false → IsFaultUnless holds start kind start kind

-- there is no fault, or this one is told before all others
abbrev pub TellsFirst : (ℕ → Code → Type 0) → Option Fault → Type 0
TellsFirst Has first = MatchOption first ((at : ℕ) (code : Code) → Has at code → ⊥) (λ f. IsFirst code_number Has f.start f.code)

-- this fault was told
abbrev pub IsTold : Option Fault → ℕ → Code → Type 0
IsTold None at code = ⊥
IsTold (Some f) at code = (at ≡ f.start) × (code ≡ f.code)

-- the first of all is told, after these faults were looked at too
abbrev pub Adds : (ℕ → Code → Type 0) → Option Fault → Option Fault → Type 0
Adds Has old first = TellsFirst (λ at code. IsTold old at code ⊎ Has at code) first
