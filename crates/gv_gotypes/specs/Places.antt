-- Where operands begin, and what may stand in a place.
use Rattle.std.specs.Prelude.{ℕ, Bool, true, false, nat_lt, if◌then◌else◌, List, [], ◌∷◌, ◌++◌, Option, Some, None, is_some}
use Rattle.gv_base.specs.declared.answers.Code.TheVariants.{WrongType, ConstTooLarge}
use Rattle.gv_gotypes.specs.Trees.{Expr, Constant, Name, Paren, Convert, Select, Index, Slice, Unary, Binary}
use Rattle.gv_operands.specs.declared.types.GoType.{GoType}
use Rattle.gv_operands.specs.declared.types.GoType.TheVariants.{Word, Byte, Map}
use Rattle.gv_operands.specs.declared.types.Value.TheVariants.{Count}
use Rattle.gv_operands.specs.declared.types.Kind.TheVariants.{Untyped}
use Rattle.gv_operands.specs.declared.types.Class.{Class}
use Rattle.gv_operands.specs.declared.types.Class.TheVariants.{Run, Fixed, Shifted, Nil, Length}
use Rattle.gv_operands.specs.Types.{item_of, same_type, has_nil, own_type}
use Rattle.gv_operands.specs.declared.part.Want.{Want}
use Rattle.gv_operands.specs.declared.part.Want.TheVariants.{Exactly, AnyTyped, ASlice, AMap, Unknown}
use Rattle.gv_operands.specs.declared.part.Spot.{Spot}
use Rattle.gv_operands.specs.declared.part.Part.{Part}
use Rattle.gv_gotypes.specs.Types.{Finding, Fault, unless}
use Rattle.gv_operands.specs.Operators.{is_fixed}

-- ---- where an operand begins

abbrev pub start_of : Expr → ℕ
start_of (Constant t) = t.start
start_of (Name t) = t.start
start_of (Paren t e) = t.start
start_of (Convert t e) = t.start
start_of (Select e t) = start_of e
start_of (Index e i) = start_of e
start_of (Slice e a b) = start_of e
start_of (Unary t e) = t.start
start_of (Binary a t b) = start_of a

-- an operand without its own parentheses
abbrev pub bare : Expr → Expr
bare (Paren t e) = bare e
bare (Constant t) = Constant t
bare (Name t) = Name t
bare (Convert t e) = Convert t e
bare (Select e t) = Select e t
bare (Index e i) = Index e i
bare (Slice e a b) = Slice e a b
bare (Unary t e) = Unary t e
bare (Binary a t b) = Binary a t b

-- where an operand begins, with its own parentheses and without
abbrev pub spot_of : Expr → Spot
spot_of e = record { start = start_of e; inner = start_of (bare e) }

-- ---- operands that are refused where they stand

-- What is made of an operand, and what is found in it.
pub record Outcome : Type 0 where
  pub class : Option Class
  pub findings : List Finding

-- It is so wherever it stands but in a larger constant: a constant whose value is outside is ConstTooLarge where it begins, and `len` WrongType
-- but in `uint64(len(e))`.
abbrev pub refusal : Spot → Class → List Finding
refusal e (Fixed k None) = Fault e.start ConstTooLarge ∷ []
refusal e Length = Fault e.inner WrongType ∷ []
refusal e c = []

-- a part of a form
abbrev pub part_of : Expr → Option Class → Part
part_of e c = record { spot = spot_of e; class = c }

abbrev pub part_refusal : Part → List Finding
part_refusal p = elim p.class [ None ↦ [] | Some c ↦ refusal p.spot c ]

abbrev pub is_nothing : Part → Bool
is_nothing p = elim p.class [ None ↦ true | Some c ↦ false ]

abbrev pub refusals : List Part → List Finding
refusals [] = []
refusals (p ∷ ps) = part_refusal p ++ refusals ps

abbrev pub some_is_nothing : List Part → Bool
some_is_nothing [] = false
some_is_nothing (p ∷ ps) = if is_nothing p then true else some_is_nothing ps

-- ---- forms

-- What a form is whose parts are all something: it is a constant; or a part of it is refused where it stands; or the form is WrongType where it
-- begins; or it is what it is made.
abbrev pub run_form : List Finding → Option Class → ℕ → Outcome
run_form [] None start = record { class = None; findings = Fault start WrongType ∷ [] }
run_form [] (Some c) start = record { class = Some c; findings = [] }
run_form (f ∷ fs) made start = record { class = None; findings = f ∷ fs }

abbrev pub whole_form : List Finding → Option Class → ℕ → Outcome
whole_form refused None start = run_form refused None start
whole_form refused (Some c) start = if is_fixed c then record { class = Some c; findings = [] } else run_form refused (Some c) start

-- What stands on a part that is nothing is nothing, and has no fault of its own; another part may be refused where it stands.
abbrev pub form : List Part → List Finding → Option Class → ℕ → Outcome
form parts refused made start = if some_is_nothing parts then record { class = None; findings = refused } else whole_form refused made start

-- with what is found in the parts
abbrev pub behind : List Finding → Outcome → Outcome
behind fs o = record { class = o.class; findings = fs ++ o.findings }

-- ---- what a place wants

abbrev pub want : Option GoType → Want
want None = Unknown
want (Some t) = Exactly t

-- a type that an operand has by itself is another one
abbrev pub unlike : Spot → GoType → Option GoType → List Finding
unlike e t own = elim own [ None ↦ Fault e.start WrongType ∷ [] | Some u ↦ unless (same_type t u) e.start WrongType ]

-- what an operand that is not refused wherever it stands has against a type: a number without one that is above 255 is too large for a byte
abbrev pub misfit : Spot → GoType → Class → List Finding
misfit e Word (Fixed Untyped v) = []
misfit e Byte (Fixed Untyped (Some (Count n))) = unless (nat_lt n 256) e.start ConstTooLarge
misfit e Word Shifted = []
misfit e t Nil = unless (has_nil t) e.start WrongType
misfit e t c = unlike e t (own_type c)

abbrev pub is_slice : Class → Bool
is_slice (Run t) = is_some (item_of t)
is_slice c = false

abbrev pub is_map : Class → Bool
is_map (Run Map) = true
is_map c = false

abbrev pub against : Spot → Want → Class → List Finding
against e Unknown c = []
against e AnyTyped c = elim (own_type c) [ None ↦ Fault e.start WrongType ∷ [] | Some t ↦ [] ]
against e (Exactly t) c = misfit e t c
against e ASlice c = unless (is_slice c) e.start WrongType
against e AMap c = unless (is_map c) e.start WrongType

abbrev pub unless_refused : List Finding → List Finding → List Finding
unless_refused [] fs = fs
unless_refused (r ∷ rs) fs = r ∷ rs

-- what is found of an operand where it stands
abbrev pub in_place : Spot → Want → Option Class → List Finding
in_place e w None = []
in_place e w (Some c) = unless_refused (refusal e c) (against e w c)
