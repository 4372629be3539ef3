-- The lines of histories, as they are printed.
use Rattle.std.specs.Prelude.{ℕ, ◌+◌, ◌/◌, ◌%◌, Bool, true, false, List, [], ◌∷◌, ◌++◌, Option, Some, None, codes, length, nat_eq, nat_lt, slice_get, if◌then◌else◌}
use Rattle.std.specs.List.{list_all}
use Rattle.std.specs.Fmt.{decimal}
use Rattle.gv_terms.specs.declared.value.Value.{Value}
use Rattle.gv_terms.specs.declared.value.Value.TheVariants as value
use Rattle.gv_atomic.specs.declared.spec.Spec.{Spec}
use Rattle.gv_atomic.specs.declared.spec.Op.{Op}
use Rattle.gv_spec.specs.declared.entry.Entry.{Entry}
use Rattle.gv_spec.specs.declared.entry.Entry.TheVariants as entry

-- ---- bytes

-- a hexadecimal digit, in lower case
abbrev pub hex_digit : ℕ → ℕ
hex_digit d = if nat_lt d 10 then d + 48 else d + 87

-- two digits for each byte
abbrev pub hex_of : List ℕ → List ℕ
hex_of [] = []
hex_of (b ∷ bs) = hex_digit (b / 16) ∷ hex_digit (b % 16) ∷ hex_of bs

-- whether all of the bytes are this one
abbrev pub are_all : ℕ → List ℕ → Bool
are_all one bs = list_all (λ b. nat_eq b one) bs

-- one byte and how often it stands
abbrev pub repeated_text : ℕ → ℕ → List ℕ
repeated_text b count = hex_of (b ∷ []) ++ codes "*" ++ decimal count

-- this, where at least two are equal; else the digits of all
abbrev pub digits_text : List ℕ → List ℕ
digits_text [] = []
digits_text (b ∷ []) = hex_of (b ∷ [])
digits_text (b ∷ next ∷ bs) =
    if are_all b (b ∷ next ∷ bs) then repeated_text b (length (b ∷ next ∷ bs)) else hex_of (b ∷ next ∷ bs)

abbrev pub bytes_text : List ℕ → List ℕ
bytes_text bs = codes "#" ++ digits_text bs

-- ---- values

abbrev pub truth_text : Bool → List ℕ
truth_text true = codes "true"
truth_text false = codes "false"

-- An argument or a reply, with a space before it. A reply of nothing has no text, nor has a value of a sort that neither an
-- argument nor a reply has.
abbrev pub value_text : Value → List ℕ
value_text (value.Word n) = codes " " ++ decimal n
value_text (value.Bool b) = codes " " ++ truth_text b
value_text (value.Bytes bs) = codes " " ++ bytes_text bs
value_text _ = []

abbrev pub values_text : List Value → List ℕ
values_text [] = []
values_text (v ∷ vs) = value_text v ++ values_text vs

-- ---- entries

abbrev pub name_in : Option Op → List ℕ
name_in None = []
name_in (Some o) = o.name

-- the name of an operation; of a number that no operation has it is empty
abbrev pub op_name : Spec → ℕ → List ℕ
op_name s op = name_in (slice_get s.ops op)

abbrev pub entry_line : Spec → Entry → List ℕ
entry_line s (entry.Call number op args) = codes "call " ++ decimal number ++ codes " " ++ op_name s op ++ values_text args
entry_line s (entry.Answer number reply) = codes "answer " ++ decimal number ++ value_text reply
entry_line s entry.Crash = codes "crash"
entry_line s entry.Boot = codes "boot"

abbrev pub entry_lines : Spec → List Entry → List (List ℕ)
entry_lines s [] = []
entry_lines s (e ∷ es) = entry_line s e ∷ entry_lines s es
