-- The meaning of a specification as it was written, by the number of the operation.
use Rattle.std.specs.Prelude.{ℕ, List, Bool, false, if◌then◌else◌, Option, Some, None, slice_get}
use Rattle.gv_terms.specs.declared.value.Value.{Value}
use Rattle.gv_terms.specs.declared.value.Value.TheVariants as val
use Rattle.gv_atomic.specs.declared.spec.Op.{Op}
use Rattle.gv_atomic.specs.declared.spec.Spec.{Spec}
use Rattle.gv_atomic.specs.Specification.{op_allows, op_chooses, op_fields, op_reply}

abbrev pub op_allows_or : Spec → Option Op → List Value → Bool
op_allows_or s None args = false
op_allows_or s (Some o) args = op_allows s o args

abbrev pub op_chooses_or : Spec → Option Op → List Value → List ℕ → List Value → Bool
op_chooses_or s None args choices fields = false
op_chooses_or s (Some o) args choices fields = op_chooses s o args choices fields

abbrev pub op_fields_or : Spec → Option Op → List Value → List ℕ → List Value → List Value
op_fields_or s None args choices fields = fields
op_fields_or s (Some o) args choices fields = op_fields s o args choices fields

abbrev pub op_reply_or : Spec → Option Op → List Value → List ℕ → List Value → Value
op_reply_or s None args choices fields = val.Unit
op_reply_or s (Some o) args choices fields = op_reply s o args choices fields

-- whether there is such an operation that may be called with these arguments
abbrev pub allows : Spec → ℕ → List Value → Bool
allows s op args = op_allows_or s (slice_get s.ops op) args

-- whether there is such an operation that may choose these numbers
abbrev pub chooses : Spec → ℕ → List Value → List ℕ → List Value → Bool
chooses s op args choices fields = op_chooses_or s (slice_get s.ops op) args choices fields

-- the fields after an operation with these arguments and choices, and its reply
abbrev pub fields_after : Spec → ℕ → List Value → List ℕ → List Value → List Value
fields_after s op args choices fields = op_fields_or s (slice_get s.ops op) args choices fields

abbrev pub reply_of : Spec → ℕ → List Value → List ℕ → List Value → Value
reply_of s op args choices fields = op_reply_or s (slice_get s.ops op) args choices fields

-- both, where the choices are allowed
abbrev pub applied : Spec → ℕ → List Value → List ℕ → List Value → Option (List Value × Value)
applied s op args choices fields =
    if chooses s op args choices fields then Some (fields_after s op args choices fields, reply_of s op args choices fields) else None
