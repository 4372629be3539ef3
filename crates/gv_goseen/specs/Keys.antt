-- What a key of a literal is by the member of its struct that bears its name.
use Rattle.std.specs.Prelude.{Bool, true, false, not, Option, Some, None}
use Rattle.gv_operands.specs.declared.part.Want.{Want}
use Rattle.gv_operands.specs.declared.part.Want.TheVariants.{Unknown}
use Rattle.gv_gotypes.specs.Places.{want}
use Rattle.gv_gonames.specs.declared.rows.MemberRow.{MemberRow}
use Rattle.gv_gonames.specs.declared.rows.MemberRow.TheVariants.{Field, Method}

-- what it wants, where there is a struct
abbrev pub wants_by : Option (Option MemberRow) → Want
wants_by (Some (Some (Field kind))) = want kind
wants_by (Some (Some (Method n))) = Unknown
wants_by (Some None) = Unknown
wants_by None = Unknown

-- whether it names a field, where it may be `_`
abbrev pub field_by : Bool → Option (Option MemberRow) → Bool
field_by blank None = true
field_by blank (Some None) = false
field_by blank (Some (Some (Field kind))) = not blank
field_by blank (Some (Some (Method n))) = false
