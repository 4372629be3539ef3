-- Fields among members.
use Rattle.std.specs.Prelude.{Option, Some, None}
use Rattle.gv_gotypes.specs.Members.{Member, ValueOf, FieldOf, Called, TypeName}
use Rattle.gv_lowerops.specs.declared.fields.Field.{Field}

-- the field that a member is
abbrev pub field_in : Option Member → Option Field
field_in None = None
field_in (Some (FieldOf n k)) = Some (record { number = n; kind = k })
field_in (Some (ValueOf c)) = None
field_in (Some (Called s)) = None
field_in (Some TypeName) = None
