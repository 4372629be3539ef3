-- Members by the rows of their table.
use Rattle.std.specs.Prelude.{◌≡◌, Option, Some, None}
use Rattle.gv_gotypes.specs.Members.{Member as AnyMember, ValueOf, Called as CalledMember, TypeName as TypeMember}
use Rattle.gv_gotyped.specs.declared.members.Member.{Member}
use Rattle.gv_gotyped.specs.declared.members.Member.TheVariants as operand
use Rattle.gv_goscopes.specs.Called.{IsThisSignature}
use Rattle.gv_goscopes.specs.declared.called.Called.{Called as KnownCalled}
use Rattle.gv_goscopes.specs.declared.called.Called.TheVariants as known
use Rattle.gv_gopackages.specs.declared.rows.Row.{Row}
use Rattle.gv_gopackages.specs.declared.rows.Row.TheVariants.{Constant, Called, TypeName}

-- it is this member
abbrev pub IsThisRow : Row → AnyMember → Type 0
IsThisRow (Constant c) (ValueOf d) = Some c ≡ d
IsThisRow (Called known) (CalledMember s) = IsThisSignature known s
IsThisRow TypeName TypeMember = Unit {0}
IsThisRow row m = ⊥

abbrev pub IsRow : Option Row → Option AnyMember → Type 0
IsRow None None = Unit {0}
IsRow (Some row) (Some m) = IsThisRow row m
IsRow row m = ⊥

-- as an operand: what is called, and a type, are none
abbrev pub member_by : Option Row → Option Member
member_by None = None
member_by (Some (Constant c)) = Some (operand.Value (Some c))
member_by (Some (Called s)) = Some operand.Other
member_by (Some TypeName) = Some operand.Other

-- where it is called
abbrev pub called_by : Option Row → Option KnownCalled
called_by None = None
called_by (Some (Constant c)) = Some known.Other
called_by (Some (Called s)) = Some (known.By s)
called_by (Some TypeName) = Some known.Other
