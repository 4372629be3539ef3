-- Members of structs by their rows, where they are called.
use Rattle.std.specs.Prelude.{Option, Some, None, option_map, slice_get}
use Rattle.gv_gotypes.specs.Scopes.{Package}
use Rattle.gv_gotypes.specs.Members.{Member, FieldOf, Called}
use Rattle.gv_gonames.specs.declared.rows.MemberRow.{MemberRow}
use Rattle.gv_gonames.specs.declared.rows.MemberRow.TheVariants as row

-- the member, whatever the number of a field is
abbrev pub member_of_row : Package → Option (Option MemberRow) → Option Member
member_of_row p None = None
member_of_row p (Some None) = None
member_of_row p (Some (Some (row.Field kind))) = Some (FieldOf 0 kind)
member_of_row p (Some (Some (row.Method number))) = option_map Called (slice_get p.procedures number)
