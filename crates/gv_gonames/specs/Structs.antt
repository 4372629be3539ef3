-- Structs as a table has them.
use Rattle.std.specs.Prelude.{ℕ, if◌then◌else◌, List, [], ◌∷◌, ◌++◌, Option, Some, None, option_map, slice_range}
use Rattle.std.specs.Str.{bytes_eq}
use Rattle.gv_operands.specs.declared.types.GoType.{GoType}
use Rattle.gv_gotypes.specs.Scopes.{FieldType, Method, StructType}
use Rattle.gv_gotypes.specs.Members.{method_among}
use Rattle.gv_gonames.specs.declared.span.Span.{Span}
use Rattle.gv_gonames.specs.declared.rows.FieldRow.{FieldRow}
use Rattle.gv_gonames.specs.declared.rows.MethodRow.{MethodRow}
use Rattle.gv_gonames.specs.declared.rows.MemberRow.{MemberRow}
use Rattle.gv_gonames.specs.declared.rows.MemberRow.TheVariants.{Field, Method as ByMethod}

-- the fields and methods that stand at spans of a text
abbrev pub field_row : List ℕ → FieldRow → FieldType
field_row text r = record { name = slice_range text r.name.start r.name.end; kind = r.kind }

abbrev pub method_row : List ℕ → MethodRow → Method
method_row text r = record { name = slice_range text r.name.start r.name.end; procedure = r.procedure }

-- a text, and a struct that stands in it
pub record StructOf : Type 0 where
  pub text : List ℕ
  pub struct : StructType

-- how a span is spelled
abbrev pub spelled : StructOf → Span → List ℕ
spelled t s = slice_range t.text s.start s.end

abbrev pub with_field : StructOf → Span → Option GoType → StructOf
with_field t s k = record {
  text = t.text;
  struct = record { name = t.struct.name; fields = t.struct.fields ++ record { name = spelled t s; kind = k } ∷ []; methods = t.struct.methods };
}

abbrev pub with_method : StructOf → Span → ℕ → StructOf
with_method t s n = record {
  text = t.text;
  struct = record { name = t.struct.name; fields = t.struct.fields; methods = t.struct.methods ++ record { name = spelled t s; procedure = n } ∷ [] };
}

-- the type of the first field of a name
abbrev pub kind_among : List FieldType → List ℕ → Option (Option GoType)
kind_among [] name = None
kind_among (f ∷ fs) name = if bytes_eq f.name name then Some f.kind else kind_among fs name

-- a field counts before a method of its name
abbrev pub member_among : List FieldType → List Method → List ℕ → Option MemberRow
member_among fs ms name = elim (kind_among fs name) [ None ↦ option_map ByMethod (method_among ms name) | Some k ↦ Some (Field k) ]
