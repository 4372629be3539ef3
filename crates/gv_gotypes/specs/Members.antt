-- What stands behind a point: members of packages, fields and methods.
use Rattle.std.specs.Prelude.{ℕ, suc, if◌then◌else◌, List, [], ◌∷◌, map, Option, Some, None, option_map, option_and_then, codes, slice_get}
use Rattle.std.specs.Str.{bytes_eq}
use Rattle.gv_operands.specs.declared.types.Base.{Base}
use Rattle.gv_operands.specs.declared.types.Base.TheVariants.{Struct, Mutex}
use Rattle.gv_operands.specs.declared.types.GoType.{GoType}
use Rattle.gv_operands.specs.declared.types.GoType.TheVariants.{Word, Boolean, Bytes}
use Rattle.gv_operands.specs.declared.types.Value.TheVariants.{Count}
use Rattle.gv_operands.specs.declared.types.Kind.TheVariants.{OfWord}
use Rattle.gv_operands.specs.declared.types.Class.{Class}
use Rattle.gv_operands.specs.declared.types.Class.TheVariants.{Fixed}
use Rattle.gv_gotypes.specs.Scopes.{Library, Sync, Disk, TwoDisk, Machine, Signature, FieldType, Method, StructType, Package, is_blank}

-- A member: a constant or a field, which is an operand of a class, or of none where it is refused; what is called; or a type.
pub data Member : Type 0 where
  ValueOf : Option Class → Member
  -- a field, of a type
  FieldOf : ℕ → Option GoType → Member
  Called : Signature → Member
  TypeName : Member

abbrev pub signature : List GoType → List GoType → Signature
signature ps rs = record { params = map Some ps; results = map Some rs }

-- the first row that bears a name
abbrev pub listed : List (List ℕ × Member) → List ℕ → Option Member
listed [] name = None
listed (row ∷ rows) name = if bytes_eq row.0 name then Some row.1 else listed rows name

-- ---- packages

abbrev pub disk_members : List (List ℕ × Member)
disk_members =
    (codes "Read", Called (signature (Word ∷ []) (Bytes ∷ [])))
    ∷ (codes "Write", Called (signature (Word ∷ Bytes ∷ []) []))
    ∷ (codes "Size", Called (signature [] (Word ∷ [])))
    ∷ (codes "Barrier", Called (signature [] []))
    ∷ (codes "BlockSize", ValueOf (Some (Fixed OfWord (Some (Count 4096)))))
    ∷ (codes "Block", TypeName) ∷ []

abbrev pub twodisk_members : List (List ℕ × Member)
twodisk_members =
    (codes "Read", Called (signature (Word ∷ Word ∷ []) (Bytes ∷ Boolean ∷ [])))
    ∷ (codes "Write", Called (signature (Word ∷ Word ∷ Bytes ∷ []) []))
    ∷ (codes "Size", Called (signature [] (Word ∷ [])))
    ∷ (codes "Block", TypeName) ∷ []

abbrev pub machine_members : List (List ℕ × Member)
machine_members =
    (codes "UInt64Get", Called (signature (Bytes ∷ []) (Word ∷ [])))
    ∷ (codes "UInt64Put", Called (signature (Bytes ∷ Word ∷ []) [])) ∷ []

abbrev pub library_members : Library → List (List ℕ × Member)
library_members Sync = (codes "Mutex", TypeName) ∷ []
library_members Disk = disk_members
library_members TwoDisk = twodisk_members
library_members Machine = machine_members

abbrev pub library_member : Library → List ℕ → Option Member
library_member l name = listed (library_members l) name

-- ---- structs and mutexes

abbrev pub mutex_members : List (List ℕ × Member)
mutex_members = (codes "Lock", Called (signature [] [])) ∷ (codes "Unlock", Called (signature [] [])) ∷ []

-- of two fields of one name the first one counts; fields are numbered in order
abbrev pub field_from : ℕ → List FieldType → List ℕ → Option Member
field_from number [] name = None
field_from number (f ∷ fs) name = if bytes_eq f.name name then Some (FieldOf number f.kind) else field_from (suc number) fs name

abbrev pub method_among : List Method → List ℕ → Option ℕ
method_among [] name = None
method_among (m ∷ ms) name = if bytes_eq m.name name then Some m.procedure else method_among ms name

abbrev pub method_of : Package → StructType → List ℕ → Option Member
method_of p s name = option_map Called (option_and_then (λ n. slice_get p.procedures n) (method_among s.methods name))

-- a field counts before a method of its name; nothing is named `_`
abbrev pub struct_member : Package → StructType → List ℕ → Option Member
struct_member p s name = if is_blank name then None else elim (field_from 0 s.fields name) [ None ↦ method_of p s name | Some m ↦ Some m ]

abbrev pub base_member : Package → Base → List ℕ → Option Member
base_member p (Struct n) name = option_and_then (λ s. struct_member p s name) (slice_get p.structs n)
base_member p Mutex name = listed mutex_members name
