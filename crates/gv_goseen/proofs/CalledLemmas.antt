-- What is known of members where they are called.
use Rattle.std.specs.Prelude.{slice_get, option_and_then}
use Rattle.std.proofs.Common.{◌≡◌, ℕ, Bool, false, cond, List, Option, Some, None, option_map, sym, subst}
use Rattle.gv_operands.specs.declared.types.Base.TheVariants.{Struct}
use Rattle.gv_operands.specs.declared.types.GoType.{GoType}
use Rattle.gv_gotypes.specs.Scopes.{Signature, StructType, Package, is_blank}
use Rattle.gv_gotypes.specs.Members.{Member as AnyMember, ValueOf, FieldOf, Called as CalledMember, TypeName, field_from, method_among, method_of, struct_member, base_member}
use Rattle.gv_goscopes.specs.Called.{IsSignature, IsCalled}
use Rattle.gv_goscopes.specs.declared.called.Signature.{Signature as Known}
use Rattle.gv_goscopes.specs.declared.called.Called.{Called}
use Rattle.gv_goscopes.specs.declared.called.Called.TheVariants.{By, Other}
use Rattle.gv_gonames.specs.Structs.{kind_among, member_among}
use Rattle.gv_gonames.specs.declared.rows.MemberRow.TheVariants as row
use Rattle.gv_goseen.specs.Called.{member_of_row}
use Rattle.gv_goseen.proofs.MemberLemmas.{IsField, fields_so}

pub called_method_so : (known : Known) (s : Option Signature) → IsSignature (Some known) s → IsCalled (Some (By known)) (option_map CalledMember s)
called_method_so known (Some s) h = h
called_method_so known None h = elim h [ ]

pub no_method_so : (s : Option Signature) → IsSignature None s → IsCalled None (option_map CalledMember s)
no_method_so None h = tt
no_method_so (Some s) h = elim h [ ]

methods : (p : Package) (o : Option ℕ) (known : Option Called) → IsCalled known (member_of_row p (Some (option_map row.Method o))) → IsCalled known (option_map CalledMember (option_and_then (λ n. slice_get p.procedures n) o))
methods p None known h = h
methods p (Some n) known h = h

field : (known : Option Called) (k l : Option GoType) (n : ℕ) → IsCalled known (Some (FieldOf 0 k)) → IsCalled known (Some (FieldOf n l))
field None k l n h = elim h [ ]
field (Some (By s)) k l n h = elim h [ ]
field (Some Other) k l n h = tt

inner : (p : Package) (s : StructType) (name : List ℕ) (known : Option Called) (k : Option (Option GoType)) (m : Option AnyMember) → IsField k m
    → IsCalled known (member_of_row p (Some (elim k [ None ↦ option_map row.Method (method_among s.methods name) | Some k ↦ Some (row.Field k) ])))
    → IsCalled known (elim m [ None ↦ method_of p s name | Some m ↦ Some m ])
inner p s name known None None h i = methods p (method_among s.methods name) known i
inner p s name known (Some k) (Some (FieldOf n l)) h i = field known k l n i
inner p s name known None (Some m) h i = elim h [ ]
inner p s name known (Some k) None h i = elim h [ ]
inner p s name known (Some k) (Some (ValueOf c)) h i = elim h [ ]
inner p s name known (Some k) (Some (CalledMember c)) h i = elim h [ ]
inner p s name known (Some k) (Some TypeName) h i = elim h [ ]

-- by the row of a member
pub struct_called : (p : Package) (number : ℕ) (name : List ℕ) (known : Option Called) → is_blank name ≡ false
    → IsCalled known (member_of_row p (option_map (λ s. member_among s.fields s.methods name) (slice_get p.structs number))) → IsCalled known (base_member p (Struct number) name)
struct_called p number name known e h = step (slice_get p.structs number) h
  where
    told : StructType → Option AnyMember
    told s = elim (field_from 0 s.fields name) [ None ↦ method_of p s name | Some m ↦ Some m ]

    step : (o : Option StructType) → IsCalled known (member_of_row p (option_map (λ s. member_among s.fields s.methods name) o)) → IsCalled known (option_and_then (λ s. struct_member p s name) o)
    step None h = h
    step (Some s) h = subst (λ (b : Bool). IsCalled known (cond b None (elim (field_from 0 s.fields name) [ None ↦ method_of p s name | Some m ↦ Some m ]))) (sym e)
        (inner p s name known (kind_among s.fields name) (field_from 0 s.fields name) (fields_so 0 s.fields name) h)
