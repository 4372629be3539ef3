-- Members of structs by the tables.
use Rattle.std.specs.Prelude.{not, ◌&&◌, is_some}
use Rattle.std.proofs.Common.{◌≡◌, ℕ, suc, zero, Bool, true, false, cond, List, [], ◌∷◌, length, Option, Some, None, option_map, refl, sym, subst, arith, ap}
use Rattle.std.specs.Prelude.{nat_lt, slice_get, option_and_then}
use Rattle.std.proofs.lemmas.Bool.{lt-ltb, le-ltb}
use Rattle.std.specs.Str.{bytes_eq}
use Rattle.gv_operands.specs.declared.types.GoType.{GoType}
use Rattle.gv_gotypes.specs.Scopes.{Signature, FieldType, StructType, Package, is_blank}
use Rattle.gv_gotypes.specs.Members.{Member as AnyMember, ValueOf, FieldOf, Called, TypeName, field_from, method_among, method_of, struct_member}
use Rattle.gv_gotyped.specs.declared.members.Member.{Member}
use Rattle.gv_gotyped.specs.declared.members.Member.TheVariants.{Other}
use Rattle.gv_gotyped.specs.Parts.{IsMember}
use Rattle.gv_gonames.specs.Structs.{kind_among, member_among}
use Rattle.gv_gonames.specs.declared.rows.MemberRow.TheVariants as row
use Rattle.gv_operands.specs.declared.types.Base.TheVariants.{Struct}
use Rattle.gv_operands.specs.declared.part.Want.TheVariants.{Unknown}
use Rattle.gv_gotypes.specs.Places.{want}
use Rattle.gv_gotypes.specs.Calls.{fields_of, field_want, is_field, member_want}
use Rattle.gv_goseen.specs.Keys.{wants_by, field_by}
use Rattle.gv_goseen.specs.Seen.{member_by}

-- what is known of a field, if there is one
abbrev pub IsField : Option (Option GoType) → Option AnyMember → Type 0
IsField None None = Unit {0}
IsField (Some k) (Some (FieldOf n l)) = k ≡ l
IsField k m = ⊥

pub fields_so : (n : ℕ) (fs : List FieldType) (name : List ℕ) → IsField (kind_among fs name) (field_from n fs name)
fields_so n [] name = tt
fields_so n (f ∷ fs) name = step (bytes_eq f.name name) (fields_so (suc n) fs name)
  where
    step : (b : Bool) → IsField (kind_among fs name) (field_from (suc n) fs name) → IsField (cond b (Some f.kind) (kind_among fs name)) (cond b (Some (FieldOf n f.kind)) (field_from (suc n) fs name))
    step true h = refl
    step false h = h

both_less : (m n : ℕ) → nat_lt (suc m) (suc n) ≡ nat_lt m n
both_less m n = grind arith

-- what is known of a method, if there is one
methods_so : (ps : List Signature) (o : Option ℕ) → IsMember (member_by (length ps) (option_map row.Method o)) (option_map Called (option_and_then (λ n. slice_get ps n) o))
methods_so ps None = tt
methods_so ps (Some n) = numbered ps n
  where
    numbered : (ps : List Signature) (n : ℕ) → IsMember (cond (nat_lt n (length ps)) (Some Other) None) (option_map Called (slice_get ps n))
    numbered [] n = subst (λ (b : Bool). IsMember (cond b (Some Other) None) None) (sym (le-ltb n 0 (omega arith))) tt
    numbered (p ∷ ps) zero = subst (λ (b : Bool). IsMember (cond b (Some Other) None) (Some (Called p))) (sym (lt-ltb 0 (suc (length ps)) (omega arith))) tt
    numbered (p ∷ ps) (suc n) = subst (λ (b : Bool). IsMember (cond b (Some Other) None) (option_map Called (slice_get ps n))) (sym (both_less n (length ps))) (numbered ps n)

pub members_so : (p : Package) (s : StructType) (name : List ℕ) → is_blank name ≡ false → IsMember (member_by (length p.procedures) (member_among s.fields s.methods name)) (struct_member p s name)
members_so p s name e = subst (λ (b : Bool). IsMember known (cond b None told)) (sym e) (step (kind_among s.fields name) (field_from 0 s.fields name) (fields_so 0 s.fields name))
  where
    known : Option Member
    known = member_by (length p.procedures) (member_among s.fields s.methods name)

    told : Option AnyMember
    told = elim (field_from 0 s.fields name) [ None ↦ method_of p s name | Some m ↦ Some m ]

    step : (k : Option (Option GoType)) (m : Option AnyMember) → IsField k m
        → IsMember (member_by (length p.procedures) (elim k [ None ↦ option_map row.Method (method_among s.methods name) | Some k ↦ Some (row.Field k) ])) (elim m [ None ↦ method_of p s name | Some m ↦ Some m ])
    step None None h = methods_so p.procedures (method_among s.methods name)
    step (Some k) (Some (FieldOf n l)) h = h
    step None (Some m) h = elim h [ ]
    step (Some k) None h = elim h [ ]
    step (Some k) (Some (ValueOf c)) h = elim h [ ]
    step (Some k) (Some (Called c)) h = elim h [ ]
    step (Some k) (Some TypeName) h = elim h [ ]

-- ---- keys

want_so : (k : Option (Option GoType)) (m : Option AnyMember) (o : Option ℕ) → IsField k m
    → wants_by (Some (elim k [ None ↦ option_map row.Method o | Some k ↦ Some (row.Field k) ])) ≡ elim m [ None ↦ Unknown | Some m ↦ member_want m ]
want_so None None None h = refl
want_so None None (Some n) h = refl
want_so (Some k) (Some (FieldOf n l)) o h = ap want h
want_so None (Some m) o h = elim h [ ]
want_so (Some k) None o h = elim h [ ]
want_so (Some k) (Some (ValueOf c)) o h = elim h [ ]
want_so (Some k) (Some (Called c)) o h = elim h [ ]
want_so (Some k) (Some TypeName) o h = elim h [ ]

pub wants_so : (p : Package) (number : ℕ) (name : List ℕ)
    → wants_by (option_map (λ s. member_among s.fields s.methods name) (slice_get p.structs number)) ≡ field_want (fields_of p (Some (Struct number))) name
wants_so p number name = step (slice_get p.structs number)
  where
    step : (o : Option StructType) → wants_by (option_map (λ s. member_among s.fields s.methods name) o) ≡ field_want (option_map (λ s. s.fields) o) name
    step None = refl
    step (Some s) = want_so (kind_among s.fields name) (field_from 0 s.fields name) (method_among s.methods name) (fields_so 0 s.fields name)

there_so : (k : Option (Option GoType)) (m : Option AnyMember) (o : Option ℕ) (blank : Bool) → IsField k m
    → field_by blank (Some (elim k [ None ↦ option_map row.Method o | Some k ↦ Some (row.Field k) ])) ≡ (not blank && is_some m)
there_so None None None true h = refl
there_so None None None false h = refl
there_so None None (Some n) true h = refl
there_so None None (Some n) false h = refl
there_so (Some k) (Some m) o true h = refl
there_so (Some k) (Some m) o false h = refl
there_so None (Some m) o blank h = elim h [ ]
there_so (Some k) None o blank h = elim h [ ]

pub is_field_so : (p : Package) (number : ℕ) (name : List ℕ)
    → field_by (is_blank name) (option_map (λ s. member_among s.fields s.methods name) (slice_get p.structs number)) ≡ is_field (fields_of p (Some (Struct number))) name
is_field_so p number name = step (slice_get p.structs number)
  where
    step : (o : Option StructType) → field_by (is_blank name) (option_map (λ s. member_among s.fields s.methods name) o) ≡ is_field (option_map (λ s. s.fields) o) name
    step None = refl
    step (Some s) = there_so (kind_among s.fields name) (field_from 0 s.fields name) (method_among s.methods name) (is_blank name) (fields_so 0 s.fields name)
