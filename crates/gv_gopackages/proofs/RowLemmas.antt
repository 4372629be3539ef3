-- What is known of a member by its row is so of it.
use Rattle.std.proofs.Common.{◌≡◌, Option, Some, None, sym, subst}
use Rattle.gv_gotypes.specs.Members.{Member as AnyMember, ValueOf, FieldOf, Called as CalledMember, TypeName as TypeMember}
use Rattle.gv_gotyped.specs.declared.members.Member.{Member}
use Rattle.gv_gotyped.specs.Parts.{IsMember}
use Rattle.gv_goscopes.specs.Called.{IsCalled}
use Rattle.gv_goscopes.specs.declared.called.Called.{Called as KnownCalled}
use Rattle.gv_gopackages.specs.declared.rows.Row.{Row}
use Rattle.gv_gopackages.specs.declared.rows.Row.TheVariants.{Constant, Called, TypeName}
use Rattle.gv_gopackages.specs.Rows.{IsRow, member_by, called_by}

member_so : (r : Option Row) (m : Option AnyMember) → IsRow r m → IsMember (member_by r) m
member_so None None h = tt
member_so (Some (Constant c)) (Some (ValueOf d)) h = h
member_so (Some (Called s)) (Some (CalledMember t)) h = tt
member_so (Some TypeName) (Some TypeMember) h = tt
member_so None (Some m) h = elim h [ ]
member_so (Some r) None h = elim h [ ]
member_so (Some (Constant c)) (Some (FieldOf n k)) h = elim h [ ]
member_so (Some (Constant c)) (Some (CalledMember s)) h = elim h [ ]
member_so (Some (Constant c)) (Some TypeMember) h = elim h [ ]
member_so (Some (Called s)) (Some (ValueOf d)) h = elim h [ ]
member_so (Some (Called s)) (Some (FieldOf n k)) h = elim h [ ]
member_so (Some (Called s)) (Some TypeMember) h = elim h [ ]
member_so (Some TypeName) (Some (ValueOf d)) h = elim h [ ]
member_so (Some TypeName) (Some (FieldOf n k)) h = elim h [ ]
member_so (Some TypeName) (Some (CalledMember s)) h = elim h [ ]

called_so : (r : Option Row) (m : Option AnyMember) → IsRow r m → IsCalled (called_by r) m
called_so None None h = tt
called_so (Some (Constant c)) (Some (ValueOf d)) h = tt
called_so (Some (Called s)) (Some (CalledMember t)) h = h
called_so (Some TypeName) (Some TypeMember) h = tt
called_so None (Some m) h = elim h [ ]
called_so (Some r) None h = elim h [ ]
called_so (Some (Constant c)) (Some (FieldOf n k)) h = elim h [ ]
called_so (Some (Constant c)) (Some (CalledMember s)) h = elim h [ ]
called_so (Some (Constant c)) (Some TypeMember) h = elim h [ ]
called_so (Some (Called s)) (Some (ValueOf d)) h = elim h [ ]
called_so (Some (Called s)) (Some (FieldOf n k)) h = elim h [ ]
called_so (Some (Called s)) (Some TypeMember) h = elim h [ ]
called_so (Some TypeName) (Some (ValueOf d)) h = elim h [ ]
called_so (Some TypeName) (Some (FieldOf n k)) h = elim h [ ]
called_so (Some TypeName) (Some (CalledMember s)) h = elim h [ ]

pub member_rows : (known : Option Member) (r : Option Row) (m : Option AnyMember) → known ≡ member_by r → IsRow r m → IsMember known m
member_rows known r m e h = subst (λ (k : Option Member). IsMember k m) (sym e) (member_so r m h)

pub called_rows : (known : Option KnownCalled) (r : Option Row) (m : Option AnyMember) → known ≡ called_by r → IsRow r m → IsCalled known m
called_rows known r m e h = subst (λ (k : Option KnownCalled). IsCalled k m) (sym e) (called_so r m h)
