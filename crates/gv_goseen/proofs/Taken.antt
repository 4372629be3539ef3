-- Names that a struct has already.
use Rattle.std.proofs.Common.{◌≡◌, ℕ, suc, Bool, true, false, cond, ◌&&◌, ◌||◌, not, List, [], ◌∷◌, ◌++◌, Option, Some, None, is_some, is_none, option_map, refl, sym, ap, ◌∙◌}
use Rattle.std.proofs.lemmas.Bool.{lt-ltb, le-ltb}
use Rattle.std.specs.Str.{bytes_eq}
use Rattle.gv_base.specs.declared.answers.Code.TheVariants.{Twice}
use Rattle.gv_operands.specs.declared.types.GoType.{GoType}
use Rattle.gv_gotypes.specs.Types.{unless}
use Rattle.gv_gotypes.specs.Scopes.{FieldType, Method, StructType, Package, is_blank}
use Rattle.gv_gotypes.specs.Members.{FieldOf, field_from, method_among}
use Rattle.gv_gotypes.specs.Files.{is_earlier, is_taken}
use Rattle.gv_gotyped.specs.First.{first_of}
use Rattle.gv_gonames.specs.Structs.{kind_among, member_among}
use Rattle.gv_gonames.specs.declared.rows.MemberRow.TheVariants as row
use Rattle.gv_goseen.specs.Naming.{method_twice_in, twice_by, AreBelow, AreFrom, IsGrown}

later : (number : ℕ) (ms : List Method) (name : List ℕ) → AreFrom number ms → is_earlier ms number name ≡ false
later number [] name h = refl
later number (m ∷ ms) name h = ap (λ (b : Bool). b && bytes_eq m.name name || is_earlier ms number name) (le-ltb m.procedure number h.0) ∙ later number ms name h.1

earlier : (number : ℕ) (ms rest : List Method) (name : List ℕ) → AreBelow number ms → AreFrom number rest → is_earlier (ms ++ rest) number name ≡ is_some (method_among ms name)
earlier number [] rest name h more = later number rest name more
earlier number (m ∷ ms) rest name h more = ap (λ (b : Bool). b && bytes_eq m.name name || is_earlier (ms ++ rest) number name) (lt-ltb m.procedure number h.0)
    ∙ step (bytes_eq m.name name) (earlier number ms rest name h.1 more)
  where
    step : (b : Bool) → is_earlier (ms ++ rest) number name ≡ is_some (method_among ms name) → (b || is_earlier (ms ++ rest) number name) ≡ is_some (cond b (Some m.procedure) (method_among ms name))
    step true e = refl
    step false e = e

field_there : (n : ℕ) (fs : List FieldType) (name : List ℕ) → is_some (field_from n fs name) ≡ is_some (kind_among fs name)
field_there n [] name = refl
field_there n (f ∷ fs) name = step (bytes_eq f.name name) (field_there (suc n) fs name)
  where
    step : (b : Bool) → is_some (field_from (suc n) fs name) ≡ is_some (kind_among fs name) → is_some (cond b (Some (FieldOf n f.kind)) (field_from (suc n) fs name)) ≡ is_some (cond b (Some f.kind) (kind_among fs name))
    step true e = refl
    step false e = e

absent : (k : Option (Option GoType)) (m : Option ℕ) → is_none (elim k [ None ↦ option_map row.Method m | Some k ↦ Some (row.Field k) ]) ≡ not (is_some k || is_some m)
absent None None = refl
absent None (Some n) = refl
absent (Some k) m = refl

told : (blank taken : Bool) (start : ℕ) → cond (not taken || blank) None (Some (record { start = start; code = Twice })) ≡ first_of (unless (blank || not taken) start Twice)
told true true start = refl
told true false start = refl
told false true start = refl
told false false start = refl

is_taken_by : (p : Package) (procedure number : ℕ) (s : StructType) (rest : List Method) (name : List ℕ) → IsGrown p number s rest → AreBelow procedure s.methods → AreFrom procedure rest
    → is_taken p procedure name (Some number) ≡ (is_some (kind_among s.fields name) || is_some (method_among s.methods name))
is_taken_by p procedure number s rest name grown below from =
    ap (λ (o : Option StructType). elim o [ None ↦ false | Some t ↦ is_some (field_from 0 t.fields name) || is_earlier t.methods procedure name ]) grown.there
    ∙ ap (λ (fs : List FieldType). is_some (field_from 0 fs name) || is_earlier grown.whole.methods procedure name) grown.fields
    ∙ ap (λ (ms : List Method). is_some (field_from 0 s.fields name) || is_earlier ms procedure name) grown.methods
    ∙ ap (λ (b : Bool). b || is_earlier (s.methods ++ rest) procedure name) (field_there 0 s.fields name)
    ∙ ap (λ (b : Bool). is_some (kind_among s.fields name) || b) (earlier procedure s.methods rest name below from)

pub told_of_method : (p : Package) (procedure number start : ℕ) (s : StructType) (rest : List Method) (name : List ℕ) (new : Bool) → new ≡ is_none (member_among s.fields s.methods name)
    → IsGrown p number s rest → AreBelow procedure s.methods → AreFrom procedure rest → twice_by name new start ≡ first_of (method_twice_in p procedure name number start)
told_of_method p procedure number start s rest name new e grown below from =
    ap (λ (b : Bool). cond (b || is_blank name) None (Some (record { start = start; code = Twice })))
    (e ∙ absent (kind_among s.fields name) (method_among s.methods name) ∙ ap not (sym (is_taken_by p procedure number s rest name grown below from)))
    ∙ told (is_blank name) (is_taken p procedure name (Some number)) start
