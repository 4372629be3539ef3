-- Look-ups in tables and in lists.
use Rattle.std.proofs.Common.{◌≡◌, ℕ, Bool, true, false, cond, List, [], ◌∷◌, ◌++◌, Option, Some, None, is_some, option_map, refl, sym, ap, ◌∙◌, Vec, Global}
use Rattle.std.specs.Map.{lookup}
use Rattle.std.specs.Str.{bytes_eq}
use Rattle.std.proofs.lemmas.Slice.Eq.{bytes_eq-Decides}
use Rattle.indexmap.specs.IndexMap.{insert_entry}
use Rattle.gv_operands.specs.declared.types.GoType.{GoType}
use Rattle.gv_gotypes.specs.Scopes.{Named, named_in, FieldType, Method}
use Rattle.gv_gotypes.specs.Members.{method_among}
use Rattle.gv_gonames.specs.declared.rows.MemberRow.{MemberRow}
use Rattle.gv_gonames.specs.declared.rows.MemberRow.TheVariants.{Field, Method as ByMethod}
use Rattle.gv_gonames.specs.Structs.{kind_among, member_among}
use Rattle.gv_gonames.specs.Firsts.{or_first}

both_ways : (a b : Bool) → (a ≡ true → b ≡ true) → (b ≡ true → a ≡ true) → a ≡ b
both_ways true b f g = sym (f refl)
both_ways false true f g = g refl
both_ways false false f g = refl

-- bytes are compared in either order
pub turned : (a b : List ℕ) → bytes_eq a b ≡ bytes_eq b a
turned a b = both_ways (bytes_eq a b) (bytes_eq b a) (λ e. (bytes_eq-Decides b a).1 (sym ((bytes_eq-Decides a b).0 e))) (λ e. (bytes_eq-Decides a b).1 (sym ((bytes_eq-Decides b a).0 e)))

-- ---- a key that is put behind others

module _ {V : Type 0} where
  abbrev pub at : List (Vec ℕ Global × V) → List ℕ → Option V
  at es n = lookup (λ k. bytes_eq n k.items) es

  pub none_of : (o : Option V) → is_some o ≡ false → o ≡ None
  none_of None e = refl
  none_of (Some v) e = absurd cc

  absent_here : (b : Bool) (v : V) (rest : Option V) → cond b (Some v) rest ≡ None → b ≡ false
  absent_here true v rest e = absurd cc
  absent_here false v rest e = refl

  absent_on : (b : Bool) (v : V) (rest : Option V) → cond b (Some v) rest ≡ None → rest ≡ None
  absent_on true v rest e = absurd cc
  absent_on false v rest e = e

  passed : (b : Bool) (w : V) (r : Option V) (own : Bool) (v : V) → cond b (Some w) (or_first r own v) ≡ or_first (cond b (Some w) r) own v
  passed true w r own v = refl
  passed false w r own v = refl

  pub put_entry : (eq : Vec ℕ Global → Vec ℕ Global → Bool) → ((a b : Vec ℕ Global) → eq a b ≡ bytes_eq a.items b.items) → (es : List (Vec ℕ Global × V)) (k : Vec ℕ Global) (v : V) (n : List ℕ)
      → at es k.items ≡ None → at (insert_entry eq es k v) n ≡ or_first (at es n) (bytes_eq n k.items) v
  put_entry eq h [] k v n e = refl
  put_entry eq h (p ∷ es) k v n e =
      let other : eq k p.0 ≡ false = h k p.0 ∙ absent_here (bytes_eq k.items p.0.items) p.1 (at es k.items) e in
      ap (λ (b : Bool). at (cond b ((p.0, v) ∷ es) (p ∷ insert_entry eq es k v)) n) other
      ∙ ap (λ (r : Option V). cond (bytes_eq n p.0.items) (Some p.1) r) (put_entry eq h es k v n (absent_on (bytes_eq k.items p.0.items) p.1 (at es k.items) e))
      ∙ passed (bytes_eq n p.0.items) p.1 (at es n) (bytes_eq n k.items) v

  -- a value that is put at a key, whatever was there
  pub entry_put : (eq : Vec ℕ Global → Vec ℕ Global → Bool) → ((a b : Vec ℕ Global) → eq a b ≡ bytes_eq a.items b.items) → (es : List (Vec ℕ Global × V)) (k : Vec ℕ Global) (v : V) (n : List ℕ)
      → at (insert_entry eq es k v) n ≡ cond (bytes_eq n k.items) (Some v) (at es n)
  entry_put eq h [] k v n = refl
  entry_put eq h (p ∷ es) k v n = step (entry_put eq h es k v n) (eq k p.0) refl
    where
      alike : bytes_eq k.items p.0.items ≡ true → bytes_eq n k.items ≡ bytes_eq n p.0.items
      alike e = ap (bytes_eq n) ((bytes_eq-Decides k.items p.0.items).0 e)

      over : (a : Bool) (w : V) (r : Option V) → cond a (Some v) r ≡ cond a (Some v) (cond a (Some w) r)
      over true w r = refl
      over false w r = refl

      swapped : (a b : Bool) (w : V) (r : Option V) → (b ≡ true → a ≡ false) → cond b (Some w) (cond a (Some v) r) ≡ cond a (Some v) (cond b (Some w) r)
      swapped true true w r e = absurd (ff (e refl))
        where
          ff : true ≡ false → ⊥
          ff e = absurd cc
      swapped true false w r e = refl
      swapped false b w r e = refl

      step : at (insert_entry eq es k v) n ≡ cond (bytes_eq n k.items) (Some v) (at es n) → (b : Bool) → eq k p.0 ≡ b → at (cond b ((p.0, v) ∷ es) (p ∷ insert_entry eq es k v)) n ≡ cond (bytes_eq n k.items) (Some v) (cond (bytes_eq n p.0.items) (Some p.1) (at es n))
      step more true e = ap (λ (a : Bool). cond a (Some v) (at es n)) (sym (alike (sym (h k p.0) ∙ e)))
          ∙ over (bytes_eq n k.items) p.1 (at es n)
          ∙ ap (λ (b : Bool). cond (bytes_eq n k.items) (Some v) (cond b (Some p.1) (at es n))) (alike (sym (h k p.0) ∙ e))
      step more false e = ap (λ (r : Option V). cond (bytes_eq n p.0.items) (Some p.1) r) more
          ∙ swapped (bytes_eq n k.items) (bytes_eq n p.0.items) p.1 (at es n) (apart n)
        where
          apart : (n : List ℕ) → bytes_eq n p.0.items ≡ true → bytes_eq n k.items ≡ false
          apart n f = ap (λ (m : List ℕ). bytes_eq m k.items) ((bytes_eq-Decides n p.0.items).0 f) ∙ turned p.0.items k.items ∙ sym (h k p.0) ∙ e

-- ---- one name more

pub named_more : (ns : List Named) (n : Named) (name : List ℕ) → named_in (ns ++ n ∷ []) name ≡ or_first (named_in ns name) (bytes_eq n.name name) n.entity
named_more [] n name = refl
named_more (m ∷ ns) n name = ap (λ r. cond (bytes_eq m.name name) (Some m.entity) r) (named_more ns n name) ∙ passed (bytes_eq m.name name) m.entity (named_in ns name) (bytes_eq n.name name) n.entity

-- ---- one member more

method_more : (ms : List Method) (m : Method) (name : List ℕ) → method_among (ms ++ m ∷ []) name ≡ or_first (method_among ms name) (bytes_eq m.name name) m.procedure
method_more [] m name = refl
method_more (x ∷ ms) m name = ap (λ r. cond (bytes_eq x.name name) (Some x.procedure) r) (method_more ms m name) ∙ passed (bytes_eq x.name name) x.procedure (method_among ms name) (bytes_eq m.name name) m.procedure

kind_more : (fs : List FieldType) (f : FieldType) (name : List ℕ) → kind_among (fs ++ f ∷ []) name ≡ or_first (kind_among fs name) (bytes_eq f.name name) f.kind
kind_more [] f name = refl
kind_more (x ∷ fs) f name = ap (λ r. cond (bytes_eq x.name name) (Some x.kind) r) (kind_more fs f name) ∙ passed (bytes_eq x.name name) x.kind (kind_among fs name) (bytes_eq f.name name) f.kind

abbrev member_of : Option (Option GoType) → Option ℕ → Option MemberRow
member_of k m = elim k [ None ↦ option_map ByMethod m | Some k ↦ Some (Field k) ]

pub member_more : (fs : List FieldType) (ms : List Method) (m : Method) (name : List ℕ)
    → member_among fs (ms ++ m ∷ []) name ≡ or_first (member_among fs ms name) (bytes_eq m.name name) (ByMethod m.procedure)
member_more fs ms m name = ap (member_of (kind_among fs name)) (method_more ms m name) ∙ step (kind_among fs name) (method_among ms name) (bytes_eq m.name name)
  where
    step : (k : Option (Option GoType)) (o : Option ℕ) (own : Bool) → member_of k (or_first o own m.procedure) ≡ or_first (member_of k o) own (ByMethod m.procedure)
    step (Some k) o own = refl
    step None (Some n) own = refl
    step None None true = refl
    step None None false = refl

pub field_more : (fs : List FieldType) (f : FieldType) (name : List ℕ)
    → member_among (fs ++ f ∷ []) [] name ≡ or_first (member_among fs [] name) (bytes_eq f.name name) (Field f.kind)
field_more fs f name = ap (λ k. member_of k None) (kind_more fs f name) ∙ step (kind_among fs name) (bytes_eq f.name name)
  where
    step : (k : Option (Option GoType)) (own : Bool) → member_of (or_first k own f.kind) None ≡ or_first (member_of k None) own (Field f.kind)
    step (Some k) own = refl
    step None true = refl
    step None false = refl
