-- The first atom with a key.
use Rattle.std.proofs.Common.{◌≡◌, ◌⊎◌, ℕ, ◌+◌, ◌<◌, List, Some, length, get_or, inl, inr, refl, ap, sym, ◌∙◌, subst, arith}
use Rattle.std.specs.Prelude.{slice_get}
use Rattle.std.proofs.Math.Nat.{eq-or-lt_of_le}
use Rattle.std.proofs.lemmas.Option.{slice_get-get_or}
use Rattle.gv_terms.specs.declared.tree.TermTree.{TermTree}
use Rattle.gv_asserts.specs.declared.stamped.Stamped.{Stamped}
use Rattle.gv_asserts.specs.declared.key.Key.{Key}
use Rattle.gv_asserts.specs.Keys.{HasKey, NoneBefore, IsFirst, IsFoundIn, AreFoundIn}

some_same : {A : Type 0} (x y : A) → Some x ≡ Some y → x ≡ y
some_same x y e = cc

pub is_found : (st : List TermTree) (items whole : List Stamped) (i : ℕ) (d : Stamped) → items ≡ whole → AreFoundIn st whole → i < length items
    → IsFoundIn st (get_or items i d).atom
is_found st items whole i d e are l = are i (get_or items i d) (ap (λ xs. slice_get xs i) (sym e) ∙ slice_get-get_or items i d l)

pub none_next : (st : List TermTree) (k : Key) (items : List Stamped) (i : ℕ) (d : Stamped) → i < length items → (HasKey st k (get_or items i d).atom → ⊥)
    → NoneBefore st k items i → NoneBefore st k items (i + 1)
none_next st k items i d l never before place r b g h = told (eq-or-lt_of_le (omega (arith, b)))
  where
    told : (place ≡ i) ⊎ (place < i) → ⊥
    told (inl e) =
        let same : get_or items i d ≡ r = some_same (get_or items i d) r (sym (slice_get-get_or items i d l) ∙ ap (slice_get items) (sym e) ∙ g) in
        never (subst (λ t. HasKey st k t.atom) (sym same) h)
    told (inr c) = before place r c g h

pub is_first : (st : List TermTree) (k : Key) (items whole : List Stamped) (i : ℕ) (d : Stamped) → items ≡ whole → i < length items
    → HasKey st k (get_or items i d).atom → NoneBefore st k items i → IsFirst st k whole (Some (get_or items i d).stamp)
is_first st k items whole i d e l h before =
    subst (λ xs. IsFirst st k xs (Some (get_or items i d).stamp)) e (i, get_or items i d, slice_get-get_or items i d l, refl, h, before)

-- ---- the same of what was read there

pub found_there : (st : List TermTree) (items whole : List Stamped) (i : ℕ) (s : Stamped) → items ≡ whole → AreFoundIn st whole → i < length items
    → s ≡ get_or items i s → IsFoundIn st s.atom
found_there st items whole i s e are l is = subst (λ t. IsFoundIn st t.atom) (sym is) (is_found st items whole i s e are l)

pub not_there : (st : List TermTree) (k : Key) (items : List Stamped) (i : ℕ) (s : Stamped) → i < length items → s ≡ get_or items i s
    → (HasKey st k s.atom → ⊥) → NoneBefore st k items i → NoneBefore st k items (i + 1)
not_there st k items i s l is never before = none_next st k items i s l (λ h. never (subst (λ t. HasKey st k t.atom) (sym is) h)) before

pub first_there : (st : List TermTree) (k : Key) (items whole : List Stamped) (i : ℕ) (s : Stamped) → items ≡ whole → i < length items → s ≡ get_or items i s
    → HasKey st k s.atom → NoneBefore st k items i → IsFirst st k whole (Some s.stamp)
first_there st k items whole i s e l is h before =
    subst (λ t. IsFirst st k whole (Some t.stamp)) (sym is) (is_first st k items whole i s e l (subst (λ t. HasKey st k t.atom) is h) before)
