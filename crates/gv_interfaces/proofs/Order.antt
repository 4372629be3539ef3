-- The order of bytes.
use Rattle.std.proofs.Common.{◌≡◌, ℕ, true, false, List, refl, sym, ap, ◌∙◌}
use Rattle.std.specs.Cmp.Lexicographic.{slice_cmp}
use Rattle.std.specs.Ordering.{nat_cmp, is_lt, is_eq, ordering_reverse}
use Rattle.std.specs.declared.cmp.Ordering.{Ordering}
use Rattle.std.specs.declared.cmp.Ordering.TheVariants.{Less, Equal, Greater}
use Rattle.std.proofs.lemmas.Cmp.{nat_list_cmp_total}
use Rattle.std.proofs.lemmas.Map.Text.{is_eq-slice_cmp}
use Rattle.std.proofs.lemmas.Slice.Eq.{bytes_eq-Decides}
use Rattle.gv_interfaces.specs.Deciding.{is_before}

abbrev pub compared : List ℕ → List ℕ → Ordering
compared a b = slice_cmp nat_cmp a b

pub turned : (a b : List ℕ) (r : Ordering) → compared a b ≡ r → compared b a ≡ ordering_reverse r
turned a b r h = nat_list_cmp_total.antisymm b a ∙ ap ordering_reverse h

pub same_bytes : (a b : List ℕ) → compared a b ≡ Equal → a ≡ b
same_bytes a b h = (bytes_eq-Decides a b).0 (sym (is_eq-slice_cmp a b) ∙ ap is_eq h)

pub before_less : (a b : List ℕ) → is_before a b ≡ true → compared a b ≡ Less
before_less a b h = by_order (compared a b) h
  where
    by_order : (r : Ordering) → is_lt r ≡ true → r ≡ Less
    by_order Less e = refl
    by_order Equal e = absurd cc
    by_order Greater e = absurd cc

pub before_clash : (a b : List ℕ) → is_before a b ≡ false → compared a b ≡ Less → ⊥
before_clash a b h k = let clash : true ≡ false = sym (ap is_lt k) ∙ h in cc

never_less : (a b : List ℕ) → (compared a b ≡ Less → ⊥) → is_before a b ≡ false
never_less a b n = by_order (compared a b) n
  where
    by_order : (r : Ordering) → (r ≡ Less → ⊥) → is_lt r ≡ false
    by_order Less m = absurd (m refl)
    by_order Equal m = refl
    by_order Greater m = refl

pub not_before_itself : (a : List ℕ) → is_before a a ≡ false
not_before_itself a = never_less a a (λ h. let clash : Less ≡ Greater = sym h ∙ turned a a Less h in cc)

-- what comes before doesn't come after
pub not_after : (a b : List ℕ) → is_before a b ≡ true → is_before b a ≡ false
not_after a b h = ap is_lt (turned a b Less (before_less a b h))

-- b is not before a, and c not before b
pub not_before : (a b c : List ℕ) → is_before b a ≡ false → is_before c b ≡ false → is_before c a ≡ false
not_before a b c h k = never_less c a (λ l. by_order (compared c b) refl l)
  where
    by_order : (r : Ordering) → compared c b ≡ r → compared c a ≡ Less → ⊥
    by_order Less e l = before_clash c b k e
    by_order Equal e l = before_clash b a h (sym (nat_list_cmp_total.congr c b a e) ∙ l)
    by_order Greater e l = before_clash b a h (nat_list_cmp_total.trans b c a (turned c b Greater e) l)
