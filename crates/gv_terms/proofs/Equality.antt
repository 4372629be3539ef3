-- The test on values decides their equality.
use Rattle.std.proofs.Common.{◌≡◌, ℕ, List, Bool, true, false, ◌&&◌, ◌↔◌, IsTrue, nat_eq, refl, ap, rules}
use Rattle.std.specs.Bool.{Decides}
use Rattle.std.specs.Str.{bytes_eq}
use Rattle.std.specs.Cmp.Lexicographic.{pointwise}
use Rattle.std.proofs.lemmas.Slice.Eq.{bytes_eq-Decides, slice_eq-Decides}
use Rattle.gv_base.specs.declared.slice_val.SliceVal.{SliceVal}
use Rattle.gv_terms.specs.declared.value.Value.{Value}
use Rattle.gv_terms.specs.declared.value.Value.TheVariants as val
use Rattle.gv_terms.specs.Values.{value_eq, slice_eq, entry_eq, bool_eq}

same_nat : (a b : ℕ) → Decides (nat_eq a b) (a ≡ b)
same_nat a b = search rules

same_bool : (a b : Bool) → Decides (bool_eq a b) (a ≡ b)
same_bool true true = ((λ e. refl), (λ e. refl))
same_bool true false = ((λ e. absurd cc), (λ e. absurd cc))
same_bool false true = ((λ e. absurd cc), (λ e. absurd cc))
same_bool false false = ((λ e. refl), (λ e. refl))

both : (a b : Bool) (P Q : Type 0) → Decides a P → Decides b Q → Decides (a && b) (P × Q)
both true b P Q p q = ((λ e. (p.0 refl, q.0 e)), (λ e. q.1 e.1))
both false b P Q p q = ((λ e. absurd cc), (λ e. p.1 e.0))

paired : {V : Type 0} (a b : ℕ) (v w : V) → a ≡ b → v ≡ w → ◌≡◌ {A = ℕ × V} (a, v) (b, w)
paired {V} a b v w p q = let d : ℕ × V = (a, v) in let e : ℕ × V = (b, w) in let same : d ≡ e = cc in same

same_entry : {V : Type 0} (eq : V → V → Bool) → ((a b : V) → Decides (eq a b) (a ≡ b)) → (d e : ℕ × V) → Decides (entry_eq eq d e) (d ≡ e)
same_entry eq h d e =
    let f = both (nat_eq d.0 e.0) (eq d.1 e.1) (d.0 ≡ e.0) (d.1 ≡ e.1) (same_nat d.0 e.0) (h d.1 e.1) in
    ((λ t. let parts = f.0 t in paired d.0 e.0 d.1 e.1 parts.0 parts.1), (λ s. f.1 (ap (λ x. x.0) s, ap (λ x. x.1) s)))

same_slice : (s t : SliceVal) → Decides (slice_eq s t) (s ≡ t)
same_slice s t = search rules

same_list : {A : Type 0} (eq : A → A → Bool) → ((a b : A) → Decides (eq a b) (a ≡ b)) → (xs ys : List A) → Decides (pointwise eq xs ys) (xs ≡ ys)
same_list eq h xs ys = slice_eq-Decides h xs ys (pointwise eq xs ys) refl

-- under a constructor
under : {A : Type 0} (V : A → Value) → ((a b : A) → V a ≡ V b → a ≡ b) → (r : Bool) (a b : A) → Decides r (a ≡ b) → Decides r (V a ≡ V b)
under V inner r a b d = ((λ t. ap V (d.0 t)), (λ e. d.1 (inner a b e)))

pub value_eq_decides : (a b : Value) → Decides (value_eq a b) (a ≡ b)
value_eq_decides (val.Word a) (val.Word b) = under (λ x. val.Word x) (λ x y e. cc) (nat_eq a b) a b (same_nat a b)
value_eq_decides (val.Bool a) (val.Bool b) = under (λ x. val.Bool x) (λ x y e. cc) (bool_eq a b) a b (same_bool a b)
value_eq_decides (val.Bytes a) (val.Bytes b) = under (λ x. val.Bytes x) (λ x y e. cc) (bytes_eq a b) a b (bytes_eq-Decides a b)
value_eq_decides (val.Words a) (val.Words b) = under (λ x. val.Words x) (λ x y e. cc) (bytes_eq a b) a b (bytes_eq-Decides a b)
value_eq_decides (val.Refs a) (val.Refs b) = under (λ x. val.Refs x) (λ x y e. cc) (bytes_eq a b) a b (bytes_eq-Decides a b)
value_eq_decides (val.Blocks a) (val.Blocks b) = under (λ x. val.Blocks x) (λ x y e. cc) (pointwise bytes_eq a b) a b (same_list bytes_eq bytes_eq-Decides a b)
value_eq_decides (val.MapWW a) (val.MapWW b) = under (λ x. val.MapWW x) (λ x y e. cc) (pointwise (entry_eq nat_eq) a b) a b (same_list (entry_eq nat_eq) (same_entry nat_eq same_nat) a b)
value_eq_decides (val.MapWB a) (val.MapWB b) = under (λ x. val.MapWB x) (λ x y e. cc) (pointwise (entry_eq bytes_eq) a b) a b (same_list (entry_eq bytes_eq) (same_entry bytes_eq bytes_eq-Decides) a b)
value_eq_decides (val.Ref a) (val.Ref b) = under (λ x. val.Ref x) (λ x y e. cc) (nat_eq a b) a b (same_nat a b)
value_eq_decides (val.SliceS a) (val.SliceS b) = under (λ x. val.SliceS x) (λ x y e. cc) (slice_eq a b) a b (same_slice a b)
value_eq_decides (val.Call a) (val.Call b) = under (λ x. val.Call x) (λ x y e. cc) (nat_eq a b) a b (same_nat a b)
value_eq_decides (val.Name a) (val.Name b) = under (λ x. val.Name x) (λ x y e. cc) (bytes_eq a b) a b (bytes_eq-Decides a b)
value_eq_decides val.Unit val.Unit = ((λ e. refl), (λ e. refl))
value_eq_decides _ _ = ((λ e. absurd cc), (λ e. absurd cc))

agree : (r s : Bool) (P : Type 0) → (IsTrue r ↔ P) → Decides s P → r ≡ s
agree true true P h d = refl
agree true false P h d = let e = d.1 (h.0 refl) in absurd cc
agree false true P h d = let e = h.1 (d.0 refl) in absurd cc
agree false false P h d = refl

pub same_test : (r : Bool) (a b : Value) → (IsTrue r ↔ (a ≡ b)) → r ≡ value_eq a b
same_test r a b h = agree r (value_eq a b) (a ≡ b) h (value_eq_decides a b)
