-- Expressions have the values of their terms.
use Rattle.std.proofs.Common.{◌≡◌, ℕ, Bool, true, false, ◌&&◌, nat_eq, if◌then◌else◌, List, [], ◌∷◌, Option, Some, None, refl, sym, ap, subst, ◌∙◌}
use Rattle.std.specs.Prelude.{slice_get}
use Rattle.gv_base.specs.declared.val.Val.{Val}
use Rattle.gv_base.specs.declared.val.Val.TheVariants as stored
use Rattle.gv_terms.specs.declared.sort.Sort.{Sort}
use Rattle.gv_terms.specs.declared.sort.Sort.TheVariants as sort
use Rattle.gv_terms.specs.declared.operator.Operator.{Operator}
use Rattle.gv_terms.specs.declared.operator.Operator.TheVariants as op
use Rattle.gv_terms.specs.declared.tree.TermTree.{TermTree}
use Rattle.gv_terms.specs.declared.tree.TermTree.TheVariants as tree
use Rattle.gv_terms.specs.declared.value.Env.{Env}
use Rattle.gv_terms.specs.declared.value.Value.{Value}
use Rattle.gv_terms.specs.declared.value.Value.TheVariants as val
use Rattle.gv_terms.specs.Meaning.{operate}
use Rattle.gv_terms.specs.Sorts.{sort_given, sort_eq, takes}
use Rattle.gv_terms.specs.Trees.{sort_of, value_under, all_sorts, with_sorts}
use Rattle.gv_terms.specs.Values.{sort_of_value, bool_eq}
use Rattle.gv_terms.proofs.NodeSorts.{sort_apply}
use Rattle.gv_terms.proofs.Valued.{value_apply}
use Rattle.gv_terms.proofs.ValueSorts.{values_have_sorts}
use Rattle.gv_world.specs.Slices.{same_truth}
use Rattle.gv_instances.proofs.Sorts.{same_sort}
use Rattle.gv_lang.specs.declared.pure.Unary.{Unary}
use Rattle.gv_lang.specs.declared.pure.Unary.TheVariants as unary
use Rattle.gv_lang.specs.declared.pure.Binary.{Binary}
use Rattle.gv_lang.specs.declared.pure.Binary.TheVariants as binary
use Rattle.gv_lang.specs.Tree.{Expr, Number, Truth, Nil, NilSlice, LocalAt, One, Two}
use Rattle.gv_lang.specs.Values.{value, one, two}
use Rattle.gv_seats.specs.Paths.{unary_operator, binary_operator, known, over_one, over_two, term_of}
use Rattle.gv_seats.specs.Seats.{plain, HaveValues}
use Rattle.gv_seats.specs.Laws.{ExpressionsLaw}

same_truths : (a b : Bool) → same_truth a b ≡ bool_eq a b
same_truths true b = refl
same_truths false b = refl

some_same : {A : Type 0} (x y : A) → Some x ≡ Some y → x ≡ y
some_same x y e = cc

-- an expression has this value of terms
pub record HasValue (found : Option Val) (x : Value) : Type 0 where
  pub v : Val
  pub there : found ≡ Some v
  pub is : plain v ≡ Some x

-- ---- sorts

both_true : (a b : Bool) → (a && b) ≡ true → (a ≡ true) × (b ≡ true)
both_true true b e = (refl, e)
both_true false b e = absurd cc

passed : (test : Bool) (s r : Sort) → (if test then Some s else None) ≡ Some r → test ≡ true
passed true s r e = refl
passed false s r e = absurd cc

one_wanted : (u s r given : Sort) → takes (u ∷ []) given (s ∷ []) ≡ Some r → s ≡ u
one_wanted u s r given e = same_sort u s (both_true (sort_eq u s) true (passed _ given r e)).0

two_wanted : (u v s t r given : Sort) → takes (u ∷ v ∷ []) given (s ∷ t ∷ []) ≡ Some r → (s ≡ u) × (t ≡ v)
two_wanted u v s t r given e =
    let first = both_true (sort_eq u s) _ (passed _ given r e) in
    let second = both_true (sort_eq v t) true first.1 in
    (same_sort u s first.0, same_sort v t second.0)

-- ---- values by their sorts

abbrev pub HaveSort : Val → Value → Sort → Type 0
HaveSort a x s = (plain a ≡ Some x) × (sort_of_value x ≡ Some s)

module _ (o : Binary) where
  from_words : (a b : Val) (x y : Value) → HaveSort a x sort.Word → HaveSort b y sort.Word
      → ((m n : ℕ) → HasValue (two o (Some (stored.Word m)) (Some (stored.Word n))) (operate (binary_operator o) (val.Word m ∷ val.Word n ∷ [])))
      → HasValue (two o (Some a) (Some b)) (operate (binary_operator o) (x ∷ y ∷ []))
  from_words (stored.Word m) (stored.Word n) x y h k made =
      let e : val.Word m ≡ x = cc in
      let d : val.Word n ≡ y = cc in
      let found = two o (Some (stored.Word m)) (Some (stored.Word n)) in
      subst (λ (z : Value). HasValue found (operate (binary_operator o) (z ∷ y ∷ []))) e
      (subst (λ (z : Value). HasValue found (operate (binary_operator o) (val.Word m ∷ z ∷ []))) d (made m n))
  from_words (stored.Word m) _ x y h k made = absurd cc
  from_words _ b x y h k made = absurd cc

  from_truths : (a b : Val) (x y : Value) → HaveSort a x sort.Bool → HaveSort b y sort.Bool
      → ((p q : Bool) → HasValue (two o (Some (stored.Bool p)) (Some (stored.Bool q))) (operate (binary_operator o) (val.Bool p ∷ val.Bool q ∷ [])))
      → HasValue (two o (Some a) (Some b)) (operate (binary_operator o) (x ∷ y ∷ []))
  from_truths (stored.Bool m) (stored.Bool n) x y h k made =
      let e : val.Bool m ≡ x = cc in
      let d : val.Bool n ≡ y = cc in
      let found = two o (Some (stored.Bool m)) (Some (stored.Bool n)) in
      subst (λ (z : Value). HasValue found (operate (binary_operator o) (z ∷ y ∷ []))) e
      (subst (λ (z : Value). HasValue found (operate (binary_operator o) (val.Bool m ∷ z ∷ []))) d (made m n))
  from_truths (stored.Bool m) _ x y h k made = absurd cc
  from_truths _ b x y h k made = absurd cc

-- a test of equality on two values of one sort
equals : (a b : Val) (x y : Value) (s : Sort) → HaveSort a x s → HaveSort b y s
    → HasValue (two binary.Equal (Some a) (Some b)) (operate op.Equal (x ∷ y ∷ []))
equals (stored.Word m) (stored.Word n) x y s h k =
    let e : val.Word m ≡ x = cc in
    let d : val.Word n ≡ y = cc in
    rw (← e, ← d) (record { v = stored.Bool (nat_eq m n); there = refl; is = refl })
equals (stored.Bool m) (stored.Bool n) x y s h k =
    let e : val.Bool m ≡ x = cc in
    let d : val.Bool n ≡ y = cc in
    rw (← e, ← d) (record { v = stored.Bool (same_truth m n); there = refl; is = ap (λ (t : Bool). Some (val.Bool t)) (same_truths m n) })
equals (stored.Ref m) (stored.Ref n) x y s h k =
    let e : val.Ref m ≡ x = cc in
    let d : val.Ref n ≡ y = cc in
    rw (← e, ← d) (record { v = stored.Bool (nat_eq m n); there = refl; is = refl })
equals (stored.Slice m) (stored.Slice n) x y s h k =
    let e : val.SliceS m ≡ x = cc in
    let d : val.SliceS n ≡ y = cc in
    rw (← e, ← d) (record { v = _; there = refl; is = refl })
equals _ _ x y s h k = absurd cc

-- ---- operators

module _ (a b : Val) (x y : Value) (s t r : Sort) (h : HaveSort a x s) (k : HaveSort b y t) where
  of_sorts : (u v : Sort) → (s ≡ u) × (t ≡ v) → HaveSort a x u × HaveSort b y v
  of_sorts u v (e, d) = (subst (λ z. HaveSort a x z) e h, subst (λ z. HaveSort b y z) d k)

  words : (o : Binary) (given : Sort) → takes (sort.Word ∷ sort.Word ∷ []) given (s ∷ t ∷ []) ≡ Some r
      → ((m n : ℕ) → HasValue (two o (Some (stored.Word m)) (Some (stored.Word n))) (operate (binary_operator o) (val.Word m ∷ val.Word n ∷ [])))
      → HasValue (two o (Some a) (Some b)) (operate (binary_operator o) (x ∷ y ∷ []))
  words o given g made = let both = of_sorts sort.Word sort.Word (two_wanted sort.Word sort.Word s t r given g) in from_words o a b x y both.0 both.1 made

  truths : (o : Binary) (given : Sort) → takes (sort.Bool ∷ sort.Bool ∷ []) given (s ∷ t ∷ []) ≡ Some r
      → ((p q : Bool) → HasValue (two o (Some (stored.Bool p)) (Some (stored.Bool q))) (operate (binary_operator o) (val.Bool p ∷ val.Bool q ∷ [])))
      → HasValue (two o (Some a) (Some b)) (operate (binary_operator o) (x ∷ y ∷ []))
  truths o given g made = let both = of_sorts sort.Bool sort.Bool (two_wanted sort.Bool sort.Bool s t r given g) in from_truths o a b x y both.0 both.1 made

  two_value : (o : Binary) → sort_given (binary_operator o) (s ∷ t ∷ []) ≡ Some r → HasValue (two o (Some a) (Some b)) (operate (binary_operator o) (x ∷ y ∷ []))
  two_value binary.Or g = truths binary.Or sort.Bool g (λ p q. record { v = _; there = refl; is = refl })
  two_value binary.And g = truths binary.And sort.Bool g (λ p q. record { v = _; there = refl; is = refl })
  two_value binary.Equal g = let both = of_sorts s s (two_wanted s s s t r sort.Bool g) in equals a b x y s both.0 both.1
  two_value binary.Less g = words binary.Less sort.Bool g (λ m n. record { v = _; there = refl; is = refl })
  two_value binary.AtMost g = words binary.AtMost sort.Bool g (λ m n. record { v = _; there = refl; is = refl })
  two_value binary.Plus g = words binary.Plus sort.Word g (λ m n. record { v = _; there = refl; is = refl })
  two_value binary.Minus g = words binary.Minus sort.Word g (λ m n. record { v = _; there = refl; is = refl })
  two_value binary.BitOr g = words binary.BitOr sort.Word g (λ m n. record { v = _; there = refl; is = refl })
  two_value binary.BitXor g = words binary.BitXor sort.Word g (λ m n. record { v = _; there = refl; is = refl })
  two_value binary.Times g = words binary.Times sort.Word g (λ m n. record { v = _; there = refl; is = refl })
  two_value binary.ShiftLeft g = words binary.ShiftLeft sort.Word g (λ m n. record { v = _; there = refl; is = refl })
  two_value binary.ShiftRight g = words binary.ShiftRight sort.Word g (λ m n. record { v = _; there = refl; is = refl })
  two_value binary.BitAnd g = words binary.BitAnd sort.Word g (λ m n. record { v = _; there = refl; is = refl })
  two_value binary.BitClear g = words binary.BitClear sort.Word g (λ m n. record { v = _; there = refl; is = refl })

one_value : (o : Unary) (a : Val) (x : Value) (s r : Sort) → HaveSort a x s → sort_given (unary_operator o) (s ∷ []) ≡ Some r
    → HasValue (one o (Some a)) (operate (unary_operator o) (x ∷ []))
one_value unary.Not a x s r h g = go a x (h.0, h.1 ∙ ap Some (one_wanted sort.Bool s r sort.Bool g))
  where
    go : (a : Val) (x : Value) → HaveSort a x sort.Bool → HasValue (one unary.Not (Some a)) (operate op.Not (x ∷ []))
    go (stored.Bool p) x h = let e : val.Bool p ≡ x = cc in rw (← e) (record { v = _; there = refl; is = refl })
    go _ x h = absurd cc
one_value unary.Complement a x s r h g = go a x (h.0, h.1 ∙ ap Some (one_wanted sort.Word s r sort.Word g))
  where
    go : (a : Val) (x : Value) → HaveSort a x sort.Word → HasValue (one unary.Complement (Some a)) (operate op.Complement (x ∷ []))
    go (stored.Word n) x h = let e : val.Word n ≡ x = cc in rw (← e) (record { v = _; there = refl; is = refl })
    go _ x h = absurd cc

-- ---- expressions

-- a term that has a sort, and whose expression has its value
abbrev pub Is : List Val → Env → Expr → TermTree → Type 0
Is locals env e t = HasValue (value locals e) (value_under env t)

sorted_one : (s : Option Sort) (o : Operator) (r : Sort) → with_sorts (all_sorts (s ∷ [])) (sort_given o) ≡ Some r → (u : Sort) × (s ≡ Some u) × (sort_given o (u ∷ []) ≡ Some r)
sorted_one None o r e = absurd cc
sorted_one (Some u) o r e = (u, refl, e)

sorted_two : (s t : Option Sort) (o : Operator) (r : Sort) → with_sorts (all_sorts (s ∷ t ∷ [])) (sort_given o) ≡ Some r
    → (u : Sort) × (v : Sort) × (s ≡ Some u) × (t ≡ Some v) × (sort_given o (u ∷ v ∷ []) ≡ Some r)
sorted_two None t o r e = absurd cc
sorted_two (Some u) None o r e = absurd cc
sorted_two (Some u) (Some v) o r e = (u, v, refl, refl, e)

over_one_is : (o : Operator) (a : Option TermTree) (t : TermTree) → over_one o a ≡ Some t → (u : TermTree) × (a ≡ Some u) × (t ≡ tree.Apply o (u ∷ []))
over_one_is o None t e = absurd cc
over_one_is o (Some u) t e = (u, refl, sym (some_same _ _ e))

over_two_is : (o : Operator) (a b : Option TermTree) (t : TermTree) → over_two o a b ≡ Some t
    → (u : TermTree) × (v : TermTree) × (a ≡ Some u) × (b ≡ Some v) × (t ≡ tree.Apply o (u ∷ v ∷ []))
over_two_is o None b t e = absurd cc
over_two_is o (Some u) None t e = absurd cc
over_two_is o (Some u) (Some v) t e = (u, v, refl, refl, sym (some_same _ _ e))

known_is : (found : Option (Option TermTree)) (t : TermTree) → known found ≡ Some t → found ≡ Some (Some t)
known_is None t e = absurd cc
known_is (Some None) t e = absurd cc
known_is (Some (Some u)) t e = ap Some e

-- a constant
constant : (locals : List Val) (env : Env) (e : Expr) (t : TermTree) (o : Operator) (v : Val) → value locals e ≡ Some v → plain v ≡ Some (operate o []) → Some (tree.Apply o []) ≡ Some t
    → Is locals env e t
constant locals env e t o v there is same = record {
  v = v;
  there = there;
  is = is ∙ ap Some (sym (value_apply env o [])) ∙ ap (λ (u : TermTree). Some (value_under env u)) (some_same _ _ same);
}

module _ (env : Env) (terms : List (Option TermTree)) (locals : List Val) (have : HaveValues env terms locals) where
  on_one : (o : Unary) (e : Expr) (t : TermTree) (s : Sort) → ((u : TermTree) (r : Sort) → term_of terms e ≡ Some u → sort_of u ≡ Some r → Is locals env e u)
      → over_one (unary_operator o) (term_of terms e) ≡ Some t → sort_of t ≡ Some s → Is locals env (One o e) t
  on_one o e t s below is sorted =
      let (u, u_is, t_is) = over_one_is (unary_operator o) (term_of terms e) t is in
      let (r, r_is, given) = sorted_one (sort_of u) (unary_operator o) s (sym (sort_apply (unary_operator o) (u ∷ [])) ∙ ap sort_of (sym t_is) ∙ sorted) in
      let x = below u r u_is r_is in
      let y = one_value o x.v (value_under env u) r s (x.is, values_have_sorts env u r r_is) given in
      record {
        v = y.v;
        there = ap (λ (z : Option Val). one o z) x.there ∙ y.there;
        is = y.is ∙ ap Some (sym (value_apply env (unary_operator o) (u ∷ []))) ∙ ap (λ (z : TermTree). Some (value_under env z)) (sym t_is);
      }

  on_two : (o : Binary) (e d : Expr) (t : TermTree) (s : Sort) → ((u : TermTree) (r : Sort) → term_of terms e ≡ Some u → sort_of u ≡ Some r → Is locals env e u)
      → ((u : TermTree) (r : Sort) → term_of terms d ≡ Some u → sort_of u ≡ Some r → Is locals env d u)
      → over_two (binary_operator o) (term_of terms e) (term_of terms d) ≡ Some t → sort_of t ≡ Some s → Is locals env (Two o e d) t
  on_two o e d t s below beside is sorted =
      let (u, v, u_is, v_is, t_is) = over_two_is (binary_operator o) (term_of terms e) (term_of terms d) t is in
      let (q, r, q_is, r_is, given) = sorted_two (sort_of u) (sort_of v) (binary_operator o) s (sym (sort_apply (binary_operator o) (u ∷ v ∷ [])) ∙ ap sort_of (sym t_is) ∙ sorted) in
      let x = below u q u_is q_is in
      let z = beside v r v_is r_is in
      let y = two_value x.v z.v (value_under env u) (value_under env v) q r s (x.is, values_have_sorts env u q q_is) (z.is, values_have_sorts env v r r_is) o given in
      record {
        v = y.v;
        there = ap (λ (w : Option Val). two o w (value locals d)) x.there ∙ ap (λ (w : Option Val). two o (Some x.v) w) z.there ∙ y.there;
        is = y.is ∙ ap Some (sym (value_apply env (binary_operator o) (u ∷ v ∷ []))) ∙ ap (λ (w : TermTree). Some (value_under env w)) (sym t_is);
      }

  pub valued : (e : Expr) (t : TermTree) (s : Sort) → term_of terms e ≡ Some t → sort_of t ≡ Some s → Is locals env e t
  valued (Number n) t s is sorted = constant locals env (Number n) t (op.Number n) (stored.Word n) refl refl is
  valued (Truth true) t s is sorted = constant locals env (Truth true) t op.True (stored.Bool true) refl refl is
  valued (Truth false) t s is sorted = constant locals env (Truth false) t op.False (stored.Bool false) refl refl is
  valued Nil t s is sorted = constant locals env Nil t op.Nil (stored.Ref 0) refl refl is
  valued NilSlice t s is sorted = constant locals env NilSlice t op.NilSlice _ refl refl is
  valued (LocalAt x) t s is sorted = let (v, there, is_value) = have x t (known_is (slice_get terms x) t is) in record { v = v; there = there; is = is_value }
  valued (One o e) t s is sorted = on_one o e t s (λ u r a b. valued e u r a b) is sorted
  valued (Two o e d) t s is sorted = on_two o e d t s (λ u r a b. valued e u r a b) (λ u r a b. valued d u r a b) is sorted

pub expressions_law : ExpressionsLaw
expressions_law env terms locals have e t s is sorted = let x = valued env terms locals have e t s is sorted in (x.v, x.there, x.is)
