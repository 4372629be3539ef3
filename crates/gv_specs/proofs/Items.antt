-- Lists gone through from the front.
use Rattle.std.proofs.Common.{◌≡◌, ℕ, zero, suc, ◌+◌, ◌<◌, ◌≤◌, ◌⊎◌, inl, inr, ⊎_elim, List, [], ◌∷◌, ◌++◌, Option, Some, length, get_or, refl, sym, ap, ◌∙◌, subst, arith, length-append}
use Rattle.std.specs.Prelude.{slice_get}
use Rattle.std.proofs.lemmas.Option.{slice_get_within}
use Rattle.gv_base.specs.declared.answers.Code.{Code}
use Rattle.gv_typing.specs.declared.term_fault.Fault.{Fault}
use Rattle.gv_specs.specs.Told.{HasItemFault, AreEach, Adds}
use Rattle.gv_specs.proofs.Firsts.{adds_same, adds_then, adds_nothing}

-- ---- faults of the first items

pub record HasFaultUpTo {T : Type 0} (Has : ℕ → T → ℕ → Code → Type 0) (items : List T) (k at : ℕ) (code : Code) : Type 0 where
  pub number : ℕ
  pub item : T
  pub first : number < k
  pub there : slice_get items number ≡ Some item
  pub fault : Has number item at code

pub got : {T : Type 0} (items : List T) (i : ℕ) (x : T) → i < length items → x ≡ get_or items i x → slice_get items i ≡ Some x
got [] i x lt is = absurd (omega (arith, lt))
got (p ∷ items) zero x lt is = ap Some (sym is)
got (p ∷ items) (suc i) x lt is = got items i x (omega (arith, lt)) is

below : (i n : ℕ) → i < n + 1 → (i < n) ⊎ (i ≡ n)
below zero zero l = inr refl
below zero (suc n) l = inl (omega arith)
below (suc i) zero l = absurd (omega (arith, l))
below (suc i) (suc n) l = ⊎_elim (λ a. inl (omega (arith, a))) (λ e. inr (ap suc e)) (below i n (omega (arith, l)))

module _ {T : Type 0} (Has : ℕ → T → ℕ → Code → Type 0) (items : List T) where
  same_item : (k : ℕ) (x y : T) → slice_get items k ≡ Some x → slice_get items k ≡ Some y → y ≡ x
  same_item k x y p q = cc

  more : (k : ℕ) (x : T) (m : ℕ) (c : Code) → slice_get items k ≡ Some x → HasFaultUpTo Has items k m c ⊎ Has k x m c → HasFaultUpTo Has items (k + 1) m c
  more k x m c got h = ⊎_elim
      (λ (w : HasFaultUpTo Has items k m c). record { number = w.number; item = w.item; first = let l = w.first in omega (arith, l); there = w.there; fault = w.fault })
      (λ (w : Has k x m c). record { number = k; item = x; first = omega arith; there = got; fault = w }) h

  less : (k : ℕ) (x : T) (m : ℕ) (c : Code) → slice_get items k ≡ Some x → HasFaultUpTo Has items (k + 1) m c → HasFaultUpTo Has items k m c ⊎ Has k x m c
  less k x m c got h = ⊎_elim
      (λ (l : h.number < k). inl (record { number = h.number; item = h.item; first = l; there = h.there; fault = h.fault }))
      (λ (e : h.number ≡ k).
      inr (subst (λ (y : T). Has k y m c) (same_item k x h.item got (ap (slice_get items) (sym e) ∙ h.there))
      (subst (λ (i : ℕ). Has i h.item m c) e h.fault)))
      (below h.number k h.first)

  pub adds_none : (old : Option Fault) → Adds (HasFaultUpTo Has items 0) old old
  adds_none old = adds_nothing (HasFaultUpTo Has items 0) old (λ m c h. let l = h.first in absurd (omega (arith, l)))

  -- one item more
  pub adds_item : (k : ℕ) (x : T) (a b c : Option Fault) → k < length items → x ≡ get_or items k x → Adds (HasFaultUpTo Has items k) a b → Adds (Has k x) b c → Adds (HasFaultUpTo Has items (k + 1)) a c
  adds_item k x a b c lt is p q =
      let there = got items k x lt is in
      adds_same (λ m d. HasFaultUpTo Has items k m d ⊎ Has k x m d) (HasFaultUpTo Has items (k + 1)) a c (λ m d h. more k x m d there h) (λ m d h. less k x m d there h)
      (adds_then (HasFaultUpTo Has items k) (Has k x) a b c p q)

  -- all of them
  pub adds_items : (k : ℕ) (a b : Option Fault) → length items ≤ k → Adds (HasFaultUpTo Has items k) a b → Adds (HasItemFault Has items) a b
  adds_items k a b end = adds_same (HasFaultUpTo Has items k) (HasItemFault Has items) a b
      (λ m c h. record { number = h.number; item = h.item; there = h.there; fault = h.fault })
      (λ m c h. record { number = h.number; item = h.item; first = let l = slice_get_within items h.number h.item h.there in omega (arith, l); there = h.there; fault = h.fault })

-- ---- what holds of the first items

pub record AreFirst {S T : Type 0} (Is : ℕ → S → T → Type 0) (items : List S) (k : ℕ) (others : List T) : Type 0 where
  pub count : length others ≡ k
  pub each : (number : ℕ) (item : S) (other : T) → slice_get items number ≡ Some item → slice_get others number ≡ Some other → Is number item other

get_left : {T : Type 0} (xs ys : List T) (i : ℕ) → i < length xs → slice_get (xs ++ ys) i ≡ slice_get xs i
get_left [] ys i l = absurd (omega (arith, l))
get_left (x ∷ xs) ys zero l = refl
get_left (x ∷ xs) ys (suc i) l = get_left xs ys i (omega (arith, l))

get_last : {T : Type 0} (xs : List T) (y : T) → slice_get (xs ++ y ∷ []) (length xs) ≡ Some y
get_last [] y = refl
get_last (x ∷ xs) y = get_last xs y

module _ {S T : Type 0} where
  pub are_none : (Is : ℕ → S → T → Type 0) (items : List S) (others : List T) → others ≡ [] → AreFirst Is items 0 others
  are_none Is items [] e = record { count = refl; each = λ i x y p q. absurd cc }
  are_none Is items (y ∷ others) e = absurd cc

  pub are_more : (Is : ℕ → S → T → Type 0) (items : List S) (k : ℕ) (x : S) (others new : List T) (y : T) → k < length items → x ≡ get_or items k x → AreFirst Is items k others → Is k x y → new ≡ others ++ y ∷ []
      → AreFirst Is items (k + 1) new
  are_more Is items k x others new y lt is h here e = record {
    count = ap length e ∙ length-append others (y ∷ []) ∙ ap (λ n. n + 1) h.count;
    each = λ i a b p q. ⊎_elim
        (λ (l : i < k). h.each i a b p (sym (get_left others (y ∷ []) i (let c = h.count in omega (arith, l, c))) ∙ ap (λ xs. slice_get xs i) (sym e) ∙ q))
        (λ (m : i ≡ k).
        let there = got items k x lt is in
        let a_x : a ≡ x = cc in
        let last : slice_get new k ≡ Some y = ap (λ xs. slice_get xs k) e ∙ ap (slice_get (others ++ y ∷ [])) (sym h.count) ∙ get_last others y in
        let b_y : b ≡ y = cc in
        subst (λ (j : ℕ). Is j a b) (sym m) (subst (λ (u : S). Is k u b) (sym a_x) (subst (λ (v : T). Is k x v) (sym b_y) here)))
        (below i k (let w = slice_get_within new i b q in let n = ap length e ∙ length-append others (y ∷ []) in let c = h.count in omega (arith, w, n, c)));
  }

  pub are_all : (Is : ℕ → S → T → Type 0) (items : List S) (k : ℕ) (others : List T) → length items ≡ k → AreFirst Is items k others → AreEach Is items others
  are_all Is items k others e h = record { count = h.count ∙ sym e; each = h.each }

  -- a weaker thing
  pub are_weaker : (Is Was : ℕ → S → T → Type 0) (items : List S) (k : ℕ) (others : List T) → ((i : ℕ) (x : S) (y : T) → Is i x y → Was i x y) → AreFirst Is items k others → AreFirst Was items k others
  are_weaker Is Was items k others weak h = record { count = h.count; each = λ i x y p q. weak i x y (h.each i x y p q) }

  pub each_weaker : (Is Was : ℕ → S → T → Type 0) (items : List S) (others : List T) → ((i : ℕ) (x : S) (y : T) → Is i x y → Was i x y) → AreEach Is items others → AreEach Was items others
  each_weaker Is Was items others weak h = record { count = h.count; each = λ i x y p q. weak i x y (h.each i x y p q) }
