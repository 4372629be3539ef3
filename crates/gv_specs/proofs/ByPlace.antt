-- Lists item by item.
use Rattle.std.proofs.Common.{◌≡◌, ℕ, zero, suc, ◌<◌, Bool, true, false, ◌&&◌, not, List, [], ◌∷◌, Some, is_some, cond, length, map, take, refl, ap, ◌∙◌, arith}
use Rattle.std.specs.Prelude.{slice_get}
use Rattle.std.specs.List.{find, list_all}
use Rattle.std.proofs.lemmas.Option.{slice_get_within}
use Rattle.gv_atomic.specs.Typed.{are_distinct}
use Rattle.gv_specs.specs.Told.{AreEach}

pub not_false : (b : Bool) → (b ≡ false → ⊥) → b ≡ true
not_false true never = refl
not_false false never = absurd (never refl)

pub not_true : (b : Bool) → (b ≡ true → ⊥) → b ≡ false
not_true true never = absurd (never refl)
not_true false never = refl

both : (a b : Bool) → a ≡ true → b ≡ true → (a && b) ≡ true
both a b p q = rw (p, q) refl

pub item_at : {T : Type 0} (xs : List T) (i : ℕ) → i < length xs → (x : T) × (slice_get xs i ≡ Some x)
item_at [] i l = absurd (omega (arith, l))
item_at (x ∷ xs) zero l = (x, refl)
item_at (x ∷ xs) (suc i) l = item_at xs i (omega (arith, l))

pub all_by_place : {T : Type 0} (P : T → Bool) (xs : List T) → ((i : ℕ) (x : T) → slice_get xs i ≡ Some x → P x ≡ true) → list_all P xs ≡ true
all_by_place P [] h = refl
all_by_place P (x ∷ xs) h = both (P x) (list_all P xs) (h 0 x refl) (all_by_place P xs (λ i y e. h (suc i) y e))

find_none : {T : Type 0} (P : T → Bool) (xs : List T) → ((i : ℕ) (x : T) → slice_get xs i ≡ Some x → P x ≡ false) → is_some (find P xs) ≡ false
find_none P [] h = refl
find_none P (x ∷ xs) h = step (P x) (h 0 x refl) (find_none P xs (λ i y g. h (suc i) y g))
  where
    step : (b : Bool) → b ≡ false → is_some (find P xs) ≡ false → is_some (cond b (Some x) (find P xs)) ≡ false
    step true e g = absurd cc
    step false e g = g

pub distinct_by_place : {T : Type 0} (eq : T → T → Bool) (xs : List T) → ((i j : ℕ) (x y : T) → i < j → slice_get xs i ≡ Some x → slice_get xs j ≡ Some y → eq x y ≡ false) → are_distinct eq xs ≡ true
distinct_by_place eq [] h = refl
distinct_by_place eq (x ∷ xs) h =
    both (not (is_some (find (eq x) xs))) (are_distinct eq xs) (ap not (find_none (eq x) xs (λ i y e. h 0 (suc i) x y (omega arith) refl e)))
    (distinct_by_place eq xs (λ i j y z l e f. h (suc i) (suc j) y z (omega (arith, l)) e f))

-- one of the first items is found
pub find_first : {T U : Type 0} (g : T → U) (P : U → Bool) (xs : List T) (i j : ℕ) (x : T) → i < j → slice_get xs i ≡ Some x → P (g x) ≡ true → is_some (find P (map g (take j xs))) ≡ true
find_first g P [] i j x l e h = absurd cc
find_first g P (y ∷ xs) i zero x l e h = absurd (omega (arith, l))
find_first g P (y ∷ xs) zero (suc j) x l e h = let same : y ≡ x = cc in step (P (g y)) (ap (λ z. P (g z)) same ∙ h)
  where
    step : (b : Bool) → b ≡ true → is_some (cond b (Some (g y)) (find P (map g (take j xs)))) ≡ true
    step true p = refl
    step false p = absurd cc
find_first g P (y ∷ xs) (suc i) (suc j) x l e h = step (P (g y)) (find_first g P xs i j x (omega (arith, l)) e h)
  where
    step : (b : Bool) → is_some (find P (map g (take j xs))) ≡ true → is_some (cond b (Some (g y)) (find P (map g (take j xs)))) ≡ true
    step true p = refl
    step false p = p

-- ---- two lists beside each other

module _ {S T : Type 0} where
  pub partner : (Is : ℕ → S → T → Type 0) (items : List S) (others : List T) (i : ℕ) (y : T) → AreEach Is items others → slice_get others i ≡ Some y → (x : S) × (slice_get items i ≡ Some x)
  partner Is items others i y h e = item_at items i (let w = slice_get_within others i y e in let c = h.count in omega (arith, w, c))

  pub all_beside : (Is : ℕ → S → T → Type 0) (P : T → Bool) (items : List S) (others : List T) → AreEach Is items others
      → ((i : ℕ) (x : S) (y : T) → slice_get items i ≡ Some x → Is i x y → P y ≡ true) → list_all P others ≡ true
  all_beside Is P items others h p = all_by_place P others (λ i y e. let (x, f) = partner Is items others i y h e in p i x y f (h.each i x y f e))

  pub map_beside : {U : Type 0} (Is : ℕ → S → T → Type 0) (f : S → U) (g : T → U) (items : List S) (others : List T) → AreEach Is items others
      → ((i : ℕ) (x : S) (y : T) → Is i x y → g y ≡ f x) → map g others ≡ map f items
  map_beside Is f g [] [] h same = refl
  map_beside Is f g [] (y ∷ others) h same = let c = h.count in absurd (omega (arith, c))
  map_beside Is f g (x ∷ items) [] h same = let c = h.count in absurd (omega (arith, c))
  map_beside {U} Is f g (x ∷ items) (y ∷ others) h same =
      let one : g y ≡ f x = same 0 x y (h.each 0 x y refl refl) in
      let rest : map g others ≡ map f items = map_beside (λ i. Is (suc i)) f g items others (record { count = let c = h.count in omega (arith, c); each = λ i a b p q. h.each (suc i) a b p q }) (λ i a b k. same (suc i) a b k) in
      ap (λ (u : U). u ∷ map g others) one ∙ ap (λ (us : List U). f x ∷ us) rest
