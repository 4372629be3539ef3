-- Members of lists, and flags that are set.
use Rattle.std.proofs.Common.{◌≡◌, ℕ, suc, zero, ◌⊎◌, inl, inr, ⊎_elim, ◌<◌, ◌≤◌, Bool, true, false, List, [], ◌∷◌, ◌++◌, length, get_or, set, refl, sym, ap, ◌∙◌, arith}
use Rattle.std.specs.Prelude.{not, replicate}
use Rattle.std.proofs.lemmas.List.{length-map}
use Rattle.std.specs.Global.{Vec}
use Rattle.gv_cycles.specs.Leading.{IsIn, row, items_of, lists_of}
use Rattle.gv_cycles.specs.Search.{seen_count, is_new_in}

pub in_first : (n : ℕ) (xs ys : List ℕ) → IsIn n xs → IsIn n (xs ++ ys)
in_first n [] ys h = absurd h
in_first n (x ∷ xs) ys (inl e) = inl e
in_first n (x ∷ xs) ys (inr h) = inr (in_first n xs ys h)

pub in_last : (n : ℕ) (xs : List ℕ) → IsIn n (xs ++ n ∷ [])
in_last n [] = inl refl
in_last n (x ∷ xs) = inr (in_last n xs)

pub in_push : (xs : List ℕ) (x n : ℕ) → IsIn n (xs ++ x ∷ []) → IsIn n xs ⊎ (x ≡ n)
in_push [] x n (inl e) = inr e
in_push [] x n (inr h) = absurd h
in_push (y ∷ ys) x n (inl e) = inl (inl e)
in_push (y ∷ ys) x n (inr h) = ⊎_elim (λ k. inl (inr k)) (λ (e : x ≡ n). inr e) (in_push ys x n h)

-- the place of a member
pub record IsAt (n : ℕ) (xs : List ℕ) : Type 0 where
  pub at : ℕ
  pub within : at < length xs
  pub is : (d : ℕ) → get_or xs at d ≡ n

pub place_of : (n : ℕ) (xs : List ℕ) → IsIn n xs → IsAt n xs
place_of n [] h = absurd h
place_of n (x ∷ xs) (inl e) = record { at = 0; within = omega arith; is = λ d. e }
place_of n (x ∷ xs) (inr h) = let p = place_of n xs h in record { at = suc p.at; within = (let k = p.within in omega (arith, k)); is = λ d. p.is d }

pub in_at : (xs : List ℕ) (i d : ℕ) → i < length xs → IsIn (get_or xs i d) xs
in_at [] i d l = absurd (omega (arith, l))
in_at (x ∷ xs) zero d l = inl refl
in_at (x ∷ xs) (suc i) d l = inr (in_at xs i d (omega (arith, l)))

pub row_past : (rows : List (List ℕ)) (n : ℕ) → length rows ≤ n → row rows n ≡ []
row_past [] n l = refl
row_past (r ∷ rs) zero l = absurd (omega (arith, l))
row_past (r ∷ rs) (suc n) l = row_past rs n (omega (arith, l))

row_of : (rows : List (Vec ℕ)) (n : ℕ) (d : Vec ℕ) → n < length rows → row (lists_of rows) n ≡ (get_or rows n d).items
row_of [] n d l = absurd (omega (arith, l))
row_of (r ∷ rs) zero d l = refl
row_of (r ∷ rs) (suc n) d l = row_of rs n d (omega (arith, l))

pub row_is : (rows : List (Vec ℕ)) (n : ℕ) (r : Vec ℕ) → r ≡ get_or rows n r → n < length rows → row (lists_of rows) n ≡ r.items
row_is rows n r e l = row_of rows n r l ∙ ap items_of (sym e)

pub as_long : (rows : List (Vec ℕ)) → length (lists_of rows) ≡ length rows
as_long rows = length-map rows items_of

-- ---- flags

pub new_within : (seen : List Bool) (n : ℕ) → is_new_in seen n ≡ true → n < length seen
new_within [] n e = absurd cc
new_within (b ∷ bs) zero e = omega arith
new_within (b ∷ bs) (suc n) e = let k = new_within bs n e in omega (arith, k)

pub old_is_true : (b : Bool) → not b ≡ false → b ≡ true
old_is_true true e = refl
old_is_true false e = absurd cc

pub count_set : (seen : List Bool) (n : ℕ) → is_new_in seen n ≡ true → seen_count (set seen n true) ≡ suc (seen_count seen)
count_set [] n e = absurd cc
count_set (true ∷ bs) zero e = absurd cc
count_set (false ∷ bs) zero e = refl
count_set (true ∷ bs) (suc n) e = ap suc (count_set bs n e)
count_set (false ∷ bs) (suc n) e = count_set bs n e

pub count_within : (seen : List Bool) → seen_count seen ≤ length seen
count_within [] = omega arith
count_within (true ∷ bs) = let k = count_within bs in omega (arith, k)
count_within (false ∷ bs) = let k = count_within bs in omega (arith, k)

-- one that isn't seen is missing in the count
pub count_below : (seen : List Bool) (n : ℕ) → get_or seen n true ≡ false → seen_count seen < length seen
count_below [] n e = absurd cc
count_below (true ∷ bs) zero e = absurd cc
count_below (false ∷ bs) zero e = let k = count_within bs in omega (arith, k)
count_below (true ∷ bs) (suc n) e = let k = count_below bs n e in omega (arith, k)
count_below (false ∷ bs) (suc n) e = let k = count_below bs n e in omega (arith, k)

pub set_or : (seen : List Bool) (m n : ℕ) → get_or (set seen m true) n true ≡ true → (m ≡ n) ⊎ (get_or seen n true ≡ true)
set_or [] m n e = inr e
set_or (b ∷ bs) zero zero e = inl refl
set_or (b ∷ bs) zero (suc n) e = inr e
set_or (b ∷ bs) (suc m) zero e = inr e
set_or (b ∷ bs) (suc m) (suc n) e = ⊎_elim (λ (q : m ≡ n). inl (ap suc q)) (λ k. inr k) (set_or bs m n e)

pub set_more : (seen : List Bool) (m n : ℕ) → get_or seen n true ≡ true → get_or (set seen m true) n true ≡ true
set_more [] m n e = e
set_more (b ∷ bs) zero zero e = refl
set_more (b ∷ bs) zero (suc n) e = e
set_more (b ∷ bs) (suc m) zero e = e
set_more (b ∷ bs) (suc m) (suc n) e = set_more bs m n e

pub set_there : (seen : List Bool) (n : ℕ) → get_or (set seen n true) n true ≡ true
set_there [] n = refl
set_there (b ∷ bs) zero = refl
set_there (b ∷ bs) (suc n) = set_there bs n

-- another one is what it was
pub set_other : (seen : List Bool) (m n : ℕ) → (m ≡ n → ⊥) → get_or seen n true ≡ false → get_or (set seen m true) n true ≡ false
set_other [] m n d e = e
set_other (b ∷ bs) zero zero d e = absurd (d refl)
set_other (b ∷ bs) zero (suc n) d e = e
set_other (b ∷ bs) (suc m) zero d e = e
set_other (b ∷ bs) (suc m) (suc n) d e = set_other bs m n (λ (q : m ≡ n). d (ap suc q)) e

pub none_seen : (n : ℕ) → seen_count (replicate n false) ≡ 0
none_seen zero = refl
none_seen (suc n) = none_seen n
