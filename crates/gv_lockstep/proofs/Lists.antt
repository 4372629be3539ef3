-- Lists, and what all of their items meet.
use Rattle.std.proofs.Common.{◌≡◌, ◌∙◌, ℕ, zero, suc, ◌+◌, ◌<◌, List, [], ◌∷◌, ◌++◌, length, Bool, true, false, ◌&&◌, ◌||◌, not, Some, refl, ap, subst, arith, slice_get, map, Contains}
use Rattle.std.specs.List.{AllByRecursion, list_all}
use Rattle.gv_lockstep.specs.Sites.{nth}

-- ---- truth values

pub or_left : (a b : Bool) → a ≡ true → (a || b) ≡ true
or_left true b e = refl
or_left false b e = absurd cc

pub or_right : (a b : Bool) → b ≡ true → (a || b) ≡ true
or_right true b e = refl
or_right false b e = e

pub and_left : (a b : Bool) → (a && b) ≡ true → a ≡ true
and_left true b e = refl
and_left false b e = e

pub and_right : (a b : Bool) → (a && b) ≡ true → b ≡ true
and_right true b e = e
and_right false b e = absurd cc

pub off_left : (a b : Bool) → a ≡ false → (a && b) ≡ false
off_left true b e = absurd cc
off_left false b e = refl

pub off_right : (a b : Bool) → b ≡ false → (a && b) ≡ false
off_right true b e = e
off_right false b e = refl

pub not_on : (a : Bool) → a ≡ true → not a ≡ false
not_on true e = refl
not_on false e = absurd cc

pub not_off : (a : Bool) → not a ≡ true → a ≡ false
not_off true e = absurd cc
not_off false e = refl

-- ---- lists

pub map_joined : {A B : Type 0} (f : A → B) (xs ys : List A) → map f (xs ++ ys) ≡ map f xs ++ map f ys
map_joined f [] ys = refl
map_joined f (x ∷ xs) ys = ap (λ t. f x ∷ t) (map_joined f xs ys)

pub length_mapped : {A B : Type 0} (f : A → B) (xs : List A) → length (map f xs) ≡ length xs
length_mapped f [] = refl
length_mapped f (x ∷ xs) = let r = length_mapped f xs in omega arith

pub mapped_get : {A B : Type 0} (f : A → B) (xs : List A) (i : ℕ) (x : A) → slice_get xs i ≡ Some x → slice_get (map f xs) i ≡ Some (f x)
mapped_get f [] i x e = absurd cc
mapped_get f (y ∷ ys) zero x e = let q : y ≡ x = cc in ap (λ t. Some (f t)) q
mapped_get f (y ∷ ys) (suc i) x e = mapped_get f ys i x e

pub mapped_nth : {A B : Type 0} (f : A → B) (xs : List A) (k : ℕ) (x : A) → nth xs k ≡ Some x → nth (map f xs) k ≡ Some (f x)
mapped_nth f xs zero x e = absurd cc
mapped_nth f xs (suc i) x e = mapped_get f xs i x e

-- what stands in a mapped list is mapped from what stands in the list
pub get_mapped : {A B : Type 0} (f : A → B) (xs : List A) (i : ℕ) (y : B) → slice_get (map f xs) i ≡ Some y → (x : A) × (slice_get xs i ≡ Some x) × (f x ≡ y)
get_mapped f [] i y e = absurd cc
get_mapped f (x ∷ xs) zero y e = (x, refl, cc)
get_mapped f (x ∷ xs) (suc i) y e = get_mapped f xs i y e

pub nth_mapped : {A B : Type 0} (f : A → B) (xs : List A) (k : ℕ) (y : B) → nth (map f xs) k ≡ Some y → (x : A) × (nth xs k ≡ Some x) × (f x ≡ y)
nth_mapped f xs zero y e = absurd cc
nth_mapped f xs (suc i) y e = get_mapped f xs i y e

-- ---- all items

pub all_joined : {A : Type 0} (Q : A → Type 0) (xs ys : List A) → AllByRecursion Q xs → AllByRecursion Q ys → AllByRecursion Q (xs ++ ys)
all_joined Q [] ys a b = b
all_joined Q (x ∷ xs) ys a b = (a.0, all_joined Q xs ys a.1 b)

pub all_get : {A : Type 0} (Q : A → Type 0) (xs : List A) (i : ℕ) (x : A) → AllByRecursion Q xs → slice_get xs i ≡ Some x → Q x
all_get Q [] i x a e = absurd cc
all_get Q (y ∷ ys) zero x a e = let q : y ≡ x = cc in subst Q q a.0
all_get Q (y ∷ ys) (suc i) x a e = all_get Q ys i x a.1 e

pub all_nth : {A : Type 0} (Q : A → Type 0) (xs : List A) (k : ℕ) (x : A) → AllByRecursion Q xs → nth xs k ≡ Some x → Q x
all_nth Q xs zero x a e = absurd cc
all_nth Q xs (suc i) x a e = all_get Q xs i x a e

pub all_contains : {A : Type 0} (Q : A → Type 0) (xs : List A) (x : A) → AllByRecursion Q xs → Contains xs x → Q x
all_contains Q [] x a (k, p, e) = absurd (omega arith)
all_contains Q (y ∷ ys) x a (zero, p, e) = subst Q e a.0
all_contains Q (y ∷ ys) x a (suc k, p, e) = all_contains Q ys x a.1 (k, omega arith, e)

pub test_get : {A : Type 0} (q : A → Bool) (xs : List A) (i : ℕ) (x : A) → list_all q xs ≡ true → slice_get xs i ≡ Some x → q x ≡ true
test_get q [] i x a e = absurd cc
test_get q (y ∷ ys) zero x a e = let s : y ≡ x = cc in subst (λ t. q t ≡ true) s (and_left (q y) (list_all q ys) a)
test_get q (y ∷ ys) (suc i) x a e = test_get q ys i x (and_right (q y) (list_all q ys) a) e

-- ---- runs of items in a list

-- the list has these items from number k on
abbrev pub Has : {A : Type 0} → List A → ℕ → List A → Type 0
Has P k [] = Unit {0}
Has P k (x ∷ xs) = (nth P k ≡ Some x) × Has P (k + 1) xs

pub has_parts : {A : Type 0} (P : List A) (k m : ℕ) (xs ys : List A) → m ≡ k + length xs → Has P k (xs ++ ys) → Has P k xs × Has P m ys
has_parts P k m [] ys e h = (tt, subst (λ i. Has P i ys) (omega arith) h)
has_parts P k m (x ∷ xs) ys e h = let r = has_parts P (k + 1) m xs ys (omega arith) h.1 in ((h.0, r.0), r.1)

nth_shift : {A : Type 0} (y : A) (P : List A) (k : ℕ) → 0 < k → nth (y ∷ P) (k + 1) ≡ nth P k
nth_shift y P zero p = absurd (omega arith)
nth_shift y P (suc i) p = let e : suc (suc i) ≡ suc i + 1 = omega arith in subst (λ m. nth (y ∷ P) m ≡ slice_get P i) e refl

has_shift : {A : Type 0} (y : A) (P xs : List A) (k : ℕ) → 0 < k → Has P k xs → Has (y ∷ P) (k + 1) xs
has_shift y P [] k p h = tt
has_shift y P (x ∷ xs) k p h = (nth_shift y P k p ∙ h.0, has_shift y P xs (k + 1) (omega arith) h.1)

pub has_own : {A : Type 0} (P : List A) → Has P 1 P
has_own [] = tt
has_own (x ∷ xs) = (refl, has_shift x xs xs 1 (omega arith) (has_own xs))
