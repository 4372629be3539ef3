-- What passes a test, in lists, options and answers.
use Rattle.std.proofs.Common.{◌≡◌, ℕ, zero, suc, Bool, true, false, List, [], ◌∷◌, ◌++◌, Option, Some, None, take, drop, map, replicate, refl, ◌∙◌, subst}
use Rattle.std.specs.Prelude.{slice_get, slice_set, option_map, option_and_then}
use Rattle.std.specs.List.{list_all}
use Rattle.std.proofs.lemmas.Bool.{and_parts, and_from}
use Rattle.std.proofs.lemmas.List.Folds.{list_all-append}
use Rattle.gv_base.specs.declared.reason.Reason.{Reason}
use Rattle.gv_base.specs.declared.answer.Answer.{Answer}
use Rattle.gv_base.specs.declared.answer.Answer.TheVariants.{Next, Blocked, Undefined}
use Rattle.gv_world.specs.Answers.{and_then, undefined_if}

-- ---- lists

module _ {A : Type 0} (p : A → Bool) where
  pub head_passes : (x : A) (xs : List A) → list_all p (x ∷ xs) ≡ true → p x ≡ true
  head_passes x xs h = (and_parts (p x) (list_all p xs) h).0

  pub tail_passes : (x : A) (xs : List A) → list_all p (x ∷ xs) ≡ true → list_all p xs ≡ true
  tail_passes x xs h = (and_parts (p x) (list_all p xs) h).1

  pub get_passes : (xs : List A) (i : ℕ) (x : A) → list_all p xs ≡ true → slice_get xs i ≡ Some x → p x ≡ true
  get_passes [] i x h e = absurd (cc)
  get_passes (y ∷ xs) zero x h e = let same : y ≡ x = cc in subst (λ z. p z ≡ true) same (head_passes y xs h)
  get_passes (y ∷ xs) (suc i) x h e = get_passes xs i x (tail_passes y xs h) e

  pub set_passes : (xs : List A) (i : ℕ) (x : A) → list_all p xs ≡ true → p x ≡ true → list_all p (slice_set xs i x) ≡ true
  set_passes [] i x h e = refl
  set_passes (y ∷ xs) zero x h e = and_from (p x) (list_all p xs) e (tail_passes y xs h)
  set_passes (y ∷ xs) (suc i) x h e = and_from (p y) (list_all p (slice_set xs i x)) (head_passes y xs h) (set_passes xs i x (tail_passes y xs h) e)

  pub both_pass : (xs ys : List A) → list_all p xs ≡ true → list_all p ys ≡ true → list_all p (xs ++ ys) ≡ true
  both_pass xs ys h k = list_all-append p xs ys ∙ and_from (list_all p xs) (list_all p ys) h k

  pub one_more_passes : (xs : List A) (x : A) → list_all p xs ≡ true → p x ≡ true → list_all p (xs ++ x ∷ []) ≡ true
  one_more_passes xs x h e = both_pass xs (x ∷ []) h (and_from (p x) true e refl)

  pub take_passes : (n : ℕ) (xs : List A) → list_all p xs ≡ true → list_all p (take n xs) ≡ true
  take_passes zero xs h = refl
  take_passes (suc n) [] h = refl
  take_passes (suc n) (x ∷ xs) h = and_from (p x) (list_all p (take n xs)) (head_passes x xs h) (take_passes n xs (tail_passes x xs h))

  pub drop_passes : (n : ℕ) (xs : List A) → list_all p xs ≡ true → list_all p (drop n xs) ≡ true
  drop_passes zero xs h = h
  drop_passes (suc n) [] h = refl
  drop_passes (suc n) (x ∷ xs) h = drop_passes n xs (tail_passes x xs h)

  pub replicate_passes : (n : ℕ) (x : A) → p x ≡ true → list_all p (replicate n x) ≡ true
  replicate_passes zero x e = refl
  replicate_passes (suc n) x e = and_from (p x) (list_all p (replicate n x)) e (replicate_passes n x e)

  pub map_passes : {B : Type 0} (f : B → A) (ys : List B) → ((y : B) → p (f y) ≡ true) → list_all p (map f ys) ≡ true
  map_passes f [] each = refl
  map_passes f (y ∷ ys) each = and_from (p (f y)) (list_all p (map f ys)) (each y) (map_passes f ys each)

  -- a map by which what passed one test passes the other
  pub mapped_passes : {B : Type 0} (q : B → Bool) (f : B → A) (ys : List B) → ((y : B) → q y ≡ true → p (f y) ≡ true)
      → list_all q ys ≡ true → list_all p (map f ys) ≡ true
  mapped_passes q f [] each h = refl
  mapped_passes q f (y ∷ ys) each h =
      let parts = and_parts (q y) (list_all q ys) h in
      and_from (p (f y)) (list_all p (map f ys)) (each y parts.0) (mapped_passes q f ys each parts.1)

-- ---- options

-- what is there passes
abbrev pub if_there : {A : Type 0} → (A → Bool) → Option A → Bool
if_there p None = true
if_there p (Some a) = p a

pub got_passes : {A : Type 0} (p : A → Bool) (xs : List A) (i : ℕ) → list_all p xs ≡ true → if_there p (slice_get xs i) ≡ true
got_passes p [] i h = refl
got_passes p (x ∷ xs) zero h = head_passes p x xs h
got_passes p (x ∷ xs) (suc i) h = got_passes p xs i (tail_passes p x xs h)

pub then_there : {A B : Type 0} (p : A → Bool) (q : B → Bool) (f : A → Option B) (found : Option A) → if_there p found ≡ true
    → ((a : A) → p a ≡ true → if_there q (f a) ≡ true) → if_there q (option_and_then f found) ≡ true
then_there p q f None h each = refl
then_there p q f (Some a) h each = each a h

pub mapped_there : {A B : Type 0} (p : A → Bool) (q : B → Bool) (f : A → B) (found : Option A) → if_there p found ≡ true
    → ((a : A) → p a ≡ true → q (f a) ≡ true) → if_there q (option_map f found) ≡ true
mapped_there p q f None h each = refl
mapped_there p q f (Some a) h each = each a h

-- ---- answers

-- what comes next passes
abbrev pub if_next : {A : Type 0} → (A → Bool) → Answer A → Bool
if_next p (Next a) = p a
if_next p Blocked = true
if_next p (Undefined reason) = true

pub then_next : {A B : Type 0} (p : A → Bool) (q : B → Bool) (found : Answer A) (f : A → Answer B) → if_next p found ≡ true
    → ((a : A) → p a ≡ true → if_next q (f a) ≡ true) → if_next q (and_then found f) ≡ true
then_next p q (Next a) f h each = each a h
then_next p q Blocked f h each = refl
then_next p q (Undefined reason) f h each = refl

pub then_any : {A B : Type 0} (q : B → Bool) (found : Answer A) (f : A → Answer B) → ((a : A) → if_next q (f a) ≡ true) → if_next q (and_then found f) ≡ true
then_any q (Next a) f each = each a
then_any q Blocked f each = refl
then_any q (Undefined reason) f each = refl

pub unless_next : {A : Type 0} (q : A → Bool) (test : Bool) (reason : Reason) (answer : Answer A) → (test ≡ false → if_next q answer ≡ true)
    → if_next q (undefined_if test reason answer) ≡ true
unless_next q true reason answer h = refl
unless_next q false reason answer h = h refl
