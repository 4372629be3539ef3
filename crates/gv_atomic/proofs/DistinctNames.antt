-- Names that are distinct and free, one more at the end.
use Rattle.std.proofs.Common.{◌≡◌, ℕ, List, [], ◌∷◌, ◌++◌, Bool, true, false, ◌&&◌, ◌||◌, cond, not, Some, None, is_some, refl, ap, ◌∙◌}
use Rattle.std.specs.List.{find, list_all}
use Rattle.std.specs.Str.{bytes_eq}
use Rattle.std.proofs.lemmas.List.Folds.{list_all-append}
use Rattle.gv_atomic.specs.Typed.{is_free, are_distinct, are_names}
use Rattle.gv_atomic.specs.Marks.{is_new}
use Rattle.gv_atomic.proofs.Vars.{flip}

pub both : (a b : Bool) → a ≡ true → b ≡ true → (a && b) ≡ true
both a b p q = rw (p, q) refl

pub parted : (a b : Bool) → (a && b) ≡ true → (a ≡ true) × (b ≡ true)
parted true b e = (refl, e)
parted false b e = absurd cc

pub second_false : (a b : Bool) → b ≡ false → (a && b) ≡ false
second_false true b e = e
second_false false b e = refl

pub first_false : (a b : Bool) → a ≡ false → (a && b) ≡ false
first_false a b e = rw e refl

negated : (b : Bool) → not b ≡ true → b ≡ false
negated true e = absurd cc
negated false e = refl

-- Lists whose items differ by a test that is symmetric.

module _ {A : Type 0} (eq : A → A → Bool) (flips : (x y : A) (b : Bool) → eq x y ≡ b → eq y x ≡ b) where
  abbrev has : List A → A → Bool
  has xs x = is_some (find (eq x) xs)

  has-append : (xs ys : List A) (x : A) → has (xs ++ ys) x ≡ (has xs x || has ys x)
  has-append [] ys x = refl
  has-append (y ∷ xs) ys x = step (eq x y) (has-append xs ys x)
    where
      step : (b : Bool) → has (xs ++ ys) x ≡ (has xs x || has ys x) → is_some (cond b (Some y) (find (eq x) (xs ++ ys))) ≡ (is_some (cond b (Some y) (find (eq x) xs)) || has ys x)
      step true h = refl
      step false h = h

  either_false : (a b : Bool) → a ≡ false → b ≡ false → (a || b) ≡ false
  either_false a b p q = rw (p, q) refl

  second_true : (a b : Bool) → b ≡ true → (a || b) ≡ true
  second_true true b e = refl
  second_true false b e = e

  tested : (x y : A) (xs : List A) → has (y ∷ xs) x ≡ false → (eq x y ≡ false) × (has xs x ≡ false)
  tested x y xs = by (eq x y)
    where
      by : (b : Bool) → is_some (cond b (Some y) (find (eq x) xs)) ≡ false → (b ≡ false) × (has xs x ≡ false)
      by true e = absurd cc
      by false e = (refl, e)

  alone : (x y : A) → eq x y ≡ false → has (y ∷ []) x ≡ false
  alone x y e = ap (λ b. is_some (cond b (Some y) None)) e

  pub distinct_more : (xs : List A) (x : A) → are_distinct eq xs ≡ true → is_some (find (eq x) xs) ≡ false → are_distinct eq (xs ++ x ∷ []) ≡ true
  distinct_more [] x d a = refl
  distinct_more (y ∷ xs) x d a =
      let p = parted (not (has xs y)) (are_distinct eq xs) d in
      let q = tested x y xs a in
      both (not (has (xs ++ x ∷ []) y)) (are_distinct eq (xs ++ x ∷ []))
      (ap not (has-append xs (x ∷ []) y ∙ either_false (has xs y) (has (x ∷ []) y) (negated (has xs y) p.0) (alone y x (flips x y false q.0))))
      (distinct_more xs x p.1 q.1)

  found_first : (x y : A) (ys : List A) → eq y x ≡ true → has (x ∷ ys) y ≡ true
  found_first x y ys e = ap (λ b. is_some (cond b (Some x) (find (eq y) ys))) e

  pub not_distinct : (xs : List A) (x : A) (ys : List A) → is_some (find (eq x) xs) ≡ true → are_distinct eq (xs ++ x ∷ ys) ≡ false
  not_distinct [] x ys a = absurd cc
  not_distinct (y ∷ xs) x ys a = step (not_distinct xs x ys) (eq x y) refl a
    where
      step : (is_some (find (eq x) xs) ≡ true → are_distinct eq (xs ++ x ∷ ys) ≡ false) → (b : Bool) → eq x y ≡ b → is_some (cond b (Some y) (find (eq x) xs)) ≡ true → (not (has (xs ++ x ∷ ys) y) && are_distinct eq (xs ++ x ∷ ys)) ≡ false
      step ih true e h =
          first_false (not (has (xs ++ x ∷ ys) y)) (are_distinct eq (xs ++ x ∷ ys))
          (ap not (has-append xs (x ∷ ys) y ∙ second_true (has xs y) (has (x ∷ ys) y) (found_first x y ys (flips x y true e))))
      step ih false e h = second_false (not (has (xs ++ x ∷ ys) y)) (are_distinct eq (xs ++ x ∷ ys)) (ih h)

-- a new name may be added
pub names_more : (ns : List (List ℕ)) (n : List ℕ) → are_names ns ≡ true → is_new ns n ≡ true → are_names (ns ++ n ∷ []) ≡ true
names_more ns n e f =
    let p = parted (list_all is_free ns) (are_distinct bytes_eq ns) e in
    let q = parted (is_free n) (not (is_some (find (bytes_eq n) ns))) f in
    both (list_all is_free (ns ++ n ∷ [])) (are_distinct bytes_eq (ns ++ n ∷ []))
    (list_all-append is_free ns (n ∷ []) ∙ both (list_all is_free ns) (is_free n && true) p.0 (both (is_free n) true q.0 refl))
    (distinct_more bytes_eq flip ns n p.1 (negated (is_some (find (bytes_eq n) ns)) q.1))

unnegated : (b : Bool) → not b ≡ false → b ≡ true
unnegated true e = refl
unnegated false e = absurd cc

-- another name may not
pub names_stop : (ns : List (List ℕ)) (n : List ℕ) (ms : List (List ℕ)) → is_new ns n ≡ false → are_names (ns ++ n ∷ ms) ≡ false
names_stop ns n ms = by (is_free n) refl
  where
    by : (b : Bool) → is_free n ≡ b → (b && not (is_some (find (bytes_eq n) ns))) ≡ false → are_names (ns ++ n ∷ ms) ≡ false
    by true e f = second_false (list_all is_free (ns ++ n ∷ ms)) (are_distinct bytes_eq (ns ++ n ∷ ms)) (not_distinct bytes_eq flip ns n ms (unnegated (is_some (find (bytes_eq n) ns)) f))
    by false e f =
        first_false (list_all is_free (ns ++ n ∷ ms)) (are_distinct bytes_eq (ns ++ n ∷ ms))
        (list_all-append is_free ns (n ∷ ms) ∙ second_false (list_all is_free ns) (is_free n && list_all is_free ms) (first_false (is_free n) (list_all is_free ms) e))
