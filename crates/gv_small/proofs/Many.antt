-- Reading one after the other, against the relation that says the same.
use Rattle.std.proofs.Common.{◌≡◌, ℕ, zero, suc, ◌+◌, ◌<◌, ◌≤◌, Bool, true, false, cond, List, [], ◌∷◌, ◌++◌, length, Option, Some, None, refl, sym, ap, subst, ◌∙◌, arith, append_assoc}
use Rattle.std.proofs.lemmas.List.{append-nil}
use Rattle.std.specs.Prelude.{option_map, option_and_then, not}
use Rattle.gv_small.specs.Forms.{Many, none, more}
use Rattle.gv_small.specs.Reading.{ReadFrom, many, all_of, joined}

-- each step takes a token at least
abbrev pub Shrinks : {S A : Type 0} → (List S → ReadFrom S A) → Type 0
Shrinks {S} {A} step = (ts : List S) (a : A) (r : List S) → step ts ≡ Some (a, r) → length r < length ts

pub not_true : (b : Bool) → not b ≡ true → b ≡ false
not_true true e = absurd cc
not_true false e = refl

pub not_not : (b : Bool) → not (not b) ≡ b
not_not true = refl
not_not false = refl

module _ {S A : Type 0} (stop : List S → Bool) (step : List S → ReadFrom S A) where
  -- nothing is read of nothing
  reads_something : Shrinks step → (x : A × List S) → step [] ≡ Some x → ⊥
  reads_something h x f = let k : length x.1 < 0 = h [] x.0 x.1 f in omega (arith, k)

  empty : Shrinks step → (m : ℕ) (t : Bool) → stop [] ≡ t → (o : ReadFrom S A) → step [] ≡ o → many stop step 0 [] ≡ many stop step (suc m) []
  empty h m true e o f = rw e refl
  empty h m false e None f = rw (e, f) refl
  empty h m false e (Some x) f = absurd (reads_something h x f)

  one_more : (n m : ℕ) (ts : List S) → ((x : A × List S) → step ts ≡ Some x → many stop step n x.1 ≡ many stop step m x.1) →
      (t : Bool) → stop ts ≡ t → (o : ReadFrom S A) → step ts ≡ o → many stop step (suc n) ts ≡ many stop step (suc m) ts
  one_more n m ts ih true e o f = rw e refl
  one_more n m ts ih false e None f = rw (e, f) refl
  one_more n m ts ih false e (Some x) f = rw (e, f) (ap (λ o. option_map (λ y. (x.0 ∷ y.0, y.1)) o) (ih x f))

  -- enough turns are enough
  many_enough : Shrinks step → (n m : ℕ) (ts : List S) → length ts ≤ n → length ts ≤ m → many stop step n ts ≡ many stop step m ts
  many_enough h zero zero ts a b = refl
  many_enough h zero (suc m) [] a b = empty h m (stop []) refl (step []) refl
  many_enough h zero (suc m) (t ∷ ts) a b = absurd (let k : suc (length ts) ≤ 0 = a in omega (arith, k))
  many_enough h (suc n) zero [] a b = sym (empty h n (stop []) refl (step []) refl)
  many_enough h (suc n) zero (t ∷ ts) a b = absurd (let k : suc (length ts) ≤ 0 = b in omega (arith, k))
  many_enough h (suc n) (suc m) ts a b =
      one_more n m ts (λ x f. let k : length x.1 < length ts = h ts x.0 x.1 f in many_enough h n m x.1 (omega (arith, k, a)) (omega (arith, k, b))) (stop ts) refl (step ts) refl

  pub all_of_stop : (ts : List S) → stop ts ≡ true → all_of stop step ts ≡ Some ([], ts)
  all_of_stop [] e = rw e refl
  all_of_stop (t ∷ ts) e = rw e refl

  by_length : (n : ℕ) (ts : List S) → length ts ≡ n → Shrinks step → (o : ReadFrom S A) → stop ts ≡ false → step ts ≡ o →
      many stop step n ts ≡ option_and_then (λ x. option_map (λ y. (x.0 ∷ y.0, y.1)) (all_of stop step x.1)) o
  by_length zero [] l h None e f = rw e refl
  by_length zero [] l h (Some x) e f = absurd (reads_something h x f)
  by_length zero (t ∷ ts) l h o e f = absurd (let k : suc (length ts) ≡ 0 = l in omega (arith, k))
  by_length (suc n) ts l h None e f = rw (e, f) refl
  by_length (suc n) ts l h (Some x) e f =
      let k : length x.1 < length ts = h ts x.0 x.1 f in
      rw (e, f) (ap (λ o. option_map (λ y. (x.0 ∷ y.0, y.1)) o) (many_enough h n (length x.1) x.1 (omega (arith, k, l)) (omega arith)))

  pub all_of_step : Shrinks step → (ts : List S) (o : ReadFrom S A) → stop ts ≡ false → step ts ≡ o →
      all_of stop step ts ≡ option_and_then (λ x. option_map (λ y. (x.0 ∷ y.0, y.1)) (all_of stop step x.1)) o
  all_of_step h ts o e f = by_length (length ts) ts refl h o e f

  -- ---- a loop that has read some and goes on

  pub joined_stop : (done : List A) (ts : List S) → stop ts ≡ true → joined done (all_of stop step ts) ≡ Some (done, ts)
  joined_stop done ts e = rw (all_of_stop ts e, append-nil done) refl

  regroup : (done : List A) (a : A) (o : ReadFrom S (List A)) → joined done (option_map (λ y. (a ∷ y.0, y.1)) o) ≡ joined (done ++ a ∷ []) o
  regroup done a None = refl
  regroup done a (Some y) = let e : (done ++ a ∷ []) ++ y.0 ≡ done ++ a ∷ y.0 = append_assoc done (a ∷ []) y.0 in rw e refl

  pub joined_step : Shrinks step → (done : List A) (ts : List S) (a : A) (r : List S) → stop ts ≡ false → step ts ≡ Some (a, r) →
      joined done (all_of stop step ts) ≡ joined (done ++ a ∷ []) (all_of stop step r)
  joined_step h done ts a r e f = ap (joined done) (all_of_step h ts (Some (a, r)) e f) ∙ regroup done a (all_of stop step r)

  -- one turn of such a loop
  pub joined_turn : Shrinks step → (done grown : List A) (ts r : List S) (a : A) → not (stop ts) ≡ true → step ts ≡ Some (a, r) → grown ≡ done ++ a ∷ [] →
      joined grown (all_of stop step r) ≡ joined done (all_of stop step ts)
  joined_turn h done grown ts r a e f g = ap (λ (xs : List A). joined xs (all_of stop step r)) g ∙ sym (joined_step h done ts a r (not_true (stop ts) e) f)

  pub all_of_none : Shrinks step → (ts : List S) → stop ts ≡ false → step ts ≡ None → all_of stop step ts ≡ None
  all_of_none h ts e f = all_of_step h ts None e f

  pub joined_none : (done : List A) (o : ReadFrom S (List A)) → joined done o ≡ None → o ≡ None
  joined_none done None e = refl
  joined_none done (Some y) e = absurd cc

  module _ (P : A → List S → List S → Type 0) where
    -- what is read is so
    abbrev pub IsFound : Type 0
    IsFound = (ts : List S) (a : A) (r : List S) → step ts ≡ Some (a, r) → P a ts r

    -- what is so is read
    abbrev pub IsRead : Type 0
    IsRead = (a : A) (ts r : List S) → P a ts r → (step ts ≡ Some (a, r)) × (stop ts ≡ false)

    abbrev Ran : ReadFrom S (List A) → List S → Type 0
    Ran None ts = Unit {0}
    Ran (Some y) ts = Many P y.0 ts y.1 × (stop y.1 ≡ true)

    ran_stop : (ts : List S) (t : Bool) → stop ts ≡ t → Ran (cond (stop ts) (Some ([], ts)) None) ts
    ran_stop ts true e = rw e (none, e)
    ran_stop ts false e = rw e tt

    ran_step : (a : A) (ts r : List S) (o : ReadFrom S (List A)) → P a ts r → Ran o r → Ran (option_map (λ y. (a ∷ y.0, y.1)) o) ts
    ran_step a ts r None p h = tt
    ran_step a ts r (Some y) p h = (more p h.0, h.1)

    ran_more : (n : ℕ) (ts : List S) → IsFound → ((r : List S) → Ran (many stop step n r) r) → (t : Bool) → stop ts ≡ t → (o : ReadFrom S A) → step ts ≡ o → Ran (many stop step (suc n) ts) ts
    ran_more n ts f ih true e o g = rw e (none, e)
    ran_more n ts f ih false e None g = rw (e, g) tt
    ran_more n ts f ih false e (Some x) g = rw (e, g) (ran_step x.0 ts x.1 (many stop step n x.1) (f ts x.0 x.1 g) (ih x.1))

    ran : (n : ℕ) (ts : List S) → IsFound → Ran (many stop step n ts) ts
    ran zero ts f = ran_stop ts (stop ts) refl
    ran (suc n) ts f = ran_more n ts f (λ r. ran n r f) (stop ts) refl (step ts) refl

    pub all_of_found : IsFound → (ts : List S) (xs : List A) (r : List S) → all_of stop step ts ≡ Some (xs, r) → Many P xs ts r × (stop r ≡ true)
    all_of_found f ts xs r e = subst (λ o. Ran o ts) e (ran (length ts) ts f)

    pub all_of_read : Shrinks step → IsRead → (xs : List A) (ts r : List S) → Many P xs ts r → stop r ≡ true → all_of stop step ts ≡ Some (xs, r)
    all_of_read h q xs ts r none e = all_of_stop ts e
    all_of_read h q (a ∷ xs) ts r (more {middle = m} p k) e =
        let s = q a ts m p in
        all_of_step h ts (Some (a, m)) s.1 s.0 ∙ ap (λ o. option_map (λ y. (a ∷ y.0, y.1)) o) (all_of_read h q xs m r k e)
