-- The entries behave as a finite map.
use Rattle.std.proofs.Common.{◌≡◌, ◌≢◌, ℕ, ◌<◌, ◌≤◌, ⊎_elim, List, [], ◌∷◌, ◌++◌, Bool, true, false, not, cond, nat_eq, nat_lt, Option, Some, None, option_map, refl, ap, sym, ◌∙◌, arith}
use Rattle.std.specs.List.{filter, find}
use Rattle.std.proofs.lemmas.Bool.{eqb-true, eq-eqb, lt-ltb, le-ltb, cases_lt}
use Rattle.gv_words.specs.Maps.{entry_at, with_entry, without}

abbrev some_pair : {V : Type 0} → ℕ → V → Option (ℕ × V)
some_pair k v = Some (k, v)

module _ {V : Type 0} where
  -- where a test passes all entries under a key, filtering keeps what stands there
  find_kept : (p : ℕ × V → Bool) (j : ℕ) (m : List (ℕ × V)) → ((e : ℕ × V) → e.0 ≡ j → p e ≡ true) → find (λ e. nat_eq e.0 j) (filter p m) ≡ find (λ e. nat_eq e.0 j) m
  find_kept p j [] h = refl
  find_kept p j (x ∷ xs) h = pick (p x) refl (find_kept p j xs h)
    where
      skip : (c : Bool) → nat_eq x.0 j ≡ c → p x ≡ false → cond c (Some x) (find (λ e. nat_eq e.0 j) xs) ≡ find (λ e. nat_eq e.0 j) xs
      skip true f e = let g = h x (eqb-true x.0 j f) in absurd cc
      skip false f e = refl

      pick : (b : Bool) → p x ≡ b → find (λ e. nat_eq e.0 j) (filter p xs) ≡ find (λ e. nat_eq e.0 j) xs → find (λ e. nat_eq e.0 j) (cond b (x ∷ filter p xs) (filter p xs)) ≡ cond (nat_eq x.0 j) (Some x) (find (λ e. nat_eq e.0 j) xs)
      pick true e f = ap (λ o. cond (nat_eq x.0 j) (Some x) o) f
      pick false e f = f ∙ sym (skip (nat_eq x.0 j) refl e)

  -- where a test passes no entry under a key, filtering leaves nothing there
  find_lost : (p : ℕ × V → Bool) (j : ℕ) (m : List (ℕ × V)) → ((e : ℕ × V) → e.0 ≡ j → p e ≡ false) → find (λ e. nat_eq e.0 j) (filter p m) ≡ None
  find_lost p j [] h = refl
  find_lost p j (x ∷ xs) h = pick (p x) refl (find_lost p j xs h)
    where
      skip : (c : Bool) → nat_eq x.0 j ≡ c → p x ≡ true → cond c (Some x) (find (λ e. nat_eq e.0 j) (filter p xs)) ≡ find (λ e. nat_eq e.0 j) (filter p xs)
      skip true f e = let g = h x (eqb-true x.0 j f) in absurd cc
      skip false f e = refl

      pick : (b : Bool) → p x ≡ b → find (λ e. nat_eq e.0 j) (filter p xs) ≡ None → find (λ e. nat_eq e.0 j) (cond b (x ∷ filter p xs) (filter p xs)) ≡ None
      pick true e f = skip (nat_eq x.0 j) refl e ∙ f
      pick false e f = f

  find_second : (q : ℕ × V → Bool) (xs ys : List (ℕ × V)) → find q xs ≡ None → find q (xs ++ ys) ≡ find q ys
  find_second q [] ys e = refl
  find_second q (x ∷ xs) ys e = pick (q x) (find_second q xs ys) e
    where
      pick : (b : Bool) → (find q xs ≡ None → find q (xs ++ ys) ≡ find q ys) → cond b (Some x) (find q xs) ≡ None → cond b (Some x) (find q (xs ++ ys)) ≡ find q ys
      pick true h f = absurd cc
      pick false h f = h f

  find_first : (q : ℕ × V → Bool) (xs ys : List (ℕ × V)) → find q ys ≡ None → find q (xs ++ ys) ≡ find q xs
  find_first q [] ys e = e
  find_first q (x ∷ xs) ys e = ap (λ o. cond (q x) (Some x) o) (find_first q xs ys e)

  -- a key that was put holds what was put
  pub put_same : (m : List (ℕ × V)) (k : ℕ) (v : V) → entry_at (with_entry m k v) k ≡ Some v
  put_same m k v =
      ap (option_map (λ e. e.1))
      (find_second (λ e. nat_eq e.0 k) (filter (λ e. nat_lt e.0 k) m) ((k, v) ∷ filter (λ e. nat_lt k e.0) m)
      (find_lost (λ e. nat_lt e.0 k) k m (λ e f. le-ltb e.0 k (omega arith)))
      ∙ here (nat_eq k k) (eq-eqb k k refl))
    where
      here : (b : Bool) → b ≡ true → cond b (some_pair k v) (find (λ e. nat_eq e.0 k) (filter (λ e. nat_lt k e.0) m)) ≡ some_pair k v
      here true e = refl
      here false e = absurd cc

  -- every other key holds what it held
  pub put_other : (m : List (ℕ × V)) (k : ℕ) (v : V) (j : ℕ) → j ≢ k → entry_at (with_entry m k v) j ≡ entry_at m j
  put_other m k v j ne =
      ap (option_map (λ e. e.1)) (⊎_elim
      (λ (below : j < k).
      find_first (λ e. nat_eq e.0 j) (filter (λ e. nat_lt e.0 k) m) ((k, v) ∷ filter (λ e. nat_lt k e.0) m)
      (past (nat_eq k j) refl ∙ find_lost (λ e. nat_lt k e.0) j m (λ e f. le-ltb k e.0 (omega arith)))
      ∙ find_kept (λ e. nat_lt e.0 k) j m (λ e f. lt-ltb e.0 k (omega arith)))
      (λ (from : k ≤ j).
      find_second (λ e. nat_eq e.0 j) (filter (λ e. nat_lt e.0 k) m) ((k, v) ∷ filter (λ e. nat_lt k e.0) m)
      (find_lost (λ e. nat_lt e.0 k) j m (λ e f. le-ltb e.0 k (omega arith)))
      ∙ past (nat_eq k j) refl
      ∙ find_kept (λ e. nat_lt k e.0) j m (λ e f. lt-ltb k e.0 (let other : k ≢ j = λ s. ne (sym s) in omega arith)))
      (cases_lt j k))
    where
      past : (b : Bool) → nat_eq k j ≡ b → cond b (some_pair k v) (find (λ e. nat_eq e.0 j) (filter (λ e. nat_lt k e.0) m)) ≡ find (λ e. nat_eq e.0 j) (filter (λ e. nat_lt k e.0) m)
      past true e = absurd (ne (sym (eqb-true k j e)))
      past false e = refl

  -- a key that was deleted holds nothing, and every other one what it held
  pub gone : (m : List (ℕ × V)) (k : ℕ) → entry_at (without m k) k ≡ None
  gone m k = ap (option_map (λ e. e.1)) (find_lost (λ e. not (nat_eq e.0 k)) k m (λ e f. ap not (eq-eqb e.0 k f)))

  pub left_other : (m : List (ℕ × V)) (k j : ℕ) → j ≢ k → entry_at (without m k) j ≡ entry_at m j
  left_other m k j ne =
      ap (option_map (λ e. e.1)) (find_kept (λ e. not (nat_eq e.0 k)) j m (λ e f. differs e.0 f (nat_eq e.0 k) refl))
    where
      differs : (i : ℕ) → i ≡ j → (b : Bool) → nat_eq i k ≡ b → not b ≡ true
      differs i f true e = absurd (ne (sym f ∙ eqb-true i k e))
      differs i f false e = refl
