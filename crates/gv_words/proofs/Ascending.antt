-- Filtered and extended entries keep ascending keys.
use Rattle.std.proofs.Common.{◌≡◌, ℕ, List, [], ◌∷◌, ◌++◌, Bool, true, false, ◌&&◌, not, cond, nat_eq, nat_lt, refl, arith}
use Rattle.std.specs.List.{filter, list_all}
use Rattle.std.proofs.lemmas.Bool.{ltb-true, lt-ltb}
use Rattle.gv_words.specs.Maps.{ascends, with_entry, without}

both : (a b : Bool) → a ≡ true → b ≡ true → (a && b) ≡ true
both true b e f = f
both false b e f = absurd cc

left : (a b : Bool) → (a && b) ≡ true → a ≡ true
left true b e = refl
left false b e = absurd cc

right : (a b : Bool) → (a && b) ≡ true → b ≡ true
right true b e = e
right false b e = absurd cc

-- what holds of all holds of those that pass
kept_all : {X : Type 0} (q p : X → Bool) (xs : List X) → list_all q xs ≡ true → list_all q (filter p xs) ≡ true
kept_all q p [] e = refl
kept_all q p (x ∷ xs) e = pick (p x) (kept_all q p xs (right (q x) (list_all q xs) e))
  where
    pick : (b : Bool) → list_all q (filter p xs) ≡ true → list_all q (cond b (x ∷ filter p xs) (filter p xs)) ≡ true
    pick true h = both (q x) (list_all q (filter p xs)) (left (q x) (list_all q xs) e) h
    pick false h = h

passed_all : {X : Type 0} (p : X → Bool) (xs : List X) → list_all p (filter p xs) ≡ true
passed_all p [] = refl
passed_all p (x ∷ xs) = pick (p x) refl (passed_all p xs)
  where
    pick : (b : Bool) → p x ≡ b → list_all p (filter p xs) ≡ true → list_all p (cond b (x ∷ filter p xs) (filter p xs)) ≡ true
    pick true e h = both (p x) (list_all p (filter p xs)) e h
    pick false e h = h

module _ {V : Type 0} where
  pub ascends_filter : (p : ℕ × V → Bool) (es : List (ℕ × V)) → ascends es ≡ true → ascends (filter p es) ≡ true
  ascends_filter p [] e = refl
  ascends_filter p (d ∷ es) e = pick (p d) (ascends_filter p es (right (list_all (λ c. nat_lt d.0 c.0) es) (ascends es) e))
    where
      pick : (b : Bool) → ascends (filter p es) ≡ true → ascends (cond b (d ∷ filter p es) (filter p es)) ≡ true
      pick true h = both (list_all (λ c. nat_lt d.0 c.0) (filter p es)) (ascends (filter p es)) (kept_all (λ c. nat_lt d.0 c.0) p es (left (list_all (λ c. nat_lt d.0 c.0) es) (ascends es) e)) h
      pick false h = h

  further : (a b : ℕ) (es : List (ℕ × V)) → nat_lt a b ≡ true → list_all (λ c. nat_lt b c.0) es ≡ true → list_all (λ c. nat_lt a c.0) es ≡ true
  further a b [] e f = refl
  further a b (d ∷ es) e f =
      let step : nat_lt a d.0 ≡ true = lt-ltb a d.0 (omega (arith, ltb-true a b e, ltb-true b d.0 (left (nat_lt b d.0) (list_all (λ c. nat_lt b c.0) es) f))) in
      both (nat_lt a d.0) (list_all (λ c. nat_lt a c.0) es) step (further a b es e (right (nat_lt b d.0) (list_all (λ c. nat_lt b c.0) es) f))

  all_append : (q : ℕ × V → Bool) (xs ys : List (ℕ × V)) → list_all q xs ≡ true → list_all q ys ≡ true → list_all q (xs ++ ys) ≡ true
  all_append q [] ys e f = f
  all_append q (x ∷ xs) ys e f = both (q x) (list_all q (xs ++ ys)) (left (q x) (list_all q xs) e) (all_append q xs ys (right (q x) (list_all q xs) e) f)

  joined_ascends : (k : ℕ) (v : V) (xs ys : List (ℕ × V)) → ascends xs ≡ true → ascends ys ≡ true → list_all (λ e. nat_lt e.0 k) xs ≡ true → list_all (λ e. nat_lt k e.0) ys ≡ true → ascends (xs ++ ((k, v) ∷ ys)) ≡ true
  joined_ascends k v [] ys e f below above = both (list_all (λ c. nat_lt k c.0) ys) (ascends ys) above f
  joined_ascends k v (x ∷ xs) ys e f below above =
      let first : nat_lt x.0 k ≡ true = left (nat_lt x.0 k) (list_all (λ c. nat_lt c.0 k) xs) below in
      let later : list_all (λ c. nat_lt x.0 c.0) ((k, v) ∷ ys) ≡ true = both (nat_lt x.0 k) (list_all (λ c. nat_lt x.0 c.0) ys) first (further x.0 k ys first above) in
      both (list_all (λ c. nat_lt x.0 c.0) (xs ++ ((k, v) ∷ ys))) (ascends (xs ++ ((k, v) ∷ ys)))
      (all_append (λ c. nat_lt x.0 c.0) xs ((k, v) ∷ ys) (left (list_all (λ c. nat_lt x.0 c.0) xs) (ascends xs) e) later)
      (joined_ascends k v xs ys (right (list_all (λ c. nat_lt x.0 c.0) xs) (ascends xs) e) f (right (nat_lt x.0 k) (list_all (λ c. nat_lt c.0 k) xs) below) above)

  pub with_ascends : (m : List (ℕ × V)) (k : ℕ) (v : V) → ascends m ≡ true → ascends (with_entry m k v) ≡ true
  with_ascends m k v e =
      joined_ascends k v (filter (λ d. nat_lt d.0 k) m) (filter (λ d. nat_lt k d.0) m)
      (ascends_filter (λ d. nat_lt d.0 k) m e) (ascends_filter (λ d. nat_lt k d.0) m e)
      (passed_all (λ d. nat_lt d.0 k) m) (passed_all (λ d. nat_lt k d.0) m)

  pub without_ascends : (m : List (ℕ × V)) (k : ℕ) → ascends m ≡ true → ascends (without m k) ≡ true
  without_ascends m k e = ascends_filter (λ d. not (nat_eq d.0 k)) m e
