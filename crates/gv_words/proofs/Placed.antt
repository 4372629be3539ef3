-- Entries with ascending keys, cut at the place of a key.
use Rattle.std.proofs.Common.{◌≡◌, ℕ, suc, ◌+◌, ◌<◌, ◌≤◌, get_or, set, List, [], ◌∷◌, ◌++◌, Bool, true, false, ◌&&◌, not, cond, nat_eq, nat_lt, take, drop, length, Some, None, option_map, refl, sym, ap, ◌∙◌, subst, arith}
use Rattle.std.specs.List.{All, filter, find, list_all}
use Rattle.std.proofs.lemmas.Bool.{eqb-true, eq-eqb, ltb-true, lt-ltb, le-ltb}
use Rattle.std.proofs.lemmas.List.{take-append-drop, take-set, drop-set, take_more, get_or_default}
use Rattle.std.proofs.Math.Seq.{drop-cons}
use Rattle.std.proofs.lemmas.List.Elements.{All-nil, All-cons, All-tail, All-push, filter-append}
use Rattle.gv_words.specs.Maps.{ascends, entry_at, with_entry, without}
use Rattle.gv_words.specs.Entries.{HoldsAt, FitsAt}

left : (a b : Bool) → (a && b) ≡ true → a ≡ true
left true b e = refl
left false b e = absurd cc

right : (a b : Bool) → (a && b) ≡ true → b ≡ true
right true b e = e
right false b e = absurd cc

not_lower : (m n : ℕ) → n ≤ m → nat_lt m n ≡ false
not_lower m n le = le-ltb m n le

differs : (m n : ℕ) → m < n → nat_eq m n ≡ false
differs m n lt = by (nat_eq m n) refl
  where
    by : (b : Bool) → nat_eq m n ≡ b → b ≡ false
    by true e = let f = eqb-true m n e in absurd (omega arith)
    by false e = refl

apart : (k m : ℕ) → k < m → nat_eq m k ≡ false
apart k m lt = by (nat_eq m k) refl
  where
    by : (b : Bool) → nat_eq m k ≡ b → b ≡ false
    by true e = let f = eqb-true m k e in absurd (omega arith)
    by false e = refl

same_key : (n : ℕ) → nat_lt n n ≡ false
same_key n = not_lower n n (omega arith)

module _ {V : Type 0} where
  abbrev Low : ℕ → ℕ × V → Type 0
  Low k e = e.0 < k

  abbrev High : ℕ → ℕ × V → Type 0
  High k e = k < e.0

  keep : (p : ℕ × V → Bool) (e : ℕ × V) (es fs : List (ℕ × V)) → p e ≡ true → filter p es ≡ fs → filter p (e ∷ es) ≡ e ∷ fs
  keep p e es fs h f = ap (λ b. cond b (e ∷ filter p es) (filter p es)) h ∙ ap (λ l. e ∷ l) f

  pass : (p : ℕ × V → Bool) (e : ℕ × V) (es fs : List (ℕ × V)) → p e ≡ false → filter p es ≡ fs → filter p (e ∷ es) ≡ fs
  pass p e es fs h f = ap (λ b. cond b (e ∷ filter p es) (filter p es)) h ∙ f

  -- the entries before the place

  low_below : (k : ℕ) (xs : List (ℕ × V)) → All (Low k) xs → filter (λ e. nat_lt e.0 k) xs ≡ xs
  low_below k [] all = refl
  low_below k (x ∷ xs) all = keep (λ e. nat_lt e.0 k) x xs xs (lt-ltb x.0 k (all 0 x (omega arith))) (low_below k xs (All-tail (Low k) x xs all))

  low_above : (k : ℕ) (xs : List (ℕ × V)) → All (Low k) xs → filter (λ e. nat_lt k e.0) xs ≡ []
  low_above k [] all = refl
  low_above k (x ∷ xs) all = let lt = all 0 x (omega arith) in pass (λ e. nat_lt k e.0) x xs [] (not_lower k x.0 (omega arith)) (low_above k xs (All-tail (Low k) x xs all))

  low_others : (k : ℕ) (xs : List (ℕ × V)) → All (Low k) xs → filter (λ e. not (nat_eq e.0 k)) xs ≡ xs
  low_others k [] all = refl
  low_others k (x ∷ xs) all = keep (λ e. not (nat_eq e.0 k)) x xs xs (ap not (differs x.0 k (all 0 x (omega arith)))) (low_others k xs (All-tail (Low k) x xs all))

  low_found : (k : ℕ) (xs ys : List (ℕ × V)) → All (Low k) xs → find (λ e. nat_eq e.0 k) (xs ++ ys) ≡ find (λ e. nat_eq e.0 k) ys
  low_found k [] ys all = refl
  low_found k (x ∷ xs) ys all =
      ap (λ b. cond b (Some x) (find (λ e. nat_eq e.0 k) (xs ++ ys))) (differs x.0 k (all 0 x (omega arith)))
      ∙ low_found k xs ys (All-tail (Low k) x xs all)

  -- the entries that are all above

  high_below : (k : ℕ) (ys : List (ℕ × V)) → All (High k) ys → filter (λ e. nat_lt e.0 k) ys ≡ []
  high_below k [] all = refl
  high_below k (y ∷ ys) all = let lt = all 0 y (omega arith) in pass (λ e. nat_lt e.0 k) y ys [] (not_lower y.0 k (omega arith)) (high_below k ys (All-tail (High k) y ys all))

  high_above : (k : ℕ) (ys : List (ℕ × V)) → All (High k) ys → filter (λ e. nat_lt k e.0) ys ≡ ys
  high_above k [] all = refl
  high_above k (y ∷ ys) all = keep (λ e. nat_lt k e.0) y ys ys (lt-ltb k y.0 (all 0 y (omega arith))) (high_above k ys (All-tail (High k) y ys all))

  high_others : (k : ℕ) (ys : List (ℕ × V)) → All (High k) ys → filter (λ e. not (nat_eq e.0 k)) ys ≡ ys
  high_others k [] all = refl
  high_others k (y ∷ ys) all = keep (λ e. not (nat_eq e.0 k)) y ys ys (ap not (apart k y.0 (all 0 y (omega arith)))) (high_others k ys (All-tail (High k) y ys all))

  high_found : (k : ℕ) (ys : List (ℕ × V)) → All (High k) ys → find (λ e. nat_eq e.0 k) ys ≡ None
  high_found k [] all = refl
  high_found k (y ∷ ys) all =
      ap (λ b. cond b (Some y) (find (λ e. nat_eq e.0 k) ys)) (apart k y.0 (all 0 y (omega arith)))
      ∙ high_found k ys (All-tail (High k) y ys all)

  -- cut in two

  rest_ascends : (xs ys : List (ℕ × V)) → ascends (xs ++ ys) ≡ true → ascends ys ≡ true
  rest_ascends [] ys e = e
  rest_ascends (x ∷ xs) ys e = rest_ascends xs ys (right (list_all (λ d. nat_lt x.0 d.0) (xs ++ ys)) (ascends (xs ++ ys)) e)

  all_above : (k n : ℕ) (ys : List (ℕ × V)) → k ≤ n → list_all (λ d. nat_lt n d.0) ys ≡ true → All (High k) ys
  all_above k n [] le e = All-nil (High k)
  all_above k n (y ∷ ys) le e =
      let f = ltb-true n y.0 (left (nat_lt n y.0) (list_all (λ d. nat_lt n d.0) ys) e) in
      let first : k < y.0 = omega (arith, f, le) in
      All-cons (High k) y ys first (all_above k n ys le (right (nat_lt n y.0) (list_all (λ d. nat_lt n d.0) ys) e))

  in_rest : (n : ℕ) (y : ℕ × V) (ys zs : List (ℕ × V)) → list_all (λ d. nat_lt n d.0) (zs ++ y ∷ ys) ≡ true → nat_lt n y.0 ≡ true
  in_rest n y ys [] f = left (nat_lt n y.0) (list_all (λ d. nat_lt n d.0) ys) f
  in_rest n y ys (z ∷ zs) f = in_rest n y ys zs (right (nat_lt n z.0) (list_all (λ d. nat_lt n d.0) (zs ++ y ∷ ys)) f)

  all_below : (xs : List (ℕ × V)) (y : ℕ × V) (ys : List (ℕ × V)) → ascends (xs ++ y ∷ ys) ≡ true → All (Low y.0) xs
  all_below [] y ys e = All-nil (Low y.0)
  all_below (x ∷ xs) y ys e =
      All-cons (Low y.0) x xs
      (ltb-true x.0 y.0 (in_rest x.0 y ys xs (left (list_all (λ d. nat_lt x.0 d.0) (xs ++ y ∷ ys)) (ascends (xs ++ y ∷ ys)) e)))
      (all_below xs y ys (right (list_all (λ d. nat_lt x.0 d.0) (xs ++ y ∷ ys)) (ascends (xs ++ y ∷ ys)) e))

  -- an entry at a place

  cut : (m : List (ℕ × V)) (i : ℕ) (d : ℕ × V) → i < length m → m ≡ take i m ++ get_or m i d ∷ drop (suc i) m
  cut m i d lt = sym (take-append-drop i m) ∙ ap (λ l. take i m ++ l) (drop-cons m i d lt)

  pub before : (m : List (ℕ × V)) (i : ℕ) (d : ℕ × V) → i < length m → ascends m ≡ true → All (Low (get_or m i d).0) (take i m)
  before m i d lt e = all_below (take i m) (get_or m i d) (drop (suc i) m) (sym (ap ascends (cut m i d lt)) ∙ e)

  pub behind : (m : List (ℕ × V)) (i : ℕ) (d : ℕ × V) → i < length m → ascends m ≡ true → All (High (get_or m i d).0) (drop (suc i) m)
  behind m i d lt e =
      let rest = rest_ascends (take i m) (get_or m i d ∷ drop (suc i) m) (sym (ap ascends (cut m i d lt)) ∙ e) in
      all_above (get_or m i d).0 (get_or m i d).0 (drop (suc i) m) (omega arith) (left (list_all (λ c. nat_lt (get_or m i d).0 c.0) (drop (suc i) m)) (ascends (drop (suc i) m)) rest)

  -- what a search halves

  lower : (m : List (ℕ × V)) (a b : ℕ) (xs : List (ℕ × V)) → a ≤ b → All (Low a) xs → All (Low b) xs
  lower m a b xs le all k d lt = let h = all k d lt in omega (arith, h, le)

  pub low_more : (m : List (ℕ × V)) (i k : ℕ) (d : ℕ × V) → i < length m → ascends m ≡ true → (get_or m i d).0 < k → All (Low k) (take (i + 1) m)
  low_more m i k d lt e small =
      subst (All (Low k)) (sym (take_more m i d lt))
      (All-push (Low k) (take i m) (get_or m i d) (lower m (get_or m i d).0 k (take i m) (omega (arith, small)) (before m i d lt e)) small)

  pub high_more : (m : List (ℕ × V)) (i k : ℕ) (d : ℕ × V) → i < length m → ascends m ≡ true → k < (get_or m i d).0 → All (High k) (drop i m)
  high_more m i k d lt e large =
      subst (All (High k)) (sym (drop-cons m i d lt))
      (All-cons (High k) (get_or m i d) (drop (suc i) m) large
      (λ j c le. let h = behind m i d lt e j c le in omega (arith, h, large)))

  -- the map at a key

  nothing : (zs : List (ℕ × V)) → zs ++ [] ≡ zs
  nothing [] = refl
  nothing (z ∷ zs) = ap (λ l. z ∷ l) (nothing zs)

  with_between : (k : ℕ) (v : V) (xs ys : List (ℕ × V)) → All (Low k) xs → All (High k) ys → with_entry (xs ++ ys) k v ≡ xs ++ (k, v) ∷ ys
  with_between k v xs ys low high =
      ap (λ l. l ++ ((k, v) ∷ filter (λ e. nat_lt k e.0) (xs ++ ys)))
      (filter-append (λ e. nat_lt e.0 k) xs ys ∙ ap (λ l. l ++ filter (λ e. nat_lt e.0 k) ys) (low_below k xs low) ∙ ap (λ l. xs ++ l) (high_below k ys high) ∙ nothing xs)
      ∙ ap (λ l. xs ++ (k, v) ∷ l) (filter-append (λ e. nat_lt k e.0) xs ys ∙ ap (λ l. l ++ filter (λ e. nat_lt k e.0) ys) (low_above k xs low) ∙ high_above k ys high)

  with_over : (k : ℕ) (v : V) (xs ys : List (ℕ × V)) (e : ℕ × V) → e.0 ≡ k → All (Low k) xs → All (High k) ys → with_entry (xs ++ e ∷ ys) k v ≡ xs ++ (k, v) ∷ ys
  with_over k v xs ys e is low high =
      ap (λ l. l ++ ((k, v) ∷ filter (λ d. nat_lt k d.0) (xs ++ e ∷ ys)))
      (filter-append (λ d. nat_lt d.0 k) xs (e ∷ ys) ∙ ap (λ l. l ++ filter (λ d. nat_lt d.0 k) (e ∷ ys)) (low_below k xs low) ∙ ap (λ l. xs ++ l) (pass (λ d. nat_lt d.0 k) e ys [] (ap (λ n. nat_lt n k) is ∙ same_key k) (high_below k ys high)) ∙ nothing xs)
      ∙ ap (λ l. xs ++ (k, v) ∷ l) (filter-append (λ d. nat_lt k d.0) xs (e ∷ ys) ∙ ap (λ l. l ++ filter (λ d. nat_lt k d.0) (e ∷ ys)) (low_above k xs low) ∙ pass (λ d. nat_lt k d.0) e ys ys (ap (λ n. nat_lt k n) is ∙ same_key k) (high_above k ys high))

  pub with_new : (m : List (ℕ × V)) (k : ℕ) (v : V) (i : ℕ) → FitsAt m k i → with_entry m k v ≡ take i m ++ (k, v) ∷ drop i m
  with_new m k v i fits = ap (λ l. with_entry l k v) (sym (take-append-drop i m)) ∙ with_between k v (take i m) (drop i m) fits.1 fits.2

  pub with_old : (m : List (ℕ × V)) (k : ℕ) (v : V) (i : ℕ) → HoldsAt m k i → with_entry m k v ≡ set m i (k, v)
  with_old m k v i holds =
      ap (λ l. with_entry l k v) (cut m i (k, v) holds.0)
      ∙ with_over k v (take i m) (drop (suc i) m) (get_or m i (k, v)) (holds.2 (k, v)) holds.1 holds.3
      ∙ ap (λ l. l ++ (k, v) ∷ drop (suc i) m) (sym (take-set m i (k, v)))
      ∙ ap (λ l. take i (set m i (k, v)) ++ l) (ap (λ j. (k, v) ∷ drop j m) next ∙ sym (drop-set m i (k, v) holds.0))
      ∙ take-append-drop i (set m i (k, v))
    where
      next : suc i ≡ i + 1
      next = omega arith

  pub without_new : (m : List (ℕ × V)) (k i : ℕ) → FitsAt m k i → without m k ≡ m
  without_new m k i fits =
      ap (λ l. without l k) (sym (take-append-drop i m)) ∙ filter-append (λ e. not (nat_eq e.0 k)) (take i m) (drop i m)
      ∙ ap (λ l. l ++ filter (λ e. not (nat_eq e.0 k)) (drop i m)) (low_others k (take i m) fits.1)
      ∙ ap (λ l. take i m ++ l) (high_others k (drop i m) fits.2) ∙ take-append-drop i m

  pub without_old : (m : List (ℕ × V)) (k i : ℕ) (d : ℕ × V) → HoldsAt m k i → without m k ≡ take i m ++ drop (suc i) m
  without_old m k i d holds =
      ap (λ l. without l k) (cut m i d holds.0) ∙ filter-append (λ e. not (nat_eq e.0 k)) (take i m) (get_or m i d ∷ drop (suc i) m)
      ∙ ap (λ l. l ++ filter (λ e. not (nat_eq e.0 k)) (get_or m i d ∷ drop (suc i) m)) (low_others k (take i m) holds.1)
      ∙ ap (λ l. take i m ++ l) (pass (λ e. not (nat_eq e.0 k)) (get_or m i d) (drop (suc i) m) (drop (suc i) m) (ap not (eq-eqb (get_or m i d).0 k (holds.2 d))) (high_others k (drop (suc i) m) holds.3))

  pub entry_new : (m : List (ℕ × V)) (k i : ℕ) → FitsAt m k i → entry_at m k ≡ None
  entry_new m k i fits =
      ap (λ l. entry_at l k) (sym (take-append-drop i m))
      ∙ ap (option_map (λ e. e.1)) (low_found k (take i m) (drop i m) fits.1 ∙ high_found k (drop i m) fits.2)

  pub entry_old : (m : List (ℕ × V)) (k i : ℕ) (d : ℕ × V) → HoldsAt m k i → entry_at m k ≡ Some (get_or m i d).1
  entry_old m k i d holds =
      ap (λ l. entry_at l k) (cut m i d holds.0)
      ∙ ap (option_map (λ e. e.1)) (low_found k (take i m) (get_or m i d ∷ drop (suc i) m) holds.1
      ∙ ap (λ b. cond b (Some (get_or m i d)) (find (λ e. nat_eq e.0 k) (drop (suc i) m))) (eq-eqb (get_or m i d).0 k (holds.2 d)))

  pub holds_here : (m : List (ℕ × V)) (i k : ℕ) (d : ℕ × V) → i < length m → ascends m ≡ true → (get_or m i d).0 ≡ k → HoldsAt m k i
  holds_here m i k d lt e is = (
    lt,
    subst (λ n. All (Low n) (take i m)) is (before m i d lt e),
    (λ c. ap (λ x. x.0) (get_or_default m i c d lt) ∙ is),
    subst (λ n. All (High n) (drop (suc i) m)) is (behind m i d lt e),
  )

  pub high_other : (m : List (ℕ × V)) (i k : ℕ) (d : ℕ × V) → i < length m → ascends m ≡ true → ((get_or m i d).0 ≡ k → ⊥) → k ≤ (get_or m i d).0 → All (High k) (drop i m)
  high_other m i k d lt e ne le = high_more m i k d lt e (strictly (get_or m i d).0 ne le)
    where
      strictly : (n : ℕ) → (n ≡ k → ⊥) → k ≤ n → k < n
      strictly n ne le = omega (arith, ne, le)
