-- Steps of a search over what a number leads to.
use Rattle.std.proofs.Common.{◌≡◌, ℕ, suc, zero, ◌+◌, ◌-◌, ◌⊎◌, inl, inr, ⊎_elim, ◌<◌, ◌≤◌, Bool, true, false, List, [], ◌∷◌, ◌++◌, length, get_or, set, refl, sym, ap, subst, ◌∙◌, arith, length-set}
use Rattle.std.specs.Prelude.{replicate, if◌then◌else◌}
use Rattle.std.proofs.lemmas.List.{length-replicate, get_or-replicate, length-append}
use Rattle.gv_cycles.specs.Leading.{IsIn, row, LeadsIn}
use Rattle.gv_cycles.specs.Search.{seen_count, is_new_in}
use Rattle.gv_leading.specs.Back.{LeadsWithin, seen_with, waiting_with, IsKnown, IsPassed, IsSpread}
use Rattle.gv_leading.proofs.Lists.{in_first, in_last, in_push, in_at, place_of, row_past, new_within, old_is_true, count_set, count_below, set_or, set_more, set_there, set_other}

pub begun : (rows : List (List ℕ)) (start m : ℕ) → m ≡ length rows → start < length rows → IsSpread rows start [] (replicate m false) (start ∷ [])
begun rows start m e l =
    let none : (n : ℕ) → n < length (replicate m false) → get_or (replicate m false) n true ≡ true → ⊥ = λ n k f.
    (let q = get_or-replicate m n false true (subst (λ (x : ℕ). n < x) (length-replicate m false) k) in cc) in
    record {
      sized = length-replicate m false ∙ e;
      fresh = get_or-replicate m start false true (omega (arith, e, l));
      reached = λ n k f. absurd (none n k f);
      known = λ n h. ⊎_elim (λ (q : start ≡ n). inl (sym q)) (λ k. absurd k) h;
      closed = λ n k. ⊎_elim (λ (q : n ≡ start). inl (inl (sym q))) (λ h. absurd (none n h.0 h.1)) k;
    }

-- the last one that waits is looked at
pub looked_at : (rows : List (List ℕ)) (start x : ℕ) (seen : List Bool) (waiting rest : List ℕ) → waiting ≡ rest ++ x ∷ [] → IsSpread rows start [] seen waiting → IsSpread rows start (x ∷ []) seen rest
looked_at rows start x seen waiting rest e s = record {
  sized = s.sized;
  fresh = s.fresh;
  reached = s.reached;
  known = λ n h. s.known n (subst (λ (xs : List ℕ). IsIn n xs) (sym e) (in_first n rest (x ∷ []) h));
  closed = λ n k. ⊎_elim
      (λ h. ⊎_elim (λ i. inl i) (λ (q : x ≡ n). inr (inl (inl q))) (in_push rest x n (subst (λ (xs : List ℕ). IsIn n xs) e h)))
      (λ h. ⊎_elim (λ i. absurd i) (λ p. inr (inr p)) h)
      (s.closed n k);
}

pub popped_known : (rows : List (List ℕ)) (start x : ℕ) (seen : List Bool) (waiting rest : List ℕ) → waiting ≡ rest ++ x ∷ [] → IsSpread rows start [] seen waiting → IsKnown start seen x
popped_known rows start x seen waiting rest e s = s.known x (subst (λ (xs : List ℕ). IsIn x xs) (sym e) (in_last x rest))

-- ---- one that is named

leads_then : (rows : List (List ℕ)) (steps a b c : ℕ) → LeadsIn steps rows a b → IsIn c (row rows b) → LeadsIn (suc steps) rows a c
leads_then rows zero a b c e h = (c, (subst (λ (x : ℕ). IsIn c (row rows x)) (sym e) h, refl))
leads_then rows (suc k) a b c p h = (p.0, (p.1.0, leads_then rows k p.0 b c p.1.1 h))

-- what a known one names is led to
pub led_to : (rows : List (List ℕ)) (start x m : ℕ) (looked : List ℕ) (seen : List Bool) (waiting : List ℕ) → IsSpread rows start looked seen waiting → IsKnown start seen x → IsIn m (row rows x)
    → LeadsWithin (suc (seen_count seen)) rows start m
led_to rows start x m looked seen waiting s (inl e) h = record { steps = 0; few = omega arith; path = (m, (subst (λ (y : ℕ). IsIn m (row rows y)) e h, refl)) }
led_to rows start x m looked seen waiting s (inr k) h =
    let r = s.reached x k.0 k.1 in
    record { steps = suc r.steps; few = (let f = r.few in omega (arith, f)); path = leads_then rows (suc r.steps) start x m r.path h }

more_within : (rows : List (List ℕ)) (most more a b : ℕ) → most ≤ more → LeadsWithin most rows a b → LeadsWithin more rows a b
more_within rows most more a b l w = record { steps = w.steps; few = (let f = w.few in omega (arith, f, l)); path = w.path }

known_more : (start : ℕ) (seen : List Bool) (m n : ℕ) → IsKnown start seen n → IsKnown start (set seen m true) n
known_more start seen m n (inl e) = inl e
known_more start seen m n (inr k) = inr ((let q = length-set seen m true in let l = k.0 in omega (arith, q, l)), set_more seen m n k.1)

-- a new one is seen, and waits
seen_new : (rows : List (List ℕ)) (start x m : ℕ) (looked : List ℕ) (seen : List Bool) (waiting : List ℕ) → IsSpread rows start looked seen waiting → IsKnown start seen x → IsIn m (row rows x)
    → (m ≡ start → ⊥) → is_new_in seen m ≡ true → IsSpread rows start looked (set seen m true) (waiting ++ m ∷ [])
seen_new rows start x m looked seen waiting s k h apart new =
    let q = length-set seen m true in
    let w = new_within seen m new in
    let c = count_set seen m new in
    record {
      sized = q ∙ s.sized;
      fresh = set_other seen m start apart s.fresh;
      reached = λ n l f. ⊎_elim
          (λ (e : m ≡ n). subst (λ (y : ℕ). LeadsWithin (seen_count (set seen m true)) rows start y) e
          (more_within rows (suc (seen_count seen)) (seen_count (set seen m true)) start m (omega (arith, c)) (led_to rows start x m looked seen waiting s k h)))
          (λ g. more_within rows (seen_count seen) (seen_count (set seen m true)) start n (omega (arith, c)) (s.reached n (omega (arith, l, q)) g))
          (set_or seen m n f);
      known = λ n i. ⊎_elim
          (λ j. known_more start seen m n (s.known n j))
          (λ (e : m ≡ n). subst (λ (y : ℕ). IsKnown start (set seen m true) y) e (inr (omega (arith, q, w), set_there seen m)))
          (in_push waiting m n i);
      closed = λ n i.
          let before : IsKnown start seen n → IsIn n (waiting ++ m ∷ []) ⊎ (IsIn n looked ⊎ IsPassed rows start (set seen m true) n) = λ j. ⊎_elim
          (λ a. inl (in_first n waiting (m ∷ []) a))
          (λ a. inr (⊎_elim (λ b. inl b) (λ b. inr (λ o p. let r = b o p in (r.0, set_more seen m o r.1))) a))
          (s.closed n j) in
          ⊎_elim
          (λ e. before (inl e))
          (λ j. ⊎_elim
          (λ (e : m ≡ n). inl (subst (λ (y : ℕ). IsIn y (waiting ++ m ∷ [])) e (in_last m waiting)))
          (λ f. let l = j.0 in before (inr (omega (arith, l, q), f)))
          (set_or seen m n j.1)) i;
    }

-- what is so behind one that is named
pub record IsSeenMore (rows : List (List ℕ)) (start : ℕ) (looked : List ℕ) (m : ℕ) (seen more : List Bool) (waiting later : List ℕ) : Type 0 where
  pub spread : IsSpread rows start looked more later
  pub there : get_or more m true ≡ true
  pub kept : (n : ℕ) → get_or seen n true ≡ true → get_or more n true ≡ true
  pub known : (n : ℕ) → IsKnown start seen n → IsKnown start more n
  pub counted : length later + seen_count seen ≡ length waiting + seen_count more

seen_by : (rows : List (List ℕ)) (start x m : ℕ) (looked : List ℕ) (seen : List Bool) (waiting : List ℕ) (b : Bool) → is_new_in seen m ≡ b → IsSpread rows start looked seen waiting → IsKnown start seen x
    → IsIn m (row rows x) → (m ≡ start → ⊥) → IsSeenMore rows start looked m seen (if b then set seen m true else seen) waiting (if b then waiting ++ m ∷ [] else waiting)
seen_by rows start x m looked seen waiting true e s k h apart = record {
  spread = seen_new rows start x m looked seen waiting s k h apart e;
  there = set_there seen m;
  kept = λ n f. set_more seen m n f;
  known = λ n i. known_more start seen m n i;
  counted = (let c = count_set seen m e in let l = length-append waiting (m ∷ []) in omega (arith, c, l));
}
seen_by rows start x m looked seen waiting false e s k h apart = record {
  spread = s;
  there = old_is_true (get_or seen m true) e;
  kept = λ n f. f;
  known = λ n i. i;
  counted = refl;
}

pub seen_more : (rows : List (List ℕ)) (start x m : ℕ) (looked : List ℕ) (seen more : List Bool) (waiting later : List ℕ) → IsSpread rows start looked seen waiting → IsKnown start seen x
    → IsIn m (row rows x) → (m ≡ start → ⊥) → more ≡ seen_with seen m → later ≡ waiting_with seen waiting m → IsSeenMore rows start looked m seen more waiting later
seen_more rows start x m looked seen more waiting later s k h apart e f =
    subst (λ (bs : List Bool). IsSeenMore rows start looked m seen bs waiting later) (sym e)
    (subst (λ (xs : List ℕ). IsSeenMore rows start looked m seen (seen_with seen m) waiting xs) (sym f)
    (seen_by rows start x m looked seen waiting (is_new_in seen m) refl s k h apart))

-- ---- ends

-- the one that was looked at is passed
pub passed : (rows : List (List ℕ)) (start x : ℕ) (seen : List Bool) (waiting : List ℕ) → IsSpread rows start (x ∷ []) seen waiting → IsPassed rows start seen x → IsSpread rows start [] seen waiting
passed rows start x seen waiting s p = record {
  sized = s.sized;
  fresh = s.fresh;
  reached = s.reached;
  known = s.known;
  closed = λ n k. ⊎_elim (λ h. inl h) (λ h. inr (inr (⊎_elim
      (λ i. ⊎_elim (λ (e : x ≡ n). subst (λ (y : ℕ). IsPassed rows start seen y) e p) (λ j. absurd j) i)
      (λ i. i) h))) (s.closed n k);
}

in_or_past : (n m : ℕ) → (n < m) ⊎ (m ≤ n)
in_or_past n m = grind arith

-- where none waits nothing that is known leads back
never_back : (rows : List (List ℕ)) (start : ℕ) (seen : List Bool) (steps n : ℕ) → IsSpread rows start [] seen [] → IsKnown start seen n → LeadsIn (suc steps) rows n start → ⊥
never_back rows start seen zero n s k p = ⊎_elim (λ h. h) (λ h. ⊎_elim (λ i. i) (λ (i : IsPassed rows start seen n). (i p.0 p.1.0).0 p.1.1) h) (s.closed n k)
never_back rows start seen (suc steps) n s k p = ⊎_elim (λ h. h) (λ h. ⊎_elim (λ i. i) (λ (i : IsPassed rows start seen n).
    ⊎_elim
    (λ (l : p.0 < length seen). never_back rows start seen steps p.0 s (inr (l, (i p.0 p.1.0).1)) p.1.1)
    (λ (l : length seen ≤ p.0).
    let q = s.sized in subst (λ (xs : List ℕ). IsIn p.1.1.0 xs) (row_past rows p.0 (omega (arith, l, q))) p.1.1.1.0)
    (in_or_past p.0 (length seen))) h) (s.closed n k)

pub no_way_back : (rows : List (List ℕ)) (start : ℕ) (seen : List Bool) (waiting : List ℕ) → waiting ≡ [] → IsSpread rows start [] seen waiting → (steps : ℕ) → LeadsIn (suc steps) rows start start → ⊥
no_way_back rows start seen waiting e s steps p =
    never_back rows start seen steps start (subst (λ (xs : List ℕ). IsSpread rows start [] seen xs) e s) (inl refl) p

-- where it is named, it leads back
pub way_back : (rows : List (List ℕ)) (start x : ℕ) (looked : List ℕ) (seen : List Bool) (waiting : List ℕ) → IsSpread rows start looked seen waiting → IsKnown start seen x → IsIn start (row rows x)
    → LeadsWithin (length rows) rows start start
way_back rows start x looked seen waiting s k h =
    let c = count_below seen start s.fresh in
    let q = s.sized in
    more_within rows (suc (seen_count seen)) (length rows) start start (omega (arith, c, q)) (led_to rows start x start looked seen waiting s k h)

pub known_within : (rows : List (List ℕ)) (start n : ℕ) (looked : List ℕ) (seen : List Bool) (waiting : List ℕ) → IsSpread rows start looked seen waiting → IsKnown start seen n → start < length rows
    → n < length rows
known_within rows start n looked seen waiting s (inl e) l = subst (λ (x : ℕ). x < length rows) (sym e) l
known_within rows start n looked seen waiting s (inr k) l = let q = s.sized in let m = k.0 in omega (arith, q, m)

-- a turn has fewer left
pub fewer : (rows waiting rest later seen more : ℕ) → waiting ≡ rest + 1 → later + seen ≡ rest + more → more ≤ rows → seen ≤ rows → later + (rows - more) < waiting + (rows - seen)
fewer rows waiting rest later seen more e f l m = omega (arith, e, f, l, m)

-- ---- rows that are gone through

pub here_is : (names there : List ℕ) (i n m : ℕ) → names ≡ there → n ≡ get_or there i n → n ≡ m → i < length there → IsIn m names
here_is names there i n m e q same l =
    subst (λ (xs : List ℕ). IsIn m xs) (sym e) (subst (λ (x : ℕ). IsIn x there) (sym q ∙ same) (in_at there i n l))

-- up to a place none is where the search began, and all are seen
abbrev pub ArePassed : ℕ → List ℕ → List Bool → ℕ → Type 0
ArePassed start names seen to = (i d : ℕ) → i < to → (get_or names i d ≡ start → ⊥) × (get_or seen (get_or names i d) true ≡ true)

get_or_any : (xs : List ℕ) (i d e : ℕ) → i < length xs → get_or xs i d ≡ get_or xs i e
get_or_any [] i d e l = absurd (omega (arith, l))
get_or_any (x ∷ xs) zero d e l = refl
get_or_any (x ∷ xs) (suc i) d e l = get_or_any xs i d e (omega (arith, l))

pub passed_more : (start : ℕ) (names : List ℕ) (seen more : List Bool) (at n : ℕ) → at < length names → n ≡ get_or names at n → (n ≡ start → ⊥) → get_or more n true ≡ true
    → ((m : ℕ) → get_or seen m true ≡ true → get_or more m true ≡ true) → ArePassed start names seen at → ArePassed start names more (at + 1)
passed_more start names seen more at n w q apart there kept p i d l = ⊎_elim
    (λ (k : i < at). let r = p i d k in (r.0, kept (get_or names i d) r.1))
    (λ (k : at ≤ i).
    let same : i ≡ at = omega (arith, k, l) in
    let item : get_or names i d ≡ n = ap (λ (j : ℕ). get_or names j d) same ∙ (get_or_any names at d n w ∙ sym q) in
    subst (λ (x : ℕ). (x ≡ start → ⊥) × (get_or more x true ≡ true)) (sym item) (apart, there))
    (in_or_past i at)

pub passed_all : (rows : List (List ℕ)) (start x : ℕ) (names : List ℕ) (seen : List Bool) (at : ℕ) → row rows x ≡ names → length names ≤ at → ArePassed start names seen at → IsPassed rows start seen x
passed_all rows start x names seen at e l p m h =
    let q = place_of m names (subst (λ (xs : List ℕ). IsIn m xs) e h) in
    let w = q.within in
    subst (λ (y : ℕ). (y ≡ start → ⊥) × (get_or seen y true ≡ true)) (q.is 0) (p q.at 0 (omega (arith, w, l)))

pub none_waits : (waiting : List ℕ) → length waiting ≡ 0 → waiting ≡ []
none_waits [] e = refl
none_waits (x ∷ xs) e = absurd (omega (arith, e))
