-- What ascending entries hold under a key stands on the one side of each of them or on the other.
use Rattle.std.proofs.Common.{◌≡◌, ℕ, ◌<◌, ◌≤◌, List, [], ◌∷◌, ◌++◌, Bool, true, false, ◌&&◌, not, cond, nat_eq, nat_lt, Some, None, option_map, refl, ap, sym, ◌∙◌, arith}
use Rattle.std.specs.List.{filter, list_all, find}
use Rattle.std.proofs.lemmas.Bool.{ltb-true, lt-ltb, le-ltb, eq-eqb, ne_eqb}
use Rattle.std.proofs.lemmas.List.{append_assoc, append-nil}
use Rattle.std.proofs.lemmas.List.Elements.{filter-append}
use Rattle.gv_words.specs.Maps.{ascends, entry_at, with_entry, without}

both : (a b : Bool) → a ≡ true → b ≡ true → (a && b) ≡ true
both true b e f = f
both false b e f = absurd cc

left : (a b : Bool) → (a && b) ≡ true → a ≡ true
left true b e = refl
left false b e = absurd cc

right : (a b : Bool) → (a && b) ≡ true → b ≡ true
right true b e = e
right false b e = absurd cc

not_false : (b : Bool) → b ≡ false → not b ≡ true
not_false true e = absurd cc
not_false false e = refl

all_left : {X : Type 0} (q : X → Bool) (xs ys : List X) → list_all q (xs ++ ys) ≡ true → list_all q xs ≡ true
all_left q [] ys e = refl
all_left q (x ∷ xs) ys e = both (q x) (list_all q xs) (left (q x) (list_all q (xs ++ ys)) e) (all_left q xs ys (right (q x) (list_all q (xs ++ ys)) e))

all_right : {X : Type 0} (q : X → Bool) (xs ys : List X) → list_all q (xs ++ ys) ≡ true → list_all q ys ≡ true
all_right q [] ys e = e
all_right q (x ∷ xs) ys e = all_right q xs ys (right (q x) (list_all q (xs ++ ys)) e)

-- what passes a test passes a wider one
all_wider : {X : Type 0} (q r : X → Bool) → ((x : X) → q x ≡ true → r x ≡ true) → (xs : List X) → list_all q xs ≡ true → list_all r xs ≡ true
all_wider q r h [] e = refl
all_wider q r h (x ∷ xs) e = both (r x) (list_all r xs) (h x (left (q x) (list_all q xs) e)) (all_wider q r h xs (right (q x) (list_all q xs) e))

-- a test that all pass keeps all
kept : {X : Type 0} (p : X → Bool) (xs : List X) → list_all p xs ≡ true → filter p xs ≡ xs
kept p [] e = refl
kept p (x ∷ xs) e = pick (p x) (left (p x) (list_all p xs) e) (kept p xs (right (p x) (list_all p xs) e))
  where
    pick : (b : Bool) → b ≡ true → filter p xs ≡ xs → cond b (x ∷ filter p xs) (filter p xs) ≡ x ∷ xs
    pick true e f = ap (λ l. x ∷ l) f
    pick false e f = absurd cc

-- a test that none passes keeps nothing
lost : {X : Type 0} (p : X → Bool) (xs : List X) → list_all (λ x. not (p x)) xs ≡ true → filter p xs ≡ []
lost p [] e = refl
lost p (x ∷ xs) e = pick (p x) (left (not (p x)) (list_all (λ y. not (p y)) xs) e) (lost p xs (right (not (p x)) (list_all (λ y. not (p y)) xs) e))
  where
    pick : (b : Bool) → not b ≡ true → filter p xs ≡ [] → cond b (x ∷ filter p xs) (filter p xs) ≡ []
    pick true e f = absurd cc
    pick false e f = f

-- a test that none passes finds nothing
missed : {X : Type 0} (p : X → Bool) (xs : List X) → list_all (λ x. not (p x)) xs ≡ true → find p xs ≡ None
missed p [] e = refl
missed p (x ∷ xs) e = pick (p x) (left (not (p x)) (list_all (λ y. not (p y)) xs) e) (missed p xs (right (not (p x)) (list_all (λ y. not (p y)) xs) e))
  where
    pick : (b : Bool) → not b ≡ true → find p xs ≡ None → cond b (Some x) (find p xs) ≡ None
    pick true e f = absurd cc
    pick false e f = f

found_later : {X : Type 0} (p : X → Bool) (xs ys : List X) → list_all (λ x. not (p x)) xs ≡ true → find p (xs ++ ys) ≡ find p ys
found_later p [] ys e = refl
found_later p (x ∷ xs) ys e = pick (p x) (left (not (p x)) (list_all (λ y. not (p y)) xs) e) (found_later p xs ys (right (not (p x)) (list_all (λ y. not (p y)) xs) e))
  where
    pick : (b : Bool) → not b ≡ true → find p (xs ++ ys) ≡ find p ys → cond b (Some x) (find p (xs ++ ys)) ≡ find p ys
    pick true e f = absurd cc
    pick false e f = f

found_first : {X : Type 0} (p : X → Bool) (xs ys : List X) → list_all (λ x. not (p x)) ys ≡ true → find p (xs ++ ys) ≡ find p xs
found_first p [] ys e = missed p ys e
found_first p (x ∷ xs) ys e = ap (λ o. cond (p x) (Some x) o) (found_first p xs ys e)

module _ {V : Type 0} where
  -- what ascends on both sides of an entry
  pub record Sides (k : ℕ) (before after : List (ℕ × V)) : Type 0 where
    pub below : list_all (λ d. nat_lt d.0 k) before ≡ true
    pub above : list_all (λ d. nat_lt k d.0) after ≡ true
    pub first : ascends before ≡ true
    pub last : ascends after ≡ true

  pub sides : (k : ℕ) (v : V) (before after : List (ℕ × V)) → ascends (before ++ ((k, v) ∷ after)) ≡ true → Sides k before after
  sides k v [] after e = record {
    below = refl;
    above = left (list_all (λ d. nat_lt k d.0) after) (ascends after) e;
    first = refl;
    last = right (list_all (λ d. nat_lt k d.0) after) (ascends after) e;
  }
  sides k v (a ∷ before) after e =
      let later : list_all (λ d. nat_lt a.0 d.0) (before ++ ((k, v) ∷ after)) ≡ true = left (list_all (λ d. nat_lt a.0 d.0) (before ++ ((k, v) ∷ after))) (ascends (before ++ ((k, v) ∷ after))) e in
      let rest = sides k v before after (right (list_all (λ d. nat_lt a.0 d.0) (before ++ ((k, v) ∷ after))) (ascends (before ++ ((k, v) ∷ after))) e) in
      let here : nat_lt a.0 k ≡ true = left (nat_lt a.0 k) (list_all (λ d. nat_lt a.0 d.0) after) (all_right (λ d. nat_lt a.0 d.0) before ((k, v) ∷ after) later) in
      record {
        below = both (nat_lt a.0 k) (list_all (λ d. nat_lt d.0 k) before) here rest.below;
        above = rest.above;
        first = both (list_all (λ d. nat_lt a.0 d.0) before) (ascends before) (all_left (λ d. nat_lt a.0 d.0) before ((k, v) ∷ after) later) rest.first;
        last = rest.last;
      }

  -- keys above one key are not below, nor equal to, a smaller one
  not_below : (j k : ℕ) → j ≤ k → (es : List (ℕ × V)) → list_all (λ d. nat_lt k d.0) es ≡ true → list_all (λ d. not (nat_lt d.0 j)) es ≡ true
  not_below j k h = all_wider (λ d. nat_lt k d.0) (λ d. not (nat_lt d.0 j)) (λ d e. not_false (nat_lt d.0 j) (le-ltb d.0 j (omega (arith, ltb-true k d.0 e))))

  not_above : (j k : ℕ) → k ≤ j → (es : List (ℕ × V)) → list_all (λ d. nat_lt d.0 k) es ≡ true → list_all (λ d. not (nat_lt j d.0)) es ≡ true
  not_above j k h = all_wider (λ d. nat_lt d.0 k) (λ d. not (nat_lt j d.0)) (λ d e. not_false (nat_lt j d.0) (le-ltb j d.0 (omega (arith, ltb-true d.0 k e))))

  all_above : (j k : ℕ) → j ≤ k → (es : List (ℕ × V)) → list_all (λ d. nat_lt k d.0) es ≡ true → list_all (λ d. nat_lt j d.0) es ≡ true
  all_above j k h = all_wider (λ d. nat_lt k d.0) (λ d. nat_lt j d.0) (λ d e. lt-ltb j d.0 (omega (arith, ltb-true k d.0 e)))

  all_below : (j k : ℕ) → k ≤ j → (es : List (ℕ × V)) → list_all (λ d. nat_lt d.0 k) es ≡ true → list_all (λ d. nat_lt d.0 j) es ≡ true
  all_below j k h = all_wider (λ d. nat_lt d.0 k) (λ d. nat_lt d.0 j) (λ d e. lt-ltb d.0 j (omega (arith, ltb-true d.0 k e)))

  other_above : (j k : ℕ) → j ≤ k → (es : List (ℕ × V)) → list_all (λ d. nat_lt k d.0) es ≡ true → list_all (λ d. not (nat_eq d.0 j)) es ≡ true
  other_above j k h = all_wider (λ d. nat_lt k d.0) (λ d. not (nat_eq d.0 j)) (λ d e. not_false (nat_eq d.0 j) (ne_eqb d.0 j (λ f. omega (arith, f, ltb-true k d.0 e))))

  other_below : (j k : ℕ) → k ≤ j → (es : List (ℕ × V)) → list_all (λ d. nat_lt d.0 k) es ≡ true → list_all (λ d. not (nat_eq d.0 j)) es ≡ true
  other_below j k h = all_wider (λ d. nat_lt d.0 k) (λ d. not (nat_eq d.0 j)) (λ d e. not_false (nat_eq d.0 j) (ne_eqb d.0 j (λ f. omega (arith, f, ltb-true d.0 k e))))

  -- what stands under a smaller key stands before
  pub get_before : (j k : ℕ) (v : V) (before after : List (ℕ × V)) → ascends (before ++ ((k, v) ∷ after)) ≡ true → j < k → entry_at (before ++ ((k, v) ∷ after)) j ≡ entry_at before j
  get_before j k v before after e h =
      let s = sides k v before after e in
      ap (option_map (λ d. d.1)) (found_first (λ d. nat_eq d.0 j) before ((k, v) ∷ after)
      (both (not (nat_eq k j)) (list_all (λ d. not (nat_eq d.0 j)) after) (not_false (nat_eq k j) (ne_eqb k j (λ f. omega (arith, f, h)))) (other_above j k (omega arith) after s.above)))

  pub get_here : (j k : ℕ) (v : V) (before after : List (ℕ × V)) → ascends (before ++ ((k, v) ∷ after)) ≡ true → j ≡ k → entry_at (before ++ ((k, v) ∷ after)) j ≡ Some v
  get_here j k v before after e h =
      let s = sides k v before after e in
      ap (option_map (λ d. d.1)) (found_later (λ d. nat_eq d.0 j) before ((k, v) ∷ after) (other_below j k (omega arith) before s.below))
      ∙ here (nat_eq k j) (eq-eqb k j (sym h))
    where
      here : (b : Bool) → b ≡ true → option_map (λ d. d.1) (cond b (Some (k, v)) (find (λ d. nat_eq d.0 j) after)) ≡ Some v
      here true e = refl
      here false e = absurd cc

  pub get_after : (j k : ℕ) (v : V) (before after : List (ℕ × V)) → ascends (before ++ ((k, v) ∷ after)) ≡ true → k < j → entry_at (before ++ ((k, v) ∷ after)) j ≡ entry_at after j
  get_after j k v before after e h =
      let s = sides k v before after e in
      ap (option_map (λ d. d.1)) (found_later (λ d. nat_eq d.0 j) before ((k, v) ∷ after) (other_below j k (omega arith) before s.below))
      ∙ later (nat_eq k j) (ne_eqb k j (λ f. omega (arith, f, h)))
    where
      later : (b : Bool) → b ≡ false → option_map (λ d. d.1) (cond b (Some (k, v)) (find (λ d. nat_eq d.0 j) after)) ≡ option_map (λ d. d.1) (find (λ d. nat_eq d.0 j) after)
      later true e = absurd cc
      later false e = refl

  -- what is put under a smaller key is put before
  pub put_before : (j k : ℕ) (w v : V) (before after : List (ℕ × V)) → ascends (before ++ ((k, v) ∷ after)) ≡ true → j < k → with_entry (before ++ ((k, v) ∷ after)) j w ≡ with_entry before j w ++ ((k, v) ∷ after)
  put_before j k w v before after e h =
      let s = sides k v before after e in
      let none : filter (λ d. nat_lt d.0 j) ((k, v) ∷ after) ≡ [] = lost (λ d. nat_lt d.0 j) ((k, v) ∷ after)
      (both (not (nat_lt k j)) (list_all (λ d. not (nat_lt d.0 j)) after) (not_false (nat_lt k j) (le-ltb k j (omega arith))) (not_below j k (omega arith) after s.above)) in
      let all : filter (λ d. nat_lt j d.0) ((k, v) ∷ after) ≡ (k, v) ∷ after = kept (λ d. nat_lt j d.0) ((k, v) ∷ after)
      (both (nat_lt j k) (list_all (λ d. nat_lt j d.0) after) (lt-ltb j k h) (all_above j k (omega arith) after s.above)) in
      let smaller : filter (λ d. nat_lt d.0 j) (before ++ ((k, v) ∷ after)) ≡ filter (λ d. nat_lt d.0 j) before =
      filter-append (λ d. nat_lt d.0 j) before ((k, v) ∷ after) ∙ ap (λ l. filter (λ d. nat_lt d.0 j) before ++ l) none ∙ append-nil (filter (λ d. nat_lt d.0 j) before) in
      let greater : filter (λ d. nat_lt j d.0) (before ++ ((k, v) ∷ after)) ≡ filter (λ d. nat_lt j d.0) before ++ ((k, v) ∷ after) =
      filter-append (λ d. nat_lt j d.0) before ((k, v) ∷ after) ∙ ap (λ l. filter (λ d. nat_lt j d.0) before ++ l) all in
      ap (λ l. l ++ ((j, w) ∷ filter (λ d. nat_lt j d.0) (before ++ ((k, v) ∷ after)))) smaller
      ∙ ap (λ l. filter (λ d. nat_lt d.0 j) before ++ ((j, w) ∷ l)) greater
      ∙ sym (append_assoc (filter (λ d. nat_lt d.0 j) before) ((j, w) ∷ filter (λ d. nat_lt j d.0) before) ((k, v) ∷ after))

  pub put_here : (j k : ℕ) (w v : V) (before after : List (ℕ × V)) → ascends (before ++ ((k, v) ∷ after)) ≡ true → j ≡ k → with_entry (before ++ ((k, v) ∷ after)) j w ≡ before ++ ((j, w) ∷ after)
  put_here j k w v before after e h =
      let s = sides k v before after e in
      let none : filter (λ d. nat_lt d.0 j) ((k, v) ∷ after) ≡ [] = lost (λ d. nat_lt d.0 j) ((k, v) ∷ after)
      (both (not (nat_lt k j)) (list_all (λ d. not (nat_lt d.0 j)) after) (not_false (nat_lt k j) (le-ltb k j (omega arith))) (not_below j k (omega arith) after s.above)) in
      let smaller : filter (λ d. nat_lt d.0 j) (before ++ ((k, v) ∷ after)) ≡ before =
      filter-append (λ d. nat_lt d.0 j) before ((k, v) ∷ after)
      ∙ ap (λ l. filter (λ d. nat_lt d.0 j) before ++ l) none
      ∙ append-nil (filter (λ d. nat_lt d.0 j) before)
      ∙ kept (λ d. nat_lt d.0 j) before (all_below j k (omega arith) before s.below) in
      let greater : filter (λ d. nat_lt j d.0) (before ++ ((k, v) ∷ after)) ≡ after =
      filter-append (λ d. nat_lt j d.0) before ((k, v) ∷ after)
      ∙ ap (λ l. l ++ filter (λ d. nat_lt j d.0) ((k, v) ∷ after)) (lost (λ d. nat_lt j d.0) before (not_above j k (omega arith) before s.below))
      ∙ past (nat_lt j k) (le-ltb j k (omega arith)) (kept (λ d. nat_lt j d.0) after (all_above j k (omega arith) after s.above)) in
      ap (λ l. l ++ ((j, w) ∷ filter (λ d. nat_lt j d.0) (before ++ ((k, v) ∷ after)))) smaller
      ∙ ap (λ l. before ++ ((j, w) ∷ l)) greater
    where
      past : (b : Bool) → b ≡ false → filter (λ d. nat_lt j d.0) after ≡ after → cond b ((k, v) ∷ filter (λ d. nat_lt j d.0) after) (filter (λ d. nat_lt j d.0) after) ≡ after
      past true e f = absurd cc
      past false e f = f

  pub put_after : (j k : ℕ) (w v : V) (before after : List (ℕ × V)) → ascends (before ++ ((k, v) ∷ after)) ≡ true → k < j → with_entry (before ++ ((k, v) ∷ after)) j w ≡ before ++ ((k, v) ∷ with_entry after j w)
  put_after j k w v before after e h =
      let s = sides k v before after e in
      let smaller : filter (λ d. nat_lt d.0 j) (before ++ ((k, v) ∷ after)) ≡ before ++ ((k, v) ∷ filter (λ d. nat_lt d.0 j) after) =
      filter-append (λ d. nat_lt d.0 j) before ((k, v) ∷ after)
      ∙ ap (λ l. l ++ filter (λ d. nat_lt d.0 j) ((k, v) ∷ after)) (kept (λ d. nat_lt d.0 j) before (all_below j k (omega arith) before s.below))
      ∙ ap (λ l. before ++ l) (held (nat_lt k j) (lt-ltb k j h)) in
      let greater : filter (λ d. nat_lt j d.0) (before ++ ((k, v) ∷ after)) ≡ filter (λ d. nat_lt j d.0) after =
      filter-append (λ d. nat_lt j d.0) before ((k, v) ∷ after)
      ∙ ap (λ l. l ++ filter (λ d. nat_lt j d.0) ((k, v) ∷ after)) (lost (λ d. nat_lt j d.0) before (not_above j k (omega arith) before s.below))
      ∙ past (nat_lt j k) (le-ltb j k (omega arith)) in
      ap (λ l. l ++ ((j, w) ∷ filter (λ d. nat_lt j d.0) (before ++ ((k, v) ∷ after)))) smaller
      ∙ ap (λ l. (before ++ ((k, v) ∷ filter (λ d. nat_lt d.0 j) after)) ++ ((j, w) ∷ l)) greater
      ∙ append_assoc before ((k, v) ∷ filter (λ d. nat_lt d.0 j) after) ((j, w) ∷ filter (λ d. nat_lt j d.0) after)
    where
      held : (b : Bool) → b ≡ true → cond b ((k, v) ∷ filter (λ d. nat_lt d.0 j) after) (filter (λ d. nat_lt d.0 j) after) ≡ (k, v) ∷ filter (λ d. nat_lt d.0 j) after
      held true e = refl
      held false e = absurd cc

      past : (b : Bool) → b ≡ false → cond b ((k, v) ∷ filter (λ d. nat_lt j d.0) after) (filter (λ d. nat_lt j d.0) after) ≡ filter (λ d. nat_lt j d.0) after
      past true e = absurd cc
      past false e = refl

  -- what is taken away under a smaller key is taken away before
  pub drop_before : (j k : ℕ) (v : V) (before after : List (ℕ × V)) → ascends (before ++ ((k, v) ∷ after)) ≡ true → j < k → without (before ++ ((k, v) ∷ after)) j ≡ without before j ++ ((k, v) ∷ after)
  drop_before j k v before after e h =
      let s = sides k v before after e in
      filter-append (λ d. not (nat_eq d.0 j)) before ((k, v) ∷ after)
      ∙ ap (λ l. without before j ++ l) (kept (λ d. not (nat_eq d.0 j)) ((k, v) ∷ after)
      (both (not (nat_eq k j)) (list_all (λ d. not (nat_eq d.0 j)) after) (not_false (nat_eq k j) (ne_eqb k j (λ f. omega (arith, f, h)))) (other_above j k (omega arith) after s.above)))

  pub drop_here : (j k : ℕ) (v : V) (before after : List (ℕ × V)) → ascends (before ++ ((k, v) ∷ after)) ≡ true → j ≡ k → without (before ++ ((k, v) ∷ after)) j ≡ before ++ after
  drop_here j k v before after e h =
      let s = sides k v before after e in
      filter-append (λ d. not (nat_eq d.0 j)) before ((k, v) ∷ after)
      ∙ ap (λ l. l ++ without ((k, v) ∷ after) j) (kept (λ d. not (nat_eq d.0 j)) before (other_below j k (omega arith) before s.below))
      ∙ ap (λ l. before ++ l) (gone (nat_eq k j) (eq-eqb k j (sym h)) (kept (λ d. not (nat_eq d.0 j)) after (other_above j k (omega arith) after s.above)))
    where
      gone : (b : Bool) → b ≡ true → without after j ≡ after → cond (not b) ((k, v) ∷ without after j) (without after j) ≡ after
      gone true e f = f
      gone false e f = absurd cc

  pub drop_after : (j k : ℕ) (v : V) (before after : List (ℕ × V)) → ascends (before ++ ((k, v) ∷ after)) ≡ true → k < j → without (before ++ ((k, v) ∷ after)) j ≡ before ++ ((k, v) ∷ without after j)
  drop_after j k v before after e h =
      let s = sides k v before after e in
      filter-append (λ d. not (nat_eq d.0 j)) before ((k, v) ∷ after)
      ∙ ap (λ l. l ++ without ((k, v) ∷ after) j) (kept (λ d. not (nat_eq d.0 j)) before (other_below j k (omega arith) before s.below))
      ∙ ap (λ l. before ++ l) (held (nat_eq k j) (ne_eqb k j (λ f. omega (arith, f, h))))
    where
      held : (b : Bool) → b ≡ false → cond (not b) ((k, v) ∷ without after j) (without after j) ≡ (k, v) ∷ without after j
      held true e = absurd cc
      held false e = refl

  -- the entries on each side of one ascend
  pub first_ascends : (k : ℕ) (v : V) (before after : List (ℕ × V)) → ascends (before ++ ((k, v) ∷ after)) ≡ true → ascends before ≡ true
  first_ascends k v before after e = let s = sides k v before after e in s.first

  pub last_ascends : (k : ℕ) (v : V) (before after : List (ℕ × V)) → ascends (before ++ ((k, v) ∷ after)) ≡ true → ascends after ≡ true
  last_ascends k v before after e = let s = sides k v before after e in s.last
