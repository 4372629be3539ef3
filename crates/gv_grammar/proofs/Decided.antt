-- Tokens have one first fault at most, and none where they are read.
use Rattle.std.proofs.Common.{◌≡◌, ◌⊎◌, inl, inr, ⊎_elim, ℕ, zero, suc, ◌+◌, ◌<◌, ◌≤◌, List, [], ◌∷◌, ◌++◌, length, take, drop, Option, Some, None, refl, sym, ap, subst, ◌∙◌, arith, append_assoc}
use Rattle.std.proofs.lemmas.List.{take-append-drop}
use Rattle.gv_grammar.specs.Text.{Placed, tokens_of, first_above, Spells, Begins, BeginsNone, IsRefused, IsUnfinished, IsLongestFront, IsWithin, IsTooDeep}
use Rattle.gv_grammar.proofs.Outcome.{front_cut, list_cut}

order : (n k : ℕ) → (n < k) ⊎ ((n ≡ k) ⊎ (k < n))
order zero zero = inr (inl refl)
order zero (suc k) = inl (omega arith)
order (suc n) zero = inr (inr (omega arith))
order (suc n) (suc k) = ⊎_elim (λ h. inl (omega (arith, h))) (λ r. ⊎_elim (λ e. inr (inl (ap suc e))) (λ h. inr (inr (omega (arith, h)))) r) (order n k)

take_all : {X : Type 0} (xs : List X) (n : ℕ) → length xs ≤ n → take n xs ≡ xs
take_all [] zero l = refl
take_all [] (suc n) l = refl
take_all (x ∷ xs) zero l = absurd (omega (arith, l))
take_all (x ∷ xs) (suc n) l = ap (λ ys. x ∷ ys) (take_all xs n (omega (arith, l)))

module _ {X T : Type 0} (IsText : T → List (Placed X) → Type 0) where
  -- the same spelling of an equal list
  abbrev pub respelled : (tree : T) {us vs : List X} → us ≡ vs → Spells IsText tree us → Spells IsText tree vs
  respelled tree e s = record { placed = s.placed; same = s.same ∙ e; derived = s.derived }

  begins_sooner : (tokens : List X) (k n : ℕ) → k ≤ n → Begins IsText (take n tokens) → Begins IsText (take k tokens)
  begins_sooner tokens k n l (tree, more, s) =
      let (rest, e) = front_cut k n tokens l in
      (tree, rest ++ more, respelled tree (ap (λ us. us ++ more) e ∙ append_assoc (take k tokens) rest more) s)

  begins_front : (tokens : List X) (k : ℕ) → Begins IsText tokens → Begins IsText (take k tokens)
  begins_front tokens k (tree, more, s) =
      let (rest, e) = list_cut k tokens in
      (tree, rest ++ more, respelled tree (ap (λ us. us ++ more) e ∙ append_assoc (take k tokens) rest more) s)

  refuted : (front : List X) → Begins IsText front → BeginsNone IsText front → ⊥
  refuted front (tree, more, s) n = n tree more s

  pub one_refused : (tokens : List X) (i j : ℕ) → IsRefused IsText tokens i → IsRefused IsText tokens j → i ≡ j
  one_refused tokens i j a b =
      ⊎_elim (λ (h : i < j). absurd (refuted _ (begins_sooner tokens (i + 1) j (omega (arith, h)) b.begins) a.none))
      (λ r. ⊎_elim (λ (e : i ≡ j). e) (λ (h : j < i). absurd (refuted _ (begins_sooner tokens (j + 1) i (omega (arith, h)) a.begins) b.none)) r) (order i j)

  pub refused_or_unfinished : (tokens : List X) (i : ℕ) → IsRefused IsText tokens i → IsUnfinished IsText tokens → ⊥
  refused_or_unfinished tokens i a b = refuted _ (begins_front tokens (i + 1) b.begins) a.none

  pub one_longest : (tokens : List X) (i j : ℕ) → IsLongestFront IsText tokens i → IsLongestFront IsText tokens j → i ≡ j
  one_longest tokens i j a b =
      ⊎_elim (λ (h : i < j). let w = b.within in absurd (refuted _ (begins_sooner tokens (i + 1) j (omega (arith, h)) b.begins) (a.none (omega (arith, h, w)))))
      (λ r. ⊎_elim (λ (e : i ≡ j). e) (λ (h : j < i). let w = a.within in absurd (refuted _ (begins_sooner tokens (j + 1) i (omega (arith, h)) a.begins) (b.none (omega (arith, h, w))))) r) (order i j)

  -- a front that begins a text is no longer than the longest one
  begins_within : (tokens : List X) (len n : ℕ) → IsLongestFront IsText tokens len → Begins IsText (take n tokens) → n ≤ length tokens → n ≤ len
  begins_within tokens len n a b l =
      ⊎_elim (λ (h : n < len). omega (arith, h)) (λ r. ⊎_elim (λ (e : n ≡ len). omega (arith, e))
      (λ (h : len < n). absurd (refuted _ (begins_sooner tokens (len + 1) n (omega (arith, h)) b) (a.none (omega (arith, h, l))))) r) (order n len)

  module _ (limit : ℕ) where
    sooner_deep : (tokens : List X) (i j : ℕ) (a : IsTooDeep IsText limit tokens i) (b : IsTooDeep IsText limit tokens j) → a.end ≤ b.end → i ≡ j
    sooner_deep tokens i j a b l =
        let (tree, more, s) = b.begins in
        let (rest, e) = front_cut a.end b.end tokens l in
        let d : first_above limit 0 s.placed ≡ Some i = a.each tree (rest ++ more) (respelled tree (ap (λ us. us ++ more) e ∙ append_assoc (take a.end tokens) rest more) s) in
        let f : first_above limit 0 s.placed ≡ Some j = b.each tree more s in
        let q : Some i ≡ Some j = sym d ∙ f in
        cc

    pub one_too_deep : (tokens : List X) (i j : ℕ) → IsTooDeep IsText limit tokens i → IsTooDeep IsText limit tokens j → i ≡ j
    one_too_deep tokens i j a b =
        ⊎_elim (λ (h : a.end < b.end). sooner_deep tokens i j a b (omega (arith, h)))
        (λ r. ⊎_elim (λ (e : a.end ≡ b.end). sooner_deep tokens i j a b (omega (arith, e))) (λ (h : b.end < a.end). sym (sooner_deep tokens j i b a (omega (arith, h)))) r) (order a.end b.end)

    -- what is spelled within the limit has no fault
    module _ (tokens : List X) (tree : T) (s : Spells IsText tree tokens) where
      pub spelled_or_refused : (i : ℕ) → IsRefused IsText tokens i → ⊥
      spelled_or_refused i a = a.none tree (drop (i + 1) tokens) (respelled tree (sym (take-append-drop (i + 1) tokens)) s)

      pub spelled_or_too_deep : IsWithin IsText limit tree tokens → (i : ℕ) → IsTooDeep IsText limit tokens i → ⊥
      spelled_or_too_deep w i a =
          let d : first_above limit 0 s.placed ≡ Some i = a.each tree (drop a.end tokens) (respelled tree (sym (take-append-drop a.end tokens)) s) in
          let f : first_above limit 0 s.placed ≡ None = w s in
          let q : Some i ≡ None = sym d ∙ f in
          cc

    -- nor has a front that is the longest and so spelled
    module _ (tokens : List X) (len : ℕ) (a : IsLongestFront IsText tokens len) (tree : T) (s : Spells IsText tree (take len tokens)) where
      pub front_or_refused : (i : ℕ) → IsRefused IsText tokens i → IsUnfinished IsText (take i tokens) → ⊥
      front_or_refused i b u =
          let e : i ≡ len = one_longest tokens i len (record { within = let l = b.within in omega (arith, l); begins = b.begins; none = λ _. b.none }) a in
          u.none tree (respelled tree (ap (λ (n : ℕ). take n tokens) (sym e)) s)

      pub front_or_unfinished : IsUnfinished IsText tokens → ⊥
      front_or_unfinished u =
          let b : Begins IsText (take (length tokens) tokens) = begins_front tokens (length tokens) u.begins in
          let l = begins_within tokens len (length tokens) a b (omega arith) in
          u.none tree (respelled tree (take_all tokens len l) s)

      pub front_or_too_deep : IsWithin IsText limit tree (take len tokens) → (i : ℕ) → IsTooDeep IsText limit tokens i → ⊥
      front_or_too_deep w i b =
          let l = begins_within tokens len b.end a b.begins b.within in
          let (rest, e) = front_cut b.end len tokens l in
          let d : first_above limit 0 s.placed ≡ Some i = b.each tree rest (respelled tree e s) in
          let f : first_above limit 0 s.placed ≡ None = w s in
          let q : Some i ≡ None = sym d ∙ f in
          cc
