-- What the steps and the levels along them say of the classes.
use Rattle.std.proofs.Common.{◌≡◌, ℕ, suc, zero, ◌+◌, ◌<◌, ◌≤◌, true, List, [], ◌∷◌, ◌++◌, length, take, Some, None, Option, ◌⊎◌, inl, inr, ⊎_elim, refl, sym, ap, subst, ◌∙◌, arith, append_assoc}
use Rattle.std.proofs.lemmas.List.{append-nil}
use Rattle.gv_grammar.specs.declared.steps.Step.{Step}
use Rattle.gv_grammar.specs.Derivation.{Tables, Spells, IsViable}
use Rattle.gv_grammar.specs.Predictive.{MayBegin}
use Rattle.gv_grammar.specs.Outcomes.{IsDerivation, IsRefusedAt, EndsEarly}
use Rattle.gv_grammar.specs.Faults.{Begin}
use Rattle.gv_grammar.specs.Levels.{deep_from, NotBefore, IsDeepBefore, IsTooDeep, IsShallow}
use Rattle.gv_grammar.proofs.Depths.{told_from, deep_told, told_of, deep_of, none_of, told_more, agree}
use Rattle.gv_grammar.proofs.Late.{settle, later_prompt, shown_within, prompt_front}

-- a front of a front
pub front_cut : {X : Type 0} (k n : ℕ) (xs : List X) → k ≤ n → (rest : List X) × (take n xs ≡ take k xs ++ rest)
front_cut zero n xs l = (take n xs, refl)
front_cut (suc k) zero xs l = absurd (omega (arith, l))
front_cut (suc k) (suc n) [] l = ([], refl)
front_cut (suc k) (suc n) (x ∷ xs) l = let (rest, e) = front_cut k n xs (omega (arith, l)) in (rest, ap (λ ys. x ∷ ys) e)

pub list_cut : {X : Type 0} (k : ℕ) (xs : List X) → (rest : List X) × (xs ≡ take k xs ++ rest)
list_cut zero xs = (xs, refl)
list_cut (suc k) [] = ([], refl)
list_cut (suc k) (x ∷ xs) = let (rest, e) = list_cut k xs in (rest, ap (λ ys. x ∷ ys) e)

-- a front of what was seen
seen_cut : {X : Type 0} (k : ℕ) (seen rest : List X) → k ≤ length seen → (cut : List X) × (seen ≡ take k (seen ++ rest) ++ cut)
seen_cut zero seen rest l = (seen, refl)
seen_cut (suc k) [] rest l = absurd (omega (arith, l))
seen_cut (suc k) (x ∷ seen) rest l = let (cut, e) = seen_cut k seen rest (omega (arith, l)) in (cut, ap (λ ys. x ∷ ys) e)

seen_whole : {X : Type 0} (seen rest : List X) → take (length seen) (seen ++ rest) ≡ seen
seen_whole [] rest = refl
seen_whole (x ∷ seen) rest = ap (λ ys. x ∷ ys) (seen_whole seen rest)

pub take_within : {X : Type 0} (k : ℕ) (xs : List X) → k ≤ length xs → length (take k xs) ≡ k
take_within zero xs l = refl
take_within (suc k) [] l = absurd (omega (arith, l))
take_within (suc k) (x ∷ xs) l = let e = take_within k xs (omega (arith, l)) in omega (arith, e)

pub append-length : {X : Type 0} (xs ys : List X) → length (xs ++ ys) ≡ length xs + length ys
append-length [] ys = omega arith
append-length (x ∷ xs) ys = let e = append-length xs ys in omega (arith, e)

pub viable_front : (g : Tables) (root : ℕ) (k n : ℕ) (classes : List ℕ) → k ≤ n → IsViable g root (take n classes) → IsViable g root (take k classes)
viable_front g root k n classes l (ps, more, d) =
    let (rest, e) = front_cut k n classes l in
    (ps, rest ++ more, subst (λ (us : List ℕ). Spells g root ps us) (ap (λ us. us ++ more) e ∙ append_assoc (take k classes) rest more) d)

first_same : (x y : ℕ × ℕ) → Some x ≡ Some y → x.0 ≡ y.0
first_same x y e = let q : x ≡ y = cc in ap (λ (z : ℕ × ℕ). z.0) q

module _ (g : Tables) (root : ℕ) (p : MayBegin g root) (level limit : ℕ) where
  -- one derivation shows it for all
  too_deep_shown : (classes : List ℕ) (ps : List Step) (more : List ℕ) (i m : ℕ) → told_from limit level [] 0 ps ≡ Some (i, m) → i ≤ m → m ≤ i + 1 → m < length classes
      → Spells g root ps (take (m + 1) classes ++ more) → IsTooDeep g root level limit classes i
  too_deep_shown classes ps more i m t a b l d = record {
    end = m + 1;
    past = omega (arith, a);
    near = omega (arith, b);
    within = omega (arith, l);
    viable = (ps, more, d);
    each = λ qs vs d'.
        let w : m + 1 ≤ length classes = omega (arith, l) in
        let n = take_within (m + 1) classes w in
        let k : m < length (take (m + 1) classes) = omega (arith, n) in
        deep_of (deep_from limit level [] 0 qs) (told_from limit level [] 0 qs) (deep_told limit level [] 0 qs) (i, m) (agree g root p (take (m + 1) classes) more vs ps qs d d' limit level (i, m) t k);
  }

  -- a class of a viable front, whose steps these are
  pub too_deep_front : (classes seen rest : List ℕ) (steps : List Step) (i : ℕ) → classes ≡ seen ++ rest → IsViable g root seen → Begin g root seen steps
      → deep_from limit level [] 0 steps ≡ Some i → i < length seen → IsTooDeep g root level limit classes i
  too_deep_front classes seen rest steps i e (ps, more, d) b f l =
      let (m, t, a, c) = told_of (deep_from limit level [] 0 steps) (told_from limit level [] 0 steps) (deep_told limit level [] 0 steps) i f in
      subst (λ (ks : List ℕ). IsTooDeep g root level limit ks i) (sym e) (⊎_elim (shown m t a c) (last m t a c) (order (length seen) m))
    where
      order : (n k : ℕ) → (k < n) ⊎ (n ≤ k)
      order zero k = inr (omega arith)
      order (suc n) zero = inl (omega arith)
      order (suc n) (suc k) = ⊎_elim (λ h. inl (omega (arith, h))) (λ h. inr (omega (arith, h))) (order n k)

      shown : (m : ℕ) → told_from limit level [] 0 steps ≡ Some (i, m) → i ≤ m → m ≤ i + 1 → m < length seen → IsTooDeep g root level limit (seen ++ rest) i
      shown m t a c h =
          let (after, q) = b.front ps more d in
          let t' : told_from limit level [] 0 ps ≡ Some (i, m) = ap (told_from limit level [] 0) q ∙ told_more limit level [] 0 steps after (i, m) t in
          let (cut, s) = seen_cut (m + 1) seen rest (omega (arith, h)) in
          let n = append-length seen rest in
          too_deep_shown (seen ++ rest) ps (cut ++ more) i m t' a c (omega (arith, h, n))
          (subst (λ (us : List ℕ). Spells g root ps us) (ap (λ us. us ++ more) s ∙ append_assoc (take (m + 1) (seen ++ rest)) cut more) d)

      last : (m : ℕ) → told_from limit level [] 0 steps ≡ Some (i, m) → i ≤ m → m ≤ i + 1 → length seen ≤ m → IsTooDeep g root level limit (seen ++ rest) i
      last m t a c h = record {
        end = length seen;
        past = l;
        near = omega (arith, c, h);
        within = let n = append-length seen rest in omega (arith, n);
        viable = subst (IsViable g root) (sym (seen_whole seen rest)) (ps, more, d);
        each = λ qs vs d'.
            let (after, q) = b.front qs vs (subst (λ (us : List ℕ). Spells g root qs (us ++ vs)) (seen_whole seen rest) d') in
            let t' : told_from limit level [] 0 qs ≡ Some (i, m) = ap (told_from limit level [] 0) q ∙ told_more limit level [] 0 steps after (i, m) t in
            deep_of (deep_from limit level [] 0 qs) (told_from limit level [] 0 qs) (deep_told limit level [] 0 qs) (i, m) t';
      }

  -- a class of a derived list
  pub too_deep_whole : (classes : List ℕ) (steps : List Step) (i : ℕ) → Spells g root steps classes → deep_from limit level [] 0 steps ≡ Some i → i < length classes → IsTooDeep g root level limit classes i
  too_deep_whole classes steps i d f l =
      let (m, t, a, c) = told_of (deep_from limit level [] 0 steps) (told_from limit level [] 0 steps) (deep_told limit level [] 0 steps) i f in
      let within : m < length classes = ⊎_elim (λ (h : i < m). shown_within g root p steps classes d limit level (i, m) t h) (λ (h : m ≤ i). omega (arith, h, l)) (order m i) in
      let (rest, e) = list_cut (m + 1) classes in
      too_deep_shown classes steps rest i m t a c within (subst (λ (us : List ℕ). Spells g root steps us) e d)
    where
      order : (n k : ℕ) → (k < n) ⊎ (n ≤ k)
      order zero k = inr (omega arith)
      order (suc n) zero = inl (omega arith)
      order (suc n) (suc k) = ⊎_elim (λ h. inl (omega (arith, h))) (λ h. inr (omega (arith, h))) (order n k)

  -- where the steps of the longest viable front have no class too deep, none is
  pub shallow : (classes seen rest : List ℕ) (steps : List Step) → classes ≡ seen ++ rest → IsViable g root seen → Begin g root seen steps
      → NotBefore (length seen) (deep_from limit level [] 0 steps) → ((n : ℕ) → length seen < n → n ≤ length classes → IsViable g root (take n classes) → ⊥) → IsShallow g root level limit classes
  shallow classes seen rest steps e (ps, more, d) b h stuck i t =
      let (qs, vs, d', prompt) = settle g root p seen more ps d in
      let (after, q) = b.front qs vs d' in
      go (deep_from limit level [] 0 steps) refl qs vs d' after q (prompt steps after q b.count)
    where
      short : t.end ≤ length seen
      short = inside (order (length seen) t.end)
        where
          order : (n k : ℕ) → (n < k) ⊎ (k ≤ n)
          order n zero = inr (omega arith)
          order zero (suc k) = inl (omega arith)
          order (suc n) (suc k) = ⊎_elim (λ h. inl (omega (arith, h))) (λ h. inr (omega (arith, h))) (order n k)

          inside : (length seen < t.end) ⊎ (t.end ≤ length seen) → t.end ≤ length seen
          inside o = ⊎_elim (λ (l : length seen < t.end). absurd (stuck t.end l t.within t.viable)) (λ (l : t.end ≤ length seen). l) o

      go : (deep : Option ℕ) → deep_from limit level [] 0 steps ≡ deep → (qs : List Step) (vs : List ℕ) → Spells g root qs (seen ++ vs) → (after : List Step) → qs ≡ steps ++ after → prompt_front after ≡ true → ⊥
      go deep f qs vs d' after q prompt =
          let (cut, s) = seen_cut t.end seen rest short in
          let front : seen ≡ take t.end classes ++ cut = s ∙ ap (λ (ks : List ℕ). take t.end ks ++ cut) (sym e) in
          let found = t.each qs (cut ++ vs) (subst (λ (us : List ℕ). Spells g root qs us) (ap (λ us. us ++ vs) front ∙ append_assoc (take t.end classes) cut vs) d') in
          let (m, told, a, c) = told_of (deep_from limit level [] 0 qs) (told_from limit level [] 0 qs) (deep_told limit level [] 0 qs) i found in
          contra deep f m (ap (told_from limit level [] 0) (sym q) ∙ told) prompt
        where
          contra : (deep : Option ℕ) → deep_from limit level [] 0 steps ≡ deep → (m : ℕ) → told_from limit level [] 0 (steps ++ after) ≡ Some (i, m) → prompt_front after ≡ true → ⊥
          contra None f m told prompt =
              let none = none_of (deep_from limit level [] 0 steps) (told_from limit level [] 0 steps) (deep_told limit level [] 0 steps) f in
              let l = later_prompt limit level [] 0 steps after prompt none (i, m) told in
              let n = b.count in
              let s = short in
              let past = t.past in
              omega (arith, l, n, s, past)
          contra (Some j) f m told prompt =
              let (k, told', a, c) = told_of (deep_from limit level [] 0 steps) (told_from limit level [] 0 steps) (deep_told limit level [] 0 steps) j f in
              let r = first_same (j, k) (i, m) (sym (told_more limit level [] 0 steps after (j, k) told') ∙ told) in
              let l = h j f in
              let s = short in
              let past = t.past in
              omega (arith, l, r, s, past)

-- a list that begins with those before a refused class and goes beyond
pub stuck_beyond : (g : Tables) (root : ℕ) (classes : List ℕ) (at n : ℕ) → IsRefusedAt g root classes at → length (take at classes) < n → IsViable g root (take n classes) → ⊥
stuck_beyond g root classes at n r l v =
    let w = r.within in
    let k = take_within at classes (omega (arith, w)) in
    let (ps, more, d) = viable_front g root (at + 1) n classes (omega (arith, k, l)) v in
    r.stuck ps more d

viable_cut : (g : Tables) (root : ℕ) (k : ℕ) (classes : List ℕ) → IsViable g root classes → IsViable g root (take k classes)
viable_cut g root k classes (ps, more, d) =
    let (rest, e) = list_cut k classes in
    (ps, rest ++ more, subst (λ (us : List ℕ). Spells g root ps us) (ap (λ us. us ++ more) e ∙ append_assoc (take k classes) rest more) d)

-- no class of a viable list is refused
pub viable_passes : (g : Tables) (root : ℕ) (classes : List ℕ) (at : ℕ) → IsViable g root classes → IsRefusedAt g root classes at → ⊥
viable_passes g root classes at v r = let (ps, more, d) = viable_cut g root (at + 1) classes v in r.stuck ps more d

take_again : {X : Type 0} (k n : ℕ) (xs : List X) → k ≤ length (take n xs) → take k (take n xs) ≡ take k xs
take_again zero n xs l = refl
take_again (suc k) zero xs l = absurd (omega (arith, l))
take_again (suc k) (suc n) [] l = refl
take_again (suc k) (suc n) (x ∷ xs) l = ap (λ ys. x ∷ ys) (take_again k n xs (omega (arith, l)))

take_shorter : {X : Type 0} (n : ℕ) (xs : List X) → length (take n xs) ≤ length xs
take_shorter zero xs = omega arith
take_shorter (suc n) [] = omega arith
take_shorter (suc n) (x ∷ xs) = let l = take_shorter n xs in omega (arith, l)

take_all : {X : Type 0} (xs : List X) → take (length xs) xs ≡ xs
take_all [] = refl
take_all (x ∷ xs) = ap (λ ys. x ∷ ys) (take_all xs)

-- a class too deep in a front
pub deep_longer : (g : Tables) (root : ℕ) (level limit : ℕ) (classes : List ℕ) (n i : ℕ) → IsTooDeep g root level limit (take n classes) i → IsTooDeep g root level limit classes i
deep_longer g root level limit classes n i t =
    let e = take_again t.end n classes t.within in
    let l = take_shorter n classes in
    let w = t.within in
    record {
      end = t.end;
      past = t.past;
      near = t.near;
      within = omega (arith, w, l);
      viable = subst (IsViable g root) e t.viable;
      each = λ qs vs d. t.each qs vs (subst (λ (us : List ℕ). Spells g root qs (us ++ vs)) (sym e) d);
    }

-- What a reading within the limit answers.
module _ (g : Tables) (root : ℕ) (p : MayBegin g root) (level limit : ℕ) (classes : List ℕ) (steps read : List Step) (same : read ≡ steps) (found : Option ℕ) where
  pub whole_too_deep : (i : ℕ) → IsDerivation g root steps classes → IsDeepBefore (length classes) (deep_from limit level [] 0 read) found → found ≡ Some i → IsTooDeep g root level limit classes i
  whole_too_deep i d b f =
      let (e, l) = rw f at b in
      too_deep_whole g root p level limit classes steps i d.derives (ap (deep_from limit level [] 0) (sym same) ∙ e) l

  pub refused_too_deep : (at i : ℕ) → IsRefusedAt g root classes at → Begin g root (take at classes) steps → IsDeepBefore at (deep_from limit level [] 0 read) found → found ≡ Some i → IsTooDeep g root level limit classes i
  refused_too_deep at i r s b f =
      let (e, l) = rw f at b in
      let (rest, c) = list_cut at classes in
      let w = r.within in
      let k = take_within at classes (omega (arith, w)) in
      too_deep_front g root p level limit classes (take at classes) rest steps i c r.viable s (ap (deep_from limit level [] 0) (sym same) ∙ e) (omega (arith, l, k))

  pub refused_shallow : (at : ℕ) → IsRefusedAt g root classes at → Begin g root (take at classes) steps → IsDeepBefore at (deep_from limit level [] 0 read) found → found ≡ None → IsRefusedAt g root classes at × IsShallow g root level limit classes
  refused_shallow at r s b f =
      let n : NotBefore at (deep_from limit level [] 0 read) = rw f at b in
      let (rest, c) = list_cut at classes in
      let w = r.within in
      let k = take_within at classes (omega (arith, w)) in
      let n' : NotBefore (length (take at classes)) (deep_from limit level [] 0 steps) = λ i e. let l = n i (ap (deep_from limit level [] 0) same ∙ e) in omega (arith, l, k) in
      (r, shallow g root p level limit classes (take at classes) rest steps c r.viable s n' (λ m l _ v. stuck_beyond g root classes at m r l v))

  pub end_too_deep : (i : ℕ) → EndsEarly g root classes → Begin g root classes steps → IsDeepBefore (length classes) (deep_from limit level [] 0 read) found → found ≡ Some i → IsTooDeep g root level limit classes i
  end_too_deep i r s b f =
      let (e, l) = rw f at b in
      too_deep_front g root p level limit classes classes [] steps i (sym (append-nil classes)) r.viable s (ap (deep_from limit level [] 0) (sym same) ∙ e) l

  pub end_shallow : EndsEarly g root classes → Begin g root classes steps → IsDeepBefore (length classes) (deep_from limit level [] 0 read) found → found ≡ None → EndsEarly g root classes × IsShallow g root level limit classes
  end_shallow r s b f =
      let n : NotBefore (length classes) (deep_from limit level [] 0 read) = rw f at b in
      let n' : NotBefore (length classes) (deep_from limit level [] 0 steps) = λ i e. n i (ap (deep_from limit level [] 0) same ∙ e) in
      (r, shallow g root p level limit classes classes [] steps (sym (append-nil classes)) r.viable s n' (λ m l k _. absurd (omega (arith, l, k))))
