-- Steps of a search.
use Rattle.std.proofs.Common.{◌≡◌, ℕ, suc, zero, ◌+◌, ◌*◌, ◌-◌, ◌⊎◌, inl, inr, ⊎_elim, ◌<◌, ◌≤◌, Bool, true, false, List, [], ◌∷◌, ◌++◌, length, take, get_or, set, refl, sym, subst, ◌∙◌, arith, length-set, length-append}
use Rattle.std.specs.Prelude.{replicate}
use Rattle.std.proofs.lemmas.List.{length-replicate, get_or-replicate, take-append-le, take_all, get_or_append_left, get_or_push}
use Rattle.gv_cycles.specs.Leading.{IsIn, row, LeadsIn, Leads}
use Rattle.gv_cycles.specs.Order.{IsBefore, IsOrder}
use Rattle.gv_cycles.specs.declared.search.Open.{Open}
use Rattle.gv_cycles.specs.Search.{is_new_in, IsPassed, seen_count, IsOpen, IsGoneThrough, IsNamedLast, AreOpen, IsSearchedBy}
use Rattle.gv_cycles.proofs.Lists.{in_left, in_last, place_of, old_is_true, new_within, count_set, count_within, set_or}

-- ---- what leads where

leads_then_in : (rows : List (List ℕ)) (steps a b c : ℕ) → LeadsIn steps rows a b → IsIn c (row rows b) → LeadsIn (suc steps) rows a c
leads_then_in rows zero a b c e h = (c, (subst (λ (x : ℕ). IsIn c (row rows x)) (sym e) h, refl))
leads_then_in rows (suc k) a b c p h = (p.0, (p.1.0, leads_then_in rows k p.0 b c p.1.1 h))

pub leads_then : (rows : List (List ℕ)) (a b c : ℕ) → Leads rows a b → IsIn c (row rows b) → Leads rows a c
leads_then rows a b c l h = record { steps = suc l.steps; path = leads_then_in rows l.steps a b c l.path h }

pub leads_self : (rows : List (List ℕ)) (a b : ℕ) → a ≡ b → Leads rows a b
leads_self rows a b e = record { steps = 0; path = e }

-- what is open leads to the last one that is
pub open_leads : (rows : List (List ℕ)) (order : List ℕ) (o : Open) (os : List Open) (n : ℕ) → AreOpen rows order (o ∷ os) → IsOpen n (o ∷ os) → Leads rows n o.number
open_leads rows order o os n a (inl e) = leads_self rows n o.number (sym e)
open_leads rows order o [] n a (inr h) = absurd h
open_leads rows order o (p ∷ ps) n a (inr h) = leads_then rows n p.number o.number (open_leads rows order p ps n a.1.1 h) a.1.0

-- ---- an order that grows

before_more : (rows : List (List ℕ)) (order more : List ℕ) (n named : ℕ) → IsBefore rows order n named → IsBefore rows (order ++ more) n named
before_more rows order more n named (inl h) = inl (in_left named order more h)
before_more rows order more n named (inr h) = inr h

gone_more : (rows : List (List ℕ)) (order more : List ℕ) (o : Open) → IsGoneThrough rows order o → IsGoneThrough rows (order ++ more) o
gone_more rows order more o g = record { ranged = g.ranged; passed = λ i d l. before_more rows order more o.number (get_or (row rows o.number) i d) (g.passed i d l) }

open_more : (rows : List (List ℕ)) (order more : List ℕ) (os : List Open) → AreOpen rows order os → AreOpen rows (order ++ more) os
open_more rows order more [] a = tt
open_more rows order more (o ∷ os) a = (gone_more rows order more o a.0, (a.1.0, open_more rows order more os a.1.1))

-- ---- steps

abbrev Passed : List (List ℕ) → List ℕ → ℕ → ℕ → Type 0
Passed rows order n next = (i d : ℕ) → i < next → IsBefore rows order n (get_or (row rows n) i d)

-- one that isn't new was done, is open or has no row
old_one : (rows : List (List ℕ)) (seen : List Bool) (o : Open) (os : List Open) (order : List ℕ) (named : ℕ) → IsSearchedBy rows seen (o ∷ os) order → is_new_in seen named ≡ false
    → (named < length seen) ⊎ (length seen ≤ named) → IsBefore rows order o.number named
old_one rows seen o os order named s e (inl l) =
    ⊎_elim (λ h. inl h) (λ h. inr (inl (open_leads rows order o os named s.gone h))) (s.kept named l (old_is_true (get_or seen named true) e))
old_one rows seen o os order named s e (inr l) = inr (inr (let k = s.sized in omega (arith, k, l)))

in_or_past : (n m : ℕ) → (n < m) ⊎ (m ≤ n)
in_or_past n m = grind arith

pub passed_more : (rows : List (List ℕ)) (seen : List Bool) (o : Open) (os : List Open) (order : List ℕ) (next : ℕ) → IsSearchedBy rows seen (o ∷ os) order
    → IsPassed seen (row rows o.number) o.next next → Passed rows order o.number next
passed_more rows seen o os order next s p i d l = ⊎_elim
    (λ (k : i < o.next). s.gone.0.passed i d k)
    (λ (k : o.next ≤ i). let named = get_or (row rows o.number) i d in
    old_one rows seen o os order named s (p i d k l) (in_or_past named (length seen)))
    (in_or_past i o.next)

-- the last one is gone through up to a later place
pub advanced : (rows : List (List ℕ)) (seen : List Bool) (o : Open) (os : List Open) (order : List ℕ) (next : ℕ) → IsSearchedBy rows seen (o ∷ os) order
    → IsPassed seen (row rows o.number) o.next next → IsSearchedBy rows seen (record { number = o.number; next = next } ∷ os) order
advanced rows seen o os order next s p = record {
  sized = s.sized;
  counted = s.counted;
  kept = s.kept;
  gone = (record { ranged = s.gone.0.ranged; passed = passed_more rows seen o os order next s p }, s.gone.1);
  behind = s.behind;
  ranged = s.ranged;
}

-- a new one is opened
pub entered : (rows : List (List ℕ)) (seen : List Bool) (os : List Open) (order : List ℕ) (n : ℕ) → IsSearchedBy rows seen os order → is_new_in seen n ≡ true → IsNamedLast rows n os
    → IsSearchedBy rows (set seen n true) (record { number = n; next = 0 } ∷ os) order
entered rows seen os order n s e h = record {
  sized = length-set seen n true ∙ s.sized;
  counted = (let c = count_set seen n e in let k = s.counted in omega (arith, c, k));
  kept = λ m l f. ⊎_elim (λ (q : n ≡ m). inr (inl q))
      (λ k. ⊎_elim (λ x. inl x) (λ x. inr (inr x)) (s.kept m (let q = length-set seen n true in omega (arith, l, q)) k))
      (set_or seen n m f);
  gone = (record { ranged = (let l = new_within seen n e in let k = s.sized in omega (arith, l, k)); passed = λ i d l. absurd (omega (arith, l)) }, (h, s.gone));
  behind = s.behind;
  ranged = s.ranged;
}

behind_push : (rows : List (List ℕ)) (order : List ℕ) (n : ℕ)
    → ((i d named : ℕ) → i < length order → IsIn named (row rows (get_or order i d)) → IsBefore rows (take i order) (get_or order i d) named)
    → ((named : ℕ) → IsIn named (row rows n) → IsBefore rows order n named)
    → (i d named : ℕ) → i < length (order ++ n ∷ []) → IsIn named (row rows (get_or (order ++ n ∷ []) i d)) → IsBefore rows (take i (order ++ n ∷ [])) (get_or (order ++ n ∷ []) i d) named
behind_push rows order n b p i d named l h = ⊎_elim
    (λ (k : i < length order).
    let q : get_or (order ++ n ∷ []) i d ≡ get_or order i d = get_or_append_left order (n ∷ []) d i k in
    let t : take i (order ++ n ∷ []) ≡ take i order = take-append-le i order (n ∷ []) (omega (arith, k)) in
    subst (λ (x : ℕ). IsBefore rows (take i (order ++ n ∷ [])) x named) (sym q)
    (subst (λ (xs : List ℕ). IsBefore rows xs (get_or order i d) named) (sym t)
    (b i d named k (subst (λ (x : ℕ). IsIn named (row rows x)) q h))))
    (λ (k : length order ≤ i).
    let same : i ≡ length order = (let m = length-append order (n ∷ []) in omega (arith, l, m, k)) in
    let q : get_or (order ++ n ∷ []) i d ≡ n = get_or_push order n d i (sym same) in
    let t : take i (order ++ n ∷ []) ≡ order = take-append-le i order (n ∷ []) (omega (arith, same)) ∙ take_all i order (omega (arith, same)) in
    subst (λ (x : ℕ). IsBefore rows (take i (order ++ n ∷ [])) x named) (sym q)
    (subst (λ (xs : List ℕ). IsBefore rows xs n named) (sym t)
    (p named (subst (λ (x : ℕ). IsIn named (row rows x)) q h))))
    (in_or_past i (length order))

ranged_push : (rows : List (List ℕ)) (order : List ℕ) (n : ℕ) → ((i d : ℕ) → i < length order → get_or order i d < length rows) → n < length rows
    → (i d : ℕ) → i < length (order ++ n ∷ []) → get_or (order ++ n ∷ []) i d < length rows
ranged_push rows order n r m i d l = ⊎_elim
    (λ (k : i < length order). subst (λ (x : ℕ). x < length rows) (sym (get_or_append_left order (n ∷ []) d i k)) (r i d k))
    (λ (k : length order ≤ i).
    let same : i ≡ length order = (let q = length-append order (n ∷ []) in omega (arith, l, q, k)) in
    subst (λ (x : ℕ). x < length rows) (sym (get_or_push order n d i (sym same))) m)
    (in_or_past i (length order))

-- the last one is done
pub left : (rows : List (List ℕ)) (seen : List Bool) (o : Open) (os : List Open) (order : List ℕ) → IsSearchedBy rows seen (o ∷ os) order
    → IsPassed seen (row rows o.number) o.next (length (row rows o.number)) → IsSearchedBy rows seen os (order ++ o.number ∷ [])
left rows seen o os order s p = record {
  sized = s.sized;
  counted = (let k = s.counted in let q = length-append order (o.number ∷ []) in omega (arith, k, q));
  kept = λ m l f. ⊎_elim (λ h. inl (in_left m order (o.number ∷ []) h))
      (λ h. ⊎_elim (λ (q : o.number ≡ m). inl (subst (λ (x : ℕ). IsIn x (order ++ o.number ∷ [])) q (in_last o.number order))) (λ k. inr k) h)
      (s.kept m l f);
  gone = open_more rows order (o.number ∷ []) os s.gone.1.1;
  behind = behind_push rows order o.number s.behind (λ named h.
      let at = place_of named (row rows o.number) h in
      subst (λ (x : ℕ). IsBefore rows order o.number x) (at.is 0)
      (passed_more rows seen o os order (length (row rows o.number)) s p at.at 0 at.within));
  ranged = ranged_push rows order o.number s.ranged s.gone.0.ranged;
}

-- where all were seen and none is open, all are done
pub all_done : (rows : List (List ℕ)) (seen : List Bool) (order : List ℕ) → IsSearchedBy rows seen [] order → ((n : ℕ) → n < length rows → get_or seen n true ≡ true) → IsOrder rows order
all_done rows seen order s all = record {
  complete = λ n l. ⊎_elim (λ h. h) (λ h. absurd h) (s.kept n (let k = s.sized in omega (arith, k, l)) (all n l));
  behind = s.behind;
  ranged = s.ranged;
  within = (let k = s.counted in let l = s.sized in let m = count_within seen in omega (arith, k, l, m));
}

none_seen : (n : ℕ) → seen_count (replicate n false) ≡ 0
none_seen zero = refl
none_seen (suc n) = none_seen n

-- where nothing was seen
pub begun : (rows : List (List ℕ)) (n : ℕ) → n ≡ length rows → IsSearchedBy rows (replicate n false) [] []
begun rows n e = record {
  sized = length-replicate n false ∙ e;
  counted = none_seen n;
  kept = λ m l f. absurd (let k : m < n = subst (λ (x : ℕ). m < x) (length-replicate n false) l in let q = get_or-replicate n m false true k in cc);
  gone = tt;
  behind = λ i d named l h. absurd (omega (arith, l));
  ranged = λ i d l. absurd (omega (arith, l));
}

pub passed_there : (seen known : List Bool) (names there : List ℕ) (from to : ℕ) → known ≡ seen → there ≡ names → IsPassed known there from to → IsPassed seen names from to
passed_there seen known names there from to d e p =
    subst (λ (bs : List Bool). IsPassed bs names from to) d (subst (λ (ns : List ℕ). IsPassed known ns from to) e p)

-- a search has so many steps at most
pub few : (rows : List (List ℕ)) (seen : List Bool) (os : List Open) (order : List ℕ) → IsSearchedBy rows seen os order → length os + 2 * length order ≤ 2 * length rows
few rows seen os order s = let k = s.counted in let l = s.sized in let m = count_within seen in omega (arith, k, l, m)

pub nearer : (n path order popped more done : ℕ) → popped + 1 ≡ path → popped + 2 * order + 2 ≤ more + 2 * done → more + 2 * done ≤ 2 * n → 2 * n - (more + 2 * done) < 2 * n - (path + 2 * order)
nearer n path order popped more done e l m = omega (arith, e, l, m)
