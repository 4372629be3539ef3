-- Constants that are made what they are, each behind those that it names.
use Rattle.std.proofs.Common.{◌≡◌, ℕ, suc, zero, ◌+◌, ◌⊎◌, inl, inr, ⊎_elim, ◌<◌, ◌≤◌, List, [], ◌∷◌, length, take, get_or, set, Option, Some, None, refl, sym, ap, subst, ◌∙◌, arith, length-set}
use Rattle.std.specs.Prelude.{slice_get, replicate}
use Rattle.std.proofs.lemmas.List.{take_all, length-replicate}
use Rattle.gv_operands.specs.declared.types.Class.{Class}
use Rattle.gv_cycles.specs.Leading.{IsIn, row, Leads}
use Rattle.gv_cycles.specs.Order.{IsBefore, IsOrder}
use Rattle.gv_gotypes.specs.Scopes.{Source, Package}
use Rattle.gv_gotypes.specs.Constants.{ConstantTree, named_by, named_of, settled_constant, rounds}
use Rattle.gv_gonamed.specs.Laws.{with_these, class_in}
use Rattle.gv_gonamed.proofs.Alike.{rests_on_named}
use Rattle.gv_gonamed.proofs.Nothing.{nothing_of_nothing}
use Rattle.gv_goconsts.specs.Constants.{made_of}
use Rattle.gv_goconsts.proofs.Lists.{class_past, class_none, class_set, class_other, same_classes, length_round, class_round, settled_none, in_next, in_before, in_there, IsOnCycle, next_on_cycle}

-- rows have what each constant names
pub record AreRows (s : Source) (p : Package) (cs : List ConstantTree) (rows : List (List ℕ)) : Type 0 where
  pub sized : length rows ≡ length cs
  pub named : (ks : List (Option Class)) (n : ℕ) → row rows n ≡ named_of (with_these s p ks) cs n

-- Those before a place of an order are what they are after so many rounds, and the others are nothing.
pub record AreSettled (s : Source) (p : Package) (cs : List ConstantTree) (order : List ℕ) (i : ℕ) (ks : List (Option Class)) : Type 0 where
  pub sized : length ks ≡ length cs
  pub done : (n k : ℕ) → IsIn n (take i order) → i ≤ k → class_in p ks n ≡ class_in p (rounds k s p cs) n
  pub rest : (n : ℕ) → IsIn n (take i order) ⊎ (class_in p ks n ≡ None)

pub none_settled : (s : Source) (p : Package) (cs : List ConstantTree) (order : List ℕ) (m : ℕ) → m ≡ length cs → AreSettled s p cs order 0 (replicate m None)
none_settled s p cs order m e = record {
  sized = length-replicate m None ∙ e;
  done = λ n k h l. absurd h;
  rest = λ n. inr (class_none p m n);
}

length_rounds : (s : Source) (p : Package) (cs : List ConstantTree) (k : ℕ) → length (rounds k s p cs) ≤ length cs
length_rounds s p cs zero = omega arith
length_rounds s p cs (suc k) = let q = length_round (with_these s p (rounds k s p cs)) cs in omega (arith, q)

-- ---- what is nothing

made_nothing : (s : Source) (p : Package) (ks : List (Option Class)) (o : Option ConstantTree) (m : ℕ) → IsIn m (elim o [ None ↦ [] | Some c ↦ named_by (with_these s p ks) c.expr ])
    → class_in p ks m ≡ None → made_of (with_these s p ks) o ≡ None
made_nothing s p ks None m h none = refl
made_nothing s p ks (Some c) m h none =
    ap (λ (k : Option Class). settled_constant c.is_word k) (nothing_of_nothing (with_these s p ks) c.expr m h none) ∙ settled_none c.is_word

-- a constant that names one that is nothing
names_nothing : (s : Source) (p : Package) (cs : List ConstantTree) (rows : List (List ℕ)) (ks : List (Option Class)) (n m : ℕ) → AreRows s p cs rows → IsIn m (row rows n)
    → class_in p ks m ≡ None → made_of (with_these s p ks) (slice_get cs n) ≡ None
names_nothing s p cs rows ks n m are h none = made_nothing s p ks (slice_get cs n) m (subst (λ (xs : List ℕ). IsIn m xs) (are.named ks n) h) none

-- what leads back to itself is nothing after any rounds
cycle_nothing : (s : Source) (p : Package) (cs : List ConstantTree) (rows : List (List ℕ)) (k n : ℕ) → AreRows s p cs rows → IsOnCycle rows n → class_in p (rounds k s p cs) n ≡ None
cycle_nothing s p cs rows zero n are on = refl
cycle_nothing s p cs rows (suc k) n are on =
    class_round p (with_these s p (rounds k s p cs)) cs n
    ∙ names_nothing s p cs rows (rounds k s p cs) n on.next are on.named
    (cycle_nothing s p cs rows k on.next are (next_on_cycle rows n on.next on.named on.back))

-- ---- what is the same

made_alike : (s : Source) (p : Package) (ks js : List (Option Class)) (o : Option ConstantTree)
    → ((m : ℕ) → IsIn m (elim o [ None ↦ [] | Some c ↦ named_by (with_these s p ks) c.expr ]) → class_in p ks m ≡ class_in p js m)
    → made_of (with_these s p ks) o ≡ made_of (with_these s p js) o
made_alike s p ks js None h = refl
made_alike s p ks js (Some c) h = ap (λ o. settled_constant c.is_word o.class) (rests_on_named s p ks js c.expr h)

names_alike : (s : Source) (p : Package) (cs : List ConstantTree) (rows : List (List ℕ)) (ks js : List (Option Class)) (n : ℕ) → AreRows s p cs rows
    → ((m : ℕ) → IsIn m (row rows n) → class_in p ks m ≡ class_in p js m) → made_of (with_these s p ks) (slice_get cs n) ≡ made_of (with_these s p js) (slice_get cs n)
names_alike s p cs rows ks js n are h = made_alike s p ks js (slice_get cs n) (λ m i. h m (subst (λ (xs : List ℕ). IsIn m xs) (sym (are.named ks n)) i))

-- ---- one more

-- all that are named come before or have no row, or one of them leads back
pub record LeadsBack (rows : List (List ℕ)) (names : List ℕ) (n : ℕ) : Type 0 where
  pub next : ℕ
  pub named : IsIn next names
  pub back : Leads rows next n

abbrev AreBefore : List (List ℕ) → List ℕ → List ℕ → Type 0
AreBefore rows before names = (m : ℕ) → IsIn m names → IsIn m before ⊎ (length rows ≤ m)

before_or_back : (rows : List (List ℕ)) (before : List ℕ) (n : ℕ) (names : List ℕ) → ((m : ℕ) → IsIn m names → IsBefore rows before n m) → AreBefore rows before names ⊎ LeadsBack rows names n
before_or_back rows before n [] h = inl (λ m k. absurd k)
before_or_back rows before n (x ∷ xs) h =
    let later = before_or_back rows before n xs (λ m k. h m (inr k)) in
    let with_first : IsIn x before ⊎ (length rows ≤ x) → AreBefore rows before (x ∷ xs) ⊎ LeadsBack rows (x ∷ xs) n = λ f. ⊎_elim
    (λ r. inl (λ m k. ⊎_elim (λ (e : x ≡ m). subst (λ (y : ℕ). IsIn y before ⊎ (length rows ≤ y)) e f) (λ l. r m l) k))
    (λ (b : LeadsBack rows xs n). inr (record { next = b.next; named = inr b.named; back = b.back })) later in
    ⊎_elim (λ k. with_first (inl k)) (λ k. ⊎_elim (λ l. inr (record { next = x; named = inl refl; back = l })) (λ l. with_first (inr l)) k) (h x (inl refl))

-- what is made of the next one is what it is after more rounds
next_made : (s : Source) (p : Package) (cs : List ConstantTree) (rows : List (List ℕ)) (order : List ℕ) (i d : ℕ) (ks : List (Option Class)) (k : ℕ)
    → AreRows s p cs rows → IsOrder rows order → i < length order → AreSettled s p cs order i ks → i ≤ k
    → made_of (with_these s p ks) (slice_get cs (get_or order i d)) ≡ made_of (with_these s p (rounds k s p cs)) (slice_get cs (get_or order i d))
next_made s p cs rows order i d ks k are is l settled below =
    let n = get_or order i d in ⊎_elim
    (λ before. names_alike s p cs rows ks (rounds k s p cs) n are (λ m h. ⊎_elim
    (λ there. settled.done m k there below)
    (λ past. class_past p ks m (let a = are.sized in let b = settled.sized in omega (arith, a, b, past))
    ∙ sym (class_past p (rounds k s p cs) m (let a = are.sized in let b = length_rounds s p cs k in omega (arith, a, b, past)))) (before m h)))
    (λ (back : LeadsBack rows (row rows n) n).
    let on : IsOnCycle rows back.next = next_on_cycle rows n back.next back.named back.back in
    names_nothing s p cs rows ks n back.next are back.named
    (⊎_elim (λ there. settled.done back.next i there (omega arith) ∙ cycle_nothing s p cs rows i back.next are on) (λ none. none) (settled.rest back.next))
    ∙ sym (names_nothing s p cs rows (rounds k s p cs) n back.next are back.named (cycle_nothing s p cs rows k back.next are on)))
    (before_or_back rows (take i order) n (row rows n) (λ m h. is.behind i d m l h))

pub record IsPast (i k : ℕ) : Type 0 where
  pub less : ℕ
  pub is : k ≡ suc less
  pub below : i ≤ less

past : (i k : ℕ) → i + 1 ≤ k → IsPast i k
past i zero l = absurd (omega (arith, l))
past i (suc k) l = record { less = k; is = refl; below = omega (arith, l) }

pub settled_more : (s : Source) (p : Package) (cs : List ConstantTree) (rows : List (List ℕ)) (order : List ℕ) (i d : ℕ) (ks : List (Option Class))
    → AreRows s p cs rows → IsOrder rows order → i < length order → AreSettled s p cs order i ks
    → AreSettled s p cs order (i + 1) (set ks (get_or order i d) (made_of (with_these s p ks) (slice_get cs (get_or order i d))))
settled_more s p cs rows order i d ks are is l settled =
    let n = get_or order i d in
    let made = made_of (with_these s p ks) (slice_get cs n) in
    let within : n < length ks = (let r = is.ranged i d l in let a = are.sized in let b = settled.sized in omega (arith, r, a, b)) in
    let own : (k : ℕ) → i + 1 ≤ k → class_in p (set ks n made) n ≡ class_in p (rounds k s p cs) n = λ k below.
    let q = past i k below in
    class_set p ks n made within
    ∙ (next_made s p cs rows order i d ks q.less are is l settled q.below
    ∙ (sym (class_round p (with_these s p (rounds q.less s p cs)) cs n)
    ∙ ap (λ (j : ℕ). class_in p (rounds j s p cs) n) (sym q.is))) in
    record {
      sized = length-set ks n made ∙ settled.sized;
      done = λ m k h below. ⊎_elim
          (λ (e : n ≡ m). subst (λ (x : ℕ). class_in p (set ks n made) x ≡ class_in p (rounds k s p cs) x) e (own k below))
          (λ (same : class_in p (set ks n made) m ≡ class_in p ks m). ⊎_elim
          (λ there. same ∙ settled.done m k there (omega (arith, below)))
          (λ (e : n ≡ m). subst (λ (x : ℕ). class_in p (set ks n made) x ≡ class_in p (rounds k s p cs) x) e (own k below))
          (in_next order i d m l h))
          (class_other p ks n m made);
      rest = λ m. ⊎_elim
          (λ (e : n ≡ m). inl (subst (λ (x : ℕ). IsIn x (take (i + 1) order)) e (in_there order i d l)))
          (λ (same : class_in p (set ks n made) m ≡ class_in p ks m). ⊎_elim
          (λ there. inl (in_before order i d m l there))
          (λ none. inr (same ∙ none)) (settled.rest m))
          (class_other p ks n m made);
    }

-- ---- all of them

length_all : (s : Source) (p : Package) (cs : List ConstantTree) (k : ℕ) → k ≡ length cs → length (rounds k s p cs) ≡ length cs
length_all s p cs zero e = e
length_all s p cs (suc k) e = length_round (with_these s p (rounds k s p cs)) cs

pub all_settled : (s : Source) (p : Package) (cs : List ConstantTree) (rows : List (List ℕ)) (order : List ℕ) (i : ℕ) (ks : List (Option Class))
    → AreRows s p cs rows → IsOrder rows order → length order ≤ i → AreSettled s p cs order i ks → i ≤ length cs → ks ≡ rounds (length cs) s p cs
all_settled s p cs rows order i ks are is l settled below = same_classes p ks (rounds (length cs) s p cs)
    (settled.sized ∙ sym (length_all s p cs (length cs) refl))
    (λ n m. settled.done n (length cs)
    (subst (λ (xs : List ℕ). IsIn n xs) (sym (take_all i order l)) (is.complete n (let a = are.sized in let b = settled.sized in omega (arith, m, a, b)))) below)
