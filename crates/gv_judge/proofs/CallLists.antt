-- The calls in the table as lists: one more, one less, and in ascending order all that the search adds.
use Rattle.std.proofs.Common.{◌≡◌, ℕ, ◌+◌, ◌<◌, ◌≤◌, zero, suc, Bool, true, false, cond, eqb, eqb-true, eq-eqb, nat_lt, List, [], ◌∷◌, ◌++◌, Some, None, refl, sym, ap, subst, ◌∙◌, arith}
use Rattle.std.specs.Prelude.{slice_get}
use Rattle.std.proofs.lemmas.Bool.Decides.{nat_tests}
use Rattle.gv_terms.specs.declared.value.Value.{Value}
use Rattle.gv_spec.specs.Entry as entry
use Rattle.gv_spec.specs.Entry.{Entry}
use Rattle.gv_judge.specs.declared.calls.Waiting.{Waiting}
use Rattle.gv_judge.specs.declared.calls.Kept.{Kept}
use Rattle.gv_judge.specs.Calls.{waiting_under, kept_under, put_in, taken_out, kept_without, AreCalls, numbers_called}

differs : (n m : ℕ) → eqb n m ≡ false → n ≡ m → ⊥
differs n m e q = (let same = eq-eqb n m q in let clash = sym e ∙ same in cc)

-- a test of numbers, by its cases
pub by_test : (n m : ℕ) (P : Bool → Type 0) → (n ≡ m → P true) → ((n ≡ m → ⊥) → P false) → P (eqb n m)
by_test n m P alike apart = go (eqb n m) refl
  where
    go : (b : Bool) → eqb n m ≡ b → P b
    go true e = alike (eqb-true n m e)
    go false e = apart (differs n m e)

pub same_test : (n m : ℕ) → n ≡ m → eqb n m ≡ true
same_test n m e = eq-eqb n m e

pub other_test : (n m : ℕ) → (n ≡ m → ⊥) → eqb n m ≡ false
other_test n m h = by_test n m (λ b. b ≡ false) (λ e. absurd (h e)) (λ _. refl)

-- ---- one more call that waits

none_head : (c : Waiting) (calls : List Waiting) (n : ℕ) → waiting_under (c ∷ calls) n ≡ None → (n ≡ c.number → ⊥) × (waiting_under calls n ≡ None)
none_head c calls n h = by_test n c.number (λ b. cond b (Some (c.op, c.args.now)) (waiting_under calls n) ≡ None → (n ≡ c.number → ⊥) × (waiting_under calls n ≡ None))
    (λ e k. absurd (let clash = k in cc)) (λ d k. (d, k)) h

pub put_under : (new : Waiting) (calls : List Waiting) (k : ℕ) → waiting_under calls new.number ≡ None
    → waiting_under (put_in new calls) k ≡ cond (eqb k new.number) (Some (new.op, new.args.now)) (waiting_under calls k)
put_under new [] k none = refl
put_under new (c ∷ calls) k none = go (nat_lt new.number c.number) (λ h. put_under new calls k h)
  where
    swap : (k ≡ new.number → k ≡ c.number → ⊥) → cond (eqb k c.number) (Some (c.op, c.args.now)) (cond (eqb k new.number) (Some (new.op, new.args.now)) (waiting_under calls k))
        ≡ cond (eqb k new.number) (Some (new.op, new.args.now)) (cond (eqb k c.number) (Some (c.op, c.args.now)) (waiting_under calls k))
    swap apart = by_test k new.number
        (λ b. cond (eqb k c.number) (Some (c.op, c.args.now)) (cond b (Some (new.op, new.args.now)) (waiting_under calls k)) ≡ cond b (Some (new.op, new.args.now)) (cond (eqb k c.number) (Some (c.op, c.args.now)) (waiting_under calls k)))
        (λ e. ap (λ b. cond b (Some (c.op, c.args.now)) (Some (new.op, new.args.now))) (other_test k c.number (apart e)))
        (λ d. refl)

    go : (b : Bool) → (waiting_under calls new.number ≡ None → waiting_under (put_in new calls) k ≡ cond (eqb k new.number) (Some (new.op, new.args.now)) (waiting_under calls k))
        → waiting_under (cond b (new ∷ c ∷ calls) (c ∷ put_in new calls)) k ≡ cond (eqb k new.number) (Some (new.op, new.args.now)) (waiting_under (c ∷ calls) k)
    go true later = refl
    go false later =
        let head = none_head c calls new.number none in
        ap (λ o. cond (eqb k c.number) (Some (c.op, c.args.now)) o) (later head.1) ∙ swap (λ e f. head.0 (sym e ∙ f))

pub put_calls : (ops low : ℕ) (new : Waiting) (calls : List Waiting) → AreCalls ops low calls → low ≤ new.number → new.op < ops → waiting_under calls new.number ≡ None
    → AreCalls ops low (put_in new calls)
put_calls ops low new [] all le op none = (le, op, tt)
put_calls ops low new (c ∷ calls) all le op none = go (nat_lt new.number c.number) refl (λ ge h. put_calls ops (c.number + 1) new calls all.2 ge op h)
  where
    go : (b : Bool) → nat_lt new.number c.number ≡ b → (c.number + 1 ≤ new.number → waiting_under calls new.number ≡ None → AreCalls ops (c.number + 1) (put_in new calls))
        → AreCalls ops low (cond b (new ∷ c ∷ calls) (c ∷ put_in new calls))
    go true e later = (le, op, ((let lt : new.number < c.number = grind (arith, nat_tests) in omega (arith, lt)), all.1, all.2))
    go false e later =
        let head = none_head c calls new.number none in
        let ge : c.number ≤ new.number = grind (arith, nat_tests) in
        let apart = head.0 in
        (all.0, all.1, later (let differ : c.number ≡ new.number → ⊥ = λ q. apart (sym q) in omega (arith, ge, differ)) head.1)

-- ---- one less

pub taken_under : (n : ℕ) (calls : List Waiting) (k : ℕ) → waiting_under (taken_out n calls) k ≡ cond (eqb k n) None (waiting_under calls k)
taken_under n [] k = by_test k n (λ b. waiting_under [] k ≡ cond b None (waiting_under [] k)) (λ _. refl) (λ _. refl)
taken_under n (c ∷ calls) k = by_test n c.number
    (λ b. waiting_under (cond b (taken_out n calls) (c ∷ taken_out n calls)) k ≡ cond (eqb k n) None (cond (eqb k c.number) (Some (c.op, c.args.now)) (waiting_under calls k)))
    (λ e. taken_under n calls k ∙ by_test k n (λ b. cond b None (waiting_under calls k) ≡ cond b None (cond (eqb k c.number) (Some (c.op, c.args.now)) (waiting_under calls k)))
    (λ _. refl) (λ d. ap (λ b. cond b (Some (c.op, c.args.now)) (waiting_under calls k)) (sym (other_test k c.number (λ f. d (f ∙ sym e))))))
    (λ d. ap (λ o. cond (eqb k c.number) (Some (c.op, c.args.now)) o) (taken_under n calls k)
    ∙ by_test k n (λ b. cond (eqb k c.number) (Some (c.op, c.args.now)) (cond b None (waiting_under calls k)) ≡ cond b None (cond (eqb k c.number) (Some (c.op, c.args.now)) (waiting_under calls k)))
    (λ e. ap (λ b. cond b (Some (c.op, c.args.now)) None) (other_test k c.number (λ f. d (sym e ∙ f)))) (λ _. refl))

calls_weaker : (ops low high : ℕ) (calls : List Waiting) → low ≤ high → AreCalls ops high calls → AreCalls ops low calls
calls_weaker ops low high [] le all = tt
calls_weaker ops low high (c ∷ calls) le all = ((let ge = all.0 in omega (arith, le, ge)), all.1, all.2)

pub taken_calls : (ops low n : ℕ) (calls : List Waiting) → AreCalls ops low calls → AreCalls ops low (taken_out n calls)
taken_calls ops low n [] all = tt
taken_calls ops low n (c ∷ calls) all = by_test n c.number (λ b. AreCalls ops low (cond b (taken_out n calls) (c ∷ taken_out n calls)))
    (λ e. calls_weaker ops low (c.number + 1) (taken_out n calls) (let ge = all.0 in omega (arith, ge)) (taken_calls ops (c.number + 1) n calls all.2))
    (λ d. (all.0, all.1, taken_calls ops (c.number + 1) n calls all.2))

-- ---- the call at a place

-- numbers below the first one are not there
pub none_under : (ops low : ℕ) (calls : List Waiting) (k : ℕ) → AreCalls ops low calls → k < low → waiting_under calls k ≡ None
none_under ops low [] k all lt = refl
none_under ops low (c ∷ calls) k all lt =
    ap (λ b. cond b (Some (c.op, c.args.now)) (waiting_under calls k)) (other_test k c.number (λ e. (let ge = all.0 in omega (arith, e, ge, lt))))
    ∙ none_under ops (c.number + 1) calls k all.2 (let ge = all.0 in omega (arith, ge, lt))

pub above : (ops low : ℕ) (calls : List Waiting) (k op : ℕ) (args : List Value) → AreCalls ops low calls → waiting_under calls k ≡ Some (op, args) → low ≤ k
above ops low [] k op args all e = absurd (let clash = e in cc)
above ops low (c ∷ calls) k op args all e = by_test k c.number (λ b. cond b (Some (c.op, c.args.now)) (waiting_under calls k) ≡ Some (op, args) → low ≤ k)
    (λ q _. (let ge = all.0 in omega (arith, ge, q)))
    (λ _ f. (let rest = above ops (c.number + 1) calls k op args all.2 f in let ge = all.0 in omega (arith, rest, ge))) e

pub call_at : (ops low : ℕ) (calls : List Waiting) (i : ℕ) (c : Waiting) → AreCalls ops low calls → slice_get calls i ≡ Some c
    → (waiting_under calls c.number ≡ Some (c.op, c.args.now)) × (c.op < ops) × (low ≤ c.number)
call_at ops low [] zero c all e = absurd (let clash = e in cc)
call_at ops low [] (suc i) c all e = absurd (let clash = e in cc)
call_at ops low (d ∷ calls) zero c all e =
    let same : d ≡ c = cc in
    subst (λ x. (waiting_under (d ∷ calls) x.number ≡ Some (x.op, x.args.now)) × (x.op < ops) × (low ≤ x.number)) same
    (ap (λ b. cond b (Some (d.op, d.args.now)) (waiting_under calls d.number)) (same_test d.number d.number refl), all.1, all.0)
call_at ops low (d ∷ calls) (suc i) c all e =
    let rest = call_at ops (d.number + 1) calls i c all.2 e in
    let high = rest.2 in
    let ge = all.0 in
    (ap (λ b. cond b (Some (d.op, d.args.now)) (waiting_under calls c.number)) (other_test c.number d.number (λ q. omega (arith, q, high))) ∙ rest.0, rest.1, omega (arith, high, ge))

-- ---- calls that have acted

pub kept_last : (calls : List Kept) (x : Kept) (k : ℕ) → kept_under calls x.number ≡ None
    → kept_under (calls ++ x ∷ []) k ≡ cond (eqb k x.number) (Some x.reply) (kept_under calls k)
kept_last [] x k none = refl
kept_last (c ∷ calls) x k none =
    by_test x.number c.number (λ b. cond b (Some c.reply) (kept_under calls x.number) ≡ None
    → cond (eqb k c.number) (Some c.reply) (kept_under (calls ++ x ∷ []) k) ≡ cond (eqb k x.number) (Some x.reply) (cond (eqb k c.number) (Some c.reply) (kept_under calls k)))
    (λ e h. absurd (let clash = h in cc))
    (λ d h. ap (λ o. cond (eqb k c.number) (Some c.reply) o) (kept_last calls x k h)
    ∙ by_test k x.number (λ b. cond (eqb k c.number) (Some c.reply) (cond b (Some x.reply) (kept_under calls k)) ≡ cond b (Some x.reply) (cond (eqb k c.number) (Some c.reply) (kept_under calls k)))
    (λ e. ap (λ b. cond b (Some c.reply) (Some x.reply)) (other_test k c.number (λ f. d (sym e ∙ f)))) (λ _. refl))
    none

pub without_under : (n : ℕ) (calls : List Kept) (k : ℕ) → kept_under (kept_without n calls) k ≡ cond (eqb k n) None (kept_under calls k)
without_under n [] k = by_test k n (λ b. kept_under [] k ≡ cond b None (kept_under [] k)) (λ _. refl) (λ _. refl)
without_under n (c ∷ calls) k = by_test n c.number
    (λ b. kept_under (cond b (kept_without n calls) (c ∷ kept_without n calls)) k ≡ cond (eqb k n) None (cond (eqb k c.number) (Some c.reply) (kept_under calls k)))
    (λ e. without_under n calls k ∙ by_test k n (λ b. cond b None (kept_under calls k) ≡ cond b None (cond (eqb k c.number) (Some c.reply) (kept_under calls k)))
    (λ _. refl) (λ d. ap (λ b. cond b (Some c.reply) (kept_under calls k)) (sym (other_test k c.number (λ f. d (f ∙ sym e))))))
    (λ d. ap (λ o. cond (eqb k c.number) (Some c.reply) o) (without_under n calls k)
    ∙ by_test k n (λ b. cond (eqb k c.number) (Some c.reply) (cond b None (kept_under calls k)) ≡ cond b None (cond (eqb k c.number) (Some c.reply) (kept_under calls k)))
    (λ e. ap (λ b. cond b (Some c.reply) None) (other_test k c.number (λ f. d (sym e ∙ f)))) (λ _. refl))

-- ---- the numbers of calls

pub numbers_append : {V : Type 0} (es fs : List (Entry V)) → numbers_called (es ++ fs) ≡ numbers_called es ++ numbers_called fs
numbers_append [] fs = refl
numbers_append (entry.Call n op args ∷ es) fs = ap (λ l. n ∷ l) (numbers_append es fs)
numbers_append (entry.Answer n reply ∷ es) fs = numbers_append es fs
numbers_append (entry.Crash ∷ es) fs = numbers_append es fs
numbers_append (entry.Boot ∷ es) fs = numbers_append es fs
