-- Faults that are met one after another.
use Rattle.std.proofs.Common.{◌≡◌, ℕ, ◌+◌, ◌<◌, ◌≤◌, List, [], ◌∷◌, ◌++◌, length, take, get_or, Result, Ok, Err, OnOk, Option, refl, sym, ap, ◌∙◌, append_assoc, append-nil}
use Rattle.std.proofs.lemmas.List.{take_more, take_all, get_or_default}
use Rattle.gv_typing.specs.declared.term_fault.Fault.{Fault}
use Rattle.gv_scriptnames.specs.Found.{Found, in_each, in_all}
use Rattle.gv_scriptfaults.specs.Least.{with_one, after}

pub after_both : (first : Option Fault) (fs gs : Found) → after first (fs ++ gs) ≡ after (after first fs) gs
after_both first [] gs = refl
after_both first (f ∷ fs) gs = after_both (with_one first f.0 f.1) fs gs

-- one more item of a list
pub taken : {T : Type 0} (xs : List T) (i : ℕ) (x : T) → i < length xs → x ≡ get_or xs i x → take (i + 1) xs ≡ take i xs ++ x ∷ []
taken xs i x l e = take_more xs i x l ∙ ap (λ y. take i xs ++ y ∷ []) (sym e)

pub each_last : {T : Type 0} (of : List T → T → Found) (before xs : List T) (y : T) → in_each of before (xs ++ y ∷ []) ≡ in_each of before xs ++ of (before ++ xs) y
each_last of before [] y = append-nil (of before y) ∙ ap (λ b. of b y) (sym (append-nil before))
each_last of before (x ∷ xs) y =
    ap (λ fs. of before x ++ fs) (each_last of (before ++ x ∷ []) xs y)
    ∙ sym (append_assoc (of before x) (in_each of (before ++ x ∷ []) xs) (of ((before ++ x ∷ []) ++ xs) y))
    ∙ ap (λ b. (of before x ++ in_each of (before ++ x ∷ []) xs) ++ of b y) (append_assoc before (x ∷ []) xs)

pub all_last : {T : Type 0} (of : T → Found) (xs : List T) (y : T) → in_all of (xs ++ y ∷ []) ≡ in_all of xs ++ of y
all_last of [] y = append-nil (of y)
all_last of (x ∷ xs) y = ap (λ fs. of x ++ fs) (all_last of xs y) ∙ sym (append_assoc (of x) (in_all of xs) (of y))

pub each_noted : {T : Type 0} (of : List T → T → Found) (xs : List T) (i : ℕ) (x : T) (a b c : Option Fault) → i < length xs → x ≡ get_or xs i x
    → b ≡ after a (in_each of [] (take i xs)) → c ≡ after b (of (take i xs) x) → c ≡ after a (in_each of [] (take (i + 1) xs))
each_noted of xs i x a b c l e p q =
    q ∙ ap (λ f. after f (of (take i xs) x)) p ∙ sym (after_both a (in_each of [] (take i xs)) (of (take i xs) x))
    ∙ ap (after a) (sym (ap (in_each of []) (taken xs i x l e) ∙ each_last of [] (take i xs) x))

pub all_noted : {T : Type 0} (of : T → Found) (xs : List T) (i : ℕ) (x : T) (a b c : Option Fault) → i < length xs → x ≡ get_or xs i x
    → b ≡ after a (in_all of (take i xs)) → c ≡ after b (of x) → c ≡ after a (in_all of (take (i + 1) xs))
all_noted of xs i x a b c l e p q =
    q ∙ ap (λ f. after f (of x)) p ∙ sym (after_both a (in_all of (take i xs)) (of x))
    ∙ ap (after a) (sym (ap (in_all of) (taken xs i x l e) ∙ all_last of (take i xs) x))

-- all of them
pub each_through : {T : Type 0} (of : List T → T → Found) (xs : List T) (i : ℕ) (a b : Option Fault) → length xs ≤ i
    → b ≡ after a (in_each of [] (take i xs)) → b ≡ after a (in_each of [] xs)
each_through of xs i a b l p = p ∙ ap (λ ys. after a (in_each of [] ys)) (take_all i xs l)

pub all_through : {T : Type 0} (of : T → Found) (xs : List T) (i : ℕ) (a b : Option Fault) → length xs ≤ i
    → b ≡ after a (in_all of (take i xs)) → b ≡ after a (in_all of xs)
all_through of xs i a b l p = p ∙ ap (λ ys. after a (in_all of ys)) (take_all i xs l)

-- the same where an item is what is read at a place
pub each_read : {T : Type 0} (of : List T → T → Found) (xs : List T) (i : ℕ) (d : T) (a b c : Option Fault) → i < length xs
    → b ≡ after a (in_each of [] (take i xs)) → c ≡ after b (of (take i xs) (get_or xs i d)) → c ≡ after a (in_each of [] (take (i + 1) xs))
each_read of xs i d a b c l p q = each_noted of xs i (get_or xs i d) a b c l (get_or_default xs i d (get_or xs i d) l) p q

pub all_read : {T : Type 0} (of : T → Found) (xs : List T) (i : ℕ) (d : T) (a b c : Option Fault) → i < length xs
    → b ≡ after a (in_all of (take i xs)) → c ≡ after b (of (get_or xs i d)) → c ≡ after a (in_all of (take (i + 1) xs))
all_read of xs i d a b c l p q = all_noted of xs i (get_or xs i d) a b c l (get_or_default xs i d (get_or xs i d) l) p q

-- one thing after another
pub both_noted : (fs gs : Found) (a b c : Option Fault) → b ≡ after a fs → c ≡ after b gs → c ≡ after a (fs ++ gs)
both_noted fs gs a b c p q = q ∙ ap (λ f. after f gs) p ∙ sym (after_both a fs gs)

pub on_ok : {A E P Q : Type 0} (r : Result A E) → (P → Q) → OnOk r P → OnOk r Q
on_ok (Ok x) f h = f h
on_ok (Err e) f h = tt

-- four things, and then more
pub four_and_more : (a : Option Fault) (fs gs hs is more : Found) → after (after a (fs ++ (gs ++ (hs ++ is)))) more ≡ after a (fs ++ (gs ++ (hs ++ (is ++ more))))
four_and_more a fs gs hs is more =
    sym (after_both a (fs ++ (gs ++ (hs ++ is))) more)
    ∙ ap (after a) (append_assoc fs (gs ++ (hs ++ is)) more ∙ ap (λ xs. fs ++ xs) (append_assoc gs (hs ++ is) more ∙ ap (λ xs. gs ++ xs) (append_assoc hs is more)))
