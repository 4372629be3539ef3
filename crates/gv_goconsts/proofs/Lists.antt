-- What constants are by their numbers, and rows.
use Rattle.std.proofs.Common.{◌≡◌, ℕ, suc, zero, ◌+◌, ◌⊎◌, inl, inr, ⊎_elim, ◌<◌, ◌≤◌, Bool, true, false, List, [], ◌∷◌, ◌++◌, length, take, get_or, set, Option, None, refl, sym, ap, subst, arith}
use Rattle.std.specs.Prelude.{slice_get, replicate}
use Rattle.std.proofs.lemmas.List.{take_more}
use Rattle.gv_operands.specs.declared.types.Class.{Class}
use Rattle.gv_cycles.specs.Leading.{IsIn, row, LeadsIn, Leads}
use Rattle.gv_gotypes.specs.Scopes.{Package, Env}
use Rattle.gv_gotypes.specs.Constants.{ConstantTree, named_of, settled_constant, round}
use Rattle.gv_gonamed.specs.Laws.{class_in}
use Rattle.gv_goconsts.specs.Constants.{names_of, made_of}

pub class_is : (p : Package) (ks : List (Option Class)) (n : ℕ) → class_in p ks n ≡ get_or ks n None
class_is p [] n = refl
class_is p (k ∷ ks) zero = refl
class_is p (k ∷ ks) (suc n) = class_is p ks n

pub class_past : (p : Package) (ks : List (Option Class)) (n : ℕ) → length ks ≤ n → class_in p ks n ≡ None
class_past p [] n l = refl
class_past p (k ∷ ks) zero l = absurd (omega (arith, l))
class_past p (k ∷ ks) (suc n) l = class_past p ks n (omega (arith, l))

pub class_none : (p : Package) (m n : ℕ) → class_in p (replicate m None) n ≡ None
class_none p zero n = refl
class_none p (suc m) zero = refl
class_none p (suc m) (suc n) = class_none p m n

pub class_set : (p : Package) (ks : List (Option Class)) (n : ℕ) (k : Option Class) → n < length ks → class_in p (set ks n k) n ≡ k
class_set p [] n k l = absurd (omega (arith, l))
class_set p (x ∷ ks) zero k l = refl
class_set p (x ∷ ks) (suc n) k l = class_set p ks n k (omega (arith, l))

-- another one is what it was
pub class_other : (p : Package) (ks : List (Option Class)) (n m : ℕ) (k : Option Class) → (n ≡ m) ⊎ (class_in p (set ks n k) m ≡ class_in p ks m)
class_other p [] n m k = inr refl
class_other p (x ∷ ks) zero zero k = inl refl
class_other p (x ∷ ks) zero (suc m) k = inr refl
class_other p (x ∷ ks) (suc n) zero k = inr refl
class_other p (x ∷ ks) (suc n) (suc m) k = ⊎_elim (λ (e : n ≡ m). inl (ap suc e)) (λ h. inr h) (class_other p ks n m k)

pub same_classes : (p : Package) (ks js : List (Option Class)) → length ks ≡ length js → ((n : ℕ) → n < length ks → class_in p ks n ≡ class_in p js n) → ks ≡ js
same_classes p [] [] e h = refl
same_classes p [] (j ∷ js) e h = absurd (omega (arith, e))
same_classes p (k ∷ ks) [] e h = absurd (omega (arith, e))
same_classes p (k ∷ ks) (j ∷ js) e h =
    let first : k ≡ j = h 0 (omega arith) in
    let rest : ks ≡ js = same_classes p ks js (omega (arith, e)) (λ n l. h (suc n) (omega (arith, l))) in cc

pub length_round : (env : Env) (cs : List ConstantTree) → length (round env cs) ≡ length cs
length_round env [] = refl
length_round env (c ∷ cs) = ap suc (length_round env cs)

pub class_round : (p : Package) (env : Env) (cs : List ConstantTree) (n : ℕ) → class_in p (round env cs) n ≡ made_of env (slice_get cs n)
class_round p env [] n = refl
class_round p env (c ∷ cs) zero = refl
class_round p env (c ∷ cs) (suc n) = class_round p env cs n

pub settled_none : (b : Bool) → settled_constant b None ≡ None
settled_none true = refl
settled_none false = refl

-- ---- rows

pub length_names : (env : Env) (cs : List ConstantTree) → length (names_of env cs) ≡ length cs
length_names env [] = refl
length_names env (c ∷ cs) = ap suc (length_names env cs)

pub row_names : (env : Env) (cs : List ConstantTree) (n : ℕ) → row (names_of env cs) n ≡ named_of env cs n
row_names env [] n = refl
row_names env (c ∷ cs) zero = refl
row_names env (c ∷ cs) (suc n) = row_names env cs n

in_push : (xs : List ℕ) (x n : ℕ) → IsIn n (xs ++ x ∷ []) → IsIn n xs ⊎ (x ≡ n)
in_push [] x n (inl e) = inr e
in_push [] x n (inr h) = absurd h
in_push (y ∷ ys) x n (inl e) = inl (inl e)
in_push (y ∷ ys) x n (inr h) = ⊎_elim (λ k. inl (inr k)) (λ (e : x ≡ n). inr e) (in_push ys x n h)

in_left : (xs : List ℕ) (x n : ℕ) → IsIn n xs → IsIn n (xs ++ x ∷ [])
in_left [] x n h = absurd h
in_left (y ∷ ys) x n (inl e) = inl e
in_left (y ∷ ys) x n (inr h) = inr (in_left ys x n h)

in_last : (xs : List ℕ) (x : ℕ) → IsIn x (xs ++ x ∷ [])
in_last [] x = inl refl
in_last (y ∷ ys) x = inr (in_last ys x)

pub in_next : (order : List ℕ) (i d n : ℕ) → i < length order → IsIn n (take (i + 1) order) → IsIn n (take i order) ⊎ (get_or order i d ≡ n)
in_next order i d n l h = in_push (take i order) (get_or order i d) n (subst (λ (xs : List ℕ). IsIn n xs) (take_more order i d l) h)

pub in_before : (order : List ℕ) (i d n : ℕ) → i < length order → IsIn n (take i order) → IsIn n (take (i + 1) order)
in_before order i d n l h = subst (λ (xs : List ℕ). IsIn n xs) (sym (take_more order i d l)) (in_left (take i order) (get_or order i d) n h)

pub in_there : (order : List ℕ) (i d : ℕ) → i < length order → IsIn (get_or order i d) (take (i + 1) order)
in_there order i d l = subst (λ (xs : List ℕ). IsIn (get_or order i d) xs) (sym (take_more order i d l)) (in_last (take i order) (get_or order i d))

-- ---- where numbers lead

-- a number names one that leads to it
pub record IsOnCycle (rows : List (List ℕ)) (n : ℕ) : Type 0 where
  pub next : ℕ
  pub named : IsIn next (row rows n)
  pub back : Leads rows next n

leads_then : (rows : List (List ℕ)) (steps a b c : ℕ) → LeadsIn steps rows a b → IsIn c (row rows b) → LeadsIn (suc steps) rows a c
leads_then rows zero a b c e h = (c, (subst (λ (x : ℕ). IsIn c (row rows x)) (sym e) h, refl))
leads_then rows (suc k) a b c p h = (p.0, (p.1.0, leads_then rows k p.0 b c p.1.1 h))

around_from : (rows : List (List ℕ)) (steps n m : ℕ) → LeadsIn steps rows m n → IsIn m (row rows n) → IsOnCycle rows m
around_from rows zero n m e h = record { next = m; named = subst (λ (x : ℕ). IsIn m (row rows x)) (sym e) h; back = record { steps = 0; path = refl } }
around_from rows (suc k) n m p h = record { next = p.0; named = p.1.0; back = record { steps = suc k; path = leads_then rows k p.0 n m p.1.1 h } }

-- so does the one that it names
pub next_on_cycle : (rows : List (List ℕ)) (n m : ℕ) → IsIn m (row rows n) → Leads rows m n → IsOnCycle rows m
next_on_cycle rows n m h l = around_from rows l.steps n m l.path h
