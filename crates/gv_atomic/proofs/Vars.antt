-- Look-ups of names among variables.
use Rattle.std.proofs.Common.{◌≡◌, ℕ, List, [], ◌∷◌, ◌++◌, Bool, true, false, ◌&&◌, cond, not, Option, Some, None, option_map, is_some, refl, sym, ap, ◌∙◌}
use Rattle.std.specs.List.{find}
use Rattle.std.specs.Option.{option_or}
use Rattle.std.specs.Str.{bytes_eq}
use Rattle.std.proofs.lemmas.Slice.Eq.{bytes_eq-Decides}
use Rattle.std.proofs.lemmas.List.Folds.{find-append}
use Rattle.gv_terms.specs.declared.sort.Sort.{Sort}
use Rattle.gv_terms.specs.declared.var.Var.{Var}
use Rattle.gv_terms.specs.Sorts.{sort_eq}
use Rattle.gv_terms.specs.Values.{is_sort}
use Rattle.gv_terms.specs.Scopes.{sort_under, is_among}
use Rattle.gv_atomic.specs.Typed.{names_of, are_distinct}

pub flip : (n m : List ℕ) (b : Bool) → bytes_eq n m ≡ b → bytes_eq m n ≡ b
flip n m true e = (bytes_eq-Decides m n).1 (sym ((bytes_eq-Decides n m).0 e))
flip n m false e = other (bytes_eq m n) refl
  where
    other : (c : Bool) → bytes_eq m n ≡ c → c ≡ false
    other true f = let same : bytes_eq n m ≡ true = (bytes_eq-Decides n m).1 (sym ((bytes_eq-Decides m n).0 f)) in absurd cc
    other false f = refl

-- a name is borne where a look-up finds it
pub named : (vars : List Var) (n : List ℕ) → is_some (find (bytes_eq n) (names_of vars)) ≡ is_some (sort_under vars n)
named [] n = refl
named (v ∷ vars) n = step (bytes_eq n v.name) (named vars n)
  where
    step : (b : Bool) → is_some (find (bytes_eq n) (names_of vars)) ≡ is_some (sort_under vars n) → is_some (cond b (Some v.name) (find (bytes_eq n) (names_of vars))) ≡ is_some (option_map (λ w. w.sort) (cond b (Some v) (find (λ w. bytes_eq n w.name) vars)))
    step true h = refl
    step false h = h

-- among two lists of variables the first counts first
pub under_append : (xs ys : List Var) (n : List ℕ) → sort_under (xs ++ ys) n ≡ option_or (sort_under xs n) (sort_under ys n)
under_append [] ys n = refl
under_append (v ∷ xs) ys n = step (bytes_eq n v.name) (under_append xs ys n)
  where
    step : (b : Bool) → sort_under (xs ++ ys) n ≡ option_or (sort_under xs n) (sort_under ys n) → option_map (λ w. w.sort) (cond b (Some v) (find (λ w. bytes_eq n w.name) (xs ++ ys))) ≡ option_or (option_map (λ w. w.sort) (cond b (Some v) (find (λ w. bytes_eq n w.name) xs))) (sort_under ys n)
    step true h = refl
    step false h = h

-- no variable has a name that none bears
pub not_among : (vars : List Var) (n : List ℕ) (s : Sort) → is_some (find (bytes_eq n) (names_of vars)) ≡ false → is_among vars n s ≡ false
not_among [] n s e = refl
not_among (v ∷ vars) n s e = step (bytes_eq n v.name) refl e (not_among vars n s)
  where
    step : (b : Bool) → bytes_eq n v.name ≡ b → is_some (cond b (Some v.name) (find (bytes_eq n) (names_of vars))) ≡ false → (is_some (find (bytes_eq n) (names_of vars)) ≡ false → is_among vars n s ≡ false) → is_some (cond (bytes_eq v.name n && sort_eq v.sort s) (Some v) (find (λ w. bytes_eq w.name n && sort_eq w.sort s) vars)) ≡ false
    step true f g h = absurd cc
    step false f g h = ap (λ b. is_some (cond (b && sort_eq v.sort s) (Some v) (find (λ w. bytes_eq w.name n && sort_eq w.sort s) vars))) (flip n v.name false f) ∙ h g

two : (a b : Bool) → (a && b) ≡ true → (a ≡ true) × (b ≡ true)
two true b e = (refl, e)
two false b e = absurd cc

negated : (b : Bool) → not b ≡ true → b ≡ false
negated true e = absurd cc
negated false e = refl

-- among variables of distinct names the one with a name has its sort
pub among_under : (vars : List Var) (n : List ℕ) (s : Sort) → are_distinct bytes_eq (names_of vars) ≡ true → is_among vars n s ≡ is_sort s (sort_under vars n)
among_under [] n s d = refl
among_under (v ∷ vars) n s d = step (among_under vars n s) (bytes_eq n v.name) refl
  where
    parts : (is_some (find (bytes_eq v.name) (names_of vars)) ≡ false) × (are_distinct bytes_eq (names_of vars) ≡ true)
    parts = let p = two (not (is_some (find (bytes_eq v.name) (names_of vars)))) (are_distinct bytes_eq (names_of vars)) d in (negated (is_some (find (bytes_eq v.name) (names_of vars))) p.0, p.1)

    sorted : (b : Bool) → is_among vars n s ≡ false → is_some (cond b (Some v) (find (λ w. bytes_eq w.name n && sort_eq w.sort s) vars)) ≡ b
    sorted true h = refl
    sorted false h = h

    step : (are_distinct bytes_eq (names_of vars) ≡ true → is_among vars n s ≡ is_sort s (sort_under vars n)) → (b : Bool) → bytes_eq n v.name ≡ b → is_some (cond (bytes_eq v.name n && sort_eq v.sort s) (Some v) (find (λ w. bytes_eq w.name n && sort_eq w.sort s) vars)) ≡ is_sort s (option_map (λ w. w.sort) (cond b (Some v) (find (λ w. bytes_eq n w.name) vars)))
    step ih true f =
        let same : n ≡ v.name = (bytes_eq-Decides n v.name).0 f in
        let none : is_among vars n s ≡ false = not_among vars n s (ap (λ m. is_some (find (bytes_eq m) (names_of vars))) same ∙ parts.0) in
        ap (λ b. is_some (cond (b && sort_eq v.sort s) (Some v) (find (λ w. bytes_eq w.name n && sort_eq w.sort s) vars))) (flip n v.name true f) ∙ sorted (sort_eq v.sort s) none
    step ih false f =
        ap (λ b. is_some (cond (b && sort_eq v.sort s) (Some v) (find (λ w. bytes_eq w.name n && sort_eq w.sort s) vars))) (flip n v.name false f) ∙ ih parts.1

-- Variables behind variables, and before them.

first_found : (o p : Option Var) → is_some o ≡ true → is_some (option_or o p) ≡ true
first_found None p e = absurd cc
first_found (Some v) p e = refl

second_found : (o p : Option Var) → is_some p ≡ true → is_some (option_or o p) ≡ true
second_found None p e = e
second_found (Some v) p e = refl

pub among_left : (xs ys : List Var) (n : List ℕ) (s : Sort) → is_among xs n s ≡ true → is_among (xs ++ ys) n s ≡ true
among_left xs ys n s e =
    ap is_some (find-append (λ v. bytes_eq v.name n && sort_eq v.sort s) xs ys)
    ∙ first_found (find (λ v. bytes_eq v.name n && sort_eq v.sort s) xs) (find (λ v. bytes_eq v.name n && sort_eq v.sort s) ys) e

pub among_right : (xs ys : List Var) (n : List ℕ) (s : Sort) → is_among ys n s ≡ true → is_among (xs ++ ys) n s ≡ true
among_right xs ys n s e =
    ap is_some (find-append (λ v. bytes_eq v.name n && sort_eq v.sort s) xs ys)
    ∙ second_found (find (λ v. bytes_eq v.name n && sort_eq v.sort s) xs) (find (λ v. bytes_eq v.name n && sort_eq v.sort s) ys) e
