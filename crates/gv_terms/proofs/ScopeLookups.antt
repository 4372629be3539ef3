-- Look-ups of names.
use Rattle.std.proofs.Common.{◌≡◌, ℕ, Bool, true, false, ◌&&◌, cond, List, [], ◌∷◌, Option, Some, None, option_map, is_some, is_none, refl, sym, ap, ◌∙◌}
use Rattle.std.specs.List.{find}
use Rattle.std.specs.Map.{lookup}
use Rattle.std.specs.Str.{bytes_eq}
use Rattle.std.proofs.lemmas.Slice.Eq.{bytes_eq-Decides}
use Rattle.gv_terms.specs.declared.sort.Sort.{Sort}
use Rattle.gv_terms.specs.declared.sort.Sort.TheVariants as sort
use Rattle.gv_terms.specs.declared.var.Var.{Var}
use Rattle.gv_terms.specs.Sorts.{sort_eq}
use Rattle.gv_terms.specs.Scopes.{vars_of, var_of, sort_under, is_among}

-- a look-up among entries is one among their variables
pub looked_up : (n : List ℕ) (es : List (List ℕ × Sort)) → lookup (bytes_eq n) es ≡ sort_under (vars_of es) n
looked_up n [] = refl
looked_up n (e ∷ es) = step (bytes_eq n e.0) (looked_up n es)
  where
    step : (b : Bool) → lookup (bytes_eq n) es ≡ sort_under (vars_of es) n → cond b (Some e.1) (lookup (bytes_eq n) es) ≡ option_map (λ v. v.sort) (cond b (Some (var_of e)) (find (λ v. bytes_eq n v.name) (vars_of es)))
    step true h = refl
    step false h = h

same_sort : (s : Sort) → sort_eq s s ≡ true
same_sort sort.Word = refl
same_sort sort.Bool = refl
same_sort sort.Bytes = refl
same_sort sort.Words = refl
same_sort sort.Refs = refl
same_sort sort.Blocks = refl
same_sort sort.MapWW = refl
same_sort sort.MapWB = refl
same_sort sort.Ref = refl
same_sort sort.SliceS = refl
same_sort sort.Call = refl
same_sort sort.Name = refl

flipped : (n m : List ℕ) → bytes_eq n m ≡ true → bytes_eq m n ≡ true
flipped n m e = (bytes_eq-Decides m n).1 (sym ((bytes_eq-Decides n m).0 e))

-- the variable with this name has this sort
pub under_among : (vars : List Var) (n : List ℕ) (s : Sort) → sort_under vars n ≡ Some s → is_among vars n s ≡ true
under_among [] n s e = absurd cc
under_among (v ∷ vars) n s e = step (bytes_eq n v.name) refl e (under_among vars n s)
  where
    fits : (a b : Bool) → a ≡ true → b ≡ true → is_some (cond (a && b) (Some v) (find (λ w. bytes_eq w.name n && sort_eq w.sort s) vars)) ≡ true
    fits a b p q = rw (p, q) refl

    rest : (a : Bool) → is_among vars n s ≡ true → is_some (cond a (Some v) (find (λ w. bytes_eq w.name n && sort_eq w.sort s) vars)) ≡ true
    rest true h = refl
    rest false h = h

    step : (b : Bool) → bytes_eq n v.name ≡ b → option_map (λ w. w.sort) (cond b (Some v) (find (λ w. bytes_eq n w.name) vars)) ≡ Some s → (sort_under vars n ≡ Some s → is_among vars n s ≡ true) → is_among (v ∷ vars) n s ≡ true
    step true f g h = fits (bytes_eq v.name n) (sort_eq v.sort s) (flipped n v.name f) (let same : v.sort ≡ s = cc in ap (λ r. sort_eq r s) same ∙ same_sort s)
    step false f g h = rest (bytes_eq v.name n && sort_eq v.sort s) (h g)

-- whether a name is taken
taken : (o : Option Sort) → is_some o ≡ true → false ≡ is_none o
taken None e = absurd cc
taken (Some s) e = refl

free : (o : Option Sort) → is_some o ≡ false → (true ≡ is_none o) × (o ≡ None)
free None e = (refl, refl)
free (Some s) e = absurd cc

pub is_taken : (n : List ℕ) (es : List (List ℕ × Sort)) (vars : List Var) → vars_of es ≡ vars → is_some (lookup (bytes_eq n) es) ≡ true → false ≡ is_none (sort_under vars n)
is_taken n es vars is e = taken (sort_under vars n) (ap is_some (sym (looked_up n es ∙ ap (λ vs. sort_under vs n) is)) ∙ e)

pub is_free : (n : List ℕ) (es : List (List ℕ × Sort)) (vars : List Var) → vars_of es ≡ vars → is_some (lookup (bytes_eq n) es) ≡ false → true ≡ is_none (sort_under vars n)
is_free n es vars is e = (free (sort_under vars n) (ap is_some (sym (looked_up n es ∙ ap (λ vs. sort_under vs n) is)) ∙ e)).0

pub none_there : (o : Option Sort) → is_some o ≡ false → o ≡ None
none_there o e = (free o e).1
