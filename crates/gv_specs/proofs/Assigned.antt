-- Names that a body assigned before, and answers that hold whatever a call gives.
use Rattle.std.proofs.Common.{◌≡◌, ℕ, Bool, true, false, ◌||◌, cond, List, [], ◌∷◌, ◌++◌, Some, is_some, map, Result, Ok, Err, OnOk, refl, ap, ◌∙◌, sym, IfOk}
use Rattle.std.specs.List.{find}
use Rattle.std.specs.HashSet.{HashSet, contains}
use Rattle.std.specs.Str.{bytes_eq}
use Rattle.std.specs.declared.hash.FoldHasher.{FoldHasher}
use Rattle.std.specs.declared.hash.BuildHasherDefault.{BuildHasherDefault}
use Rattle.gv_specread.specs.declared.tree.AssignTree.{AssignTree}
use Rattle.gv_specs.specs.Bodies.{AreAssigned}
use Rattle.gv_specs.specs.Names.{name_in}
use Rattle.std.proofs.lemmas.Slice.Eq.{bytes_eq-Decides}
use Rattle.std.proofs.lemmas.Bool.Decides.{same_from_decides}

pub on_ok : {A E P Q : Type 0} (r : Result A E) → (P → Q) → OnOk r P → OnOk r Q
on_ok (Ok x) f h = f h
on_ok (Err e) f h = tt

pub on_any : {A E P : Type 0} (r : Result A E) → P → OnOk r P
on_any (Ok x) h = h
on_any (Err e) h = tt

found_last : (text n : List ℕ) (before : List AssignTree) (t : AssignTree)
    → is_some (find (bytes_eq n) (map (λ b. name_in text b.name) (before ++ t ∷ []))) ≡ (is_some (find (bytes_eq n) (map (λ b. name_in text b.name) before)) || bytes_eq n (name_in text t.name))
found_last text n [] t = last (bytes_eq n (name_in text t.name))
  where
    last : (b : Bool) → is_some (cond b (Some (name_in text t.name)) (find (bytes_eq n) [])) ≡ b
    last true = refl
    last false = refl
found_last text n (a ∷ before) t = step (bytes_eq n (name_in text a.name)) (found_last text n before t)
  where
    step : (b : Bool) → is_some (find (bytes_eq n) (map (λ b. name_in text b.name) (before ++ t ∷ []))) ≡ (is_some (find (bytes_eq n) (map (λ b. name_in text b.name) before)) || bytes_eq n (name_in text t.name))
        → is_some (cond b (Some (name_in text a.name)) (find (bytes_eq n) (map (λ b. name_in text b.name) (before ++ t ∷ [])))) ≡ (is_some (cond b (Some (name_in text a.name)) (find (bytes_eq n) (map (λ b. name_in text b.name) before))) || bytes_eq n (name_in text t.name))
    step true h = refl
    step false h = h

pub one_assigned : (text name : List ℕ) (before : List AssignTree) (t : AssignTree) (old new : HashSet (List ℕ) (BuildHasherDefault FoldHasher)) → name ≡ name_in text t.name → AreAssigned text before old
    → ((n : List ℕ) → contains bytes_eq new n ≡ (contains bytes_eq old n || bytes_eq n name)) → AreAssigned text (before ++ t ∷ []) new
one_assigned text name before t old new e was more n =
    more n ∙ ap (λ b. b || bytes_eq n name) (was n) ∙ ap (λ (m : List ℕ). is_some (find (bytes_eq n) (map (λ b. name_in text b.name) before)) || bytes_eq n m) e ∙ sym (found_last text n before t)

eq_turned : (a b : List ℕ) → bytes_eq a b ≡ bytes_eq b a
eq_turned a b = let d = bytes_eq-Decides b a in same_from_decides (bytes_eq a b) (bytes_eq b a) (bytes_eq-Decides a b) (λ e. sym (d.0 e), λ p. d.1 (sym p))

-- a name is in a set to which one was added
pub was_or_is : (n m : List ℕ) (old : Bool) → cond (bytes_eq n m) true old ≡ (old || bytes_eq m n)
was_or_is n m old = step (bytes_eq n m) old ∙ ap (λ b. old || b) (eq_turned n m)
  where
    step : (b o : Bool) → cond b true o ≡ (o || b)
    step true true = refl
    step true false = refl
    step false true = refl
    step false false = refl

pub if_ok : {A E : Type 0} (P Q : A → Type 0) (r : Result A E) → ((x : A) → P x → Q x) → IfOk r P → IfOk r Q
if_ok P Q (Ok x) f h = f x h
if_ok P Q (Err e) f h = tt

pub if_both : {A E : Type 0} (P Q R : A → Type 0) (r : Result A E) → ((x : A) → P x → Q x → R x) → IfOk r P → IfOk r Q → IfOk r R
if_both P Q R (Ok x) f h k = f x h k
if_both P Q R (Err e) f h k = tt
