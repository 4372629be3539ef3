-- Tables to which names are added.
use Rattle.std.proofs.Common.{◌≡◌, ℕ, Bool, true, false, ◌||◌, cond, List, [], ◌∷◌, ◌++◌, Some, None, option_map, refl, sym, ap, ◌∙◌}
use Rattle.std.specs.List.{list_any, find}
use Rattle.std.specs.Str.{bytes_eq}
use Rattle.std.proofs.lemmas.Slice.Eq.{bytes_eq-Decides}
use Rattle.std.proofs.lemmas.Bool.Decides.{same_from_decides}
use Rattle.gv_scriptnames.specs.Scopes.{named}
use Rattle.gv_scriptfaults.specs.declared.names.NameSet.{NameSet}
use Rattle.gv_scriptfaults.specs.declared.names.Table.{Table}
use Rattle.gv_scriptfaults.specs.Tables.{has, Holds, entry, kept, IsTable}

pub eq_turned : (a b : List ℕ) → bytes_eq a b ≡ bytes_eq b a
eq_turned a b = let d = bytes_eq-Decides b a in same_from_decides (bytes_eq a b) (bytes_eq b a) (bytes_eq-Decides a b) (λ e. sym (d.0 e), λ p. d.1 (sym p))

pub any_last : {T : Type 0} (p : T → Bool) (xs : List T) (y : T) → list_any p (xs ++ y ∷ []) ≡ (list_any p xs || p y)
any_last p [] y = last (p y)
  where
    last : (b : Bool) → (b || false) ≡ b
    last true = refl
    last false = refl
any_last p (x ∷ xs) y = step (p x) (any_last p xs y)
  where
    step : (b : Bool) → list_any p (xs ++ y ∷ []) ≡ (list_any p xs || p y) → (b || list_any p (xs ++ y ∷ [])) ≡ ((b || list_any p xs) || p y)
    step true h = refl
    step false h = h

-- a name is in a set to which one was added
pub was_or_is : (n m : List ℕ) (old : Bool) → cond (bytes_eq n m) true old ≡ (old || bytes_eq m n)
was_or_is n m old = step (bytes_eq n m) old ∙ ap (λ b. old || b) (eq_turned n m)
  where
    step : (b o : Bool) → cond b true o ≡ (o || b)
    step true true = refl
    step true false = refl
    step false true = refl
    step false false = refl

pub holds_more : (names : List (List ℕ)) (name : List ℕ) (old new : NameSet) → ((n : List ℕ) → has new n ≡ cond (bytes_eq name n) true (has old n)) → Holds names old → Holds (names ++ name ∷ []) new
holds_more names name old new more was n = more n ∙ was_or_is name n (has old n) ∙ ap (λ b. b || bytes_eq n name) (was n) ∙ sym (any_last (bytes_eq n) names name)

-- ---- tables

find_last : {T : Type 0} (p : T → Bool) (xs : List T) (y : T) (V : Type 0) (of : T → V) → option_map of (find p (xs ++ y ∷ [])) ≡ kept (option_map of (find p xs)) (p y) (of y)
find_last p [] y V of = last (p y)
  where
    last : (b : Bool) → option_map of (cond b (Some y) None) ≡ kept None b (of y)
    last true = refl
    last false = refl
find_last p (x ∷ xs) y V of = step (p x) (find_last p xs y V of)
  where
    step : (b : Bool) → option_map of (find p (xs ++ y ∷ [])) ≡ kept (option_map of (find p xs)) (p y) (of y)
        → option_map of (cond b (Some x) (find p (xs ++ y ∷ []))) ≡ kept (option_map of (cond b (Some x) (find p xs))) (p y) (of y)
    step true h = refl
    step false h = h

-- a table to which the next item was added
pub table_more : {T V : Type 0} (name_of : T → List ℕ) (of : T → V) (items : List T) (x : T) (name : List ℕ) (value : V) (old new : Table V) → name ≡ name_of x → value ≡ of x
    → ((n : List ℕ) → entry new n ≡ kept (entry old n) (bytes_eq name n) value) → IsTable name_of of items old → IsTable name_of of (items ++ x ∷ []) new
table_more {T} {V} name_of of items x name value old new p q more was n =
    more n ∙ ap (λ o. kept o (bytes_eq name n) value) (was n) ∙ ap (λ v. kept (option_map of (named name_of items n)) (bytes_eq name n) v) q
    ∙ ap (λ m. kept (option_map of (named name_of items n)) (bytes_eq m n) (of x)) p ∙ sym (find_last (λ y. bytes_eq (name_of y) n) items x V of)

pub found_last : {T : Type 0} (p : T → Bool) (xs : List T) (y : T) → find p (xs ++ y ∷ []) ≡ kept (find p xs) (p y) y
found_last p [] y = last (p y)
  where
    last : (b : Bool) → cond b (Some y) None ≡ kept None b y
    last true = refl
    last false = refl
found_last p (x ∷ xs) y = step (p x) (found_last p xs y)
  where
    step : (b : Bool) → find p (xs ++ y ∷ []) ≡ kept (find p xs) (p y) y → cond b (Some x) (find p (xs ++ y ∷ [])) ≡ kept (cond b (Some x) (find p xs)) (p y) y
    step true h = refl
    step false h = h
