-- What is found is what is a fault.
use Rattle.std.proofs.Common.{◌≡◌, ℕ, zero, suc, Bool, true, false, not, ◌⊎◌, inl, inr, List, [], ◌∷◌, ◌++◌, Some, refl, sym, ap, subst}
use Rattle.std.specs.Prelude.{slice_get, take}
use Rattle.std.proofs.lemmas.Bool.{false≢true}
use Rattle.gv_base.specs.declared.answers.Code.{Code}
use Rattle.gv_scriptnames.specs.Told.{HasItemFault}
use Rattle.gv_scriptnames.specs.Found.{Found, IsIn, unless, in_each, in_all}

-- the two say the same of every place and code
pub record Same (Has : ℕ → Code → Type 0) (fs : Found) : Type 0 where
  pub found : (at : ℕ) (code : Code) → Has at code → IsIn fs at code
  pub so : (at : ℕ) (code : Code) → IsIn fs at code → Has at code

-- ---- lists

pub in_first : (fs gs : Found) (at : ℕ) (code : Code) → IsIn fs at code → IsIn (fs ++ gs) at code
in_first [] gs at code h = absurd h
in_first (f ∷ fs) gs at code (inl e) = inl e
in_first (f ∷ fs) gs at code (inr h) = inr (in_first fs gs at code h)

pub in_second : (fs gs : Found) (at : ℕ) (code : Code) → IsIn gs at code → IsIn (fs ++ gs) at code
in_second [] gs at code h = h
in_second (f ∷ fs) gs at code h = inr (in_second fs gs at code h)

pub in_either : (fs gs : Found) (at : ℕ) (code : Code) → IsIn (fs ++ gs) at code → IsIn fs at code ⊎ IsIn gs at code
in_either [] gs at code h = inr h
in_either (f ∷ fs) gs at code (inl e) = inl (inl e)
in_either (f ∷ fs) gs at code (inr h) = elim (in_either fs gs at code h) [ inl g ↦ inl (inr g) | inr g ↦ inr g ]

pub this_one : (at : ℕ) (code : Code) → IsIn ((at, code) ∷ []) at code
this_one at code = inl (refl, refl)

pub one_there : (Has : ℕ → Code → Type 0) (start : ℕ) (kind : Code) → Has start kind → (at : ℕ) (code : Code) → IsIn ((start, kind) ∷ []) at code → Has at code
one_there Has start kind has at code (inl e) = subst (λ (c : Code). Has at c) e.1 (subst (λ (n : ℕ). Has n kind) e.0 has)
one_there Has start kind has at code (inr h) = absurd h

-- ---- a fault unless something holds

pub unless_there : (b : Bool) (at : ℕ) (code : Code) → b ≡ false → IsIn (unless b at code) at code
unless_there true at code e = absurd (false≢true (sym e))
unless_there false at code e = this_one at code

pub unless_so : (Has : ℕ → Code → Type 0) (b : Bool) (start : ℕ) (kind : Code) → (b ≡ false → Has start kind) → (at : ℕ) (code : Code) → IsIn (unless b start kind) at code → Has at code
unless_so Has true start kind has at code h = absurd h
unless_so Has false start kind has at code h = one_there Has start kind (has refl) at code h

pub not_true : (b : Bool) → b ≡ true → not b ≡ false
not_true true e = refl
not_true false e = absurd (false≢true e)

pub not_false : (b : Bool) → not b ≡ false → b ≡ true
not_false true e = refl
not_false false e = absurd (false≢true (sym e))

-- ---- items

pub all_same : {T : Type 0} (Has : T → ℕ → Code → Type 0) (of : T → Found) → ((x : T) → Same (Has x) (of x)) → (xs : List T) → Same (HasItemFault (λ i x. Has x) xs) (in_all of xs)
all_same {T} Has of each [] = record { found = λ at code h. let e = h.there in absurd cc; so = λ at code h. absurd h }
all_same {T} Has of each (x ∷ xs) =
    let rest = all_same Has of each xs in
    record {
      found = λ at code h. go rest.found at code h.number h.item h.there h.fault;
      so = λ at code h. elim (in_either (of x) (in_all of xs) at code h) [
        | inl g ↦ record { number = zero; item = x; there = refl; fault = (each x).so at code g }
        | inr g ↦ let r = rest.so at code g in record { number = suc r.number; item = r.item; there = r.there; fault = r.fault }
      ];
    }
  where
    go : ((at : ℕ) (code : Code) → HasItemFault (λ i y. Has y) xs at code → IsIn (in_all of xs) at code) → (at : ℕ) (code : Code) (number : ℕ) (item : T)
        → slice_get (x ∷ xs) number ≡ Some item → Has item at code → IsIn (of x ++ in_all of xs) at code
    go rest at code zero item e h = let q : x ≡ item = cc in in_first (of x) (in_all of xs) at code ((each x).found at code (subst (λ (y : T). Has y at code) (sym q) h))
    go rest at code (suc n) item e h = in_second (of x) (in_all of xs) at code (rest at code (record { number = n; item = item; there = e; fault = h }))

-- behind items before them
record Behind {T : Type 0} (Has : List T → T → ℕ → Code → Type 0) (before xs : List T) (at : ℕ) (code : Code) : Type 0 where
  number : ℕ
  item : T
  there : slice_get xs number ≡ Some item
  fault : Has (before ++ take number xs) item at code

append_nil : {T : Type 0} (xs : List T) → xs ++ [] ≡ xs
append_nil [] = refl
append_nil {T} (x ∷ xs) = ap (λ (ys : List T). x ∷ ys) (append_nil xs)

append_step : {T : Type 0} (xs : List T) (x : T) (ys : List T) → (xs ++ x ∷ []) ++ ys ≡ xs ++ x ∷ ys
append_step [] x ys = refl
append_step {T} (z ∷ xs) x ys = ap (λ (zs : List T). z ∷ zs) (append_step xs x ys)

behind_same : {T : Type 0} (Has : List T → T → ℕ → Code → Type 0) (of : List T → T → Found) → ((before : List T) (x : T) → Same (Has before x) (of before x)) → (xs before : List T)
    → Same (Behind Has before xs) (in_each of before xs)
behind_same {T} Has of each [] before = record { found = λ at code h. let e = h.there in absurd cc; so = λ at code h. absurd h }
behind_same {T} Has of each (x ∷ xs) before =
    let rest = behind_same Has of each xs (before ++ x ∷ []) in
    record {
      found = λ at code h. go rest.found at code h.number h.item h.there h.fault;
      so = λ at code h. elim (in_either (of before x) (in_each of (before ++ x ∷ []) xs) at code h) [
        | inl g ↦ record {
          number = zero;
          item = x;
          there = refl;
          fault = subst (λ (ys : List T). Has ys x at code) (sym (append_nil before)) ((each before x).so at code g);
        }
        | inr g ↦ let r = rest.so at code g in record {
          number = suc r.number;
          item = r.item;
          there = r.there;
          fault = subst (λ (ys : List T). Has ys r.item at code) (append_step before x (take r.number xs)) r.fault;
        }
      ];
    }
  where
    go : ((at : ℕ) (code : Code) → Behind Has (before ++ x ∷ []) xs at code → IsIn (in_each of (before ++ x ∷ []) xs) at code) → (at : ℕ) (code : Code) (number : ℕ) (item : T)
        → slice_get (x ∷ xs) number ≡ Some item → Has (before ++ take number (x ∷ xs)) item at code → IsIn (of before x ++ in_each of (before ++ x ∷ []) xs) at code
    go rest at code zero item e h =
        let q : x ≡ item = cc in
        in_first (of before x) (in_each of (before ++ x ∷ []) xs) at code
        ((each before x).found at code (subst (λ (y : T). Has before y at code) (sym q) (subst (λ (ys : List T). Has ys item at code) (append_nil before) h)))
    go rest at code (suc n) item e h = in_second (of before x) (in_each of (before ++ x ∷ []) xs) at code
        (rest at code
        (record { number = n; item = item; there = e; fault = subst (λ (ys : List T). Has ys item at code) (sym (append_step before x (take n xs))) h }))

pub each_same : {T : Type 0} (Has : List T → T → ℕ → Code → Type 0) (of : List T → T → Found) → ((before : List T) (x : T) → Same (Has before x) (of before x)) → (xs : List T)
    → Same (HasItemFault (λ i x. Has (take i xs) x) xs) (in_each of [] xs)
each_same Has of each xs =
    let b = behind_same Has of each xs [] in
    record {
      found = λ at code h. b.found at code (record { number = h.number; item = h.item; there = h.there; fault = h.fault });
      so = λ at code h. let r = b.so at code h in record { number = r.number; item = r.item; there = r.there; fault = r.fault };
    }
