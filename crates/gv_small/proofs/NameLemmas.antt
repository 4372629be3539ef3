-- Names that differ, one more at the end.
use Rattle.std.proofs.Common.{◌≡◌, ℕ, ◌+◌, ◌<◌, Bool, true, false, cond, List, [], ◌∷◌, ◌++◌, length, take, drop, get_or, refl, sym, ap, subst, ◌∙◌, append_assoc}
use Rattle.std.specs.Prelude.{◌||◌, ◌&&◌, not}
use Rattle.std.specs.Str.{bytes_eq}
use Rattle.std.proofs.lemmas.Slice.Eq.{bytes_eq-Decides}
use Rattle.std.proofs.lemmas.List.{take_more, take-append-drop}
use Rattle.std.proofs.lemmas.List.Folds.{list_any-append}
use Rattle.gv_small.specs.Tokens.{is_among}
use Rattle.gv_small.specs.Forms.{is_distinct}
use Rattle.gv_small.proofs.Cuts.{both, false_true}

bytes_eq-flip : (a b : List ℕ) → bytes_eq a b ≡ false → bytes_eq b a ≡ false
bytes_eq-flip a b e = go (bytes_eq b a) refl
  where
    go : (t : Bool) → bytes_eq b a ≡ t → t ≡ false
    go true f = let same : bytes_eq a b ≡ true = (bytes_eq-Decides a b).1 (sym ((bytes_eq-Decides b a).0 f)) in absurd (false_true (sym e ∙ same))
    go false f = refl

either_false : (a b : Bool) → (a || b) ≡ false → (a ≡ false) × (b ≡ false)
either_false true b e = absurd (false_true (sym e))
either_false false b e = (refl, e)

not_is : (b : Bool) → not b ≡ true → b ≡ false
not_is true e = absurd (false_true e)
not_is false e = refl

among-append : (ns : List (List ℕ)) (n m : List ℕ) → is_among (ns ++ n ∷ []) m ≡ (is_among ns m || (bytes_eq m n || false))
among-append ns n m = list_any-append (λ k. bytes_eq m k) ns (n ∷ [])

-- a name that isn't there may be added
pub distinct_more : (ns : List (List ℕ)) (n : List ℕ) → is_distinct ns ≡ true → is_among ns n ≡ false → is_distinct (ns ++ n ∷ []) ≡ true
distinct_more [] n d a = refl
distinct_more (m ∷ ns) n d a =
    let p = both (not (is_among ns m)) (is_distinct ns) d in
    let q = either_false (bytes_eq n m) (is_among ns n) a in
    rw (among-append ns n m, not_is (is_among ns m) p.0, bytes_eq-flip n m q.0, distinct_more ns n p.1 q.1) refl

either_true : (a b : Bool) → b ≡ true → (a || b) ≡ true
either_true true b e = refl
either_true false b e = e

first_true : (a b : Bool) → a ≡ true → (a || b) ≡ true
first_true a b e = rw e refl

and_false : (a b : Bool) → b ≡ false → (a && b) ≡ false
and_false true b e = e
and_false false b e = refl

twice : (ns : List (List ℕ)) (n m : List ℕ) (more : List (List ℕ)) → bytes_eq n m ≡ true → is_among (ns ++ n ∷ more) m ≡ true
twice ns n m more e =
    let same : n ≡ m = (bytes_eq-Decides n m).0 e in
    list_any-append (λ k. bytes_eq m k) ns (n ∷ more) ∙ either_true (is_among ns m) (bytes_eq m n || is_among more m) (first_true (bytes_eq m n) (is_among more m) ((bytes_eq-Decides m n).1 (sym same)))

not_distinct_step : (ns : List (List ℕ)) (n m : List ℕ) (more : List (List ℕ)) → (is_among ns n ≡ true → is_distinct (ns ++ n ∷ more) ≡ false) → (t : Bool) → bytes_eq n m ≡ t → (bytes_eq n m || is_among ns n) ≡ true → is_distinct (m ∷ (ns ++ n ∷ more)) ≡ false
not_distinct_step ns n m more ih true e a = rw (twice ns n m more e) refl
not_distinct_step ns n m more ih false e a = and_false (not (is_among (ns ++ n ∷ more) m)) (is_distinct (ns ++ n ∷ more)) (ih (rw e at a))

-- a name that is there twice
pub not_distinct : (ns : List (List ℕ)) (n : List ℕ) (more : List (List ℕ)) → is_among ns n ≡ true → is_distinct (ns ++ n ∷ more) ≡ false
not_distinct [] n more a = absurd (false_true a)
not_distinct (m ∷ ns) n more a = not_distinct_step ns n m more (not_distinct ns n more) (bytes_eq n m) refl a

pub not_distinct_at : (names : List (List ℕ)) (i : ℕ) (n d : List ℕ) → i < length names → n ≡ get_or names i d → is_among (take i names) n ≡ true → is_distinct names ≡ false
not_distinct_at names i n d h e a =
    let whole : (take i names ++ n ∷ []) ++ drop (i + 1) names ≡ names =
    ap (λ x. (take i names ++ x ∷ []) ++ drop (i + 1) names) e ∙ ap (λ (xs : List (List ℕ)). xs ++ drop (i + 1) names) (sym (take_more names i d h)) ∙ take-append-drop (i + 1) names in
    ap is_distinct (sym whole ∙ append_assoc (take i names) (n ∷ []) (drop (i + 1) names)) ∙ not_distinct (take i names) n (drop (i + 1) names) a

-- the first i names, and the next
pub distinct_next : (names : List (List ℕ)) (i : ℕ) (n d : List ℕ) → i < length names → n ≡ get_or names i d → is_distinct (take i names) ≡ true → is_among (take i names) n ≡ false → is_distinct (take (i + 1) names) ≡ true
distinct_next names i n d h e k a = ap is_distinct (take_more names i d h ∙ ap (λ x. take i names ++ x ∷ []) (sym e)) ∙ distinct_more (take i names) n k a

flipped : (a b : Bool) → a ≡ not b → not a ≡ b
flipped a true e = ap not e
flipped a false e = ap not e

-- what an insertion into the set says of the names before
pub was_there : (keys front : List (List ℕ)) (copy n : List ℕ) (added : Bool) → added ≡ not (is_among keys copy) → keys ≡ front → copy ≡ n → added ≡ false → is_among front n ≡ true
was_there keys front copy n added a k c f =
    ap (λ (ks : List (List ℕ)). is_among ks n) (sym k) ∙ ap (is_among keys) (sym c) ∙ sym (flipped added (is_among keys copy) a) ∙ ap not f

pub was_new : (keys front : List (List ℕ)) (copy n : List ℕ) (added : Bool) → added ≡ not (is_among keys copy) → keys ≡ front → copy ≡ n → added ≡ true → is_among front n ≡ false
was_new keys front copy n added a k c f =
    ap (λ (ks : List (List ℕ)). is_among ks n) (sym k) ∙ ap (is_among keys) (sym c) ∙ sym (flipped added (is_among keys copy) a) ∙ ap not f

pub keys_then : (keys names grown : List (List ℕ)) (i : ℕ) (copy n d : List ℕ) (added : Bool) → added ≡ not (is_among keys copy) → grown ≡ cond (is_among keys copy) keys (keys ++ copy ∷ []) →
    keys ≡ take i names → copy ≡ n → n ≡ get_or names i d → i < length names → added ≡ true → grown ≡ take (i + 1) names
keys_then keys names grown i copy n d added a g k c e h f =
    let fresh : is_among keys copy ≡ false = sym (flipped added (is_among keys copy) a) ∙ ap not f in
    let end : grown ≡ keys ++ copy ∷ [] = rw fresh at g in
    end ∙ ap (λ (ks : List (List ℕ)). ks ++ copy ∷ []) k ∙ ap (λ x. take i names ++ x ∷ []) (c ∙ e) ∙ sym (take_more names i d h)
