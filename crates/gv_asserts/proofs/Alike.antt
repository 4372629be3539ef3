-- Lists of terms with the same trees.
use Rattle.std.proofs.Common.{◌≡◌, ℕ, suc, ◌+◌, ◌<◌, ◌≤◌, Bool, true, false, ◌&&◌, List, [], ◌∷◌, length, drop, get_or, refl, ap, sym, ◌∙◌}
use Rattle.std.proofs.lemmas.List.{drop_more, drop_all}
use Rattle.gv_terms.specs.declared.term.Term.{Term}
use Rattle.gv_terms.specs.declared.tree.TermTree.{TermTree}
use Rattle.gv_terms.specs.Store.{tree_at, trees_at}
use Rattle.gv_certs.specs.Trees.{tree_eq}
use Rattle.gv_certs.proofs.Equality.{tree_eq_decides}
use Rattle.gv_asserts.specs.Keys.{trees_eq}

pub differ_here : (st : List TermTree) (xs ys : List Term) (i : ℕ) (p q : Term) → i < length xs → i < length ys → p ≡ get_or xs i p → q ≡ get_or ys i q
    → tree_eq (tree_at st p.id) (tree_at st q.id) ≡ false → trees_eq (trees_at st (drop i xs)) (trees_at st (drop i ys)) ≡ false
differ_here st xs ys i p q l k is js e =
    ap (λ zs. trees_eq (trees_at st zs) (trees_at st (drop i ys))) (drop_more xs i p l ∙ ap (λ z. z ∷ drop (i + 1) xs) (sym is))
    ∙ ap (λ zs. trees_eq (trees_at st (p ∷ drop (i + 1) xs)) (trees_at st zs)) (drop_more ys i q k ∙ ap (λ z. z ∷ drop (i + 1) ys) (sym js))
    ∙ ap (λ b. b && trees_eq (trees_at st (drop (i + 1) xs)) (trees_at st (drop (i + 1) ys))) e

pub same_here : (st : List TermTree) (xs ys : List Term) (i : ℕ) (p q : Term) → i < length xs → i < length ys → p ≡ get_or xs i p → q ≡ get_or ys i q
    → tree_eq (tree_at st p.id) (tree_at st q.id) ≡ true
    → trees_eq (trees_at st (drop (i + 1) xs)) (trees_at st (drop (i + 1) ys)) ≡ trees_eq (trees_at st (drop i xs)) (trees_at st (drop i ys))
same_here st xs ys i p q l k is js e = sym (
    ap (λ zs. trees_eq (trees_at st zs) (trees_at st (drop i ys))) (drop_more xs i p l ∙ ap (λ z. z ∷ drop (i + 1) xs) (sym is))
    ∙ ap (λ zs. trees_eq (trees_at st (p ∷ drop (i + 1) xs)) (trees_at st zs)) (drop_more ys i q k ∙ ap (λ z. z ∷ drop (i + 1) ys) (sym js))
    ∙ ap (λ b. b && trees_eq (trees_at st (drop (i + 1) xs)) (trees_at st (drop (i + 1) ys))) e)

pub none_behind : (st : List TermTree) (xs ys : List Term) (i : ℕ) → length xs ≤ i → length ys ≤ i → trees_eq (trees_at st (drop i xs)) (trees_at st (drop i ys)) ≡ true
none_behind st xs ys i l k =
    ap (λ zs. trees_eq (trees_at st zs) (trees_at st (drop i ys))) (drop_all i xs l) ∙ ap (λ zs. trees_eq [] (trees_at st zs)) (drop_all i ys k)

both_false : (a b : Bool) → b ≡ false → (a && b) ≡ false
both_false true b e = e
both_false false b e = refl

pub other_length : (st : List TermTree) (xs ys : List Term) → (length ys ≡ length xs → ⊥) → trees_eq (trees_at st xs) (trees_at st ys) ≡ false
other_length st [] [] never = absurd (never refl)
other_length st [] (y ∷ ys) never = refl
other_length st (x ∷ xs) [] never = refl
other_length st (x ∷ xs) (y ∷ ys) never =
    both_false (tree_eq (tree_at st x.id) (tree_at st y.id)) (trees_eq (trees_at st xs) (trees_at st ys)) (other_length st xs ys (λ e. never (ap suc e)))

-- ---- what the test decides

parts : (a b : Bool) → (a && b) ≡ true → (a ≡ true) × (b ≡ true)
parts true b e = (refl, e)
parts false b e = absurd cc

whole : (a b : Bool) → a ≡ true → b ≡ true → (a && b) ≡ true
whole true b e d = d
whole false b e d = absurd cc

pub are_same : (ts us : List TermTree) → trees_eq ts us ≡ true → ts ≡ us
are_same [] [] e = refl
are_same [] (u ∷ us) e = absurd cc
are_same (t ∷ ts) [] e = absurd cc
are_same (t ∷ ts) (u ∷ us) e =
    let two = parts (tree_eq t u) (trees_eq ts us) e in
    let first = (tree_eq_decides t u).0 two.0 in
    let rest = are_same ts us two.1 in
    ap (λ z. z ∷ ts) first ∙ ap (λ zs. u ∷ zs) rest

itself : (ts : List TermTree) → trees_eq ts ts ≡ true
itself [] = refl
itself (t ∷ ts) = whole (tree_eq t t) (trees_eq ts ts) ((tree_eq_decides t t).1 refl) (itself ts)

pub test_passes : (ts us : List TermTree) → ts ≡ us → trees_eq ts us ≡ true
test_passes ts us e = ap (λ zs. trees_eq ts zs) (sym e) ∙ itself ts
