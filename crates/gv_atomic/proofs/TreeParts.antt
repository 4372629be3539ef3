-- The variables of a tree, by its root and the trees below it.
use Rattle.std.proofs.Common.{◌≡◌, ℕ, ◌+◌, ◌<◌, List, [], ◌∷◌, ◌++◌, Bool, true, false, ◌&&◌, map, refl, sym, ap, ◌∙◌, subst, rules, arith}
use Rattle.std.specs.List.{list_all, All}
use Rattle.std.proofs.lemmas.List.{map-append}
use Rattle.std.proofs.lemmas.List.Elements.{All-nil, All-cons, All-head, All-tail}
use Rattle.gv_terms.specs.declared.sort.Sort.{Sort}
use Rattle.gv_terms.specs.declared.operator.Operator.{Operator}
use Rattle.gv_terms.specs.declared.term.Term.{Term}
use Rattle.gv_terms.specs.declared.var.Var.{Var}
use Rattle.gv_terms.specs.declared.tree.TermTree.{TermTree, the_lemmas, out-TermTree, fold-TermTree}
use Rattle.gv_terms.specs.declared.tree.TermTree.TheVariants as tree
use Rattle.gv_terms.specs.declared.tree.TermTree.TheOpen.{TermTree-F, Variable, Apply}
use Rattle.gv_terms.specs.declared.tree.TermTree.TheFolds.{map-TermTree, ind-TermTree}
use Rattle.gv_terms.specs.declared.tree.TermTree.TheViews.{roll-TermTree}
use Rattle.gv_terms.specs.Store.{tree_at, trees_at}
use Rattle.gv_terms.specs.Scopes.{is_among, is_closed}
use Rattle.gv_terms.proofs.Closed.{closed_variable, closed_apply}
use Rattle.gv_terms.specs.Trees.{root_here, root_of, branches_here, branches_of}
use Rattle.gv_atomic.specs.Marks.{is_known}

open_variable : (n : List ℕ) (s : Sort) → out-TermTree (tree.Variable n s) ≡ Variable n s
open_variable n s = search (rules, the_lemmas)

open_apply : (o : Operator) (ts : List TermTree) → out-TermTree (tree.Apply o ts) ≡ Apply o ts
open_apply o ts = search (rules, the_lemmas)

and_true : (b : Bool) → b ≡ (b && true)
and_true true = refl
and_true false = refl

-- a tree by its layer
module _ (P : TermTree → Type 0) (variable : (n : List ℕ) (s : Sort) → P (tree.Variable n s)) (apply : (o : Operator) (ts : List TermTree) → P (tree.Apply o ts)) where
  layer : (y : TermTree-F ((t : TermTree) × P t)) → P (roll-TermTree (map-TermTree ((t : TermTree) × P t) TermTree (λ e. e.0) y))
  layer (Variable n s) = subst P (sym (tree.rolls-Variable n s)) (variable n s)
  layer (Apply o es) = subst P (sym (tree.rolls-Apply o (map (λ e. e.0) es))) (apply o (map (λ e. e.0) es))

  pub every_tree : (t : TermTree) → P t
  every_tree = ind-TermTree P (λ x y is. subst (λ z. P (roll-TermTree z)) is (layer y))

abbrev here : List Var → TermTree-F TermTree → Bool
here vars y = is_known vars (root_here y) && list_all (λ b. b) (map (is_closed vars) (branches_here y))

-- the variables of a tree are among these where its root is known and so are those of each branch
pub closed_by_parts : (vars : List Var) (t : TermTree) → is_closed vars t ≡ (is_known vars (root_of t) && list_all (λ b. b) (map (is_closed vars) (branches_of t)))
closed_by_parts vars =
    every_tree (λ t. is_closed vars t ≡ here vars (out-TermTree t))
    (λ n s. closed_variable vars n s ∙ and_true (is_among vars n s) ∙ ap (here vars) (sym (open_variable n s)))
    (λ o ts. closed_apply vars o ts ∙ ap (here vars) (sym (open_apply o ts)))

-- The number of nodes of a tree.

abbrev pub total : List ℕ → ℕ
total [] = 0
total (n ∷ ns) = n + total ns

abbrev pub weigh : TermTree-F ℕ → ℕ
weigh (Variable n s) = 1
weigh (Apply o ws) = 1 + total ws

unfoldable pub weight : TermTree → ℕ
weight = fold-TermTree ℕ weigh

weight_variable : (n : List ℕ) (s : Sort) → weight (tree.Variable n s) ≡ 1
unfolding weight
weight_variable n s = search (rules, the_lemmas)

weight_apply : (o : Operator) (ts : List TermTree) → weight (tree.Apply o ts) ≡ 1 + total (map weight ts)
unfolding weight
weight_apply o ts = search (rules, the_lemmas)

abbrev below : TermTree-F TermTree → ℕ
below y = 1 + total (map weight (branches_here y))

pub weight_by_parts : (t : TermTree) → weight t ≡ 1 + total (map weight (branches_of t))
weight_by_parts =
    every_tree (λ t. weight t ≡ below (out-TermTree t))
    (λ n s. weight_variable n s ∙ ap below (sym (open_variable n s)))
    (λ o ts. weight_apply o ts ∙ ap below (sym (open_apply o ts)))

total-append : (ms ns : List ℕ) → total (ms ++ ns) ≡ total ms + total ns
total-append [] ns = omega arith
total-append (m ∷ ms) ns = omega (arith, total-append ms ns)

-- of the trees of terms
abbrev pub weight_of : List TermTree → List Term → ℕ
weight_of ts left = total (map weight (trees_at ts left))

pub weight-append : (ts : List TermTree) (xs ys : List Term) → weight_of ts (xs ++ ys) ≡ weight_of ts xs + weight_of ts ys
weight-append ts xs ys =
    ap (λ us. total (map weight us)) (map-append (λ t. tree_at ts t.id) xs ys)
    ∙ ap total (map-append weight (trees_at ts xs) (trees_at ts ys))
    ∙ total-append (map weight (trees_at ts xs)) (map weight (trees_at ts ys))

-- one term away
pub lighter : (ts : List TermTree) (left rest : List Term) (t : Term) → left ≡ rest ++ t ∷ [] → weight_of ts rest < weight_of ts left
lighter ts left rest t is = omega (arith, ap (weight_of ts) is, weight-append ts rest (t ∷ []), weight_by_parts (tree_at ts t.id))

-- a term away, and its parts in its place
pub still_lighter : (ts : List TermTree) (left rest new parts : List Term) (t : Term) → left ≡ rest ++ t ∷ [] → new ≡ rest ++ parts → trees_at ts parts ≡ branches_of (tree_at ts t.id) → weight_of ts new < weight_of ts left
still_lighter ts left rest new parts t is more e =
    omega (arith, ap (weight_of ts) is, ap (weight_of ts) more, weight-append ts rest (t ∷ []), weight-append ts rest parts, weight_by_parts (tree_at ts t.id), ap (λ us. total (map weight us)) e)

-- Each part by itself.

pub every_closed : (vars : List Var) (ts : List TermTree) (ps : List Term) → All (λ p. is_closed vars (tree_at ts p.id) ≡ true) ps → list_all (λ b. b) (map (is_closed vars) (trees_at ts ps)) ≡ true
every_closed vars ts [] h = refl
every_closed vars ts (p ∷ ps) h =
    let P : Term → Type 0 = λ q. is_closed vars (tree_at ts q.id) ≡ true in
    both (is_closed vars (tree_at ts p.id)) (list_all (λ b. b) (map (is_closed vars) (trees_at ts ps))) (All-head P p ps h) (every_closed vars ts ps (All-tail P p ps h))
  where
    both : (a b : Bool) → a ≡ true → b ≡ true → (a && b) ≡ true
    both a b p q = rw (p, q) refl

pub each_closed : (vars : List Var) (ts : List TermTree) (ps : List Term) → list_all (λ b. b) (map (is_closed vars) (trees_at ts ps)) ≡ true → All (λ p. is_closed vars (tree_at ts p.id) ≡ true) ps
each_closed vars ts [] h = All-nil (λ p. is_closed vars (tree_at ts p.id) ≡ true)
each_closed vars ts (p ∷ ps) h =
    let P : Term → Type 0 = λ q. is_closed vars (tree_at ts q.id) ≡ true in
    let two = parted (is_closed vars (tree_at ts p.id)) (list_all (λ b. b) (map (is_closed vars) (trees_at ts ps))) h in
    All-cons P p ps two.0 (each_closed vars ts ps two.1)
  where
    parted : (a b : Bool) → (a && b) ≡ true → (a ≡ true) × (b ≡ true)
    parted true b e = (refl, e)
    parted false b e = absurd cc
