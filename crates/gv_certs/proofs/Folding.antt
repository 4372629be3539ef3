-- What is made of a tree, node by node, and induction over trees.
use Rattle.std.proofs.Common.{◌≡◌, ℕ, List, [], ◌∷◌, map, refl, sym, ap, ◌∙◌, subst, rules}
use Rattle.std.proofs.lemmas.Simd.{map-map}
use Rattle.gv_terms.specs.declared.sort.Sort.{Sort}
use Rattle.gv_terms.specs.declared.operator.Operator.{Operator}
use Rattle.gv_terms.specs.declared.tree.Head.TheVariants as head
use Rattle.gv_terms.specs.declared.tree.TermTree.{TermTree, the_lemmas, fold-TermTree}
use Rattle.gv_terms.specs.declared.tree.TermTree.TheVariants as tree
use Rattle.gv_terms.specs.declared.tree.TermTree.TheOpen.{TermTree-F, Variable, Apply}
use Rattle.gv_terms.specs.declared.tree.TermTree.TheFolds.{map-TermTree, ind-TermTree}
use Rattle.gv_terms.specs.declared.tree.TermTree.TheViews.{roll-TermTree}
use Rattle.gv_terms.specs.Trees.{rooted, root_of, branches_of}
use Rattle.gv_terms.proofs.Trees.{root_rooted}
use Rattle.gv_certs.specs.Trees.{folded, folded_here}

-- ---- induction

-- trees beside what holds of each
abbrev pub Each : (TermTree → Type 0) → Type 0
Each P = List ((t : TermTree) × P t)

abbrev pub trees : {P : TermTree → Type 0} → Each P → List TermTree
trees es = map (λ e. e.0) es

module _ (P : TermTree → Type 0) (variable : (n : List ℕ) (s : Sort) → P (tree.Variable n s)) (apply : (o : Operator) (es : Each P) → P (tree.Apply o (trees es))) where
  layer : (y : TermTree-F ((t : TermTree) × P t)) → P (roll-TermTree (map-TermTree ((t : TermTree) × P t) TermTree (λ e. e.0) y))
  layer (Variable n s) = subst P (sym (tree.rolls-Variable n s)) (variable n s)
  layer (Apply o es) = subst P (sym (tree.rolls-Apply o (trees es))) (apply o es)

  -- what holds of each variable, and of each operator over trees where it holds of these, holds of each tree
  pub by_induction : (t : TermTree) → P t
  by_induction = ind-TermTree P (λ x y is. subst (λ z. P (roll-TermTree z)) is (layer y))

-- ---- roots

pub root_variable : (n : List ℕ) (s : Sort) → root_of (tree.Variable n s) ≡ head.Variable n s
root_variable n s = search (rules, the_lemmas)

pub root_apply : (o : Operator) (ts : List TermTree) → root_of (tree.Apply o ts) ≡ head.Apply o
root_apply o ts = search (rules, the_lemmas)

pub branches_variable : (n : List ℕ) (s : Sort) → branches_of (tree.Variable n s) ≡ []
branches_variable n s = search (rules, the_lemmas)

pub branches_apply : (o : Operator) (ts : List TermTree) → branches_of (tree.Apply o ts) ≡ ts
branches_apply o ts = search (rules, the_lemmas)

-- a tree is its root over its branches
pub rooted_again : (t : TermTree) → rooted (root_of t) (branches_of t) ≡ t
rooted_again =
    by_induction (λ t. rooted (root_of t) (branches_of t) ≡ t)
    (λ n s. ap (λ h. rooted h (branches_of (tree.Variable n s))) (root_variable n s))
    (λ o es. ap (λ h. rooted h (branches_of (tree.Apply o (trees es)))) (root_apply o (trees es)) ∙ ap (tree.Apply o) (branches_apply o (trees es)))

-- ---- what is made of a tree

module _ {R : Type 0} (f : TermTree → List R → R) where
  abbrev both : TermTree → TermTree × R
  both t = fold-TermTree (TermTree × R) (folded_here f) t

  both_variable : (n : List ℕ) (s : Sort) → both (tree.Variable n s) ≡ (tree.Variable n s, f (tree.Variable n s) [])
  both_variable n s = search (rules, the_lemmas)

  both_apply : (o : Operator) (ts : List TermTree) → both (tree.Apply o ts) ≡ folded_here f (Apply o (map both ts))
  both_apply o ts = search (rules, the_lemmas)

  abbrev IsKept : TermTree → Type 0
  IsKept t = (both t).0 ≡ t

  all_kept : (es : Each IsKept) → map (λ p. p.0) (map both (trees es)) ≡ trees es
  all_kept [] = refl
  all_kept (e ∷ es) = ap (λ t. t ∷ map (λ p. p.0) (map both (trees es))) e.1 ∙ ap (λ ts. e.0 ∷ ts) (all_kept es)

  kept : (t : TermTree) → IsKept t
  kept = by_induction IsKept (λ n s. ap (λ p. p.0) (both_variable n s)) (λ o es. ap (λ p. p.0) (both_apply o (trees es)) ∙ ap (tree.Apply o) (all_kept es))

  firsts : (ts : List TermTree) → map (λ p. p.0) (map both ts) ≡ ts
  firsts [] = refl
  firsts (t ∷ ts) = ap (λ u. u ∷ map (λ p. p.0) (map both ts)) (kept t) ∙ ap (λ us. t ∷ us) (firsts ts)

  pub folded_variable : (n : List ℕ) (s : Sort) → folded f (tree.Variable n s) ≡ f (tree.Variable n s) []
  unfolding folded
  folded_variable n s = ap (λ p. p.1) (both_variable n s)

  pub folded_apply : (o : Operator) (ts : List TermTree) → folded f (tree.Apply o ts) ≡ f (tree.Apply o ts) (map (folded f) ts)
  unfolding folded
  folded_apply o ts =
      ap (λ p. p.1) (both_apply o ts)
      ∙ ap (λ us. f (tree.Apply o us) (map (λ p. p.1) (map both ts))) (firsts ts)
      ∙ ap (f (tree.Apply o ts)) (map-map (λ p. p.1) both ts)
