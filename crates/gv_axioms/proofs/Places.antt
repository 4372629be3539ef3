-- Parts that fit, from one place on.
use Rattle.std.proofs.Common.{◌≡◌, ℕ, zero, suc, ◌+◌, ◌<◌, ◌≤◌, List, [], ◌∷◌, Bool, true, false, ◌&&◌, length, drop, get_or, refl, ap, sym, ◌∙◌, subst, arith}
use Rattle.std.specs.Prelude.{IsSome}
use Rattle.std.specs.List.{All}
use Rattle.std.proofs.lemmas.List.{drop_more, drop_all, length-map}
use Rattle.gv_terms.specs.declared.term.Term.{Term}
use Rattle.gv_terms.specs.declared.tree.TermTree.{TermTree}
use Rattle.gv_terms.specs.declared.operator.Operator.TheVariants as op
use Rattle.gv_terms.specs.declared.tree.TermTree.TheVariants as tree
use Rattle.gv_terms.specs.Store.{tree_at, trees_at, AreIn}
use Rattle.gv_terms.specs.Trees.{sort_of}
use Rattle.gv_terms.specs.Ranges.{numbers_are_words}
use Rattle.gv_axioms.specs.Instances.{no_term}
use Rattle.gv_axioms.specs.Truth.{AreTerms}
use Rattle.gv_axioms.specs.declared.kind.Kind.{Kind}
use Rattle.gv_axioms.specs.Filling.{fits, all_fit}

pub other_length : (ts : List TermTree) (store : List TermTree) (ps : List Term) (ks : List Kind) → (length ps ≡ length ks → ⊥) → all_fit ts (trees_at store ps) ks ≡ false
other_length ts store [] [] ne = absurd (ne refl)
other_length ts store [] (k ∷ ks) ne = refl
other_length ts store (p ∷ ps) [] ne = refl
other_length ts store (p ∷ ps) (k ∷ ks) ne = both (fits ts (tree_at store p.id) k) (all_fit ts (trees_at store ps) ks) (other_length ts store ps ks (λ e. ne (ap suc e)))
  where
    both : (a b : Bool) → b ≡ false → (a && b) ≡ false
    both true b e = e
    both false b e = refl

pub from_place : (ts store : List TermTree) (ps : List Term) (ks : List Kind) (i : ℕ) (p : Term) (k : Kind) → i < length ps → length ps ≡ length ks → p ≡ get_or ps i p → k ≡ get_or ks i k
    → all_fit ts (trees_at store (drop i ps)) (drop i ks) ≡ (fits ts (tree_at store p.id) k && all_fit ts (trees_at store (drop (i + 1) ps)) (drop (i + 1) ks))
from_place ts store ps ks i p k lt same is at =
    ap (λ qs. all_fit ts (trees_at store qs) (drop i ks)) (drop_more ps i p lt ∙ ap (λ q. q ∷ drop (i + 1) ps) (sym is))
    ∙ ap (λ ls. all_fit ts (trees_at store (p ∷ drop (i + 1) ps)) ls) (drop_more ks i k (omega (arith, lt, same)) ∙ ap (λ l. l ∷ drop (i + 1) ks) (sym at))

pub at_last : (ts store : List TermTree) (ps : List Term) (ks : List Kind) (i : ℕ) → length ps ≤ i → length ps ≡ length ks → all_fit ts (trees_at store (drop i ps)) (drop i ks) ≡ true
at_last ts store ps ks i le same = ap (λ qs. all_fit ts (trees_at store qs) (drop i ks)) (drop_all i ps le) ∙ ap (λ ls. all_fit ts [] ls) (drop_all i ks (omega (arith, le, same)))

tree_there : (store : List TermTree) (ps : List Term) (k : ℕ) (d : TermTree) (p : Term) → k < length ps → get_or (trees_at store ps) k d ≡ tree_at store (get_or ps k p).id
tree_there store [] k d p lt = absurd (omega arith)
tree_there store (q ∷ ps) zero d p lt = refl
tree_there store (q ∷ ps) (suc k) d p lt = tree_there store ps k d p (omega arith)

-- parts of a store that fit are sorted, and their numbers are words
pub are_terms : (store : List TermTree) (ps : List Term) → AreIn store ps → ((k : ℕ) → k < length ps → IsSome (sort_of (tree_at store (get_or ps k no_term).id))) → All (λ t. numbers_are_words t ≡ true) store
    → AreTerms (trees_at store ps)
are_terms store ps within sorted words k d lt =
    let there : k < length ps = omega (arith, lt, length-map ps (λ t. tree_at store t.id)) in
    let i = (get_or ps k no_term).id in
    subst (λ t. IsSome (sort_of t) × (numbers_are_words t ≡ true)) (sym (tree_there store ps k d no_term there)) (sorted k there, words i (tree.Apply (op.Number 0) []) (within k no_term there))
