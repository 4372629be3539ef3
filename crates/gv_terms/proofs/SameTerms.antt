-- Two terms with one tree have parts with one tree each.
use Rattle.std.proofs.Common.{◌≡◌, ℕ, zero, suc, ◌<◌, List, [], ◌∷◌, length, get_or, refl, sym, ap, ◌∙◌, arith}
use Rattle.gv_terms.specs.declared.operator.Operator.{Operator}
use Rattle.gv_terms.specs.declared.tree.Head.TheVariants as head
use Rattle.gv_terms.specs.declared.tree.TermTree.{TermTree}
use Rattle.gv_terms.specs.declared.term.Term.{Term}
use Rattle.gv_terms.specs.declared.stored.Stored.{Stored}
use Rattle.gv_terms.specs.Trees.{rooted}
use Rattle.gv_terms.specs.Store.{tree_at, trees_at, IsSoundAt}
use Rattle.gv_terms.proofs.Trees.{same_parts}

pub parts_same : (ts : List TermTree) (a b : ℕ) (n m : Stored) (o : Operator) → IsSoundAt ts a n → IsSoundAt ts b m → n.head ≡ m.head → n.head ≡ head.Apply o → tree_at ts a ≡ tree_at ts b → trees_at ts n.parts ≡ trees_at ts m.parts
parts_same ts a b n m o s r e f g =
    same_parts o o (trees_at ts n.parts) (trees_at ts m.parts)
    (ap (λ h. rooted h (trees_at ts n.parts)) (sym f) ∙ sym s.shape ∙ g ∙ r.shape ∙ ap (λ h. rooted h (trees_at ts m.parts)) (sym e ∙ f))

length_trees_at : (ts : List TermTree) (ps : List Term) → length (trees_at ts ps) ≡ length ps
length_trees_at ts [] = refl
length_trees_at ts (p ∷ ps) = ap suc (length_trees_at ts ps)

pub as_many : (ts : List TermTree) (ps qs : List Term) → trees_at ts ps ≡ trees_at ts qs → length ps ≡ length qs
as_many ts ps qs e = sym (length_trees_at ts ps) ∙ ap length e ∙ length_trees_at ts qs

pub each_same : (ts : List TermTree) (ps qs : List Term) (i : ℕ) (d e : Term) → i < length ps → i < length qs → trees_at ts ps ≡ trees_at ts qs → tree_at ts (get_or ps i d).id ≡ tree_at ts (get_or qs i e).id
each_same ts [] qs i d e lt lu f = absurd (omega arith)
each_same ts (p ∷ ps) [] i d e lt lu f = absurd (omega arith)
each_same ts (p ∷ ps) (q ∷ qs) zero d e lt lu f = cc
each_same ts (p ∷ ps) (q ∷ qs) (suc i) d e lt lu f = each_same ts ps qs i d e (omega arith) (omega arith) cc
