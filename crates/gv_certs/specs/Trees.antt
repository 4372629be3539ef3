-- Trees: what is made of one from its parts, equality, what stands under an operator, and one tree put for another.
use Rattle.std.specs.Prelude.{ℕ, List, [], ◌∷◌, map, Bool, true, false, ◌&&◌, ◌||◌, Option, Some, None, nat_eq, if◌then◌else◌}
use Rattle.std.specs.Str.{bytes_eq}
use Rattle.gv_terms.specs.declared.operator.Operator.{Operator}
use Rattle.gv_terms.specs.declared.operator.Operator.TheVariants as op
use Rattle.gv_terms.specs.declared.tree.Head.{Head}
use Rattle.gv_terms.specs.declared.tree.Head.TheVariants as head
use Rattle.gv_terms.specs.declared.tree.TermTree.{TermTree, fold-TermTree}
use Rattle.gv_terms.specs.declared.tree.TermTree.TheVariants as tree
use Rattle.gv_terms.specs.declared.tree.TermTree.TheOpen.{TermTree-F, Variable, Apply}
use Rattle.gv_terms.specs.Sorts.{sort_eq}
use Rattle.gv_terms.specs.Places.{place_of, literal_of}
use Rattle.gv_terms.specs.Trees.{rooted, root_of, branches_of}

-- ---- what is made of a tree

-- of one level: the tree beside what is made of it, over the same of the parts
abbrev pub folded_here : {R : Type 0} → (TermTree → List R → R) → TermTree-F (TermTree × R) → TermTree × R
folded_here f (Variable n s) = (tree.Variable n s, f (tree.Variable n s) [])
folded_here f (Apply o ps) = (tree.Apply o (map (λ p. p.0) ps), f (tree.Apply o (map (λ p. p.0) ps)) (map (λ p. p.1) ps))

-- what is made of a tree, from it and from what is made of its parts
unfoldable pub folded : {R : Type 0} → (TermTree → List R → R) → TermTree → R
folded {R} f t = (fold-TermTree (TermTree × R) (folded_here f) t).1

-- ---- equality

abbrev pub operator_eq : Operator → Operator → Bool
operator_eq o p = nat_eq (place_of o) (place_of p) && nat_eq (literal_of o) (literal_of p)

abbrev pub head_eq : Head → Head → Bool
head_eq (head.Variable n s) (head.Variable m r) = bytes_eq n m && sort_eq s r
head_eq (head.Apply o) (head.Apply p) = operator_eq o p
head_eq _ _ = false

-- as many tests as trees, each of which its tree passes
abbrev pub each_passes : List (TermTree → Bool) → List TermTree → Bool
each_passes [] [] = true
each_passes (f ∷ fs) (t ∷ ts) = f t && each_passes fs ts
each_passes _ _ = false

-- whether two trees are equal
unfoldable pub tree_eq : TermTree → TermTree → Bool
tree_eq = folded (λ t tests u. head_eq (root_of t) (root_of u) && each_passes tests (branches_of u))

abbrev pub contains : List TermTree → TermTree → Bool
contains [] t = false
contains (u ∷ us) t = tree_eq u t || contains us t

-- ---- operators with two parts

abbrev pub is_apply : Operator → Head → Bool
is_apply o (head.Variable n s) = false
is_apply o (head.Apply p) = operator_eq o p

abbrev pub two : {A : Type 0} → List A → Option (A × A)
two (a ∷ b ∷ []) = Some (a, b)
two _ = None

-- the two parts of a tree, where it is this operator over two
abbrev pub parts_under : Operator → TermTree → Option (TermTree × TermTree)
parts_under o t = if is_apply o (root_of t) then two (branches_of t) else None

abbrev pub over_two : Operator → TermTree → TermTree → TermTree
over_two o a b = tree.Apply o (a ∷ b ∷ [])

-- whether there are two parts, and they pass a test
abbrev pub and_pass : Option (TermTree × TermTree) → (TermTree → TermTree → Bool) → Bool
and_pass None test = false
and_pass (Some p) test = test p.0 p.1

abbrev pub equation : TermTree → TermTree → TermTree
equation a b = over_two op.Equal a b

abbrev pub negation : TermTree → TermTree
negation p = tree.Apply op.Not (p ∷ [])

-- ---- one tree for another

-- with b in place of each a, all at once
unfoldable pub replaced : TermTree → TermTree → TermTree → TermTree
replaced a b = folded (λ t parts. if tree_eq a t then b else rooted (root_of t) parts)
