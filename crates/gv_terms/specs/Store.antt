-- The trees of a store's terms, in the order in which the terms were made.
use Rattle.std.specs.Prelude.{◌≡◌, ℕ, ◌<◌, true, List, [], ◌∷◌, ◌++◌, length, slice_index_or, map, Some}
use Rattle.std.specs.List.{All}
use Rattle.gv_terms.specs.declared.operator.Operator.TheVariants as op
use Rattle.gv_terms.specs.declared.tree.Head.{Head}
use Rattle.gv_terms.specs.declared.tree.TermTree.{TermTree}
use Rattle.gv_terms.specs.declared.tree.TermTree.TheVariants as tree
use Rattle.gv_terms.specs.declared.term.Term.{Term}
use Rattle.gv_terms.specs.declared.term.Node.{Node}
use Rattle.gv_terms.specs.declared.stored.Stored.{Stored}
use Rattle.gv_terms.specs.declared.tree.Head.TheVariants as head
use Rattle.gv_terms.specs.Sorts.{arity}
use Rattle.gv_terms.specs.Trees.{rooted, sort_of}
use Rattle.gv_terms.specs.Ranges.{numbers_are_words}

-- the tree of the term with a number, and `0` where there is none
abbrev pub tree_at : List TermTree → ℕ → TermTree
tree_at ts i = slice_index_or ts i (tree.Apply (op.Number 0) [])

abbrev pub trees_at : List TermTree → List Term → List TermTree
trees_at ts terms = map (λ t. tree_at ts t.id) terms

-- all are terms of the store
abbrev pub AreIn : List TermTree → List Term → Type 0
AreIn ts terms = All (λ t. t.id < length ts) terms

-- the tree that a node makes
abbrev pub node_tree : List TermTree → Node → TermTree
node_tree ts n = rooted n.head (trees_at ts n.parts)

-- every term keeps its tree
abbrev pub Grows : List TermTree → List TermTree → Type 0
Grows old new = (rest : List TermTree) × (new ≡ old ++ rest)

-- one node more
abbrev pub with_node : List TermTree → Stored → List TermTree
with_node ts n = ts ++ (rooted n.head (trees_at ts n.parts) ∷ [])

abbrev pub grown : List TermTree → List Stored → List TermTree
grown ts [] = ts
grown ts (n ∷ ns) = grown (with_node ts n) ns

-- the trees of nodes, each over the ones before it
unfoldable pub trees_of : List Stored → List TermTree
trees_of ns = grown [] ns

-- how many parts a head has
abbrev pub part_count : Head → ℕ
part_count (head.Variable n s) = 0
part_count (head.Apply o) = arity o

-- the node at a place has this tree, over earlier terms, with as many parts as its head takes, and this
-- sort, and the numbers in it are words
pub record IsSoundAt (ts : List TermTree) (k : ℕ) (n : Stored) : Type 0 where
  pub shape : tree_at ts k ≡ rooted n.head (trees_at ts n.parts)
  pub earlier : All (λ t. t.id < k) n.parts
  pub counted : length n.parts ≡ part_count n.head
  pub sort : sort_of (tree_at ts k) ≡ Some n.sort
  pub words : numbers_are_words (tree_at ts k) ≡ true

abbrev pub AreSound : List Stored → Type 0
AreSound ns = (k : ℕ) (d : Stored) → k < length ns → IsSoundAt (trees_of ns) k (slice_index_or ns k d)
