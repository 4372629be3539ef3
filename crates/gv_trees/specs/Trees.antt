-- What a search tree holds.
use Rattle.std.specs.Prelude.{◌≡◌, ℕ, List, [], ◌∷◌, ◌++◌, ◌+◌, Bool, true, ◌&&◌, ◌==◌, Option, Some, None}
use Rattle.std.specs.Borrow.{Bor}
use Rattle.gv_words.specs.Maps.{ascends}
use Rattle.gv_trees.specs.declared.tree.Tree.{Tree}
use Rattle.gv_trees.specs.declared.tree.Tree.TheVariants.{Leaf, Fork'}
use Rattle.gv_trees.specs.declared.tree.Fork.{Fork}

-- the entries, from left to right
abbrev pub entries : {V : Type 0} → Tree V → List (ℕ × V)
entries Leaf = []
entries (Fork' p left key item right size) = entries left ++ ((key, item) ∷ entries right)

-- those of a fork
abbrev pub entries_of : {V : Type 0} → Fork V → List (ℕ × V)
entries_of f = entries f.left ++ ((f.key, f.item) ∷ entries f.right)

-- how many entries the root counts
abbrev pub size_of : {V : Type 0} → Tree V → ℕ
size_of Leaf = 0
size_of (Fork' p left key item right size) = size

-- whether each fork counts its entries
abbrev pub sized : {V : Type 0} → Tree V → Bool
sized Leaf = true
sized (Fork' p left key item right size) = size == size_of left + size_of right + 1 && sized left && sized right

-- whether each fork on the two sides does
abbrev pub sized_below : {V : Type 0} → Fork V → Bool
sized_below f = sized f.left && sized f.right

-- the keys ascend from left to right, and each fork counts its entries
abbrev pub IsSearchTree : {V : Type 0} → Tree V → Type 0
IsSearchTree t = (ascends (entries t) ≡ true) × (sized t ≡ true)

-- an entry whose item is lent
abbrev pub shown_entry : {V : Type 0} → Option (ℕ × Bor V) → Option (ℕ × V)
shown_entry None = None
shown_entry (Some e) = Some (e.0, e.1.now)
