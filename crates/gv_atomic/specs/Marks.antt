-- Marks on the nodes of a store: the number of the scope in which a node was last seen.
use Rattle.std.specs.Prelude.{◌≡◌, ℕ, ◌<◌, ◌≤◌, ◌&&◌, Bool, true, not, List, length, slice_index_or, is_some}
use Rattle.std.specs.List.{All, find}
use Rattle.std.specs.Str.{bytes_eq}
use Rattle.gv_terms.specs.declared.tree.Head.{Head}
use Rattle.gv_terms.specs.declared.tree.Head.TheVariants as head
use Rattle.gv_terms.specs.declared.tree.TermTree.{TermTree}
use Rattle.gv_terms.specs.declared.var.Var.{Var}
use Rattle.gv_terms.specs.Store.{tree_at}
use Rattle.gv_terms.specs.Scopes.{is_among, is_closed}
use Rattle.gv_atomic.specs.Typed.{is_free}

-- the nodes that were seen in the scope with this number have their variables among these, and no later
-- scope has seen any
pub record AreMarks (ts : List TermTree) (vars : List Var) (number : ℕ) (marks : List ℕ) : Type 0 where
  pub long : length marks ≡ length ts
  pub within : All (λ m. m ≤ number) marks
  pub closed : (i : ℕ) → i < length ts → slice_index_or marks i 0 ≡ number → is_closed vars (tree_at ts i) ≡ true

-- what is known of marks before a scope has seen any node
pub record AreBefore (ts : List TermTree) (number : ℕ) (marks : List ℕ) : Type 0 where
  pub long : length marks ≡ length ts
  pub below : All (λ m. m < number) marks

-- a name may be declared beside these: it is no constant and none of them
abbrev pub is_new : List (List ℕ) → List ℕ → Bool
is_new ns n = is_free n && not (is_some (find (bytes_eq n) ns))

-- a head is an operator or one of the variables
abbrev pub is_known : List Var → Head → Bool
is_known vars (head.Variable n s) = is_among vars n s
is_known vars (head.Apply o) = true
