-- Which tree a term as it was read stands for among variables, and which faults it has.
use Rattle.std.specs.Prelude.{◌≡◌, ℕ, ◌<◌, ◌⊎◌, List, [], ◌∷◌, Option, Some, None, map, option_map, option_and_then, is_some, if◌then◌else◌, slice_get}
use Rattle.gv_base.specs.declared.answers.Code.{Code}
use Rattle.gv_base.specs.declared.answers.Code.TheVariants as code
use Rattle.gv_terms.specs.declared.operator.Operator.{Operator}
use Rattle.gv_terms.specs.declared.var.Var.{Var}
use Rattle.gv_terms.specs.declared.tree.TermTree.{TermTree}
use Rattle.gv_terms.specs.declared.tree.TermTree.TheVariants as tree
use Rattle.gv_terms.specs.declared.tree.RawTerm.{RawTerm, fold-RawTerm}
use Rattle.gv_terms.specs.declared.tree.RawTerm.TheVariants as raw
use Rattle.gv_terms.specs.declared.tree.RawTerm.TheOpen.{RawTerm-F, Variable, Apply}
use Rattle.gv_terms.specs.declared.resolving.ResolveFault.{ResolveFault}
use Rattle.gv_terms.specs.declared.resolving.ResolveFault.TheVariants as answer
use Rattle.gv_terms.specs.Scopes.{sort_under}
use Rattle.gv_terms.specs.Trees.{sort_of}

-- the variable that bears a name, where one does
abbrev pub variable_named : List Var → List ℕ → Option TermTree
variable_named vars n = option_map (λ s. tree.Variable n s) (sort_under vars n)

-- all of them, where none is missing
abbrev pub all_there : List (Option TermTree) → Option (List TermTree)
all_there [] = Some []
all_there (None ∷ os) = None
all_there (Some t ∷ os) = option_map (λ ts. t ∷ ts) (all_there os)

-- a tree, where it has a sort
abbrev pub if_sorted : TermTree → Option TermTree
if_sorted t = if is_some (sort_of t) then Some t else None

-- of one level, over the trees of the parts
abbrev pub resolved_here : List Var → RawTerm-F (Option TermTree) → Option TermTree
resolved_here vars (Variable n) = variable_named vars n
resolved_here vars (Apply o parts) = option_and_then (λ ts. if_sorted (tree.Apply o ts)) (all_there parts)

-- the tree that a term stands for among variables, where each name is one of theirs and each node has a sort
unfoldable pub resolved : List Var → RawTerm → Option TermTree
resolved vars = fold-RawTerm (Option TermTree) (resolved_here vars)

-- A node is named by its path: the numbers of the parts, from 0, that lead to it from the root.

-- the node at a path has a fault
pub data HasFault (vars : List Var) : RawTerm → List ℕ → Code → Type 0 where
  -- a name that no variable bears
  undeclared : (n : List ℕ) → sort_under vars n ≡ None → HasFault vars (raw.Variable n) [] code.Undeclared
  -- a node without a sort whose parts all have one
  wrong_type : (o : Operator) (parts : List RawTerm) (ts : List TermTree) → map (resolved vars) parts ≡ map Some ts → sort_of (tree.Apply o ts) ≡ None
      → HasFault vars (raw.Apply o parts) [] code.WrongType
  -- a fault of a part; then the node itself has none
  of_part : (o : Operator) (parts : List RawTerm) (i : ℕ) (part : RawTerm) {path : List ℕ} {c : Code} → slice_get parts i ≡ Some part
      → HasFault vars part path c
      → HasFault vars (raw.Apply o parts) (i ∷ path) c

-- a path leads to a node that comes no later than that of another, in the order of the parts
abbrev pub IsNotAfter : List ℕ → List ℕ → Type 0
IsNotAfter [] q = Unit {0}
IsNotAfter (i ∷ p) [] = ⊥
IsNotAfter (i ∷ p) (j ∷ q) = (i < j) ⊎ ((i ≡ j) × IsNotAfter p q)

-- one of the faults, and no other comes before it in the order of the parts
pub record IsFirstFault (vars : List Var) (t : RawTerm) (path : List ℕ) (c : Code) : Type 0 where
  pub there : HasFault vars t path c
  pub others : (q : List ℕ) (d : Code) → HasFault vars t q d → IsNotAfter path q

-- why there is no term: memory was refused, or this is the first of the faults
abbrev pub IsCause : List Var → RawTerm → ResolveFault → Type 0
IsCause vars t answer.NoMemory = Unit {0}
IsCause vars t (answer.At path c) = IsFirstFault vars t path c

-- of an operator over trees: memory was refused, or the whole has no sort
abbrev pub IsOwnFault : Operator → List TermTree → ResolveFault → Type 0
IsOwnFault o ts answer.NoMemory = Unit {0}
IsOwnFault o ts (answer.At path c) = (sort_of (tree.Apply o ts) ≡ None) × (path ≡ []) × (c ≡ code.WrongType)
