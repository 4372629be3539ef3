-- The term of a pattern over parts, and whether parts are what an axiom wants.
use Rattle.std.specs.Prelude.{ℕ, List, [], ◌∷◌, Bool, true, false, ◌&&◌, Option, Some, None, slice_get, is_some, nat_eq, if◌then◌else◌}
use Rattle.gv_terms.specs.declared.sort.Sort.{Sort}
use Rattle.gv_terms.specs.declared.sort.Sort.TheVariants as sort
use Rattle.gv_terms.specs.declared.operator.Operator.TheVariants as op
use Rattle.gv_terms.specs.declared.tree.Head.{Head}
use Rattle.gv_terms.specs.declared.tree.Head.TheVariants as head
use Rattle.gv_terms.specs.declared.tree.TermTree.{TermTree}
use Rattle.gv_terms.specs.declared.tree.TermTree.TheVariants as tree
use Rattle.gv_terms.specs.Sorts.{item_sort, entry_sort}
use Rattle.gv_terms.specs.Values.{is_sort}
use Rattle.gv_terms.specs.Trees.{sort_of, root_of, branches_of}
use Rattle.gv_axioms.specs.declared.kind.Kind.{Kind}
use Rattle.gv_axioms.specs.declared.kind.Kind.TheVariants as kind
use Rattle.gv_axioms.specs.Schema.{Pattern}
use Rattle.gv_axioms.specs.Schema.Pattern.{part, literal, copied, zero, over0, over1, over2, over3}

-- goes on with a value, where there is one
abbrev pub with_some : {A B : Type 0} → Option A → (A → Option B) → Option B
with_some None f = None
with_some (Some a) f = f a

-- the one item of a list of one
abbrev pub only : {A : Type 0} → List A → Option A
only [] = None
only (a ∷ []) = Some a
only (a ∷ b ∷ rest) = None

-- of a maker, how many copies it makes, and of what
abbrev pub copies_of : Head → Option ℕ
copies_of (head.Apply (op.Bytes k)) = Some k
copies_of (head.Apply (op.Words k)) = Some k
copies_of (head.Apply (op.Refs k)) = Some k
copies_of (head.Apply (op.Blocks k)) = Some k
copies_of _ = None

abbrev pub made : TermTree → Option (ℕ × TermTree)
made t = with_some (copies_of (root_of t)) (λ k. with_some (only (branches_of t)) (λ v. Some (k, v)))

-- whether a term is the zero of what makers copy: `0`, `nil`, or `bytes(0, 0)`
abbrev pub is_number_zero : Head → Bool
is_number_zero (head.Apply (op.Number n)) = nat_eq n 0
is_number_zero _ = false

abbrev pub is_number_zero_term : Option TermTree → Bool
is_number_zero_term None = false
is_number_zero_term (Some t) = is_number_zero (root_of t)

abbrev pub is_zero_here : Head → List TermTree → Bool
is_zero_here (head.Apply (op.Number n)) ts = nat_eq n 0
is_zero_here (head.Apply op.Nil) ts = true
is_zero_here (head.Apply (op.Bytes k)) ts = nat_eq k 0 && is_number_zero_term (only ts)
is_zero_here _ ts = false

abbrev pub is_zero_term : TermTree → Bool
is_zero_term t = is_zero_here (root_of t) (branches_of t)

abbrev pub is_made_of_zero : Option (ℕ × TermTree) → Bool
is_made_of_zero None = false
is_made_of_zero (Some m) = is_zero_term m.1

abbrev pub is_empty_map : Head → Bool
is_empty_map (head.Apply op.MapWW) = true
is_empty_map (head.Apply op.MapWB) = true
is_empty_map _ = false

-- the sort of what a list or a map holds
abbrev pub held : Sort → Option Sort
held sort.MapWW = entry_sort sort.MapWW
held sort.MapWB = entry_sort sort.MapWB
held s = item_sort s

-- the tree of an operator over trees, where it has a sort
abbrev pub sorted : TermTree → Option TermTree
sorted t = if is_some (sort_of t) then Some t else None

-- the zero of a sort that lists and maps hold, as a term
abbrev pub zero_term : Sort → Option TermTree
zero_term sort.Word = sorted (tree.Apply (op.Number 0) [])
zero_term sort.Ref = sorted (tree.Apply op.Nil [])
zero_term sort.Bytes = with_some (sorted (tree.Apply (op.Number 0) [])) (λ t. sorted (tree.Apply (op.Bytes 0) (t ∷ [])))
zero_term _ = None

-- the sort of the part at a place
abbrev pub sort_at : List TermTree → ℕ → Option Sort
sort_at ts i = with_some (slice_get ts i) sort_of

-- the term of a pattern over parts, where there is one
abbrev pub filled : List TermTree → Pattern → Option TermTree
filled ts (part i) = slice_get ts i
filled ts (literal i) = with_some (with_some (slice_get ts i) made) (λ m. sorted (tree.Apply (op.Number m.0) []))
filled ts (copied i) = with_some (with_some (slice_get ts i) made) (λ m. Some m.1)
filled ts (zero i) = with_some (with_some (sort_at ts i) held) zero_term
filled ts (over0 o) = sorted (tree.Apply o [])
filled ts (over1 o p) = with_some (filled ts p) (λ t. sorted (tree.Apply o (t ∷ [])))
filled ts (over2 o p q) = with_some (filled ts p) (λ t. with_some (filled ts q) (λ u. sorted (tree.Apply o (t ∷ u ∷ []))))
filled ts (over3 o p q r) =
    with_some (filled ts p) (λ t. with_some (filled ts q) (λ u. with_some (filled ts r) (λ v. sorted (tree.Apply o (t ∷ u ∷ v ∷ [])))))

-- a term, where it is a formula
abbrev pub as_formula : TermTree → Option TermTree
as_formula t = if is_sort sort.Bool (sort_of t) then Some t else None

-- the term of a pattern, where it is a formula
abbrev pub formula : List TermTree → Pattern → Option TermTree
formula ts p = with_some (filled ts p) as_formula

-- whether there is a sort, and it is this one
abbrev pub is_just : Option Sort → Option Sort → Bool
is_just None o = false
is_just (Some s) o = is_sort s o

-- whether a part is what an axiom wants in its place, among all parts
abbrev pub fits : List TermTree → TermTree → Kind → Bool
fits ts t (kind.Of s) = is_sort s (sort_of t)
fits ts t kind.Anything = true
fits ts t kind.List = is_some (with_some (sort_of t) item_sort)
fits ts t kind.Map = is_some (with_some (sort_of t) entry_sort)
fits ts t (kind.Held i) = is_just (with_some (sort_at ts i) held) (sort_of t)
fits ts t (kind.Like i) = is_just (sort_at ts i) (sort_of t)
fits ts t kind.Maker = is_some (made t)
fits ts t kind.ZeroMaker = is_made_of_zero (made t)
fits ts t kind.EmptyMap = is_empty_map (root_of t)

-- as many parts as kinds, each what its kind says; `ts` is all parts, `us` those that are left
abbrev pub all_fit : List TermTree → List TermTree → List Kind → Bool
all_fit ts [] [] = true
all_fit ts (u ∷ us) (k ∷ ks) = fits ts u k && all_fit ts us ks
all_fit ts _ _ = false
