-- Which written specifications are of the small form: operations on words that reply a Sum of their parameters, and nothing else. Names
-- are not judged here: a specification with other names than a package's has another interface.
use Rattle.std.specs.Prelude.{◌≡◌, ℕ, ◌+◌, Bool, true, false, ◌&&◌, nat_eq, List, [], ◌∷◌, ◌++◌, length, Option, Some, None, map, option_map, if◌then◌else◌}
use Rattle.std.specs.List.{list_all}
use Rattle.std.specs.Str.{bytes_eq}
use Rattle.gv_base.specs.declared.small.Small.{Small}
use Rattle.gv_base.specs.declared.small.SmallOp.{SmallOp}
use Rattle.gv_base.specs.declared.small.Turn.{Turn}
use Rattle.gv_base.specs.declared.small.Part.{Part}
use Rattle.gv_base.specs.declared.small.Part.TheVariants.{Param, Number}
use Rattle.gv_small.specs.declared.sum_reader.Sum.{Sum}
use Rattle.gv_terms.specs.declared.operator.Operator.TheVariants as op
use Rattle.gv_terms.specs.declared.sort.Sort.{Sort}
use Rattle.gv_terms.specs.declared.sort.Sort.TheVariants as sort
use Rattle.gv_terms.specs.declared.term.Term.{Term}
use Rattle.gv_terms.specs.declared.tree.Head.{Head}
use Rattle.gv_terms.specs.declared.tree.Head.TheVariants as head
use Rattle.gv_terms.specs.declared.tree.TermTree.{TermTree, fold-TermTree}
use Rattle.gv_terms.specs.declared.tree.TermTree.TheOpen.{TermTree-F, Variable, Apply}
use Rattle.gv_terms.specs.declared.var.Var.{Var}
use Rattle.gv_terms.specs.Sorts.{sort_eq}
use Rattle.gv_terms.specs.Store.{tree_at}
use Rattle.gv_terms.specs.Trees.{root_of}
use Rattle.gv_atomic.specs.declared.spec.Op.{Op}
use Rattle.gv_atomic.specs.declared.spec.Spec.{Spec}

-- ---- Sums

-- the place of the first of these variables with a name
abbrev pub place_of : List Var → List ℕ → Option ℕ
place_of [] n = None
place_of (v ∷ vars) n = if bytes_eq v.name n then Some 0 else option_map (λ at. at + 1) (place_of vars n)

abbrev pub is_word : Sort → Bool
is_word s = sort_eq s sort.Word

-- the part that a Sum without turns is
abbrev pub alone : Part → List Turn → Option Part
alone p [] = Some p
alone p (t ∷ rest) = None

abbrev pub part_in : Option Sum → Option Part
part_in None = None
part_in (Some sum) = alone sum.first sum.rest

-- a Sum that begins with a parameter may have turns
abbrev pub may_turn : Part → Bool
may_turn (Param at) = true
may_turn (Number n) = false

-- a Sum with one more turn
abbrev pub with_turn : Sum → Bool → Part → Option Sum
with_turn sum minus p = if may_turn sum.first then Some (record { first = sum.first; rest = sum.rest ++ record { minus = minus; part = p } ∷ [] }) else None

abbrev pub turned : Bool → Option Sum → Option Part → Option Sum
turned minus (Some sum) (Some p) = with_turn sum minus p
turned minus _ _ = None

-- of two parts: the one on the left is a Sum, the one on the right a parameter or a number
abbrev pub turned_by : Bool → List (Option Sum) → Option Sum
turned_by minus (left ∷ right ∷ []) = turned minus left (part_in right)
turned_by minus _ = None

-- a parameter alone, by its place
abbrev pub sum_of_variable : List Var → List ℕ → Sort → Option Sum
sum_of_variable params n s = if is_word s then option_map (λ at. record { first = Param at; rest = [] }) (place_of params n) else None

-- the Sum of a head over the Sums of its parts
abbrev pub sum_by : List Var → Head → List (Option Sum) → Option Sum
sum_by params (head.Variable n s) sums = sum_of_variable params n s
sum_by params (head.Apply (op.Number n)) sums = Some (record { first = Number n; rest = [] })
sum_by params (head.Apply op.Plus) sums = turned_by false sums
sum_by params (head.Apply op.Minus) sums = turned_by true sums
sum_by params (head.Apply _) sums = None

abbrev pub sum_here : List Var → TermTree-F (Option Sum) → Option Sum
sum_here params (Variable n s) = sum_by params (head.Variable n s) []
sum_here params (Apply o sums) = sum_by params (head.Apply o) sums

-- the Sum of parameters and numbers that a tree is, where it is one
unfoldable pub sum_of : List Var → TermTree → Option Sum
sum_of params = fold-TermTree (Option Sum) (sum_here params)

-- ---- operations

-- the names of parameters, where all are words
abbrev pub word_names : List Var → Option (List (List ℕ))
word_names params = if list_all (λ v. is_word v.sort) params then Some (map (λ v. v.name) params) else None

abbrev pub is_true : Head → Bool
is_true (head.Apply op.True) = true
is_true _ = false

-- all arguments are allowed, nothing is picked and nothing assigned
abbrev pub only_replies : List TermTree → Op → Bool
only_replies ts o = is_true (root_of (tree_at ts o.allowed.id)) && (nat_eq (length o.picks) 0 && nat_eq (length o.body) 0)

abbrev pub reply_sum : List TermTree → List Var → Option Term → Option Sum
reply_sum ts params None = None
reply_sum ts params (Some t) = sum_of params (tree_at ts t.id)

abbrev pub op_of : List ℕ → Option (List (List ℕ)) → Option Sum → Option SmallOp
op_of name (Some params) (Some sum) = Some (record { name = name; params = params; first = sum.first; rest = sum.rest })
op_of name _ _ = None

-- the small operation that an operation is, where it is one
abbrev pub small_op : List TermTree → Op → Option SmallOp
small_op ts o = if only_replies ts o then op_of o.name (word_names o.params) (reply_sum ts o.params o.reply) else None

-- ---- whole specifications

-- it has no disks and no fields, a crash picks and assigns nothing, and each operation is a small one
pub record IsSmallOf (s : Spec) (small : Small) : Type 0 where
  pub disks : s.disks ≡ 0
  pub fields : s.fields ≡ []
  pub crash_picks : s.crash_picks ≡ []
  pub crash : s.crash ≡ []
  pub ops : map (small_op s.store) s.ops ≡ map Some small.ops
