-- Terms as trees: their sorts, and their values under a valuation.
use Rattle.std.specs.Prelude.{ℕ, List, [], ◌∷◌, ◌&&◌, Option, Some, None, find, option_map}
use Rattle.std.specs.Str.{bytes_eq}
use Rattle.std.specs.Option.{unwrap_or}
use Rattle.gv_terms.specs.declared.sort.Sort.{Sort}
use Rattle.gv_terms.specs.declared.tree.Head.{Head}
use Rattle.gv_terms.specs.declared.tree.Head.TheVariants as head
use Rattle.gv_terms.specs.declared.tree.TermTree.{TermTree, fold-TermTree, out-TermTree}
use Rattle.gv_terms.specs.declared.tree.TermTree.TheVariants as tree
use Rattle.gv_terms.specs.declared.tree.TermTree.TheOpen.{TermTree-F, Variable, Apply}
use Rattle.gv_terms.specs.declared.value.Value.{Value}
use Rattle.gv_terms.specs.declared.value.Env.{Env}
use Rattle.gv_terms.specs.Sorts.{sort_given}
use Rattle.gv_terms.specs.Values.{zero_of, has_sort}
use Rattle.gv_terms.specs.Meaning.{operate}

-- the tree of a head over trees
abbrev pub rooted : Head → List TermTree → TermTree
rooted (head.Variable n s) ts = tree.Variable n s
rooted (head.Apply o) ts = tree.Apply o ts

-- what stands at the root of a tree, and the trees below it
abbrev pub root_here : TermTree-F TermTree → Head
root_here (Variable n s) = head.Variable n s
root_here (Apply o parts) = head.Apply o

abbrev pub root_of : TermTree → Head
root_of t = root_here (out-TermTree t)

abbrev pub branches_here : TermTree-F TermTree → List TermTree
branches_here (Variable n s) = []
branches_here (Apply o parts) = parts

abbrev pub branches_of : TermTree → List TermTree
branches_of t = branches_here (out-TermTree t)

-- the sorts of all, where each has one
abbrev pub all_sorts : List (Option Sort) → Option (List Sort)
all_sorts [] = Some []
all_sorts (None ∷ os) = None
all_sorts (Some s ∷ os) = option_map (λ ss. s ∷ ss) (all_sorts os)

abbrev pub with_sorts : Option (List Sort) → (List Sort → Option Sort) → Option Sort
with_sorts None f = None
with_sorts (Some ss) f = f ss

-- of one level, over the sorts of the parts
abbrev pub sort_here : TermTree-F (Option Sort) → Option Sort
sort_here (Variable n s) = Some s
sort_here (Apply o sorts) = with_sorts (all_sorts sorts) (sort_given o)

-- the sort of a tree, where it has one
unfoldable pub sort_of : TermTree → Option Sort
sort_of = fold-TermTree (Option Sort) sort_here

-- the sort of a node: a variable has no parts
abbrev pub sort_of_node : Head → List TermTree → Option Sort
sort_of_node (head.Variable n s) [] = Some s
sort_of_node (head.Variable n s) (t ∷ ts) = None
sort_of_node (head.Apply o) ts = sort_of (tree.Apply o ts)

-- the same from the sorts of the parts
abbrev pub head_sort : Head → List Sort → Option Sort
head_sort (head.Variable n s) [] = Some s
head_sort (head.Variable n s) (r ∷ rs) = None
head_sort (head.Apply o) rs = sort_given o rs

-- what a valuation gives a variable: the first value that has its name and its sort, or the zero
abbrev pub looked_up : Env → List ℕ → Sort → Value
looked_up env n s = unwrap_or (option_map (λ b. b.value) (find (λ b. bytes_eq b.name n && has_sort b.value s) env.bindings)) (zero_of s)

-- of one level, over the values of the parts
abbrev pub value_here : Env → TermTree-F Value → Value
value_here env (Variable n s) = looked_up env n s
value_here env (Apply o values) = operate o values

-- the value of a tree under a valuation
unfoldable pub value_under : Env → TermTree → Value
value_under env = fold-TermTree Value (value_here env)

-- the value of a head over the values of its parts
abbrev pub head_value : Env → Head → List Value → Value
head_value env (head.Variable n s) vs = looked_up env n s
head_value env (head.Apply o) vs = operate o vs
