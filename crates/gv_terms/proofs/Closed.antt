-- The variables of a tree, by the variables of its parts.
use Rattle.std.proofs.Common.{◌≡◌, ℕ, List, map, rules}
use Rattle.std.specs.List.{list_all}
use Rattle.gv_terms.specs.declared.sort.Sort.{Sort}
use Rattle.gv_terms.specs.declared.operator.Operator.{Operator}
use Rattle.gv_terms.specs.declared.var.Var.{Var}
use Rattle.gv_terms.specs.declared.tree.TermTree.{TermTree, the_lemmas}
use Rattle.gv_terms.specs.declared.tree.TermTree.TheVariants as tree
use Rattle.gv_terms.specs.Scopes.{is_closed, is_among}

pub closed_variable : (vars : List Var) (n : List ℕ) (s : Sort) → is_closed vars (tree.Variable n s) ≡ is_among vars n s
unfolding is_closed
closed_variable vars n s = search (rules, the_lemmas)

pub closed_apply : (vars : List Var) (o : Operator) (ts : List TermTree) → is_closed vars (tree.Apply o ts) ≡ list_all (λ b. b) (map (is_closed vars) ts)
unfolding is_closed
closed_apply vars o ts = search (rules, the_lemmas)
