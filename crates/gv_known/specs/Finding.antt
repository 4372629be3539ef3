-- Terms that are among others.
use Rattle.std.specs.Prelude.{◌≡◌, true, List}
use Rattle.gv_terms.specs.declared.term.Term.{Term}
use Rattle.gv_terms.specs.declared.tree.TermTree.{TermTree}
use Rattle.gv_terms.specs.Store.{tree_at, trees_at}
use Rattle.gv_certs.specs.Trees.{contains, equation}

-- one of the facts has the tree of a term
abbrev pub IsIn : List TermTree → List Term → Term → Type 0
IsIn st facts t = contains (trees_at st facts) (tree_at st t.id) ≡ true

-- one of the facts is the equation of two terms
abbrev pub IsEquationIn : List TermTree → List Term → Term → Term → Type 0
IsEquationIn st facts a b = contains (trees_at st facts) (equation (tree_at st a.id) (tree_at st b.id)) ≡ true
