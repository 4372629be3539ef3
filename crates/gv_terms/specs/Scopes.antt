-- Names with their sorts.
use Rattle.std.specs.Prelude.{ℕ, List, Bool, ◌&&◌, Option, map, option_map, is_some}
use Rattle.std.specs.List.{find, list_all}
use Rattle.std.specs.Str.{bytes_eq}
use Rattle.gv_terms.specs.declared.sort.Sort.{Sort}
use Rattle.gv_terms.specs.declared.var.Var.{Var}
use Rattle.gv_terms.specs.declared.tree.TermTree.{TermTree, fold-TermTree}
use Rattle.gv_terms.specs.declared.tree.TermTree.TheOpen.{TermTree-F, Variable, Apply}
use Rattle.gv_terms.specs.Sorts.{sort_eq}

abbrev pub var_of : List ℕ × Sort → Var
var_of e = record { name = e.0; sort = e.1 }

abbrev pub vars_of : List (List ℕ × Sort) → List Var
vars_of es = map var_of es

-- the sort of the first variable that bears a name
abbrev pub sort_under : List Var → List ℕ → Option Sort
sort_under vars n = option_map (λ v. v.sort) (find (λ v. bytes_eq n v.name) vars)

-- a variable of this name and sort is among these
abbrev pub is_among : List Var → List ℕ → Sort → Bool
is_among vars n s = is_some (find (λ v. bytes_eq v.name n && sort_eq v.sort s) vars)

-- all variables of a tree are among these
abbrev pub closed_here : List Var → TermTree-F Bool → Bool
closed_here vars (Variable n s) = is_among vars n s
closed_here vars (Apply o parts) = list_all (λ b. b) parts

unfoldable pub is_closed : List Var → TermTree → Bool
is_closed vars = fold-TermTree Bool (closed_here vars)
