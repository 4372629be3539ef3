-- Sorts that are tested.
use Rattle.std.proofs.Common.{◌≡◌, true, List, [], ◌∷◌, get_or, Option, Some, None, refl, sym, ap, ◌∙◌, eqb-true}
use Rattle.gv_terms.specs.declared.operator.Operator.TheVariants as op
use Rattle.gv_terms.specs.declared.sort.Sort.{Sort}
use Rattle.gv_terms.specs.declared.sort.Sort.TheVariants as sort
use Rattle.gv_terms.specs.declared.tree.TermTree.TheVariants as tree
use Rattle.gv_terms.specs.declared.var.Var.{Var}
use Rattle.gv_terms.specs.Scopes.{is_closed}
use Rattle.gv_terms.specs.Sorts.{sort_number, sort_eq}
use Rattle.gv_terms.specs.Trees.{sort_of}
use Rattle.gv_terms.specs.Values.{is_sort}
use Rattle.gv_terms.proofs.Closed.{closed_apply}
use Rattle.gv_terms.proofs.NodeSorts.{sort_apply}

abbrev sorts : List Sort
sorts = sort.Word ∷ sort.Bool ∷ sort.Bytes ∷ sort.Words ∷ sort.Refs ∷ sort.Blocks ∷ sort.MapWW ∷ sort.MapWB ∷ sort.Ref ∷ sort.SliceS ∷ sort.Call ∷ sort.Name ∷ []

at_number : (s : Sort) → get_or sorts (sort_number s) sort.Word ≡ s
at_number sort.Word = refl
at_number sort.Bool = refl
at_number sort.Bytes = refl
at_number sort.Words = refl
at_number sort.Refs = refl
at_number sort.Blocks = refl
at_number sort.MapWW = refl
at_number sort.MapWB = refl
at_number sort.Ref = refl
at_number sort.SliceS = refl
at_number sort.Call = refl
at_number sort.Name = refl

same_sort : (r s : Sort) → sort_eq r s ≡ true → r ≡ s
same_sort r s e = sym (at_number r) ∙ ap (λ k. get_or sorts k sort.Word) (eqb-true (sort_number r) (sort_number s) e) ∙ at_number s

pub is_of_sort : (s : Sort) (o : Option Sort) → is_sort s o ≡ true → o ≡ Some s
is_of_sort s None e = absurd cc
is_of_sort s (Some r) e = ap Some (same_sort r s e)

-- the term that is always true

pub true_sort : is_sort sort.Bool (sort_of (tree.Apply op.True [])) ≡ true
true_sort = ap (is_sort sort.Bool) (sort_apply op.True [])

pub true_closed : (vars : List Var) → is_closed vars (tree.Apply op.True []) ≡ true
true_closed vars = closed_apply vars op.True []
