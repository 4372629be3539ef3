-- The tree that a term as it was read stands for, by those of its parts.
use Rattle.std.proofs.Common.{◌≡◌, ℕ, zero, suc, true, cond, List, [], ◌∷◌, Option, Some, None, map, option_map, option_and_then, is_some, IsSome, refl, sym, ap, ◌∙◌, subst, rules}
use Rattle.std.specs.Prelude.{slice_get}
use Rattle.std.specs.List.{list_all}
use Rattle.gv_terms.specs.declared.sort.Sort.{Sort}
use Rattle.gv_terms.specs.declared.var.Var.{Var}
use Rattle.gv_terms.specs.declared.operator.Operator.{Operator}
use Rattle.gv_terms.specs.declared.tree.TermTree.{TermTree}
use Rattle.gv_terms.specs.declared.tree.TermTree.TheVariants as tree
use Rattle.gv_terms.specs.Trees.{sort_of}
use Rattle.gv_terms.proofs.Closed.{closed_variable, closed_apply}
use Rattle.gv_terms.proofs.NodeSorts.{sort_variable}
use Rattle.gv_terms.specs.declared.tree.RawTerm.{RawTerm, the_lemmas}
use Rattle.gv_terms.specs.declared.tree.RawTerm.TheVariants as raw
use Rattle.gv_terms.specs.declared.tree.RawTerm.TheOpen.{RawTerm-F, Variable, Apply}
use Rattle.gv_terms.specs.declared.tree.RawTerm.TheFolds.{map-RawTerm, ind-RawTerm}
use Rattle.gv_terms.specs.declared.tree.RawTerm.TheViews.{roll-RawTerm}
use Rattle.gv_terms.specs.Scopes.{sort_under, is_closed}
use Rattle.gv_terms.specs.Resolving.{variable_named, all_there, if_sorted, resolved}
use Rattle.gv_terms.proofs.ScopeLookups.{under_among}

pub resolved_variable : (vars : List Var) (n : List ℕ) → resolved vars (raw.Variable n) ≡ variable_named vars n
unfolding resolved
resolved_variable vars n = search (rules, the_lemmas)

pub resolved_apply : (vars : List Var) (o : Operator) (parts : List RawTerm) → resolved vars (raw.Apply o parts) ≡ option_and_then (λ ts. if_sorted (tree.Apply o ts)) (all_there (map (resolved vars) parts))
unfolding resolved
resolved_apply vars o parts = search (rules, the_lemmas)

pub all_some : (ts : List TermTree) → all_there (map Some ts) ≡ Some ts
all_some [] = refl
all_some (t ∷ ts) = ap (λ o. option_map (λ us. t ∷ us) o) (all_some ts)

-- a node whose parts stand for trees
pub resolved_parts : (vars : List Var) (o : Operator) (parts : List RawTerm) (ts : List TermTree) → map (resolved vars) parts ≡ map Some ts → resolved vars (raw.Apply o parts) ≡ if_sorted (tree.Apply o ts)
resolved_parts vars o parts ts e =
    resolved_apply vars o parts ∙ ap (λ os. option_and_then (λ us. if_sorted (tree.Apply o us)) (all_there os)) e
    ∙ ap (option_and_then (λ us. if_sorted (tree.Apply o us))) (all_some ts)

unsorted : (t : TermTree) → sort_of t ≡ None → if_sorted t ≡ None
unsorted t e = ap (λ s. cond (is_some s) (Some t) None) e

pub unsorted_node : (vars : List Var) (o : Operator) (parts : List RawTerm) (ts : List TermTree) → map (resolved vars) parts ≡ map Some ts → sort_of (tree.Apply o ts) ≡ None → resolved vars (raw.Apply o parts) ≡ None
unsorted_node vars o parts ts e f = resolved_parts vars o parts ts e ∙ unsorted (tree.Apply o ts) f

with_sort : (t : TermTree) (s : Option Sort) → IsSome s → cond (is_some s) (Some t) None ≡ Some t
with_sort t None h = absurd (search rules)
with_sort t (Some s) h = refl

pub sorted_node : (vars : List Var) (o : Operator) (parts : List RawTerm) (ts : List TermTree) → map (resolved vars) parts ≡ map Some ts → IsSome (sort_of (tree.Apply o ts)) → resolved vars (raw.Apply o parts) ≡ Some (tree.Apply o ts)
sorted_node vars o parts ts e h = resolved_parts vars o parts ts e ∙ with_sort (tree.Apply o ts) (sort_of (tree.Apply o ts)) h

still_missing : (o : Option TermTree) (os : List (Option TermTree)) → all_there os ≡ None → all_there (o ∷ os) ≡ None
still_missing None os e = refl
still_missing (Some t) os e = ap (option_map (λ us. t ∷ us)) e

-- a part that stands for no tree
pub missing : (vars : List Var) (ps : List RawTerm) (i : ℕ) (p : RawTerm) → slice_get ps i ≡ Some p → resolved vars p ≡ None → all_there (map (resolved vars) ps) ≡ None
missing vars [] i p at none = absurd cc
missing vars (q ∷ ps) zero p at none = let same : q ≡ p = cc in ap (λ o. all_there (o ∷ map (resolved vars) ps)) (ap (resolved vars) same ∙ none)
missing vars (q ∷ ps) (suc i) p at none = still_missing (resolved vars q) (map (resolved vars) ps) (missing vars ps i p at none)

-- What holds of each tree that a node stands for: it has a sort, and its variables are among the given ones.

abbrev IsFit : List Var → RawTerm → Type 0
IsFit vars n = (t : TermTree) → resolved vars n ≡ Some t → (IsSome (sort_of t)) × (is_closed vars t ≡ true)

variable_fit : (vars : List Var) (n : List ℕ) (o : Option Sort) (t : TermTree) → sort_under vars n ≡ o → option_map (λ s. tree.Variable n s) o ≡ Some t → (IsSome (sort_of t)) × (is_closed vars t ≡ true)
variable_fit vars n None t e f = absurd cc
variable_fit vars n (Some s) t e f =
    let same : tree.Variable n s ≡ t = cc in
    subst (λ u. (IsSome (sort_of u)) × (is_closed vars u ≡ true)) same (
      subst (λ q. IsSome q) (sym (sort_variable n s)) (search rules),
      closed_variable vars n s ∙ under_among vars n s e,
    )

-- the parts that stand for trees
each_closed : (vars : List Var) (es : List ((n : RawTerm) × IsFit vars n)) (ts : List TermTree) → all_there (map (resolved vars) (map (λ e. e.0) es)) ≡ Some ts → list_all (λ b. b) (map (is_closed vars) ts) ≡ true
each_closed vars [] ts e = let same : [] ≡ ts = cc in subst (λ us. list_all (λ b. b) (map (is_closed vars) us) ≡ true) same refl
each_closed vars (c ∷ es) ts e = first (resolved vars c.0) refl e (each_closed vars es)
  where
    others : (t : TermTree) (o : Option (List TermTree)) → ((us : List TermTree) → all_there (map (resolved vars) (map (λ d. d.0) es)) ≡ Some us → list_all (λ b. b) (map (is_closed vars) us) ≡ true) → is_closed vars t ≡ true → all_there (map (resolved vars) (map (λ d. d.0) es)) ≡ o → option_map (λ us. t ∷ us) o ≡ Some ts → list_all (λ b. b) (map (is_closed vars) ts) ≡ true
    others t None ih h g f = absurd cc
    others t (Some us) ih h g f =
        let same : t ∷ us ≡ ts = cc in
        subst (λ ws. list_all (λ b. b) (map (is_closed vars) ws) ≡ true) same
        (rw h (ih us g))

    first : (o : Option TermTree) → resolved vars c.0 ≡ o → all_there (o ∷ map (resolved vars) (map (λ d. d.0) es)) ≡ Some ts → ((us : List TermTree) → all_there (map (resolved vars) (map (λ d. d.0) es)) ≡ Some us → list_all (λ b. b) (map (is_closed vars) us) ≡ true) → list_all (λ b. b) (map (is_closed vars) ts) ≡ true
    first None g f ih = absurd cc
    first (Some t) g f ih = others t (all_there (map (resolved vars) (map (λ d. d.0) es))) ih ((c.1 t g).1) refl f

sorted_is : (t u : TermTree) (s : Option Sort) → sort_of t ≡ s → cond (is_some s) (Some t) None ≡ Some u → (IsSome s) × (t ≡ u)
sorted_is t u None e f = absurd cc
sorted_is t u (Some s) e f = (search rules, cc)

apply_fit : (vars : List Var) (o : Operator) (es : List ((n : RawTerm) × IsFit vars n)) → IsFit vars (raw.Apply o (map (λ e. e.0) es))
apply_fit vars o es t e = by (all_there (map (resolved vars) (map (λ d. d.0) es))) refl (sym (resolved_apply vars o (map (λ d. d.0) es)) ∙ e)
  where
    by : (ts : Option (List TermTree)) → all_there (map (resolved vars) (map (λ d. d.0) es)) ≡ ts → option_and_then (λ us. if_sorted (tree.Apply o us)) ts ≡ Some t → (IsSome (sort_of t)) × (is_closed vars t ≡ true)
    by None g f = absurd cc
    by (Some ts) g f =
        let is = sorted_is (tree.Apply o ts) t (sort_of (tree.Apply o ts)) refl f in
        subst (λ u. (IsSome (sort_of u)) × (is_closed vars u ≡ true)) is.1
        (is.0, closed_apply vars o ts ∙ each_closed vars es ts g)

layer_fit : (vars : List Var) (y : RawTerm-F ((n : RawTerm) × IsFit vars n)) → IsFit vars (roll-RawTerm (map-RawTerm ((n : RawTerm) × IsFit vars n) RawTerm (λ e. e.0) y))
layer_fit vars (Variable n) = subst (IsFit vars) (sym (raw.rolls-Variable n)) (λ t e. variable_fit vars n (sort_under vars n) t refl (sym (resolved_variable vars n) ∙ e))
layer_fit vars (Apply o es) = subst (IsFit vars) (sym (raw.rolls-Apply o (map (λ e. e.0) es))) (apply_fit vars o es)

pub resolved_fit : (vars : List Var) (n : RawTerm) (t : TermTree) → resolved vars n ≡ Some t → (IsSome (sort_of t)) × (is_closed vars t ≡ true)
resolved_fit vars = ind-RawTerm (IsFit vars) (λ x y is. subst (λ z. IsFit vars (roll-RawTerm z)) is (layer_fit vars y))
