-- Assertions under valuations that agree on their variables.
use Rattle.std.proofs.Common.{◌≡◌, ℕ, ◌<◌, ◌≤◌, ◌⊎◌, inl, inr, Bool, true, false, ◌&&◌, ◌||◌, if◌then◌else◌, List, [], ◌∷◌, map, is_some, find, Option, Some, refl, sym, ap, subst, ◌∙◌}
use Rattle.std.specs.Str.{bytes_eq}
use Rattle.std.specs.List.{list_all, list_any}
use Rattle.std.proofs.lemmas.Slice.Eq.{bytes_eq-Decides}
use Rattle.gv_terms.specs.declared.sort.Sort.{Sort}
use Rattle.gv_terms.specs.declared.sort.Sort.TheVariants as sort
use Rattle.gv_terms.specs.declared.operator.Operator.{Operator}
use Rattle.gv_terms.specs.declared.tree.TermTree.{TermTree}
use Rattle.gv_terms.specs.declared.tree.TermTree.TheVariants as tree
use Rattle.gv_terms.specs.declared.tree.TermTree.TheOpen.{TermTree-F, Variable, Apply}
use Rattle.gv_terms.specs.declared.tree.TermTree.TheFolds.{map-TermTree, ind-TermTree}
use Rattle.gv_terms.specs.declared.tree.TermTree.TheViews.{roll-TermTree}
use Rattle.gv_terms.specs.declared.value.Binding.{Binding}
use Rattle.gv_terms.specs.declared.value.Env.{Env}
use Rattle.gv_terms.specs.declared.value.Value.{Value}
use Rattle.gv_terms.specs.declared.value.Value.TheVariants as val
use Rattle.gv_terms.specs.declared.var.Var.{Var}
use Rattle.gv_terms.specs.Sorts.{sort_eq}
use Rattle.gv_terms.specs.Scopes.{is_among, is_closed}
use Rattle.gv_terms.specs.Values.{has_sort, word_of, slice_of}
use Rattle.gv_terms.specs.Trees.{looked_up, value_under}
use Rattle.gv_terms.proofs.Closed.{closed_variable, closed_apply}
use Rattle.gv_resources.specs.Pieces.{Have, Piece, sum_below}
use Rattle.gv_assertions.specs.Atoms.{Atom, Owns, Slice, Spare, Instance, Each, Predicate, facts_of, atoms_of}
use Rattle.gv_assertions.specs.Standing.{StandsFor, StandForAll, owns, slice, spare, instance, each, none, both, valued, owned_key, indexed, IsNoneOf, OwnsSlice, OwnsSpare, AreTrueUnder, case_env}
use Rattle.gv_instances.specs.Instances.{stands_in}
use Rattle.gv_instances.specs.Agreeing.{AgreeOnAll, AgreeOnAtom, AgreeOnAtoms, AgreeOnVars, AreClosed, number_var, IsClosedAtom, AreClosedAtoms}
use Rattle.gv_instances.specs.Laws.{SameStandLaw, ClosedLaw}
use Rattle.gv_instances.proofs.Sorts.{same_sort}
use Rattle.gv_instances.proofs.Trees.{agreement_law, found_first, stands_variable, stands_apply}

-- ---- assertions

module _ (env other : Env) where
  pub terms_agree : (ts : List TermTree) → AgreeOnAll env other ts → valued env ts ≡ valued other ts
  terms_agree [] same = refl
  terms_agree (t ∷ ts) same = ap (λ x. x ∷ valued env ts) (agreement_law env other t same.0) ∙ ap (λ xs. value_under other t ∷ xs) (terms_agree ts same.1)

  none_agree : (ts : List TermTree) (n : ℕ) → AgreeOnAll env other ts → IsNoneOf other ts n → IsNoneOf env ts n
  none_agree [] n same h = tt
  none_agree (t ∷ ts) n same h = ((λ e. h.0 (e ∙ ap word_of (agreement_law env other t same.0))), none_agree ts n same.1 h.1)

pub atom_agrees : (preds : List Predicate) (env other : Env) (a : Atom) (p : Piece) → AgreeOnAtom env other a → StandsFor preds env a p → StandsFor preds other a p
atom_agrees preds env other (Owns k key value) p same (owns has) =
    owns (subst (λ (x : List Value). 0 < p (Have k (owned_key k x) (valued other value))) (terms_agree env other key same.0)
    (subst (λ (x : List Value). 0 < p (Have k (owned_key k (valued env key)) x)) (terms_agree env other value same.1) has))
atom_agrees preds env other (Slice frozen s items) p same (slice h) =
    slice (subst (λ (x : Value). OwnsSlice frozen (slice_of x) (value_under other items) p) (agreement_law env other s same.0)
    (subst (λ (x : Value). OwnsSlice frozen (slice_of (value_under env s)) x p) (agreement_law env other items same.1) h))
atom_agrees preds env other (Spare s) p same (spare h) = spare (subst (λ (x : Value). OwnsSpare (slice_of x) p) (agreement_law env other s same) h)
atom_agrees preds env other (Instance number args) p same (instance pred place case own is_pred is_case values facts stands) =
    instance pred place case own is_pred is_case values
    (subst (λ (xs : List Value). AreTrueUnder (case_env pred case xs own) (facts_of case.items)) (terms_agree env other args same) facts)
    (subst (λ (xs : List Value). StandForAll preds (case_env pred case xs own) (atoms_of case.items) p) (terms_agree env other args same) stands)
atom_agrees preds env other (Each index low high except a) p same (each parts sums stands) =
    let low_is = agreement_law env other low same.0 in
    let high_is = agreement_law env other high same.1 in
    each parts (λ e. subst (λ (x : Value). sum_below (word_of x) (λ n. parts n e) ≤ p e) high_is (sums e))
    (λ n l h free. atom_agrees preds (indexed env index n) (indexed other index n) a (parts n) (same.3 n)
    (stands n (subst (λ (x : Value). word_of x ≤ n) (sym low_is) l) (subst (λ (x : Value). n < word_of x) (sym high_is) h) (none_agree env other except n same.2 free)))

pub same_stand : SameStandLaw
same_stand preds env other [] p same none = none
same_stand preds env other (a ∷ all) p same (both q r split h s) = both q r split (atom_agrees preds env other a q same.0 h) (same_stand preds env other all r same.1 s)

-- ---- terms over some variables alone

any_of : (a b : Bool) → (a || b) ≡ true → (a ≡ true) ⊎ (b ≡ true)
any_of true b e = inl refl
any_of false b e = inr e

pub both_true : (a b : Bool) → (a && b) ≡ true → (a ≡ true) × (b ≡ true)
both_true true b e = (refl, e)
both_true false b e = absurd cc

Within : List Var → TermTree → Type 0
Within vars t = is_closed vars t ≡ true → (n : List ℕ) (s : Sort) → stands_in n s t ≡ true → is_among vars n s ≡ true

module _ (vars : List Var) where
  parts_within : (es : List ((t : TermTree) × Within vars t)) → list_all (λ b. b) (map (is_closed vars) (map (λ e. e.0) es)) ≡ true → (n : List ℕ) (s : Sort)
      → list_any (λ b. b) (map (stands_in n s) (map (λ e. e.0) es)) ≡ true → is_among vars n s ≡ true
  unfolding Within
  parts_within [] c n s h = absurd cc
  parts_within (d ∷ es) c n s h =
      let closed = both_true (is_closed vars d.0) _ c in
      elim (any_of (stands_in n s d.0) _ h) [ inl here ↦ d.1 closed.0 n s here | inr later ↦ parts_within es closed.1 n s later ]

  variable_within : (m : List ℕ) (r : Sort) → Within vars (tree.Variable m r)
  unfolding Within
  variable_within m r c n s h =
      let is = both_true (bytes_eq m n) (sort_eq r s) (sym (stands_variable n s m r) ∙ h) in
      let name : m ≡ n = (bytes_eq-Decides m n).0 is.0 in
      subst (λ x. is_among vars x s ≡ true) name (subst (λ x. is_among vars m x ≡ true) (sym (same_sort r s is.1)) (sym (closed_variable vars m r) ∙ c))

  apply_within : (o : Operator) (es : List ((t : TermTree) × Within vars t)) → Within vars (tree.Apply o (map (λ e. e.0) es))
  unfolding Within
  apply_within o es c n s h =
      parts_within es (sym (closed_apply vars o (map (λ e. e.0) es)) ∙ c) n s (sym (stands_apply n s o (map (λ e. e.0) es)) ∙ h)

  layer_within : (y : TermTree-F ((t : TermTree) × Within vars t)) → Within vars (roll-TermTree (map-TermTree ((t : TermTree) × Within vars t) TermTree (λ e. e.0) y))
  layer_within (Variable n s) = subst (Within vars) (sym (tree.rolls-Variable n s)) (variable_within n s)
  layer_within (Apply o es) = subst (Within vars) (sym (tree.rolls-Apply o (map (λ e. e.0) es))) (apply_within o es)

  pub closed_within : (t : TermTree) → is_closed vars t ≡ true → (n : List ℕ) (s : Sort) → stands_in n s t ≡ true → is_among vars n s ≡ true
  unfolding Within
  closed_within t = ind-TermTree (Within vars) (λ x y is. subst (λ z. Within vars (roll-TermTree z)) is (layer_within y)) t

-- ---- assertions over some variables alone

among_rest : (test : Bool) (v : Var) (rest : Option Var) → is_some (if test then Some v else rest) ≡ true → test ≡ false → is_some rest ≡ true
among_rest true v rest h e = absurd cc
among_rest false v rest h e = h

chosen : (test : Bool) (n x y : Value) → (test ≡ false → x ≡ y) → (if test then n else x) ≡ (if test then n else y)
chosen true n x y same = refl
chosen false n x y same = same refl

indexed_agree : (vars : List Var) (env other : Env) (index : List ℕ) (n : ℕ) → AgreeOnVars env other vars
    → AgreeOnVars (indexed env index n) (indexed other index n) (number_var index ∷ vars)
indexed_agree vars env other index n same m s among =
    let b : Binding = record { name = index; value = val.Word n } in
    found_first b env.bindings m s
    ∙ chosen (bytes_eq index m && has_sort (val.Word n) s) (val.Word n) (looked_up env m s) (looked_up other m s)
    (λ e. same m s (among_rest (bytes_eq index m && sort_eq sort.Word s) (number_var index) (find (λ v. bytes_eq v.name m && sort_eq v.sort s) vars) among e))
    ∙ sym (found_first b other.bindings m s)

closed_terms : (vars : List Var) (env other : Env) (ts : List TermTree) → AgreeOnVars env other vars → AreClosed vars ts → AgreeOnAll env other ts
closed_terms vars env other [] same c = tt
closed_terms vars env other (t ∷ ts) same c = ((λ n s h. same n s (closed_within vars t c.0 n s h)), closed_terms vars env other ts same c.1)

closed_atom : (vars : List Var) (env other : Env) (a : Atom) → AgreeOnVars env other vars → IsClosedAtom vars a → AgreeOnAtom env other a
closed_atom vars env other (Owns k key value) same c = (closed_terms vars env other key same c.0, closed_terms vars env other value same c.1)
closed_atom vars env other (Slice frozen s items) same c = ((λ n r h. same n r (closed_within vars s c.0 n r h)), (λ n r h. same n r (closed_within vars items c.1 n r h)))
closed_atom vars env other (Spare s) same c = λ n r h. same n r (closed_within vars s c n r h)
closed_atom vars env other (Instance number args) same c = closed_terms vars env other args same c
closed_atom vars env other (Each index low high except a) same c = (
  (λ n r h. same n r (closed_within vars low c.0 n r h)),
  (λ n r h. same n r (closed_within vars high c.1 n r h)),
  closed_terms vars env other except same c.2,
  (λ n. closed_atom (number_var index ∷ vars) (indexed env index n) (indexed other index n) a (indexed_agree vars env other index n same) c.3),
)

closed_atoms : (vars : List Var) (env other : Env) (all : List Atom) → AgreeOnVars env other vars → AreClosedAtoms vars all → AgreeOnAtoms env other all
closed_atoms vars env other [] same c = tt
closed_atoms vars env other (a ∷ all) same c = (closed_atom vars env other a same c.0, closed_atoms vars env other all same c.1)

pub closed_law : ClosedLaw
closed_law vars env other = record {
  value = λ same t c. agreement_law env other t (λ n s h. same n s (closed_within vars t c n s h));
  stands = λ same preds all p c s. same_stand preds env other all p (closed_atoms vars env other all same c) s;
}
