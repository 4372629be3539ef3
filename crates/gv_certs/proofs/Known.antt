-- What is known from true facts is true, and a tree with equals put for equals has the same value.
use Rattle.std.proofs.Common.{◌≡◌, ◌⊎◌, inl, inr, ℕ, List, [], ◌∷◌, map, Bool, true, false, ◌&&◌, ◌||◌, cond, Option, Some, None, refl, sym, ap, ◌∙◌, subst}
use Rattle.std.specs.List.{All, list_all}
use Rattle.std.proofs.lemmas.Bool.{and_parts}
use Rattle.std.proofs.lemmas.List.Elements.{All-head, All-tail}
use Rattle.gv_terms.specs.declared.sort.Sort.{Sort}
use Rattle.gv_terms.specs.declared.operator.Operator.{Operator}
use Rattle.gv_terms.specs.declared.operator.Operator.TheVariants as op
use Rattle.gv_terms.specs.declared.tree.Head.{Head}
use Rattle.gv_terms.specs.declared.tree.Head.TheVariants as head
use Rattle.gv_terms.specs.declared.tree.TermTree.{TermTree}
use Rattle.gv_terms.specs.declared.tree.TermTree.TheVariants as tree
use Rattle.gv_terms.specs.declared.value.Value.{Value}
use Rattle.gv_terms.specs.declared.value.Value.TheVariants as val
use Rattle.gv_terms.specs.declared.value.Env.{Env}
use Rattle.gv_terms.specs.Values.{truth_of, value_eq}
use Rattle.gv_terms.specs.Meaning.{operate}
use Rattle.gv_terms.specs.Trees.{rooted, root_of, branches_of, value_under}
use Rattle.gv_terms.proofs.Valued.{value_apply}
use Rattle.gv_axioms.specs.Truth.{IsTrueUnder}
use Rattle.gv_axioms.proofs.Values.{equal, are_equal}
use Rattle.gv_certs.specs.Trees.{tree_eq, contains, operator_eq, is_apply, two, parts_under, over_two, and_pass, equation, negation, replaced}
use Rattle.gv_certs.specs.Known.{is_plain_head, is_plain, no_values, computes, is_reflexive, is_turned, is_known}
use Rattle.gv_certs.proofs.Folding.{Each, trees, by_induction, root_variable, root_apply, branches_apply, rooted_again, folded_variable, folded_apply}
use Rattle.gv_certs.proofs.Equality.{same_tree, operator_eq_decides}

-- ---- tests

pub either : (a b : Bool) → (a || b) ≡ true → (a ≡ true) ⊎ (b ≡ true)
either true b e = inl refl
either false b e = inr e

pub passes : (o : Option (TermTree × TermTree)) (test : TermTree → TermTree → Bool) → and_pass o test ≡ true → (p : TermTree × TermTree) × (o ≡ Some p) × (test p.0 p.1 ≡ true)
passes None test e = absurd cc
passes (Some p) test e = (p, refl, e)

of_two : (bs : List TermTree) (p : TermTree × TermTree) → two bs ≡ Some p → bs ≡ p.0 ∷ p.1 ∷ []
of_two [] p e = absurd cc
of_two (a ∷ []) p e = absurd cc
of_two (a ∷ b ∷ []) p e = let same : (a, b) ≡ p = cc in subst (λ q. a ∷ b ∷ [] ≡ q.0 ∷ q.1 ∷ []) same refl
of_two (a ∷ b ∷ c ∷ bs) p e = absurd cc

by_root : (o : Operator) (h : Head) (bs : List TermTree) (p : TermTree × TermTree) → cond (is_apply o h) (two bs) None ≡ Some p → rooted h bs ≡ over_two o p.0 p.1
by_root o (head.Variable n s) bs p e = absurd cc
by_root o (head.Apply q) bs p e = by_test (operator_eq o q) refl e
  where
    by_test : (b : Bool) → operator_eq o q ≡ b → cond b (two bs) None ≡ Some p → tree.Apply q bs ≡ over_two o p.0 p.1
    by_test true f g = ap (λ r. tree.Apply r bs) (sym ((operator_eq_decides o q).0 f)) ∙ ap (tree.Apply o) (of_two bs p g)
    by_test false f g = absurd cc

-- a tree is the operator over its two parts
pub is_over : (o : Operator) (t : TermTree) (p : TermTree × TermTree) → parts_under o t ≡ Some p → t ≡ over_two o p.0 p.1
is_over o t p e = sym (rooted_again t) ∙ by_root o (root_of t) (branches_of t) p e

pub at_root : (o p : Operator) (a b : TermTree) → parts_under o (over_two p a b) ≡ cond (operator_eq o p) (Some (a, b)) None
at_root o p a b =
    ap (λ h. cond (is_apply o h) (two (branches_of (over_two p a b))) None) (root_apply p (a ∷ b ∷ []))
    ∙ ap (λ bs. cond (operator_eq o p) (two bs) None) (branches_apply p (a ∷ b ∷ []))

pub under_itself : (o : Operator) (a b : TermTree) → parts_under o (over_two o a b) ≡ Some (a, b)
under_itself o a b = at_root o o a b ∙ ap (λ r. cond r (Some (a, b)) None) ((operator_eq_decides o o).1 refl)

pub value_over : (env : Env) (o : Operator) (a b : TermTree) → value_under env (over_two o a b) ≡ operate o (value_under env a ∷ value_under env b ∷ [])
value_over env o a b = value_apply env o (a ∷ b ∷ [])

pub value_negation : (env : Env) (g : TermTree) → value_under env (negation g) ≡ operate op.Not (value_under env g ∷ [])
value_negation env g = value_apply env op.Not (g ∷ [])

-- ---- plain terms

abbrev IsSteady : Env → TermTree → Type 0
IsSteady env t = is_plain t ≡ true → value_under env t ≡ value_under no_values t

abbrev plain : TermTree → List Bool → Bool
plain t parts = is_plain_head (root_of t) && list_all (λ b. b) parts

pub plain_variable : (n : List ℕ) (s : Sort) → is_plain (tree.Variable n s) ≡ false
unfolding is_plain
plain_variable n s = folded_variable plain n s ∙ ap (λ h. is_plain_head h && true) (root_variable n s)

pub plain_apply : (o : Operator) (ts : List TermTree) → is_plain (tree.Apply o ts) ≡ plain (tree.Apply o ts) (map is_plain ts)
unfolding is_plain
plain_apply o ts = folded_apply plain o ts

all_steady : (env : Env) (es : Each (IsSteady env)) → list_all (λ b. b) (map is_plain (trees es)) ≡ true → map (value_under env) (trees es) ≡ map (value_under no_values) (trees es)
all_steady env [] all = refl
all_steady env (e ∷ es) all =
    let both = and_parts (is_plain e.0) (list_all (λ b. b) (map is_plain (trees es))) all in
    ap (λ v. v ∷ map (value_under env) (trees es)) (e.1 both.0) ∙ ap (λ vs. value_under no_values e.0 ∷ vs) (all_steady env es both.1)

steady : (env : Env) (t : TermTree) → IsSteady env t
steady env =
    by_induction (IsSteady env)
    (λ n s e. let no : false ≡ true = sym (plain_variable n s) ∙ e in absurd cc)
    (λ o es e.
    let both = and_parts (is_plain_head (root_of (tree.Apply o (trees es)))) (list_all (λ b. b) (map is_plain (trees es))) (sym (plain_apply o (trees es)) ∙ e) in
    value_apply env o (trees es) ∙ ap (operate o) (all_steady env es both.1) ∙ sym (value_apply no_values o (trees es)))

pub true_value : (v : Value) → truth_of v ≡ true → v ≡ val.Bool true
true_value (val.Bool b) e = ap (λ c. val.Bool c) e
true_value _ e = absurd cc

-- ---- known formulas

module _ (env : Env) where
  pub computed : (f : TermTree) → computes f ≡ true → IsTrueUnder env f
  computed f e =
      let both = and_parts (is_plain f) (truth_of (value_under no_values f)) e in
      steady env f both.0 ∙ true_value (value_under no_values f) both.1

  pub values_equal : (a b : TermTree) → IsTrueUnder env (equation a b) → value_under env a ≡ value_under env b
  values_equal a b e = are_equal (value_under env a) (value_under env b) (sym (value_over env op.Equal a b) ∙ e)

  pub equation_true : (a b : TermTree) → value_under env a ≡ value_under env b → IsTrueUnder env (equation a b)
  equation_true a b e = value_over env op.Equal a b ∙ equal (value_under env a) (value_under env b) e

  pub reflexive_true : (f : TermTree) → is_reflexive f ≡ true → IsTrueUnder env f
  reflexive_true f e =
      let p = passes (parts_under op.Equal f) tree_eq e in
      subst (IsTrueUnder env) (sym (is_over op.Equal f p.0 p.1)) (equation_true p.0.0 p.0.1 (ap (value_under env) (same_tree p.0.0 p.0.1 p.2)))

  pub contained_true : (facts : List TermTree) (f : TermTree) → All (IsTrueUnder env) facts → contains facts f ≡ true → IsTrueUnder env f
  contained_true [] f all e = absurd cc
  contained_true (g ∷ facts) f all e = elim (either (tree_eq g f) (contains facts f) e) [
    | inl here ↦ subst (IsTrueUnder env) (same_tree g f here) (All-head (IsTrueUnder env) g facts all)
    | inr later ↦ contained_true facts f (All-tail (IsTrueUnder env) g facts all) later
  ]

  turned_true : (facts : List TermTree) (f : TermTree) → All (IsTrueUnder env) facts → is_turned facts f ≡ true → IsTrueUnder env f
  turned_true facts f all e =
      let p = passes (parts_under op.Equal f) (λ a b. contains facts (equation b a)) e in
      let other = values_equal p.0.1 p.0.0 (contained_true facts (equation p.0.1 p.0.0) all p.2) in
      subst (IsTrueUnder env) (sym (is_over op.Equal f p.0 p.1)) (equation_true p.0.0 p.0.1 (sym other))

  pub known_true : (facts : List TermTree) (f : TermTree) → All (IsTrueUnder env) facts → is_known facts f ≡ true → IsTrueUnder env f
  known_true facts f all e = elim (either (contains facts f || is_turned facts f || is_reflexive f) (computes f) e) [
    | inl o ↦ elim (either (contains facts f || is_turned facts f) (is_reflexive f) o) [
      | inl q ↦ elim (either (contains facts f) (is_turned facts f) q) [ inl a ↦ contained_true facts f all a | inr b ↦ turned_true facts f all b ]
      | inr c ↦ reflexive_true f c
    ]
    | inr d ↦ computed f d
  ]

-- ---- one tree for another

module _ (env : Env) (a b : TermTree) (same : value_under env a ≡ value_under env b) where
  abbrev IsUnchanged : TermTree → Type 0
  IsUnchanged t = value_under env (replaced a b t) ≡ value_under env t

  abbrev put : TermTree → List TermTree → TermTree
  put t parts = cond (tree_eq a t) b (rooted (root_of t) parts)

  replaced_variable : (n : List ℕ) (s : Sort) → replaced a b (tree.Variable n s) ≡ put (tree.Variable n s) []
  unfolding replaced
  replaced_variable n s = folded_variable put n s

  replaced_apply : (o : Operator) (ts : List TermTree) → replaced a b (tree.Apply o ts) ≡ put (tree.Apply o ts) (map (replaced a b) ts)
  unfolding replaced
  replaced_apply o ts = folded_apply put o ts

  either_way : (t : TermTree) (parts : List TermTree) → value_under env (rooted (root_of t) parts) ≡ value_under env t → value_under env (put t parts) ≡ value_under env t
  either_way t parts h = by_test (tree_eq a t) refl
    where
      by_test : (r : Bool) → tree_eq a t ≡ r → value_under env (cond r b (rooted (root_of t) parts)) ≡ value_under env t
      by_test true e = sym same ∙ ap (value_under env) (same_tree a t e)
      by_test false e = h

  all_unchanged : (es : Each IsUnchanged) → map (value_under env) (map (replaced a b) (trees es)) ≡ map (value_under env) (trees es)
  all_unchanged [] = refl
  all_unchanged (e ∷ es) =
      ap (λ v. v ∷ map (value_under env) (map (replaced a b) (trees es))) e.1 ∙ ap (λ vs. value_under env e.0 ∷ vs) (all_unchanged es)

  pub replaced_value : (t : TermTree) → IsUnchanged t
  replaced_value =
      by_induction IsUnchanged
      (λ n s. ap (value_under env) (replaced_variable n s) ∙ either_way (tree.Variable n s) [] (ap (λ h. value_under env (rooted h [])) (root_variable n s)))
      (λ o es.
      let ts = trees es in
      let parts = map (replaced a b) ts in
      ap (value_under env) (replaced_apply o ts)
      ∙ either_way (tree.Apply o ts) parts
      (ap (λ h. value_under env (rooted h parts)) (root_apply o ts) ∙ value_apply env o parts ∙ ap (operate o) (all_unchanged es) ∙ sym (value_apply env o ts)))
