-- Terms put in for variables.
use Rattle.std.proofs.Common.{◌≡◌, ℕ, Bool, true, false, ◌&&◌, ◌||◌, if◌then◌else◌, List, [], ◌∷◌, ◌++◌, map, find, option_map, unwrap_or, Option, Some, refl, sym, ap, subst, ◌∙◌, rules}
use Rattle.std.specs.Str.{bytes_eq}
use Rattle.std.specs.List.{list_any}
use Rattle.std.proofs.lemmas.Slice.Eq.{bytes_eq-Decides}
use Rattle.gv_terms.specs.declared.sort.Sort.{Sort}
use Rattle.gv_terms.specs.declared.operator.Operator.{Operator}
use Rattle.gv_terms.specs.declared.tree.TermTree.{TermTree, the_lemmas}
use Rattle.gv_terms.specs.declared.tree.TermTree.TheVariants as tree
use Rattle.gv_terms.specs.declared.tree.TermTree.TheOpen.{TermTree-F, Variable, Apply}
use Rattle.gv_terms.specs.declared.tree.TermTree.TheFolds.{map-TermTree, ind-TermTree}
use Rattle.gv_terms.specs.declared.tree.TermTree.TheViews.{roll-TermTree}
use Rattle.gv_terms.specs.declared.value.Binding.{Binding}
use Rattle.gv_terms.specs.declared.value.Env.{Env}
use Rattle.gv_terms.specs.declared.value.Value.{Value}
use Rattle.gv_terms.specs.Meaning.{operate}
use Rattle.gv_terms.specs.Sorts.{sort_eq, sort_given}
use Rattle.gv_terms.specs.Values.{has_sort, is_sort, zero_of}
use Rattle.gv_terms.specs.Trees.{sort_of, looked_up, value_under, all_sorts, with_sorts}
use Rattle.gv_terms.proofs.NodeSorts.{sort_variable, sort_apply}
use Rattle.gv_terms.proofs.Valued.{value_variable, value_apply}
use Rattle.gv_terms.proofs.ValueSorts.{values_have_sorts}
use Rattle.gv_atomic.specs.Choices.{binds}
use Rattle.gv_instances.proofs.Sorts.{same_sort, sort_itself}
use Rattle.gv_instances.specs.Instances.{Given, AreSorted, term_for, put_in, stands_in, binding_of, given_under}
use Rattle.gv_instances.specs.Agreeing.{AgreeOn}
use Rattle.gv_instances.specs.Laws.{AgreementLaw, TermsLaw}

-- ---- one level

pub put_variable : (given : List Given) (n : List ℕ) (s : Sort) → put_in given (tree.Variable n s) ≡ term_for given n s
unfolding put_in
put_variable given n s = search (rules, the_lemmas)

pub put_apply : (given : List Given) (o : Operator) (ts : List TermTree) → put_in given (tree.Apply o ts) ≡ tree.Apply o (map (put_in given) ts)
unfolding put_in
put_apply given o ts = search (rules, the_lemmas)

pub stands_variable : (n : List ℕ) (s : Sort) (m : List ℕ) (r : Sort) → stands_in n s (tree.Variable m r) ≡ (bytes_eq m n && sort_eq r s)
unfolding stands_in
stands_variable n s m r = search (rules, the_lemmas)

pub stands_apply : (n : List ℕ) (s : Sort) (o : Operator) (ts : List TermTree) → stands_in n s (tree.Apply o ts) ≡ list_any (λ b. b) (map (stands_in n s) ts)
unfolding stands_in
stands_apply n s o ts = search (rules, the_lemmas)

-- ---- agreement

Agrees : Env → Env → TermTree → Type 0
Agrees env other t = AgreeOn env other t → value_under env t ≡ value_under other t

any_first : (a b : Bool) → a ≡ true → (a || b) ≡ true
any_first true b e = refl
any_first false b e = absurd cc

any_later : (a b : Bool) → b ≡ true → (a || b) ≡ true
any_later true b e = refl
any_later false b e = e

module _ (env other : Env) where
  parts_agree : (es : List ((t : TermTree) × Agrees env other t)) → ((n : List ℕ) (s : Sort) → list_any (λ b. b) (map (stands_in n s) (map (λ e. e.0) es)) ≡ true → looked_up env n s ≡ looked_up other n s)
      → map (value_under env) (map (λ e. e.0) es) ≡ map (value_under other) (map (λ e. e.0) es)
  unfolding Agrees
  parts_agree [] h = refl
  parts_agree (d ∷ es) h =
      let first = d.1 (λ n s e. h n s (any_first (stands_in n s d.0) _ e)) in
      let rest = parts_agree es (λ n s e. h n s (any_later (stands_in n s d.0) _ e)) in
      ap (λ x. x ∷ map (value_under env) (map (λ e. e.0) es)) first ∙ ap (λ xs. value_under other d.0 ∷ xs) rest

  variable_agrees : (n : List ℕ) (s : Sort) → Agrees env other (tree.Variable n s)
  unfolding Agrees
  variable_agrees n s h = value_variable env n s ∙ h n s (stands_variable n s n s ∙ same_name n s) ∙ sym (value_variable other n s)
    where
      same_name : (n : List ℕ) (s : Sort) → (bytes_eq n n && sort_eq s s) ≡ true
      same_name n s = rw ((bytes_eq-Decides n n).1 refl, sort_itself s) refl

  apply_agrees : (o : Operator) (es : List ((t : TermTree) × Agrees env other t)) → Agrees env other (tree.Apply o (map (λ e. e.0) es))
  unfolding Agrees
  apply_agrees o es h =
      value_apply env o (map (λ e. e.0) es) ∙ ap (operate o) (parts_agree es (λ n s e. h n s (stands_apply n s o (map (λ e. e.0) es) ∙ e))) ∙ sym (value_apply other o (map (λ e. e.0) es))

  layer_agrees : (y : TermTree-F ((t : TermTree) × Agrees env other t)) → Agrees env other (roll-TermTree (map-TermTree ((t : TermTree) × Agrees env other t) TermTree (λ e. e.0) y))
  layer_agrees (Variable n s) = subst (Agrees env other) (sym (tree.rolls-Variable n s)) (variable_agrees n s)
  layer_agrees (Apply o es) = subst (Agrees env other) (sym (tree.rolls-Apply o (map (λ e. e.0) es))) (apply_agrees o es)

pub agreement_law : AgreementLaw
unfolding Agrees
agreement_law env other t h = ind-TermTree (Agrees env other) (λ x y is. subst (λ z. Agrees env other (roll-TermTree z)) is (layer_agrees env other y)) t h

-- ---- look-ups

-- what a first binding gives, or the rest
pub found_first : (b : Binding) (bs : List Binding) (n : List ℕ) (s : Sort)
    → looked_up (binds (b ∷ bs)) n s ≡ (if bytes_eq b.name n && has_sort b.value s then b.value else looked_up (binds bs) n s)
found_first b bs n s = chosen (bytes_eq b.name n && has_sort b.value s) b (find (λ c. bytes_eq c.name n && has_sort c.value s) bs) (zero_of s)
  where
    chosen : (test : Bool) (b : Binding) (rest : Option Binding) (zero : Value)
        → unwrap_or (option_map (λ c. c.value) (if test then Some b else rest)) zero ≡ (if test then b.value else unwrap_or (option_map (λ c. c.value) rest) zero)
    chosen true b rest zero = refl
    chosen false b rest zero = refl

-- the test of a binding is that of its variable
pub test_is : (env : Env) (g : Given) (n : List ℕ) (s : Sort) → sort_of g.term ≡ Some g.var.sort
    → (bytes_eq g.var.name n && has_sort (value_under env g.term) s) ≡ (bytes_eq g.var.name n && sort_eq g.var.sort s)
test_is env g n s e = ap (λ (o : Option Sort). bytes_eq g.var.name n && is_sort s o) (values_have_sorts env g.term g.var.sort e)

chosen_same : (test : Bool) (x y : Value) (t u : TermTree) (env : Env) → value_under env t ≡ x → value_under env u ≡ y → value_under env (if test then t else u) ≡ (if test then x else y)
chosen_same true x y t u env e d = e
chosen_same false x y t u env e d = d

variable_value : (given : List Given) (env : Env) (n : List ℕ) (s : Sort) → AreSorted given → value_under env (term_for given n s) ≡ looked_up (given_under given env) n s
variable_value [] env n s sorted = value_variable env n s
variable_value (g ∷ given) env n s sorted =
    chosen_same (bytes_eq g.var.name n && sort_eq g.var.sort s) (value_under env g.term) (looked_up (given_under given env) n s) g.term (term_for given n s) env refl (variable_value given env n s sorted.1)
    ∙ ap (λ (test : Bool). if test then value_under env g.term else looked_up (given_under given env) n s) (sym (test_is env g n s sorted.0))
    ∙ sym (found_first (binding_of env g) (map (binding_of env) given ++ env.bindings) n s)

-- ---- values

module _ (given : List Given) (env : Env) (sorted : AreSorted given) where
  abbrev Means : TermTree → Type 0
  Means t = value_under env (put_in given t) ≡ value_under (given_under given env) t

  parts_mean : (es : List ((t : TermTree) × Means t)) → map (value_under env) (map (put_in given) (map (λ e. e.0) es)) ≡ map (value_under (given_under given env)) (map (λ e. e.0) es)
  parts_mean [] = refl
  parts_mean (d ∷ es) = ap (λ x. x ∷ map (value_under env) (map (put_in given) (map (λ e. e.0) es))) d.1 ∙ ap (λ xs. value_under (given_under given env) d.0 ∷ xs) (parts_mean es)

  variable_means : (n : List ℕ) (s : Sort) → Means (tree.Variable n s)
  variable_means n s = ap (value_under env) (put_variable given n s) ∙ variable_value given env n s sorted ∙ sym (value_variable (given_under given env) n s)

  apply_means : (o : Operator) (es : List ((t : TermTree) × Means t)) → Means (tree.Apply o (map (λ e. e.0) es))
  apply_means o es =
      ap (value_under env) (put_apply given o (map (λ e. e.0) es)) ∙ value_apply env o (map (put_in given) (map (λ e. e.0) es)) ∙ ap (operate o) (parts_mean es)
      ∙ sym (value_apply (given_under given env) o (map (λ e. e.0) es))

  layer_means : (y : TermTree-F ((t : TermTree) × Means t)) → Means (roll-TermTree (map-TermTree ((t : TermTree) × Means t) TermTree (λ e. e.0) y))
  layer_means (Variable n s) = subst Means (sym (tree.rolls-Variable n s)) (variable_means n s)
  layer_means (Apply o es) = subst Means (sym (tree.rolls-Apply o (map (λ e. e.0) es))) (apply_means o es)

  pub put_value : (t : TermTree) → Means t
  put_value t = ind-TermTree Means (λ x y is. subst (λ z. Means (roll-TermTree z)) is (layer_means y)) t

-- ---- sorts

chosen_sort : (test : Bool) (t u : TermTree) (s : Sort) → (test ≡ true → sort_of t ≡ Some s) → sort_of u ≡ Some s → sort_of (if test then t else u) ≡ Some s
chosen_sort true t u s e d = e refl
chosen_sort false t u s e d = d

second : (a b : Bool) → (a && b) ≡ true → b ≡ true
second true b e = e
second false b e = absurd cc

variable_sort : (given : List Given) (n : List ℕ) (s : Sort) → AreSorted given → sort_of (term_for given n s) ≡ Some s
variable_sort [] n s sorted = sort_variable n s
variable_sort (g ∷ given) n s sorted =
    chosen_sort (bytes_eq g.var.name n && sort_eq g.var.sort s) g.term (term_for given n s) s
    (λ e. sorted.0 ∙ ap Some (sym (same_sort g.var.sort s (second (bytes_eq g.var.name n) (sort_eq g.var.sort s) e)))) (variable_sort given n s sorted.1)

module _ (given : List Given) (sorted : AreSorted given) where
  abbrev Keeps : TermTree → Type 0
  Keeps t = sort_of (put_in given t) ≡ sort_of t

  parts_keep : (es : List ((t : TermTree) × Keeps t)) → map sort_of (map (put_in given) (map (λ e. e.0) es)) ≡ map sort_of (map (λ e. e.0) es)
  parts_keep [] = refl
  parts_keep (d ∷ es) = ap (λ x. x ∷ map sort_of (map (put_in given) (map (λ e. e.0) es))) d.1 ∙ ap (λ xs. sort_of d.0 ∷ xs) (parts_keep es)

  variable_keeps : (n : List ℕ) (s : Sort) → Keeps (tree.Variable n s)
  variable_keeps n s = ap sort_of (put_variable given n s) ∙ variable_sort given n s sorted ∙ sym (sort_variable n s)

  apply_keeps : (o : Operator) (es : List ((t : TermTree) × Keeps t)) → Keeps (tree.Apply o (map (λ e. e.0) es))
  apply_keeps o es =
      ap sort_of (put_apply given o (map (λ e. e.0) es)) ∙ sort_apply o (map (put_in given) (map (λ e. e.0) es))
      ∙ ap (λ os. with_sorts (all_sorts os) (sort_given o)) (parts_keep es) ∙ sym (sort_apply o (map (λ e. e.0) es))

  layer_keeps : (y : TermTree-F ((t : TermTree) × Keeps t)) → Keeps (roll-TermTree (map-TermTree ((t : TermTree) × Keeps t) TermTree (λ e. e.0) y))
  layer_keeps (Variable n s) = subst Keeps (sym (tree.rolls-Variable n s)) (variable_keeps n s)
  layer_keeps (Apply o es) = subst Keeps (sym (tree.rolls-Apply o (map (λ e. e.0) es))) (apply_keeps o es)

  pub put_sort : (t : TermTree) → Keeps t
  put_sort t = ind-TermTree Keeps (λ x y is. subst (λ z. Keeps (roll-TermTree z)) is (layer_keeps y)) t

pub terms_law : TermsLaw
terms_law given = record { value = λ sorted env t. put_value given env sorted t; sort = λ sorted t. put_sort given sorted t }
