-- Assertions with terms put in for variables.
use Rattle.std.proofs.Common.{◌≡◌, ℕ, ◌<◌, ◌≤◌, Bool, true, false, ◌&&◌, if◌then◌else◌, List, [], ◌∷◌, ◌++◌, map, Some, refl, sym, ap, subst, ◌∙◌}
use Rattle.std.specs.Str.{bytes_eq}
use Rattle.std.proofs.lemmas.Slice.Eq.{bytes_eq-Decides}
use Rattle.gv_terms.specs.declared.sort.Sort.{Sort}
use Rattle.gv_terms.specs.declared.sort.Sort.TheVariants as sort
use Rattle.gv_terms.specs.declared.tree.TermTree.{TermTree}
use Rattle.gv_terms.specs.declared.value.Binding.{Binding}
use Rattle.gv_terms.specs.declared.value.Env.{Env}
use Rattle.gv_terms.specs.declared.value.Value.{Value}
use Rattle.gv_terms.specs.declared.value.Value.TheVariants as val
use Rattle.gv_terms.specs.Sorts.{sort_eq}
use Rattle.gv_terms.specs.Values.{has_sort, word_of, slice_of}
use Rattle.gv_terms.specs.Trees.{sort_of, looked_up, value_under}
use Rattle.gv_resources.specs.Pieces.{Have, Piece, sum_below}
use Rattle.gv_assertions.specs.Atoms.{Atom, Owns, Slice, Spare, Instance, Each, Predicate, facts_of, atoms_of}
use Rattle.gv_assertions.specs.Standing.{StandsFor, StandForAll, owns, slice, spare, instance, each, none, both, valued, owned_key, indexed, IsNoneOf, OwnsSlice, OwnsSpare, AreTrueUnder, case_env}
use Rattle.gv_instances.specs.Instances.{Given, AreSorted, put_in, put_in_all, put_in_atom, put_in_atoms, stands_in, binding_of, given_under, IsApart, AreApart, AreAllApart}
use Rattle.gv_instances.specs.Laws.{AssertionsLaw}
use Rattle.gv_instances.proofs.Sorts.{same_sort}
use Rattle.gv_instances.proofs.Trees.{agreement_law, put_value, found_first, test_is}

-- ---- one assertion under two valuations

-- look-ups agree everywhere
abbrev pub SameLookups : Env → Env → Type 0
SameLookups env other = (n : List ℕ) (s : Sort) → looked_up env n s ≡ looked_up other n s

indexed_same : (env other : Env) (index : List ℕ) (n : ℕ) → SameLookups env other → SameLookups (indexed env index n) (indexed other index n)
indexed_same env other index n same m s =
    let b : Binding = record { name = index; value = val.Word n } in
    found_first b env.bindings m s ∙ ap (λ (x : Value). if bytes_eq index m && has_sort (val.Word n) s then val.Word n else x) (same m s) ∙ sym (found_first b other.bindings m s)

each_term : (env other : Env) → SameLookups env other → (t : TermTree) → value_under env t ≡ value_under other t
each_term env other same t = agreement_law env other t (λ n s e. same n s)

each_terms : (env other : Env) → SameLookups env other → (ts : List TermTree) → valued env ts ≡ valued other ts
each_terms env other same [] = refl
each_terms env other same (t ∷ ts) = ap (λ x. x ∷ valued env ts) (each_term env other same t) ∙ ap (λ xs. value_under other t ∷ xs) (each_terms env other same ts)

none_same : (env other : Env) → SameLookups env other → (ts : List TermTree) (n : ℕ) → IsNoneOf other ts n → IsNoneOf env ts n
none_same env other same [] n h = tt
none_same env other same (t ∷ ts) n h = ((λ e. h.0 (e ∙ ap word_of (each_term env other same t))), none_same env other same ts n h.1)

-- an assertion stands under valuations that agree
pub under_same_lookups : (preds : List Predicate) (env other : Env) (a : Atom) (p : Piece) → SameLookups env other → StandsFor preds env a p → StandsFor preds other a p
under_same_lookups preds env other (Owns k key value) p same (owns has) =
    owns (subst (λ (x : List Value). 0 < p (Have k (owned_key k x) (valued other value))) (each_terms env other same key)
    (subst (λ (x : List Value). 0 < p (Have k (owned_key k (valued env key)) x)) (each_terms env other same value) has))
under_same_lookups preds env other (Slice frozen s items) p same (slice h) =
    slice (subst (λ (x : Value). OwnsSlice frozen (slice_of x) (value_under other items) p) (each_term env other same s)
    (subst (λ (x : Value). OwnsSlice frozen (slice_of (value_under env s)) x p) (each_term env other same items) h))
under_same_lookups preds env other (Spare s) p same (spare h) = spare (subst (λ (x : Value). OwnsSpare (slice_of x) p) (each_term env other same s) h)
under_same_lookups preds env other (Instance number args) p same (instance pred place case own is_pred is_case values facts stands) =
    instance pred place case own is_pred is_case values
    (subst (λ (xs : List Value). AreTrueUnder (case_env pred case xs own) (facts_of case.items)) (each_terms env other same args) facts)
    (subst (λ (xs : List Value). StandForAll preds (case_env pred case xs own) (atoms_of case.items) p) (each_terms env other same args) stands)
under_same_lookups preds env other (Each index low high except a) p same (each parts sums stands) =
    each parts (λ e. subst (λ (x : Value). sum_below (word_of x) (λ n. parts n e) ≤ p e) (each_term env other same high) (sums e))
    (λ n l h free. under_same_lookups preds (indexed env index n) (indexed other index n) a (parts n) (indexed_same env other index n same)
    (stands n (subst (λ (x : Value). word_of x ≤ n) (sym (each_term env other same low)) l) (subst (λ (x : Value). n < word_of x) (sym (each_term env other same high)) h)
    (none_same env other same except n free)))

-- ---- a bound number beside terms that are put in

chosen_apart : (mine other : Bool) (n x y z w : Value) → (mine ≡ true → other ≡ false) → x ≡ w → y ≡ (if mine then n else z) → (if other then x else y) ≡ (if mine then n else if other then w else z)
chosen_apart true true n x y z w apart e d = let never : true ≡ false = apart refl in absurd cc
chosen_apart true false n x y z w apart e d = d
chosen_apart false true n x y z w apart e d = e
chosen_apart false false n x y z w apart e d = d

module _ (env : Env) (index : List ℕ) (n : ℕ) where
  abbrev bound_number : Binding
  bound_number = record { name = index; value = val.Word n }

  -- a test that finds the bound number is of its name
  is_index : (m : List ℕ) (s : Sort) → (bytes_eq index m && has_sort (val.Word n) s) ≡ true → (index ≡ m) × (s ≡ sort.Word)
  is_index m s e = let parts = both_true (bytes_eq index m) (has_sort (val.Word n) s) e in ((bytes_eq-Decides index m).0 parts.0, same_sort sort.Word s parts.1)
    where
      both_true : (a b : Bool) → (a && b) ≡ true → (a ≡ true) × (b ≡ true)
      both_true true b e = (refl, e)
      both_true false b e = absurd cc

  -- a term in which it doesn't stand
  outside : (t : TermTree) → stands_in index sort.Word t ≡ false → value_under (indexed env index n) t ≡ value_under env t
  outside t never = agreement_law (indexed env index n) env t (λ m s there. found_first bound_number env.bindings m s ∙ skipped (bytes_eq index m && has_sort (val.Word n) s) m s refl there)
    where
      skipped : (test : Bool) (m : List ℕ) (s : Sort) → test ≡ (bytes_eq index m && has_sort (val.Word n) s) → stands_in m s t ≡ true
          → (if test then val.Word n else looked_up env m s) ≡ looked_up env m s
      skipped false m s e there = refl
      skipped true m s e there =
          let is = is_index m s (sym e) in
          let here : stands_in index sort.Word t ≡ true = subst (λ x. stands_in x sort.Word t ≡ true) (sym is.0) (subst (λ x. stands_in m x t ≡ true) is.1 there) in
          let both : true ≡ false = sym here ∙ never in
          absurd cc

  apart_lookups : (given : List Given) → AreSorted given → IsApart index given → (m : List ℕ) (s : Sort)
      → looked_up (given_under given (indexed env index n)) m s ≡ (if bytes_eq index m && has_sort (val.Word n) s then val.Word n else looked_up (given_under given env) m s)
  apart_lookups [] sorted apart m s = found_first bound_number env.bindings m s
  apart_lookups (g ∷ given) sorted apart m s =
      let inner = indexed env index n in
      let same : value_under inner g.term ≡ value_under env g.term = outside g.term apart.1 in
      let test = bytes_eq g.var.name m && has_sort (value_under env g.term) s in
      let mine = bytes_eq index m && has_sort (val.Word n) s in
      found_first (binding_of inner g) (map (binding_of inner) given ++ inner.bindings) m s
      ∙ ap (λ (v : Value). if bytes_eq g.var.name m && has_sort v s then v else looked_up (given_under given inner) m s) same
      ∙ chosen_apart mine test (val.Word n) (value_under env g.term) (looked_up (given_under given inner) m s) (looked_up (given_under given env) m s) (value_under env g.term)
      (λ e. not_both g sorted.0 apart.0 m s e) refl (apart_lookups given sorted.1 apart.2 m s)
      ∙ ap (λ (x : Value). if mine then val.Word n else x) (sym (found_first (binding_of env g) (map (binding_of env) given ++ env.bindings) m s))
    where
      not_both : (g : Given) → sort_of g.term ≡ Some g.var.sort → (bytes_eq g.var.name index && sort_eq g.var.sort sort.Word) ≡ false → (m : List ℕ) (s : Sort)
          → (bytes_eq index m && has_sort (val.Word n) s) ≡ true → (bytes_eq g.var.name m && has_sort (value_under env g.term) s) ≡ false
      not_both g sorted apart m s e =
          let is = is_index m s e in
          test_is env g m s sorted ∙ subst (λ x. (bytes_eq g.var.name x && sort_eq g.var.sort s) ≡ false) is.0 (subst (λ x. (bytes_eq g.var.name index && sort_eq g.var.sort x) ≡ false) (sym is.1) apart)

indexed_given : (given : List Given) (env : Env) (index : List ℕ) (n : ℕ) → AreSorted given → IsApart index given → SameLookups (given_under given (indexed env index n)) (indexed (given_under given env) index n)
indexed_given given env index n sorted apart m s =
    apart_lookups env index n given sorted apart m s ∙ sym (found_first (record { name = index; value = val.Word n }) (given_under given env).bindings m s)

given_indexed : (given : List Given) (env : Env) (index : List ℕ) (n : ℕ) → AreSorted given → IsApart index given → SameLookups (indexed (given_under given env) index n) (given_under given (indexed env index n))
given_indexed given env index n sorted apart m s =
    found_first (record { name = index; value = val.Word n }) (given_under given env).bindings m s ∙ sym (apart_lookups env index n given sorted apart m s)

-- ---- both ways

module _ (preds : List Predicate) (given : List Given) (sorted : AreSorted given) where
  values_put : (env : Env) (ts : List TermTree) → valued env (put_in_all given ts) ≡ valued (given_under given env) ts
  values_put env [] = refl
  values_put env (t ∷ ts) = ap (λ x. x ∷ valued env (put_in_all given ts)) (put_value given env sorted t) ∙ ap (λ xs. value_under (given_under given env) t ∷ xs) (values_put env ts)

  none_put : (env : Env) (ts : List TermTree) (n : ℕ) → IsNoneOf (given_under given env) ts n → IsNoneOf env (put_in_all given ts) n
  none_put env [] n h = tt
  none_put env (t ∷ ts) n h = ((λ e. h.0 (e ∙ ap word_of (put_value given env sorted t))), none_put env ts n h.1)

  none_out : (env : Env) (ts : List TermTree) (n : ℕ) → IsNoneOf env (put_in_all given ts) n → IsNoneOf (given_under given env) ts n
  none_out env [] n h = tt
  none_out env (t ∷ ts) n h = ((λ e. h.0 (e ∙ ap word_of (sym (put_value given env sorted t)))), none_out env ts n h.1)

  pub out : (a : Atom) (env : Env) (p : Piece) → AreApart given a → StandsFor preds env (put_in_atom given a) p → StandsFor preds (given_under given env) a p
  out (Owns k key value) env p apart (owns has) =
      owns (subst (λ (x : List Value). 0 < p (Have k (owned_key k x) (valued (given_under given env) value))) (values_put env key)
      (subst (λ (x : List Value). 0 < p (Have k (owned_key k (valued env (put_in_all given key))) x)) (values_put env value) has))
  out (Slice frozen s items) env p apart (slice h) =
      slice (subst (λ (x : Value). OwnsSlice frozen (slice_of x) (value_under (given_under given env) items) p) (put_value given env sorted s)
      (subst (λ (x : Value). OwnsSlice frozen (slice_of (value_under env (put_in given s))) x p) (put_value given env sorted items) h))
  out (Spare s) env p apart (spare h) = spare (subst (λ (x : Value). OwnsSpare (slice_of x) p) (put_value given env sorted s) h)
  out (Instance number args) env p apart (instance pred place case own is_pred is_case values facts stands) =
      instance pred place case own is_pred is_case values
      (subst (λ (xs : List Value). AreTrueUnder (case_env pred case xs own) (facts_of case.items)) (values_put env args) facts)
      (subst (λ (xs : List Value). StandForAll preds (case_env pred case xs own) (atoms_of case.items) p) (values_put env args) stands)
  out (Each index low high except a) env p apart (each parts sums stands) =
      each parts (λ e. subst (λ (x : Value). sum_below (word_of x) (λ n. parts n e) ≤ p e) (put_value given env sorted high) (sums e))
      (λ n l h free. under_same_lookups preds (given_under given (indexed env index n)) (indexed (given_under given env) index n) a (parts n) (indexed_given given env index n sorted apart.0)
      (out a (indexed env index n) (parts n) apart.1
      (stands n (subst (λ (x : Value). word_of x ≤ n) (sym (put_value given env sorted low)) l) (subst (λ (x : Value). n < word_of x) (sym (put_value given env sorted high)) h)
      (none_put env except n free))))

  pub into : (a : Atom) (env : Env) (p : Piece) → AreApart given a → StandsFor preds (given_under given env) a p → StandsFor preds env (put_in_atom given a) p
  into (Owns k key value) env p apart (owns has) =
      owns (subst (λ (x : List Value). 0 < p (Have k (owned_key k x) (valued env (put_in_all given value)))) (sym (values_put env key))
      (subst (λ (x : List Value). 0 < p (Have k (owned_key k (valued (given_under given env) key)) x)) (sym (values_put env value)) has))
  into (Slice frozen s items) env p apart (slice h) =
      slice (subst (λ (x : Value). OwnsSlice frozen (slice_of x) (value_under env (put_in given items)) p) (sym (put_value given env sorted s))
      (subst (λ (x : Value). OwnsSlice frozen (slice_of (value_under (given_under given env) s)) x p) (sym (put_value given env sorted items)) h))
  into (Spare s) env p apart (spare h) = spare (subst (λ (x : Value). OwnsSpare (slice_of x) p) (sym (put_value given env sorted s)) h)
  into (Instance number args) env p apart (instance pred place case own is_pred is_case values facts stands) =
      instance pred place case own is_pred is_case values
      (subst (λ (xs : List Value). AreTrueUnder (case_env pred case xs own) (facts_of case.items)) (sym (values_put env args)) facts)
      (subst (λ (xs : List Value). StandForAll preds (case_env pred case xs own) (atoms_of case.items) p) (sym (values_put env args)) stands)
  into (Each index low high except a) env p apart (each parts sums stands) =
      each parts (λ e. subst (λ (x : Value). sum_below (word_of x) (λ n. parts n e) ≤ p e) (sym (put_value given env sorted high)) (sums e))
      (λ n l h free. into a (indexed env index n) (parts n) apart.1
      (under_same_lookups preds (indexed (given_under given env) index n) (given_under given (indexed env index n)) a (parts n) (given_indexed given env index n sorted apart.0)
      (stands n (subst (λ (x : Value). word_of x ≤ n) (put_value given env sorted low) l) (subst (λ (x : Value). n < word_of x) (put_value given env sorted high) h)
      (none_out env except n free))))

  pub all_out : (all : List Atom) (env : Env) (p : Piece) → AreAllApart given all → StandForAll preds env (put_in_atoms given all) p → StandForAll preds (given_under given env) all p
  all_out [] env p apart none = none
  all_out (a ∷ all) env p apart (both q r split h s) = both q r split (out a env q apart.0 h) (all_out all env r apart.1 s)

  pub all_into : (all : List Atom) (env : Env) (p : Piece) → AreAllApart given all → StandForAll preds (given_under given env) all p → StandForAll preds env (put_in_atoms given all) p
  all_into [] env p apart none = none
  all_into (a ∷ all) env p apart (both q r split h s) = both q r split (into a env q apart.0 h) (all_into all env r apart.1 s)

pub assertions_law : AssertionsLaw
assertions_law preds given sorted env all p apart = ((λ s. all_out preds given sorted all env p apart s), (λ s. all_into preds given sorted all env p apart s))
