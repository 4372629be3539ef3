-- The value of a term that is a Sum of parameters and numbers.
use Rattle.std.proofs.Common.{◌≡◌, ℕ, suc, ◌+◌, ◌-◌, ◌%◌, ◌^◌, ◌<◌, Bool, true, false, ◌&&◌, cond, List, [], ◌∷◌, ◌++◌, length, map, fold, Option, Some, None, option_map, refl, sym, ap, subst, ◌∙◌, arith, rules}
use Rattle.std.specs.Prelude.{slice_index}
use Rattle.std.specs.List.{AllByRecursion, find}
use Rattle.std.specs.Option.{unwrap_or}
use Rattle.std.specs.Str.{bytes_eq}
use Rattle.std.proofs.lemmas.Option.{cond_some}
use Rattle.gv_base.specs.declared.small.Turn.{Turn}
use Rattle.gv_base.specs.declared.small.Part.{Part}
use Rattle.gv_base.specs.declared.small.Part.TheVariants as part
use Rattle.gv_small.specs.declared.sum_reader.Sum.{Sum}
use Rattle.gv_words.specs.Words as words
use Rattle.gv_terms.specs.declared.operator.Operator.{Operator}
use Rattle.gv_terms.specs.declared.operator.Operator.TheVariants as op
use Rattle.gv_terms.specs.declared.sort.Sort.{Sort}
use Rattle.gv_terms.specs.declared.sort.Sort.TheVariants as sort
use Rattle.gv_terms.specs.declared.tree.Head.TheVariants as head
use Rattle.gv_terms.specs.declared.tree.TermTree.{TermTree, the_lemmas}
use Rattle.gv_terms.specs.declared.tree.TermTree.TheVariants as tree
use Rattle.gv_terms.specs.declared.tree.TermTree.TheOpen.{TermTree-F, Variable, Apply}
use Rattle.gv_terms.specs.declared.tree.TermTree.TheFolds.{map-TermTree, ind-TermTree}
use Rattle.gv_terms.specs.declared.tree.TermTree.TheViews.{roll-TermTree}
use Rattle.gv_terms.specs.declared.value.Binding.{Binding}
use Rattle.gv_terms.specs.declared.value.Env.{Env}
use Rattle.gv_terms.specs.declared.value.Value.{Value}
use Rattle.gv_terms.specs.declared.value.Value.TheVariants as value
use Rattle.gv_terms.specs.declared.var.Var.{Var}
use Rattle.gv_terms.specs.Meaning.{operate}
use Rattle.gv_terms.specs.Meaning as meaning
use Rattle.gv_terms.specs.Trees.{looked_up, value_under}
use Rattle.gv_terms.specs.Values.{zero_of, has_sort, word_of}
use Rattle.gv_terms.proofs.Valued.{value_variable, value_apply}
use Rattle.gv_atomic.specs.Choices.{bound}
use Rattle.gv_smallspec.specs.SmallSpec as form
use Rattle.gv_smallspec.specs.SmallSpec.{place_of, alone, part_in, may_turn, sum_by, sum_of}
use Rattle.gv_smallprogram.specs.Sums.{part_value, turned}
use Rattle.gv_spec.proofs.Threads.{some_same}

-- ---- the value of a Sum

abbrev pub total : List ℕ → Sum → ℕ
total ns sum = fold (turned ns) (part_value ns sum.first) sum.rest

-- what is added or taken away is below 2 ^ 64
abbrev pub AreBelow : List ℕ → List Turn → Type 0
AreBelow ns rest = AllByRecursion (λ t. part_value ns t.part < 2 ^ 64) rest

fold_last : {A B : Type 0} (f : A → B → A) (z : A) (xs : List B) (x : B) → fold f z (xs ++ x ∷ []) ≡ f (fold f z xs) x
fold_last f z [] x = refl
fold_last f z (y ∷ ys) x = fold_last f (f z y) ys x

front_below : (ns : List ℕ) (rest : List Turn) (t : Turn) → AreBelow ns (rest ++ t ∷ []) → AreBelow ns rest
front_below ns [] t h = tt
front_below ns (x ∷ rest) t h = (h.0, front_below ns rest t h.1)

last_below : (ns : List ℕ) (rest : List Turn) (t : Turn) → AreBelow ns (rest ++ t ∷ []) → part_value ns t.part < 2 ^ 64
last_below ns [] t h = h.0
last_below ns (x ∷ rest) t h = last_below ns rest t h.1

-- ---- the value of a parameter

-- a parameter's binding, and those of all
abbrev one_bound : Var → ℕ → Binding
one_bound v m = record { name = v.name; value = value.Word m }

abbrev all_bound : List Var → List ℕ → List Binding
all_bound params ns = bound (map (λ v. v.name) params) (map value.Word ns)

module _ (n : List ℕ) where
  abbrev bears : Binding → Bool
  bears b = bytes_eq b.name n && has_sort b.value sort.Word

  abbrev first_of : Option Binding → Value
  first_of o = unwrap_or (option_map (λ b. b.value) o) (zero_of sort.Word)

  -- each place of a name is that of its value
  abbrev AreLooked : List Var → List ℕ → Type 0
  AreLooked params ns = (k : ℕ) → place_of params n ≡ Some k → first_of (find bears (all_bound params ns)) ≡ value.Word (slice_index ns k)

  looked : (params : List Var) (ns : List ℕ) (at : ℕ) → length ns ≡ length params → place_of params n ≡ Some at
      → first_of (find bears (all_bound params ns)) ≡ value.Word (slice_index ns at)
  looked [] ns at long e = absurd cc
  looked (v ∷ params) [] at long e = absurd (omega (arith, long))
  looked (v ∷ params) (m ∷ ns) at long e = go (λ k p. looked params ns k (omega (arith, long)) p) (bytes_eq v.name n) refl e
    where
      first_is : (b : Bool) → bytes_eq v.name n ≡ b
          → first_of (find bears (all_bound (v ∷ params) (m ∷ ns))) ≡ first_of (cond (b && true) (Some (one_bound v m)) (find bears (all_bound params ns)))
      first_is b same = ap (λ c. first_of (cond (c && true) (Some (one_bound v m)) (find bears (all_bound params ns)))) same

      behind : AreLooked params ns → (o : Option ℕ) → place_of params n ≡ o → option_map (λ k. k + 1) o ≡ Some at → first_of (find bears (all_bound params ns)) ≡ value.Word (slice_index (m ∷ ns) at)
      behind more None p d = absurd cc
      behind more (Some k) p d =
          let next : k + 1 ≡ at = some_same (k + 1) at d in
          let at_is : suc k ≡ at = omega (arith, next) in
          more k p ∙ ap (λ j. value.Word (slice_index (m ∷ ns) j)) at_is

      go : AreLooked params ns → (b : Bool) → bytes_eq v.name n ≡ b → cond b (Some 0) (option_map (λ k. k + 1) (place_of params n)) ≡ Some at
          → first_of (find bears (all_bound (v ∷ params) (m ∷ ns))) ≡ value.Word (slice_index (m ∷ ns) at)
      go more true same d = first_is true same ∙ ap (λ j. value.Word (slice_index (m ∷ ns) j)) (some_same 0 at d)
      go more false same d = first_is false same ∙ behind more (place_of params n) refl d

-- ---- one more turn

-- what an operator makes of two words
abbrev combined : Bool → ℕ → ℕ → ℕ
combined minus a b = cond minus (words.minus a b) (words.plus a b)

taken_away : (a b : ℕ) → b < 2 ^ 64 → words.minus a b ≡ (a + (2 ^ 64 - b)) % 2 ^ 64
taken_away a b h = ap (λ n. n % 2 ^ 64) (omega arith)

turn_value : (ns : List ℕ) (a : ℕ) (minus : Bool) (p : Part) → part_value ns p < 2 ^ 64 → combined minus a (part_value ns p) ≡ turned ns a (record { minus = minus; part = p })
turn_value ns a true p h = taken_away a (part_value ns p) h
turn_value ns a false p h = refl

-- ---- terms

module _ (params : List Var) (ns : List ℕ) (env : Env) (long : length ns ≡ length params) (binds_are : env.bindings ≡ bound (map (λ v. v.name) params) (map value.Word ns)) where
  -- where the term is a Sum, its value is the Sum's
  abbrev IsWorth : TermTree → Type 0
  IsWorth t = (sum : Sum) → sum_of params t ≡ Some sum → AreBelow ns sum.rest → value_under env t ≡ value.Word (total ns sum)

  variable_worth : (n : List ℕ) (s : Sort) (sum : Sum) → sum_by params (head.Variable n s) [] ≡ Some sum → looked_up env n s ≡ value.Word (total ns sum)
  variable_worth n sort.Word sum e = go (place_of params n) refl e
    where
      go : (o : Option ℕ) → place_of params n ≡ o → option_map (λ at. record { first = part.Param at; rest = [] }) o ≡ Some sum → looked_up env n sort.Word ≡ value.Word (total ns sum)
      go None p d = absurd cc
      go (Some at) p d =
          let alone_is : Sum = record { first = part.Param at; rest = [] } in
          let one : alone_is ≡ sum = some_same alone_is sum d in
          ap (λ bs. first_of n (find (bears n) bs)) binds_are ∙ looked n params ns at long p ∙ ap (λ (x : Sum). value.Word (total ns x)) one
  variable_worth n _ sum e = absurd cc

  two_worth : (minus : Bool) (l r : TermTree) → IsWorth l → IsWorth r → (sum : Sum) → form.turned minus (sum_of params l) (part_in (sum_of params r)) ≡ Some sum → AreBelow ns sum.rest
      → value.Word (combined minus (word_of (value_under env l)) (word_of (value_under env r))) ≡ value.Word (total ns sum)
  two_worth minus l r left right sum e below = go (sum_of params l) refl (sum_of params r) refl e
    where
      on : (a b : Sum) → sum_of params l ≡ Some a → sum_of params r ≡ Some b → (rest : List Turn) → b.rest ≡ rest → form.turned minus (Some a) (alone b.first rest) ≡ Some sum
          → value.Word (combined minus (word_of (value_under env l)) (word_of (value_under env r))) ≡ value.Word (total ns sum)
      on a b p q (t ∷ rest) is d = absurd cc
      on a b p q [] is d =
          let t : Turn = record { minus = minus; part = b.first } in
          let longer : Sum = record { first = a.first; rest = a.rest ++ t ∷ [] } in
          let one : longer ≡ sum = (cond_some (may_turn a.first) longer sum d).1 in
          let all : AreBelow ns (a.rest ++ t ∷ []) = subst (λ (x : Sum). AreBelow ns x.rest) (sym one) below in
          let first : value_under env l ≡ value.Word (total ns a) = left a p (front_below ns a.rest t all) in
          let second : value_under env r ≡ value.Word (part_value ns b.first) =
          right b q (subst (AreBelow ns) (sym is) tt) ∙ ap (λ ts. value.Word (fold (turned ns) (part_value ns b.first) ts)) is in
          let last : part_value ns b.first < 2 ^ 64 = last_below ns a.rest t all in
          ap (λ v. value.Word (combined minus (word_of v) (word_of (value_under env r)))) first
          ∙ ap (λ v. value.Word (combined minus (total ns a) (word_of v))) second
          ∙ ap value.Word (turn_value ns (total ns a) minus b.first last)
          ∙ ap value.Word (sym (fold_last (turned ns) (part_value ns a.first) a.rest t))
          ∙ ap (λ (x : Sum). value.Word (total ns x)) one

      go : (a : Option Sum) → sum_of params l ≡ a → (b : Option Sum) → sum_of params r ≡ b → form.turned minus a (part_in b) ≡ Some sum
          → value.Word (combined minus (word_of (value_under env l)) (word_of (value_under env r))) ≡ value.Word (total ns sum)
      go None p b q d = absurd cc
      go (Some a) p None q d = absurd cc
      go (Some a) p (Some b) q d = on a b p q b.rest refl d

  abbrev Worthy : Type 0
  Worthy = (t : TermTree) × IsWorth t

  turned_worth : (minus : Bool) (es : List Worthy) (sum : Sum) → form.turned_by minus (map (sum_of params) (map (λ e. e.0) es)) ≡ Some sum → AreBelow ns sum.rest
      → (vs : List Value) → vs ≡ map (value_under env) (map (λ e. e.0) es) → value.Word (combined minus (meaning.word vs 0) (meaning.word vs 1)) ≡ value.Word (total ns sum)
  turned_worth minus [] sum e below vs is = absurd cc
  turned_worth minus (l ∷ []) sum e below vs is = absurd cc
  turned_worth minus (l ∷ r ∷ []) sum e below vs is =
      ap (λ ws. value.Word (combined minus (meaning.word ws 0) (meaning.word ws 1))) is ∙ two_worth minus l.0 r.0 l.1 r.1 sum e below
  turned_worth minus (l ∷ r ∷ x ∷ es) sum e below vs is = absurd cc

  apply_worth : (o : Operator) (es : List Worthy) (sum : Sum) → sum_by params (head.Apply o) (map (sum_of params) (map (λ e. e.0) es)) ≡ Some sum → AreBelow ns sum.rest
      → operate o (map (value_under env) (map (λ e. e.0) es)) ≡ value.Word (total ns sum)
  apply_worth (op.Number n) es sum e below =
      let number : Sum = record { first = part.Number n; rest = [] } in
      ap (λ (x : Sum). value.Word (total ns x)) (some_same number sum e)
  apply_worth op.Plus es sum e below = turned_worth false es sum e below (map (value_under env) (map (λ e. e.0) es)) refl
  apply_worth op.Minus es sum e below = turned_worth true es sum e below (map (value_under env) (map (λ e. e.0) es)) refl
  apply_worth _ es sum e below = absurd cc

  sum_variable : (n : List ℕ) (s : Sort) → sum_of params (tree.Variable n s) ≡ sum_by params (head.Variable n s) []
  unfolding sum_of
  sum_variable n s = search (rules, the_lemmas)

  sum_apply : (o : Operator) (ts : List TermTree) → sum_of params (tree.Apply o ts) ≡ sum_by params (head.Apply o) (map (sum_of params) ts)
  unfolding sum_of
  sum_apply o ts = search (rules, the_lemmas)

  layer_worth : (y : TermTree-F Worthy) → IsWorth (roll-TermTree (map-TermTree Worthy TermTree (λ e. e.0) y))
  layer_worth (Variable n s) =
      subst IsWorth (sym (tree.rolls-Variable n s)) (λ sum e below. value_variable env n s ∙ variable_worth n s sum (sym (sum_variable n s) ∙ e))
  layer_worth (Apply o es) =
      subst IsWorth (sym (tree.rolls-Apply o (map (λ e. e.0) es)))
      (λ sum e below. value_apply env o (map (λ e. e.0) es) ∙ apply_worth o es sum (sym (sum_apply o (map (λ e. e.0) es)) ∙ e) below)

  pub term_worth : (t : TermTree) → IsWorth t
  term_worth = ind-TermTree IsWorth (λ x y is. subst (λ z. IsWorth (roll-TermTree z)) is (layer_worth y))
