-- From parts to values: what is known of the values of parts that fit, and the values of patterns over them.
use Rattle.std.proofs.Common.{◌≡◌, ℕ, zero, suc, ◌+◌, List, [], ◌∷◌, Bool, true, false, cond, Option, Some, None, refl, ap, sym, ◌∙◌, subst, arith}
use Rattle.std.specs.Prelude.{slice_get, IsSome}
use Rattle.std.specs.List.{All}
use Rattle.std.specs.Option.{is_some}
use Rattle.std.proofs.lemmas.Bool.{and_parts}
use Rattle.std.proofs.lemmas.List.Elements.{All-tail}
use Rattle.gv_terms.specs.declared.sort.Sort.{Sort}
use Rattle.gv_terms.specs.declared.sort.Sort.TheVariants as sort
use Rattle.gv_terms.specs.declared.operator.Operator.TheVariants as op
use Rattle.gv_terms.specs.declared.tree.TermTree.{TermTree}
use Rattle.gv_terms.specs.declared.tree.TermTree.TheVariants as tree
use Rattle.gv_terms.specs.declared.value.Value.{Value}
use Rattle.gv_terms.specs.declared.value.Value.TheVariants as val
use Rattle.gv_terms.specs.declared.value.Env.{Env}
use Rattle.gv_terms.specs.Sorts.{item_sort, entry_sort}
use Rattle.gv_terms.specs.Values.{zero_of, sort_of_value, is_sort}
use Rattle.gv_terms.specs.Meaning.{operate}
use Rattle.gv_terms.specs.Trees.{sort_of, value_under}
use Rattle.gv_terms.specs.Ranges.{IsValuation, IsInRange, numbers_are_words}
use Rattle.gv_terms.proofs.Valued.{value_apply}
use Rattle.gv_terms.proofs.ValueSorts.{values_have_sorts}
use Rattle.gv_terms.proofs.ValueRanges.{values_in_range}
use Rattle.gv_axioms.specs.declared.kind.Kind.{Kind}
use Rattle.gv_axioms.specs.declared.kind.Kind.TheVariants as kind
use Rattle.gv_axioms.specs.Schema.{Axiom, Pattern, Premise}
use Rattle.gv_axioms.specs.Schema.Pattern.{part, literal, copied, zero as none_of, over0, over1, over2, over3}
use Rattle.gv_axioms.specs.Filling.{with_some, made, held, zero_term, sorted, sort_at, filled, as_formula, formula, fits, all_fit}
use Rattle.gv_axioms.specs.Instances.{is_asked, asked_first, asked, over_parts}
use Rattle.gv_axioms.specs.Truth.{IsTrueUnder, AreTerms, IsTrue}
use Rattle.gv_axioms.proofs.Worth.{Parts, worth, IsMade, Fact, Facts, IsAsked, AreMet, AreInRange, Holds}
use Rattle.gv_axioms.proofs.Forms.{reached, there, inner, chosen, of_sort, just, of_zero, list_held, map_held, made_is, made_value, operator_of, zero_value, zero_made, empty_value}

sort_there : (o : Option Sort) → IsSome o → (s : Sort) × (o ≡ Some s)
sort_there None h = absurd cc
sort_there (Some s) h = (s, refl)

-- of the part at a place, what all parts have
pub at_place : {A : Type 0} (P : A → Type 0) (ts : List A) (i : ℕ) (t : A) → All P ts → slice_get ts i ≡ Some t → P t
at_place P [] i t all e = absurd cc
at_place P (u ∷ ts) zero t all e = subst P (inner u t e) (all 0 u (omega arith))
at_place P (u ∷ ts) (suc i) t all e = at_place P ts i t (All-tail P u ts all) e

abbrev IsTerm : TermTree → Type 0
IsTerm u = IsSome (sort_of u) × (numbers_are_words u ≡ true)

module _ (env : Env) (ts : List TermTree) (valuation : IsValuation env) (terms : AreTerms ts) where
  abbrev pub value_or : Option TermTree → Value
  value_or None = val.Unit
  value_or (Some t) = value_under env t

  abbrev pub count_or : Option (ℕ × TermTree) → ℕ
  count_or None = 0
  count_or (Some m) = m.0

  abbrev pub item_or : Option (ℕ × TermTree) → Value
  item_or None = val.Unit
  item_or (Some m) = value_under env m.1

  abbrev pub none_or : Option Sort → Value
  none_or None = val.Unit
  none_or (Some s) = zero_of s

  abbrev pub parts : Parts
  parts = record {
    value = λ i. value_or (slice_get ts i);
    count = λ i. count_or (with_some (slice_get ts i) made);
    item = λ i. item_or (with_some (slice_get ts i) made);
    none = λ i. none_or (with_some (sort_at ts i) held);
  }

  sorted_value : (t u : TermTree) → sorted t ≡ Some u → value_under env u ≡ value_under env t
  sorted_value t u e = ap (value_under env) (sym (chosen (is_some (sort_of t)) t u e).1)

  -- the value of a pattern's term
  pub filled_worth : (p : Pattern) (t : TermTree) → filled ts p ≡ Some t → value_under env t ≡ worth parts p
  filled_worth (part i) t e = sym (ap value_or e)
  filled_worth (literal i) t e =
      let r = reached (with_some (slice_get ts i) made) (λ m. sorted (tree.Apply (op.Number m.0) [])) t e in
      sorted_value (tree.Apply (op.Number r.0.0) []) t r.2 ∙ value_apply env (op.Number r.0.0) [] ∙ sym (ap (λ o. val.Word (count_or o)) r.1)
  filled_worth (copied i) t e =
      let r = reached (with_some (slice_get ts i) made) (λ m. Some m.1) t e in
      ap (value_under env) (sym (inner r.0.1 t r.2)) ∙ sym (ap item_or r.1)
  filled_worth (none_of i) t e =
      let r = reached (with_some (sort_at ts i) held) zero_term t e in
      zero_value env r.0 t r.2 ∙ sym (ap none_or r.1)
  filled_worth (over0 o) t e = sorted_value (tree.Apply o []) t e ∙ value_apply env o []
  filled_worth (over1 o p) t e =
      let r = reached (filled ts p) (λ u. sorted (tree.Apply o (u ∷ []))) t e in
      sorted_value (tree.Apply o (r.0 ∷ [])) t r.2 ∙ value_apply env o (r.0 ∷ []) ∙ ap (λ v. operate o (v ∷ [])) (filled_worth p r.0 r.1)
  filled_worth (over2 o p q) t e =
      let r = reached (filled ts p) (λ u. with_some (filled ts q) (λ w. sorted (tree.Apply o (u ∷ w ∷ [])))) t e in
      let s = reached (filled ts q) (λ w. sorted (tree.Apply o (r.0 ∷ w ∷ []))) t r.2 in
      sorted_value (tree.Apply o (r.0 ∷ s.0 ∷ [])) t s.2 ∙ value_apply env o (r.0 ∷ s.0 ∷ [])
      ∙ ap (λ v. operate o (v ∷ value_under env s.0 ∷ [])) (filled_worth p r.0 r.1) ∙ ap (λ v. operate o (worth parts p ∷ v ∷ [])) (filled_worth q s.0 s.1)
  filled_worth (over3 o p q x) t e =
      let r = reached (filled ts p) (λ u. with_some (filled ts q) (λ w. with_some (filled ts x) (λ y. sorted (tree.Apply o (u ∷ w ∷ y ∷ []))))) t e in
      let s = reached (filled ts q) (λ w. with_some (filled ts x) (λ y. sorted (tree.Apply o (r.0 ∷ w ∷ y ∷ [])))) t r.2 in
      let z = reached (filled ts x) (λ y. sorted (tree.Apply o (r.0 ∷ s.0 ∷ y ∷ []))) t s.2 in
      sorted_value (tree.Apply o (r.0 ∷ s.0 ∷ z.0 ∷ [])) t z.2 ∙ value_apply env o (r.0 ∷ s.0 ∷ z.0 ∷ [])
      ∙ ap (λ v. operate o (v ∷ value_under env s.0 ∷ value_under env z.0 ∷ [])) (filled_worth p r.0 r.1)
      ∙ ap (λ v. operate o (worth parts p ∷ v ∷ value_under env z.0 ∷ [])) (filled_worth q s.0 s.1)
      ∙ ap (λ v. operate o (worth parts p ∷ worth parts q ∷ v ∷ [])) (filled_worth x z.0 z.1)

  -- the value of a part has the part's sort, and is in range
  term_sort : (i : ℕ) (t : TermTree) → slice_get ts i ≡ Some t → sort_of_value (parts.value i) ≡ sort_of t
  term_sort i t e =
      let known = at_place IsTerm ts i t terms e in
      let s = sort_there (sort_of t) known.0 in
      ap sort_of_value (ap value_or e) ∙ values_have_sorts env t s.0 s.1 ∙ sym s.1

  part_sort : (i : ℕ) → sort_of_value (parts.value i) ≡ sort_at ts i
  part_sort i = pick (slice_get ts i) refl
    where
      pick : (o : Option TermTree) → slice_get ts i ≡ o → sort_of_value (parts.value i) ≡ sort_at ts i
      pick None e = ap sort_of_value (ap value_or e) ∙ sym (ap (λ o. with_some o sort_of) e)
      pick (Some t) e = term_sort i t e ∙ sym (ap (λ o. with_some o sort_of) e)

  pub in_range : AreInRange parts
  in_range i = pick (slice_get ts i) refl
    where
      pick : (o : Option TermTree) → slice_get ts i ≡ o → IsInRange (value_or o)
      pick None e = tt
      pick (Some t) e =
          let known = at_place IsTerm ts i t terms e in
          let s = sort_there (sort_of t) known.0 in
          values_in_range env t s.0 valuation s.1 known.1

  maker_fact : (i : ℕ) (t : TermTree) (m : ℕ × TermTree) → slice_get ts i ≡ Some t → made t ≡ Some m → IsMade (parts.value i) (parts.count i) (parts.item i)
  maker_fact i t m at e =
      let known = at_place IsTerm ts i t terms at in
      let s = sort_there (sort_of t) known.0 in
      let view = made_is t m e in
      let here = made_value env view.0 m.0 m.1 s.0 (sym (ap sort_of view.1) ∙ s.1) in
      let found : with_some (slice_get ts i) made ≡ Some m = ap (λ o. with_some o made) at ∙ e in
      subst (λ v. IsMade v (parts.count i) (parts.item i)) (sym (ap value_or at ∙ ap (value_under env) view.1))
      (subst (λ o. IsMade (value_under env (tree.Apply (operator_of view.0 m.0) (m.1 ∷ []))) (count_or o) (item_or o)) (sym found) here)

  -- what is known of a part that is what its kind says
  fact_of : (i : ℕ) (t : TermTree) (k : Kind) → slice_get ts i ≡ Some t → fits ts t k ≡ true → Fact parts i k
  fact_of i t (kind.Of s) at e = term_sort i t at ∙ of_sort s (sort_of t) e
  fact_of i t kind.Anything at e = tt
  fact_of i t kind.List at e =
      let s = there (with_some (sort_of t) item_sort) e in (
        s.0,
        ap (λ o. with_some o item_sort) (term_sort i t at) ∙ s.1,
        ap none_or (ap (λ o. with_some o held) (ap (λ o. with_some o sort_of) at) ∙ list_held (sort_of t) s.0 s.1),
      )
  fact_of i t kind.Map at e =
      let s = there (with_some (sort_of t) entry_sort) e in (
        s.0,
        ap (λ o. with_some o entry_sort) (term_sort i t at) ∙ s.1,
        ap none_or (ap (λ o. with_some o held) (ap (λ o. with_some o sort_of) at) ∙ map_held (sort_of t) s.0 s.1),
      )
  fact_of i t (kind.Held j) at e =
      let r = just (with_some (sort_at ts j) held) (sort_of t) e in
      ap (λ o. with_some o held) (part_sort j) ∙ r.1 ∙ sym r.2 ∙ sym (term_sort i t at)
  fact_of i t (kind.Like j) at e = let r = just (sort_at ts j) (sort_of t) e in part_sort j ∙ r.1 ∙ sym r.2 ∙ sym (term_sort i t at)
  fact_of i t kind.Maker at e = let m = there (made t) e in maker_fact i t m.0 at m.1
  fact_of i t kind.ZeroMaker at e =
      let r = of_zero (made t) e in
      let s = zero_made env r.0.1 r.2 in
      (s.0, maker_fact i t r.0 at r.1, ap item_or (ap (λ o. with_some o made) at ∙ r.1) ∙ s.1)
  fact_of i t kind.EmptyMap at e =
      subst (λ v. Fact (record parts { value = λ j. v }) i kind.EmptyMap) (sym (ap value_or at)) (empty_value env t e)

  facts_from : (i : ℕ) (us : List TermTree) (ks : List Kind) → ((j : ℕ) → slice_get us j ≡ slice_get ts (i + j)) → all_fit ts us ks ≡ true → Facts parts i ks
  facts_from i [] [] h e = tt
  facts_from i (u ∷ us) (k ∷ ks) h e =
      let now = and_parts (fits ts u k) (all_fit ts us ks) e in
      let at : slice_get ts i ≡ Some u = sym (h 0 ∙ ap (slice_get ts) (omega arith)) in
      (fact_of i u k at now.0, facts_from (suc i) us ks (λ j. h (suc j) ∙ ap (slice_get ts) (omega arith)) now.1)
  facts_from i [] (k ∷ ks) h e = absurd cc
  facts_from i (u ∷ us) [] h e = absurd cc

  formula_worth : (p : Pattern) (t : TermTree) → formula ts p ≡ Some t → value_under env t ≡ worth parts p
  formula_worth p t e =
      let r = reached (filled ts p) as_formula t e in
      ap (value_under env) (sym (chosen (is_sort sort.Bool (sort_of r.0)) r.0 t r.2).1) ∙ filled_worth p r.0 r.1

  not_asked : (o : Option ℕ) → is_asked ts o ≡ false → IsAsked parts o → ⊥
  not_asked None e h = absurd cc
  not_asked (Some i) e h = let f = ap (is_sort sort.Bytes) (sym (part_sort i) ∙ h) in absurd cc

  -- premises whose formulas are true are met
  met_from : (ps : List Premise) (us : List TermTree) → asked ts ps ≡ Some us → All (IsTrueUnder env) us → AreMet parts ps
  met_from [] us e all = tt
  met_from (p ∷ ps) us e all = pick (λ ws f every. met_from ps ws f every) (is_asked ts p.bytes) refl e
    where
      pick : ((ws : List TermTree) → asked ts ps ≡ Some ws → All (IsTrueUnder env) ws → AreMet parts ps) → (b : Bool) → is_asked ts p.bytes ≡ b → asked_first b (formula ts p.formula) (asked ts ps) ≡ Some us → AreMet parts (p ∷ ps)
      pick rest false g f = ((λ h. absurd (not_asked p.bytes g h)), rest us f all)
      pick rest true g f =
          let r = reached (formula ts p.formula) (λ t. with_some (asked ts ps) (λ ws. Some (t ∷ ws))) us f in
          let s = reached (asked ts ps) (λ ws. Some (r.0 ∷ ws)) us r.2 in
          let whole = subst (All (IsTrueUnder env)) (sym (inner (r.0 ∷ s.0) us s.2)) all in
          ((λ h. sym (formula_worth p.formula r.0 r.1) ∙ whole 0 r.0 (omega arith)), rest s.0 s.1 (All-tail (IsTrueUnder env) r.0 s.0 whole))

  pub true_from : (a : Axiom) (us : List TermTree) (t : TermTree) → Holds a → over_parts ts a ≡ Some (us, t) → All (IsTrueUnder env) us → IsTrueUnder env t
  true_from a us t holds e all =
      let fit = fitting (all_fit ts ts a.kinds) (with_some (asked ts a.premises) (λ ws. with_some (formula ts a.conclusion) (λ w. Some (ws, w)))) e in
      let r = reached (asked ts a.premises) (λ ws. with_some (formula ts a.conclusion) (λ w. Some (ws, w))) (us, t) fit.1 in
      let s = reached (formula ts a.conclusion) (λ w. Some (r.0, w)) (us, t) r.2 in
      let same = inner (r.0, s.0) (us, t) s.2 in
      let truths = subst (All (IsTrueUnder env)) (sym (ap (λ x. x.0) same)) all in
      ap (value_under env) (sym (ap (λ x. x.1) same)) ∙ formula_worth a.conclusion s.0 s.1
      ∙ holds parts in_range (facts_from 0 ts a.kinds (λ j. ap (slice_get ts) (omega arith)) fit.0) (met_from a.premises r.0 r.1 truths)
    where
      fitting : (b : Bool) (o : Option (List TermTree × TermTree)) → cond b o None ≡ Some (us, t) → (b ≡ true) × (o ≡ Some (us, t))
      fitting true o f = (refl, f)
      fitting false o f = absurd cc

pub is_true : (a : Axiom) → Holds a → IsTrue a
is_true a holds ts us t terms e env valuation all = true_from env ts valuation terms a us t holds e all
