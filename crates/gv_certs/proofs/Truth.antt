-- What a certificate proves from true facts is true.
use Rattle.std.proofs.Common.{◌≡◌, ◌⊎◌, inl, inr, ℕ, zero, suc, ◌+◌, ◌<◌, ◌≤◌, List, [], ◌∷◌, ◌++◌, map, length, get_or, Bool, true, false, not, cond, Option, Some, None, refl, sym, ap, ◌∙◌, subst, arith, rules, nat_lt, nat_le}
use Rattle.std.specs.Prelude.{MatchBool, ◌≤ℤ◌}
use Rattle.std.specs.List.{All}
use Rattle.std.specs.Option.{is_some}
use Rattle.std.proofs.Math.IntN.{ℤ, pos, ◌+ℤ◌, ◌-ℤ◌, ◌*ℤ◌, neg_ℤ}
use Rattle.std.proofs.lemmas.Int.{ints}
use Rattle.std.proofs.lemmas.Bool.{lt-ltb, le-leb}
use Rattle.std.proofs.lemmas.List.Elements.{All-nil, All-cons, All-head, All-tail, All-append}
use Rattle.gv_linear.specs.declared.row.Row.{Row}
use Rattle.gv_linear.specs.Row.{items_sum, value_at, Holds, IsInOrder, AreContradictory}
use Rattle.gv_linear.specs.declared.answer.Linear.TheVariants.{Yes}
use Rattle.gv_linear.proofs.SoundLemmas.{contradictory}
use Rattle.gv_terms.specs.declared.operator.Operator.TheVariants as op
use Rattle.gv_terms.specs.declared.tree.TermTree.{TermTree}
use Rattle.gv_terms.specs.declared.value.Value.{Value}
use Rattle.gv_terms.specs.declared.value.Value.TheVariants as val
use Rattle.gv_terms.specs.declared.value.Env.{Env}
use Rattle.gv_terms.specs.Values.{truth_of, word_of, is_sort}
use Rattle.gv_terms.specs.Trees.{value_under, sort_of}
use Rattle.gv_terms.specs.declared.sort.Sort.TheVariants as sort
use Rattle.gv_terms.proofs.Valued.{value_apply}
use Rattle.gv_terms.specs.Ranges.{IsValuation}
use Rattle.gv_axioms.specs.Truth.{IsTrueUnder, AreTerms, Entails}
use Rattle.gv_axioms.specs.Instances.{instance_of}
use Rattle.gv_axioms.proofs.AllTrue.{instances_are_true}
use Rattle.gv_axioms.proofs.Values.{yes, less, at_most, is_less, is_at_most, not_less, not_at_most}
use Rattle.gv_certs.specs.declared.cause.Cause.TheVariants as cause
use Rattle.gv_certs.specs.Trees.{tree_eq, parts_under, over_two, equation, negation, replaced}
use Rattle.gv_certs.specs.Known.{is_known, is_reflexive}
use Rattle.gv_certs.specs.Sums.{is_sum, summands, taken_away, constant_of, items_of, Comparison, compared_as, or_else, of_words, order_of, comparison_of, denied, row_summands, one_if, row_constant, row_of}
use Rattle.gv_certs.specs.Proving.{Leaf, known, compute, by_axiom, subst_in, subst as leaf_subst, contra, Sum, Certificate, by, linear, cases, then, Premise, asks, AllHold, is_known_of, of_instance, premises, row_premises, with_comparison, comparisons, sides, unknowns, all_rows, matrix, order_premises, sum_premises, factors, Answers, with_fact, Proves}
use Rattle.gv_certs.specs.Laws.{HasTerms, ProofsAreTrue, falsum, AbsurdIsTrue}
use Rattle.gv_certs.proofs.Equality.{same_tree}
use Rattle.gv_certs.proofs.Known.{is_over, value_over, value_negation, true_value, computed, values_equal, reflexive_true, known_true, replaced_value}
use Rattle.gv_certs.proofs.Totals.{IsTerm, count, whole, total, total_of_both, total_taken_away, total_is}
use Rattle.gv_certs.proofs.Rows.{unknown, AreCovered, EachCovered, items_value, in_order, sides_covered, both_covered, taken_away_covered}

-- ---- premises

pub first_part : (ps qs : List Premise) → AllHold (ps ++ qs) → AllHold ps
first_part [] qs h = tt
first_part (p ∷ ps) qs h = (h.0, first_part ps qs h.1)

pub second_part : (ps qs : List Premise) → AllHold (ps ++ qs) → AllHold qs
second_part [] qs h = h
second_part (p ∷ ps) qs h = second_part ps qs h.1

module _ (env : Env) (valuation : IsValuation env) where
  all_known : (facts : List TermTree) → All (IsTrueUnder env) facts → (us : List TermTree) → AllHold (map (is_known_of facts) us) → All (IsTrueUnder env) us
  all_known facts met [] h = All-nil (IsTrueUnder env)
  all_known facts met (u ∷ us) h = All-cons (IsTrueUnder env) u us (known_true env facts u met h.0) (all_known facts met us h.1)

  -- ---- those that need no other

  by_instance : (facts : List TermTree) (f : TermTree) (n : ℕ) (parts : List TermTree) → AreTerms parts → All (IsTrueUnder env) facts
      → (o : Option (List TermTree × TermTree)) → instance_of n parts ≡ o → AllHold (of_instance facts f o) → IsTrueUnder env f
  by_instance facts f n parts terms met None e h = let clash : false ≡ true = h.0 in absurd cc
  by_instance facts f n parts terms met (Some i) e h =
      let asked = all_known facts met i.0 (first_part (map (is_known_of facts) i.0) _ h) in
      let last = second_part (map (is_known_of facts) i.0) _ h in
      subst (IsTrueUnder env) (same_tree i.1 f last.0) (instances_are_true n parts i.0 i.1 terms e env valuation asked)

  opposite : (g : TermTree) → IsTrueUnder env g → IsTrueUnder env (negation g) → ⊥
  opposite g e h =
      let clash : val.Bool (not (truth_of (value_under env g))) ≡ val.Bool true = sym (value_negation env g) ∙ h in
      let same : not (truth_of (value_under env g)) ≡ false = ap (λ v. not (truth_of v)) e in
      absurd cc

  by_leaf : (facts : List TermTree) (f : TermTree) (leaf : Leaf) → HasTerms (by leaf) → All (IsTrueUnder env) facts → AllHold (premises facts f leaf) → IsTrueUnder env f
  by_leaf facts f known terms met h = known_true env facts f met h.0
  by_leaf facts f compute terms met h = computed env f h.0
  by_leaf facts f (by_axiom n parts) terms met h = by_instance facts f n parts terms met (instance_of n parts) refl h
  by_leaf facts f (subst_in a b g) terms met h =
      let same = values_equal env a b (known_true env facts (equation a b) met h.0) in
      sym (replaced_value env a b same f) ∙ ap (value_under env) (same_tree (replaced a b f) (replaced a b g) h.1.1.0) ∙ replaced_value env a b same g ∙ known_true env facts g met h.1.0
  by_leaf facts f (leaf_subst a b) terms met h =
      let same = values_equal env a b (known_true env facts (equation a b) met h.0) in
      sym (replaced_value env a b same f) ∙ reflexive_true env (replaced a b f) h.1.0
  by_leaf facts f (contra g) terms met h = absurd (opposite g (known_true env facts g met h.0) (known_true env facts (negation g) met h.1.0))

  -- ---- comparisons

  -- what a comparison says of the words' values
  abbrev distance : Comparison → ℤ
  distance c = (whole env c.high +ℤ neg_ℤ (whole env c.low)) -ℤ one_if c.strict

  abbrev IsMet : Comparison → Type 0
  IsMet c = MatchBool c.same (distance c ≡ pos 0) (pos 0 ≤ℤ distance c)

  less_met : (f : TermTree) (c : Comparison) (o : Option (TermTree × TermTree)) → parts_under op.Less f ≡ o → compared_as false true o ≡ Some c → IsTrueUnder env f → IsMet c
  less_met f c None e g h = absurd cc
  less_met f c (Some p) e g h =
      let is : record { same = false; strict = true; low = p.0; high = p.1 } ≡ c = cc in
      let lt : count env p.0 < count env p.1 = less (count env p.0) (count env p.1) (sym (ap (value_under env) (is_over op.Less f p e) ∙ value_over env op.Less p.0 p.1) ∙ h) in
      subst IsMet is (omega (arith, ints, lt))

  at_most_met : (f : TermTree) (c : Comparison) (o : Option (TermTree × TermTree)) → parts_under op.AtMost f ≡ o → compared_as false false o ≡ Some c → IsTrueUnder env f → IsMet c
  at_most_met f c None e g h = absurd cc
  at_most_met f c (Some p) e g h =
      let is : record { same = false; strict = false; low = p.0; high = p.1 } ≡ c = cc in
      let le : count env p.0 ≤ count env p.1 = at_most (count env p.0) (count env p.1) (sym (ap (value_under env) (is_over op.AtMost f p e) ∙ value_over env op.AtMost p.0 p.1) ∙ h) in
      subst IsMet is (omega (arith, ints, le))

  of_either : {A : Type 0} (o q : Option A) (a : A) → or_else o q ≡ Some a → (o ≡ Some a) ⊎ (q ≡ Some a)
  of_either None q a e = inr e
  of_either (Some b) q a e = inl e

  equal_met : (f : TermTree) (c : Comparison) (o : Option (TermTree × TermTree)) → parts_under op.Equal f ≡ o → compared_as true false (of_words o) ≡ Some c → IsTrueUnder env f → IsMet c
  equal_met f c None e g h = absurd cc
  equal_met f c (Some p) e g h = by_sort (is_sort sort.Word (sort_of p.0)) g
    where
      by_sort : (b : Bool) → compared_as true false (cond b (Some p) None) ≡ Some c → IsMet c
      by_sort false g = absurd cc
      by_sort true g =
          let is : record { same = true; strict = false; low = p.0; high = p.1 } ≡ c = cc in
          let values = values_equal env p.0 p.1 (sym (ap (value_under env) (is_over op.Equal f p e)) ∙ h) in
          let same : count env p.0 ≡ count env p.1 = ap word_of values in
          subst IsMet is (omega (arith, ints, same))

  order_met : (f : TermTree) (c : Comparison) → order_of f ≡ Some c → IsTrueUnder env f → IsMet c
  order_met f c e h = elim (of_either (compared_as false true (parts_under op.Less f)) (compared_as false false (parts_under op.AtMost f)) c e) [
    | inl a ↦ less_met f c (parts_under op.Less f) refl a h
    | inr b ↦ at_most_met f c (parts_under op.AtMost f) refl b h
  ]

  comparison_met : (f : TermTree) (c : Comparison) → comparison_of f ≡ Some c → IsTrueUnder env f → IsMet c
  comparison_met f c e h = elim (of_either (order_of f) (compared_as true false (of_words (parts_under op.Equal f))) c e) [
    | inl a ↦ order_met f c a h
    | inr b ↦ equal_met f c (parts_under op.Equal f) refl b h
  ]

  -- an order that isn't so is so the other way round
  less_or : (f : TermTree) (c : Comparison) (o : Option (TermTree × TermTree)) → parts_under op.Less f ≡ o → compared_as false true o ≡ Some c → IsTrueUnder env f ⊎ IsMet (denied c)
  less_or f c None e g = absurd cc
  less_or f c (Some p) e g =
      let is : record { same = false; strict = true; low = p.0; high = p.1 } ≡ c = cc in
      let value = ap (value_under env) (is_over op.Less f p e) ∙ value_over env op.Less p.0 p.1 in
      subst (λ d. IsTrueUnder env f ⊎ IsMet (denied d)) is (by_test (nat_lt (count env p.0) (count env p.1)) refl value)
    where
      by_test : (b : Bool) → nat_lt (count env p.0) (count env p.1) ≡ b → value_under env f ≡ val.Bool (nat_lt (count env p.0) (count env p.1)) → IsTrueUnder env f ⊎ IsMet (record { same = false; strict = false; low = p.1; high = p.0 })
      by_test true h v = inl (v ∙ ap (λ r. val.Bool r) h)
      by_test false h v = let le : count env p.1 ≤ count env p.0 = not_less (count env p.0) (count env p.1) (ap (λ r. val.Bool (not r)) h) in inr (omega (arith, ints, le))

  at_most_or : (f : TermTree) (c : Comparison) (o : Option (TermTree × TermTree)) → parts_under op.AtMost f ≡ o → compared_as false false o ≡ Some c → IsTrueUnder env f ⊎ IsMet (denied c)
  at_most_or f c None e g = absurd cc
  at_most_or f c (Some p) e g =
      let is : record { same = false; strict = false; low = p.0; high = p.1 } ≡ c = cc in
      let value = ap (value_under env) (is_over op.AtMost f p e) ∙ value_over env op.AtMost p.0 p.1 in
      subst (λ d. IsTrueUnder env f ⊎ IsMet (denied d)) is (by_test (nat_le (count env p.0) (count env p.1)) refl value)
    where
      by_test : (b : Bool) → nat_le (count env p.0) (count env p.1) ≡ b → value_under env f ≡ val.Bool (nat_le (count env p.0) (count env p.1)) → IsTrueUnder env f ⊎ IsMet (record { same = false; strict = true; low = p.1; high = p.0 })
      by_test true h v = inl (v ∙ ap (λ r. val.Bool r) h)
      by_test false h v = let lt : count env p.1 < count env p.0 = not_at_most (count env p.0) (count env p.1) (ap (λ r. val.Bool (not r)) h) in inr (omega (arith, ints, lt))

  true_or_denied : (f : TermTree) (c : Comparison) → order_of f ≡ Some c → IsTrueUnder env f ⊎ IsMet (denied c)
  true_or_denied f c e = elim (of_either (compared_as false true (parts_under op.Less f)) (compared_as false false (parts_under op.AtMost f)) c e) [
    | inl a ↦ less_or f c (parts_under op.Less f) refl a
    | inr b ↦ at_most_or f c (parts_under op.AtMost f) refl b
  ]

  -- ---- rows

  module _ (facts : List TermTree) (met : All (IsTrueUnder env) facts) (sums : List TermTree)
      (are_sums : All (λ t. (is_sum facts t ≡ true) × IsTerm t) sums) where
    row_value : (us : List TermTree) (d : TermTree) (c : Comparison) → AreCovered env us d (summands sums c.low) → AreCovered env us d (summands sums c.high)
        → value_at (unknown env us d) (row_of sums us c) ≡ (whole env c.high +ℤ neg_ℤ (whole env c.low)) -ℤ one_if c.strict
    row_value us d c low high =
        let ss = row_summands sums c in
        let items = items_value env us d ss (both_covered env d us (summands sums c.high) (taken_away (summands sums c.low)) high (taken_away_covered env d us (summands sums c.low) low)) in
        let parts = total_of_both env (summands sums c.high) (taken_away (summands sums c.low)) in
        let away = total_taken_away env (summands sums c.low) in
        let first = total_is env valuation facts met sums are_sums c.high in
        let second = total_is env valuation facts met sums are_sums c.low in
        omega (arith, ints, items, parts, away, first, second)

    row_holds : (us : List TermTree) (d : TermTree) (c : Comparison) → AreCovered env us d (summands sums c.low) → AreCovered env us d (summands sums c.high)
        → IsMet c → Holds (unknown env us d) (row_of sums us c)
    row_holds us d c low high is = by_same c.same is
      where
        e : value_at (unknown env us d) (row_of sums us c) ≡ distance c
        e = row_value us d c low high

        by_same : (same : Bool) → MatchBool same (distance c ≡ pos 0) (pos 0 ≤ℤ distance c)
            → MatchBool same (value_at (unknown env us d) (row_of sums us c) ≡ pos 0) (pos 0 ≤ℤ value_at (unknown env us d) (row_of sums us c))
        by_same true is = e ∙ is
        by_same false is = subst (λ z. pos 0 ≤ℤ z) (sym e) is

    abbrev AreMet : List Comparison → Type 0
    AreMet [] = Unit {0}
    AreMet (c ∷ cs) = IsMet c × AreMet cs

    rows_hold : (us : List TermTree) (d : TermTree) (cs : List Comparison) → EachCovered env d sums us (sides cs) → AreMet cs → All (Holds (unknown env us d)) (map (row_of sums us) cs)
    rows_hold us d [] covered h = All-nil (Holds (unknown env us d))
    rows_hold us d (c ∷ cs) covered h =
        All-cons (Holds (unknown env us d)) (row_of sums us c) (map (row_of sums us) cs) (row_holds us d c covered.0 covered.1.0 h.0) (rows_hold us d cs covered.1.1 h.1)

    rows_in_order : (us : List TermTree) (cs : List Comparison) → All (IsInOrder (length us)) (map (row_of sums us) cs)
    rows_in_order us [] = All-nil (IsInOrder (length us))
    rows_in_order us (c ∷ cs) = All-cons (IsInOrder (length us)) (row_of sums us c) (map (row_of sums us) cs) (in_order sums us c) (rows_in_order us cs)

    -- rows of a linear certificate are met
    one_met : (r : ℤ × TermTree) (o : Option Comparison) (cs : List Comparison) → comparison_of r.1 ≡ o → IsTrueUnder env r.1 → AreMet cs → AreMet (with_comparison o cs)
    one_met r None cs e h rest = rest
    one_met r (Some c) cs e h rest = (comparison_met r.1 c e h, rest)

    all_met : (rs : List (ℤ × TermTree)) → AllHold (row_premises facts rs) → AreMet (comparisons rs)
    all_met [] h = tt
    all_met (r ∷ rs) h = one_met r (comparison_of r.1) (comparisons rs) refl (known_true env facts r.1 met h.0) (all_met rs h.1.1)

    with_last : (cs : List Comparison) (c : Comparison) → AreMet cs → IsMet c → AreMet (cs ++ (c ∷ []))
    with_last [] c h is = (is, tt)
    with_last (b ∷ cs) c h is = (h.0, with_last cs c h.1 is)

    -- the rows, of which the last is the formula denied, can't all be met
    by_rows : (s : Sum) (f : TermTree) (c : Comparison) → order_of f ≡ Some c → s.sums ≡ sums → AllHold (row_premises facts s.rows)
        → Answers s (Some c) Yes → IsTrueUnder env f
    by_rows s f c e same rows answer = elim (true_or_denied f c e) [ inl so ↦ so | inr but ↦ absurd (impossible same answer but) ]
      where
        impossible : s.sums ≡ sums → Answers s (Some c) Yes → IsMet (denied c) → ⊥
        impossible same answer met_too =
            let cs = all_rows s c in
            let us = unknowns sums cs in
            let told : Answers (record { sums = sums; rows = s.rows }) (Some c) Yes = subst (λ ts. Answers (record { sums = ts; rows = s.rows }) (Some c) Yes) same answer in
            let none = contradictory (map (row_of sums us) cs) (factors s) (length us) (rows_in_order us cs) told.0.signed told.1 in
            none (unknown env us falsum) (rows_hold us falsum cs (sides_covered env falsum sums cs) (with_last (comparisons s.rows) (denied c) (all_met s.rows rows) met_too))

  are_sums_of : (facts ts : List TermTree) (rest : List TermTree) → AreTerms (ts ++ rest) → AllHold (map (λ t. asks (is_sum facts t) cause.NotAPlus) ts)
      → All (λ t. (is_sum facts t ≡ true) × IsTerm t) ts
  are_sums_of facts [] rest terms h = All-nil _
  are_sums_of facts (t ∷ ts) rest terms h =
      All-cons (λ t. (is_sum facts t ≡ true) × IsTerm t) t ts (h.0, All-head IsTerm t (ts ++ rest) terms)
      (are_sums_of facts ts rest (All-tail IsTerm t (ts ++ rest) terms) h.1)

  by_sum : (facts : List TermTree) (f : TermTree) (s : Sum) (o : Option Comparison) → order_of f ≡ o → HasTerms (linear s) → All (IsTrueUnder env) facts
      → AllHold (map (λ t. asks (is_sum facts t) cause.NotAPlus) s.sums ++ row_premises facts s.rows ++ order_premises s o)
      → Answers s o Yes → IsTrueUnder env f
  by_sum facts f s None e terms met h answer = absurd answer
  by_sum facts f s (Some c) e terms met h answer =
      let front = first_part _ (order_premises s (Some c)) h in
      let sums = first_part _ (row_premises facts s.rows) front in
      let rows = second_part (map (λ t. asks (is_sum facts t) cause.NotAPlus) s.sums) (row_premises facts s.rows) front in
      by_rows facts met s.sums (are_sums_of facts s.sums (map (λ r. r.1) s.rows) terms sums) s f c e refl rows answer

  -- ---- all

  with_more : (facts : List TermTree) (g : TermTree) → All (IsTrueUnder env) facts → IsTrueUnder env g → All (IsTrueUnder env) (with_fact facts g)
  with_more [] g met h = All-cons (IsTrueUnder env) g [] h (All-nil (IsTrueUnder env))
  with_more (f ∷ facts) g met h =
      All-cons (IsTrueUnder env) f (with_fact facts g) (All-head (IsTrueUnder env) f facts met) (with_more facts g (All-tail (IsTrueUnder env) f facts met) h)

  not_so : (v : Value) → (v ≡ val.Bool true) ⊎ (truth_of v ≡ false)
  not_so (val.Bool true) = inl refl
  not_so (val.Bool false) = inr refl
  not_so _ = inr refl

  so_or_not : (g : TermTree) → IsTrueUnder env g ⊎ IsTrueUnder env (negation g)
  so_or_not g = elim (not_so (value_under env g)) [ inl so ↦ inl so | inr but ↦ inr (value_negation env g ∙ ap (λ b. val.Bool (not b)) but) ]

  proved : (facts : List TermTree) (f : TermTree) (c : Certificate) → HasTerms c → Proves facts f c → All (IsTrueUnder env) facts → IsTrueUnder env f
  proved facts f (by leaf) terms h met = by_leaf facts f leaf terms met h
  proved facts f (linear s) terms h met = by_sum facts f s (order_of f) refl terms met h.0 h.1
  proved facts f (cases g c d) terms h met = elim (so_or_not g) [
    | inl so ↦ proved (with_fact facts g) f c terms.1 h.0 (with_more facts g met so)
    | inr but ↦ proved (with_fact facts (negation g)) f d terms.2 h.1 (with_more facts (negation g) met but)
  ]
  proved facts f (then g c d) terms h met = proved (with_fact facts g) f d terms.2 h.1 (with_more facts g met (proved facts g c terms.1 h.0 met))

pub proofs_are_true : ProofsAreTrue
proofs_are_true facts f c terms h env valuation met = proved env valuation facts f c terms h met

pub absurd_is_true : AbsurdIsTrue
absurd_is_true facts c terms h env valuation met =
    let clash : val.Bool false ≡ val.Bool true = sym (value_apply env op.False []) ∙ proofs_are_true facts falsum c terms h env valuation met in
    absurd cc
