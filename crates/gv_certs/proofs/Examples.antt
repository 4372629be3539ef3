-- The worked rows are so.
use Rattle.std.proofs.Common.{◌≡◌, ◌⊎◌, inl, inr, ℕ, zero, suc, ◌+◌, ◌<◌, ◌≤◌, List, [], ◌∷◌, ◌++◌, map, length, get_or, take, Bool, true, false, ◌&&◌, ◌||◌, cond, Option, Some, None, refl, sym, ap, ◌∙◌, subst, arith}
use Rattle.std.specs.Prelude.{FitsSigned}
use Rattle.std.specs.Int.{w128}
use Rattle.std.specs.List.{list_all}
use Rattle.std.specs.Option.{is_some}
use Rattle.std.proofs.Math.IntN.{ℤ, pos, negsuc, neg_ℤ, ◌*ℤ◌, ◌+ℤ◌}
use Rattle.std.proofs.lemmas.Int.{ints}
use Rattle.gv_linear.specs.declared.row.Row.{Row}
use Rattle.gv_linear.specs.declared.answer.Linear.{Linear}
use Rattle.gv_linear.specs.declared.answer.Linear.TheVariants.{Yes, Negative}
use Rattle.gv_linear.specs.Columns.{products, total, IsWide, IsNarrow}
use Rattle.gv_linear.specs.Answer.{IsNegativeAt, IsAnswer}
use Rattle.gv_terms.specs.declared.operator.Operator.{Operator}
use Rattle.gv_terms.specs.declared.operator.Operator.TheVariants as op
use Rattle.gv_terms.specs.declared.tree.Head.TheVariants as head
use Rattle.gv_terms.specs.declared.tree.TermTree.{TermTree}
use Rattle.gv_terms.specs.declared.tree.TermTree.TheVariants as tree
use Rattle.gv_terms.specs.Values.{truth_of}
use Rattle.gv_terms.specs.Trees.{root_of, branches_of, value_under}
use Rattle.gv_certs.specs.declared.cause.Cause.TheVariants as cause
use Rattle.gv_certs.specs.Trees.{tree_eq, contains, operator_eq, is_apply, two, parts_under, over_two, and_pass, equation}
use Rattle.gv_certs.specs.Known.{is_plain_head, is_plain, no_values, computes, is_reflexive, is_turned, is_known}
use Rattle.gv_certs.specs.Sums.{is_sum, summands, number_at, number_in, Comparison, compared_as, or_else, of_words, order_of, comparison_of, denied, is_narrow_row}
use Rattle.gv_certs.specs.Proving.{Sum, AllHold, premises, are_narrow_sums, comparisons, with_comparison, all_rows, matrix, unknowns, factors, Answers, row_premises, sum_premises, order_premises, Proves, Fails}
use Rattle.gv_certs.specs.Examples.{x, number, less, with_factor, x_plus_1, AreRows}
use Rattle.gv_certs.proofs.Folding.{trees, by_induction, root_variable, root_apply, branches_apply, folded_variable, folded_apply}
use Rattle.gv_certs.proofs.Equality.{tree_eq_decides, operator_eq_decides}
use Rattle.gv_certs.proofs.Known.{at_root, under_itself, plain_variable, plain_apply}

-- ---- known and not

contained : (f : TermTree) → contains (f ∷ []) f ≡ true
contained f = ap (λ b. b || false) ((tree_eq_decides f f).1 refl)

known_itself : (f : TermTree) → is_known (f ∷ []) f ≡ true
known_itself f = ap (λ b. b || is_turned (f ∷ []) f || is_reflexive f || computes f) (contained f)

not_plain : (o : Operator) (b : TermTree) → computes (over_two o x b) ≡ false
not_plain o b = ap (λ r. r && truth_of (value_under no_values (over_two o x b))) (whole ∙ by_head (is_plain_head (root_of (over_two o x b))))
  where
    whole : is_plain (over_two o x b) ≡ (is_plain_head (root_of (over_two o x b)) && false)
    whole = plain_apply o (x ∷ b ∷ []) ∙ ap (λ r. is_plain_head (root_of (over_two o x b)) && (r && list_all (λ c. c) (map is_plain (b ∷ [])))) (plain_variable _ _)

    by_head : (r : Bool) → (r && false) ≡ false
    by_head true = refl
    by_head false = refl

unknown_fits : (b : TermTree) → is_known [] (over_two op.Fits x b) ≡ false
unknown_fits b =
    ap (λ o. false || and_pass o (λ c d. contains [] (equation d c)) || and_pass o tree_eq || computes (over_two op.Fits x b)) (at_root op.Equal op.Fits x b)
    ∙ not_plain op.Fits b

-- ---- rows

may_wrap : is_sum [] x_plus_1 ≡ false
may_wrap =
    ap (λ o. and_pass o (λ a b. is_known [] (over_two op.Fits a b)) || and_pass (parts_under op.Minus x_plus_1) (λ a b. is_known [] (over_two op.AtMost b a))) (under_itself op.Plus x (number 1))
    ∙ ap (λ r. r || and_pass (parts_under op.Minus x_plus_1) (λ a b. is_known [] (over_two op.AtMost b a))) (unknown_fits (number 1))
    ∙ ap (λ o. and_pass o (λ a b. is_known [] (over_two op.AtMost b a))) (at_root op.Minus op.Plus x (number 1))

summands_of_none : (t : TermTree) → summands [] t ≡ (pos 1, t) ∷ []
unfolding summands
summands_of_none =
    by_induction (λ t. summands [] t ≡ (pos 1, t) ∷ [])
    (λ n s. folded_variable (λ t parts. (pos 1, t) ∷ []) n s)
    (λ o es. folded_apply (λ t parts. (pos 1, t) ∷ []) o (trees es))

no_literal : number_in x ≡ None
no_literal = ap number_at (root_variable _ _)

literal : (n : ℕ) → number_in (number n) ≡ Some n
literal n = ap number_at (root_apply (op.Number n) [])

same_x : tree_eq x x ≡ true
same_x = (tree_eq_decides x x).1 refl

abbrev first : Comparison
first = record { same = false; strict = true; low = x; high = number 5 }

abbrev goal_row : Comparison
goal_row = record { same = false; strict = true; low = x; high = number 10 }

abbrev lines : List Comparison
lines = first ∷ denied goal_row ∷ []

order_is : (n : ℕ) → order_of (less x (number n)) ≡ Some (record { same = false; strict = true; low = x; high = number n })
order_is n = ap (λ o. or_else (compared_as false true o) (compared_as false false (parts_under op.AtMost (less x (number n))))) (under_itself op.Less x (number n))

comparison_is : comparison_of (less x (number 5)) ≡ Some first
comparison_is = ap (λ o. or_else o (compared_as true false (of_words (parts_under op.Equal (less x (number 5)))))) (order_is 5)

unknowns_are : unknowns [] lines ≡ x ∷ []
unknowns_are = simp (summands_of_none, no_literal, literal, same_x) refl

abbrev told : List Row
told = record { same = false; items = (0, negsuc 0) ∷ []; constant = pos 4 } ∷ record { same = false; items = (0, pos 1) ∷ []; constant = negsuc 9 } ∷ []

matrix_is : matrix [] lines ≡ told
matrix_is = simp (summands_of_none, no_literal, literal, same_x) refl

abbrev sum : ℤ → Sum
sum k = record { sums = []; rows = (k, less x (number 5)) ∷ [] }

abbrev facts : List TermTree
facts = less x (number 5) ∷ []

rows_are : (k : ℤ) → all_rows (sum k) goal_row ≡ lines
rows_are k = ap (λ o. with_comparison o [] ++ (denied goal_row ∷ [])) comparison_is

all_narrow : are_narrow_sums [] lines ≡ true
all_narrow = ap (λ m. list_all is_narrow_row m) matrix_is

last_premise : (k : ℤ) → AllHold (order_premises (sum k) (order_of (less x (number 10))))
last_premise k =
    subst (λ o. AllHold (order_premises (sum k) o)) (sym (order_is 10)) (ap (are_narrow_sums []) (rows_are k) ∙ all_narrow, tt)

all_hold : (k : ℤ) → AllHold (sum_premises facts (less x (number 10)) (sum k))
all_hold k = (known_itself (less x (number 5)), (ap (λ o. is_some o) comparison_is, last_premise k))

answered : (k : ℤ) (answer : Linear) → IsAnswer told (k ∷ pos 1 ∷ []) 1 answer → Answers (sum k) (order_of (less x (number 10))) answer
answered k answer is =
    subst (λ o. Answers (sum k) o answer) (sym (order_is 10))
    (subst (λ cs. IsAnswer (matrix [] cs) (k ∷ pos 1 ∷ []) (length (unknowns [] cs)) answer) (sym (rows_are k))
    (subst (λ m. IsAnswer m (k ∷ pos 1 ∷ []) (length (unknowns [] lines)) answer) (sym matrix_is)
    (subst (λ us. IsAnswer told (k ∷ pos 1 ∷ []) (length us) answer) (sym unknowns_are) is)))

narrow_two : (a b : ℤ) → FitsSigned w128 a → FitsSigned w128 b → FitsSigned w128 (total (a ∷ [])) → FitsSigned w128 (total (a ∷ b ∷ [])) → IsNarrow (a ∷ b ∷ [])
narrow_two a b f g p q zero wide = elim wide.1 [ inl h ↦ h f | inr h ↦ h p ]
narrow_two a b f g p q (suc zero) wide = elim wide.1 [ inl h ↦ h g | inr h ↦ h q ]
narrow_two a b f g p q (suc (suc r)) wide = let lt : suc (suc r) < 2 = wide.0 in absurd (omega (arith, lt))

narrow_columns : (c : ℕ) → c ≤ 1 → IsNarrow (products told (pos 1 ∷ pos 1 ∷ []) 1 c)
narrow_columns zero le = narrow_two (negsuc 0) (pos 1) (omega (arith, ints)) (omega (arith, ints)) (omega (arith, ints)) (omega (arith, ints))
narrow_columns (suc zero) le = narrow_two (pos 4) (negsuc 9) (omega (arith, ints)) (omega (arith, ints)) (omega (arith, ints)) (omega (arith, ints))
narrow_columns (suc (suc c)) le = absurd (omega (arith, le))

not_negative : (r : ℕ) → IsNegativeAt told (pos 1 ∷ pos 1 ∷ []) r → ⊥
not_negative zero h = let low = (h.1 (record { same = false; items = []; constant = pos 0 }, pos 1)).1 in absurd (omega (arith, ints, low))
not_negative (suc zero) h = let low = (h.1 (record { same = false; items = []; constant = pos 0 }, pos 1)).1 in absurd (omega (arith, ints, low))
not_negative (suc (suc r)) h = let lt : suc (suc r) < 2 = h.0 in absurd (omega (arith, lt))

zero_column : (c : ℕ) → c < 1 → total (products told (pos 1 ∷ pos 1 ∷ []) 1 c) ≡ pos 0
zero_column zero lt = refl
zero_column (suc c) lt = absurd (omega (arith, lt))

yes_told : IsAnswer told (pos 1 ∷ pos 1 ∷ []) 1 Yes
yes_told = (record { signed = not_negative; narrow = narrow_columns }, record { zero = zero_column; below = omega (arith, ints) })

negative_told : IsAnswer told (neg_ℤ (pos 1) ∷ pos 1 ∷ []) 1 (Negative 0)
negative_told = record { negative = (omega arith, (λ d. (refl, omega (arith, ints)))); first = λ r lt h. absurd (omega (arith, lt)) }

pub all_rows_are : AreRows
all_rows_are = record {
  below_more = (all_hold (pos 1), answered (pos 1) Yes yes_told);
  negative_factor = inr (all_hold (neg_ℤ (pos 1)), (Negative 0, answered (neg_ℤ (pos 1)) (Negative 0) negative_told, refl));
  may_wrap = inl (inl (may_wrap, refl));
  no_axiom = inl (refl, refl);
}
