-- What a term is the sum of, node by node.
use Rattle.std.proofs.Common.{◌≡◌, ◌<◌, List, [], ◌∷◌, ◌++◌, map, length, Bool, true, false, not, cond, Some, None, refl, sym, ap, ◌∙◌, subst, arith}
use Rattle.std.proofs.lemmas.List.{append_assoc}
use Rattle.std.proofs.Math.IntN.{ℤ, pos, neg_ℤ}
use Rattle.std.proofs.lemmas.Int.{ints}
use Rattle.std.proofs.lemmas.List.{map-append}
use Rattle.gv_terms.specs.declared.operator.Operator.{Operator}
use Rattle.gv_terms.specs.declared.operator.Operator.TheVariants as op
use Rattle.gv_terms.specs.declared.tree.Head.{Head}
use Rattle.gv_terms.specs.declared.tree.Head.TheVariants as head
use Rattle.gv_terms.specs.declared.term.Term.{Term}
use Rattle.gv_terms.specs.declared.tree.TermTree.{TermTree}
use Rattle.gv_terms.specs.Store.{tree_at, AreIn}
use Rattle.gv_terms.specs.Trees.{root_of, branches_of}
use Rattle.gv_certs.specs.Trees.{contains, parts_under, over_two, operator_eq, is_apply, two}
use Rattle.gv_certs.specs.Sums.{Summands, taken_away, of_both, summands}
use Rattle.gv_certs.proofs.Folding.{root_apply, branches_apply}
use Rattle.gv_certs.proofs.Known.{is_over}
use Rattle.gv_known.proofs.Nodes.{of_node}
use Rattle.gv_sums.specs.declared.summand.Summand.{Summand}
use Rattle.gv_sums.specs.Reading.{sign_of, summand_at, summands_at, taken_if, terms_in}
use Rattle.gv_sums.proofs.Results.{one_more_here}

-- ---- taking away

negated_twice : (z : ℤ) → neg_ℤ (neg_ℤ z) ≡ z
negated_twice z = omega (arith, ints)

taken_twice : (x : Summands) → taken_away (taken_away x) ≡ x
taken_twice [] = refl
taken_twice (s ∷ x) = ap (λ z. (z, s.1) ∷ taken_away (taken_away x)) (negated_twice s.0) ∙ ap (λ y. s ∷ y) (taken_twice x)

taken_append : (n : Bool) (x y : Summands) → taken_if n (x ++ y) ≡ taken_if n x ++ taken_if n y
taken_append true x y = map-append (λ s. (neg_ℤ s.0, s.1)) x y
taken_append false x y = refl

taken_not : (n : Bool) (x : Summands) → taken_if n (taken_away x) ≡ taken_if (not n) x
taken_not true x = taken_twice x
taken_not false x = refl

one_taken : (n : Bool) (t : TermTree) → taken_if n ((pos 1, t) ∷ []) ≡ (sign_of n, t) ∷ []
one_taken true t = refl
one_taken false t = refl

-- ---- one node

module _ (sums : List TermTree) (t : TermTree) where
  abbrev by_node : Bool → Summands
  by_node b = cond b (of_both (root_of t) (map (summands sums) (branches_of t))) ((pos 1, t) ∷ [])

  node : summands sums t ≡ by_node (contains sums t)
  unfolding summands
  node = of_node (λ u parts. cond (contains sums u) (of_both (root_of u) parts) ((pos 1, u) ∷ [])) t

  not_listed : (b : Bool) → b ≡ contains sums t → b ≡ false → summands sums t ≡ (pos 1, t) ∷ []
  not_listed b is low = node ∙ ap by_node (sym is ∙ low)

  listed : (b : Bool) → b ≡ contains sums t → b ≡ true → summands sums t ≡ of_both (root_of t) (map (summands sums) (branches_of t))
  listed b is high = node ∙ ap by_node (sym is ∙ high)

  over : (o : Operator) (p : TermTree × TermTree) (b : Bool) → b ≡ contains sums t → b ≡ true → parts_under o t ≡ Some p → summands sums t ≡ of_both (head.Apply o) (summands sums p.0 ∷ summands sums p.1 ∷ [])
  over o p b is high e =
      let whole = is_over o t p e in
      listed b is high
      ∙ ap (λ u. of_both (root_of u) (map (summands sums) (branches_of u))) whole
      ∙ ap (λ h. of_both h (map (summands sums) (branches_of (over_two o p.0 p.1)))) (root_apply o (p.0 ∷ p.1 ∷ []))
      ∙ ap (λ bs. of_both (head.Apply o) (map (summands sums) bs)) (branches_apply o (p.0 ∷ p.1 ∷ []))

-- a tree that is neither is the sum of nothing
neither_under : (o : Operator) (bs : List TermTree) (sums : List TermTree) → cond (operator_eq op.Plus o) (two bs) None ≡ None → cond (operator_eq op.Minus o) (two bs) None ≡ None
    → of_both (head.Apply o) (map (summands sums) bs) ≡ []
neither_under op.Plus [] sums e f = refl
neither_under op.Plus (a ∷ []) sums e f = refl
neither_under op.Plus (a ∷ b ∷ []) sums e f = absurd cc
neither_under op.Plus (a ∷ b ∷ c ∷ bs) sums e f = refl
neither_under op.Minus [] sums e f = refl
neither_under op.Minus (a ∷ []) sums e f = refl
neither_under op.Minus (a ∷ b ∷ []) sums e f = absurd cc
neither_under op.Minus (a ∷ b ∷ c ∷ bs) sums e f = refl
neither_under _ bs sums e f = refl

by_head : (h : Head) (bs : List TermTree) (sums : List TermTree) → cond (is_apply op.Plus h) (two bs) None ≡ None → cond (is_apply op.Minus h) (two bs) None ≡ None
    → of_both h (map (summands sums) bs) ≡ []
by_head (head.Variable n s) bs sums e f = refl
by_head (head.Apply o) bs sums e f = neither_under o bs sums e f

neither : (sums : List TermTree) (t : TermTree) (b : Bool) → b ≡ contains sums t → b ≡ true → parts_under op.Plus t ≡ None → parts_under op.Minus t ≡ None → summands sums t ≡ []
neither sums t b is high e f = listed sums t b is high ∙ by_head (root_of t) (branches_of t) sums e f

-- ---- what is added

module _ (st : List TermTree) (sums : List TermTree) (n : Bool) (t : Term) where
  abbrev whole : TermTree
  whole = tree_at st t.id

  abbrev IsAdded : List Summand → List Summand → Type 0
  IsAdded old new = summands_at st new ≡ summands_at st old ++ taken_if n (summands sums whole)

  pub itself : (old new : List Summand) (b : Bool) → b ≡ contains sums whole → b ≡ false → new ≡ old ++ (record { negative = n; term = t }) ∷ [] → IsAdded old new
  itself old new b is low e =
      ap (summands_at st) e ∙ map-append (summand_at st) old ((record { negative = n; term = t }) ∷ [])
      ∙ ap (λ x. summands_at st old ++ x) (sym (ap (taken_if n) (not_listed sums whole b is low) ∙ one_taken n whole))

  pub of_sum : (p : TermTree × TermTree) (old mid new : List Summand) (b : Bool) → b ≡ contains sums whole → b ≡ true → parts_under op.Plus whole ≡ Some p
      → summands_at st mid ≡ summands_at st old ++ taken_if n (summands sums p.0) → summands_at st new ≡ summands_at st mid ++ taken_if n (summands sums p.1) → IsAdded old new
  of_sum p old mid new b is high e first second =
      second ∙ ap (λ x. x ++ taken_if n (summands sums p.1)) first
      ∙ append_assoc (summands_at st old) (taken_if n (summands sums p.0)) (taken_if n (summands sums p.1))
      ∙ ap (λ x. summands_at st old ++ x) (sym (ap (taken_if n) (over sums whole op.Plus p b is high e) ∙ taken_append n (summands sums p.0) (summands sums p.1)))

  pub of_difference : (p : TermTree × TermTree) (old mid new : List Summand) (b : Bool) → b ≡ contains sums whole → b ≡ true → parts_under op.Minus whole ≡ Some p
      → summands_at st mid ≡ summands_at st old ++ taken_if n (summands sums p.0) → summands_at st new ≡ summands_at st mid ++ taken_if (not n) (summands sums p.1) → IsAdded old new
  of_difference p old mid new b is high e first second =
      second ∙ ap (λ x. x ++ taken_if (not n) (summands sums p.1)) first
      ∙ append_assoc (summands_at st old) (taken_if n (summands sums p.0)) (taken_if (not n) (summands sums p.1))
      ∙ ap (λ x. summands_at st old ++ x)
      (sym (ap (taken_if n) (over sums whole op.Minus p b is high e) ∙ taken_append n (summands sums p.0) (taken_away (summands sums p.1))
      ∙ ap (λ x. taken_if n (summands sums p.0) ++ x) (taken_not n (summands sums p.1))))

  pub of_nothing : (old new : List Summand) (b : Bool) → b ≡ contains sums whole → b ≡ true → parts_under op.Plus whole ≡ None → parts_under op.Minus whole ≡ None → new ≡ old → IsAdded old new
  of_nothing old new b is high e f same =
      ap (summands_at st) same ∙ sym (ap (λ x. summands_at st old ++ taken_if n x) (neither sums whole b is high e f) ∙ ap (λ x. summands_at st old ++ x) (none_taken n) ∙ append_none (summands_at st old))
    where
      none_taken : (m : Bool) → taken_if m [] ≡ []
      none_taken true = refl
      none_taken false = refl

      append_none : (x : Summands) → x ++ [] ≡ x
      append_none [] = refl
      append_none (s ∷ x) = ap (λ y. s ∷ y) (append_none x)

-- the terms stay within the store
pub pushed_within : (st : List TermTree) (old new : List Summand) (n : Bool) (t : Term) → AreIn st (terms_in old) → t.id < length st → new ≡ old ++ (record { negative = n; term = t }) ∷ [] → AreIn st (terms_in new)
pushed_within st old new n t within lt e =
    subst (AreIn st) (sym (ap terms_in e ∙ map-append (λ s. s.term) old ((record { negative = n; term = t }) ∷ []))) (one_more_here st (terms_in old) t within lt)
