-- Tests of terms of a store decide what the definitions ask of their trees.
use Rattle.std.proofs.Common.{◌≡◌, ℕ, zero, suc, ◌+◌, ◌<◌, ◌≤◌, List, [], ◌∷◌, length, drop, get_or, Bool, true, false, ◌&&◌, ◌||◌, Option, Some, None, ◌↔◌, IsTrue, refl, sym, ap, ◌∙◌, subst}
use Rattle.std.specs.Bool.{Decides}
use Rattle.std.proofs.lemmas.Bool.{and_parts}
use Rattle.std.proofs.lemmas.Bool.Decides.{same_from_decides}
use Rattle.std.proofs.lemmas.List.{drop_more, drop_all}
use Rattle.gv_terms.specs.declared.operator.Operator.{Operator}
use Rattle.gv_terms.specs.declared.operator.Operator.TheVariants as op
use Rattle.gv_terms.specs.declared.term.Term.{Term}
use Rattle.gv_terms.specs.declared.tree.TermTree.{TermTree}
use Rattle.gv_terms.specs.Store.{tree_at, trees_at}
use Rattle.gv_certs.specs.Trees.{tree_eq, contains, operator_eq, parts_under, over_two, and_pass, equation}
use Rattle.gv_certs.proofs.Equality.{tree_eq_decides, operator_eq_decides, same_tree}
use Rattle.gv_certs.proofs.Known.{is_over, under_itself}

both_true : (a b : Bool) → a ≡ true → b ≡ true → (a && b) ≡ true
both_true true b e f = f
both_true false b e f = absurd cc

agree : (r s : Bool) (P : Type 0) → (IsTrue r ↔ P) → Decides s P → r ≡ s
agree true true P h d = refl
agree true false P h d = let e = d.1 (h.0 refl) in absurd cc
agree false true P h d = let e = h.1 (d.0 refl) in absurd cc
agree false false P h d = refl

pub same_test : (r : Bool) (t u : TermTree) → (IsTrue r ↔ (t ≡ u)) → r ≡ tree_eq t u
same_test r t u h = agree r (tree_eq t u) (t ≡ u) h (tree_eq_decides t u)

pub same_operator_test : (r : Bool) (o p : Operator) → (IsTrue r ↔ (o ≡ p)) → r ≡ operator_eq o p
same_operator_test r o p h = agree r (operator_eq o p) (o ≡ p) h (operator_eq_decides o p)

-- ---- equations

either_way : (o : Operator) (t a b : TermTree) (q : Option (TermTree × TermTree)) → parts_under o t ≡ q → Decides (and_pass q (λ x y. tree_eq x a && tree_eq y b)) (t ≡ over_two o a b)
either_way o t a b None e = (
  (λ f. absurd cc),
  (λ f. let clash : None ≡ Some (a, b) = sym e ∙ ap (parts_under o) f ∙ under_itself o a b in absurd cc),
)
either_way o t a b (Some p) e = (
  (λ f.
      let both = and_parts (tree_eq p.0 a) (tree_eq p.1 b) f in
      is_over o t p e ∙ ap (λ x. over_two o x p.1) (same_tree p.0 a both.0) ∙ ap (λ y. over_two o a y) (same_tree p.1 b both.1)),
  (λ f.
      let same : Some p ≡ Some (a, b) = sym e ∙ ap (parts_under o) f ∙ under_itself o a b in
      let is : p ≡ (a, b) = cc in
      subst (λ q. (tree_eq q.0 a && tree_eq q.1 b) ≡ true) (sym is) (both_true (tree_eq a a) (tree_eq b b) ((tree_eq_decides a a).1 refl) ((tree_eq_decides b b).1 refl))),
)

pub over_test : (o : Operator) (t a b : TermTree) → and_pass (parts_under o t) (λ x y. tree_eq x a && tree_eq y b) ≡ tree_eq t (over_two o a b)
over_test o t a b = same_from_decides (and_pass (parts_under o t) (λ x y. tree_eq x a && tree_eq y b)) (tree_eq t (over_two o a b)) (either_way o t a b (parts_under o t) refl) (tree_eq_decides t (over_two o a b))

module _ (t a b : TermTree) where
  abbrev Sides : Option (TermTree × TermTree) → Type 0
  Sides q = q ≡ parts_under op.Equal t

  tested : (q : Option (TermTree × TermTree)) → Sides q → and_pass q (λ x y. tree_eq x a && tree_eq y b) ≡ tree_eq t (equation a b)
  tested q e = ap (λ r. and_pass r (λ x y. tree_eq x a && tree_eq y b)) e ∙ over_test op.Equal t a b

  pub no_equation : Sides None → false ≡ tree_eq t (equation a b)
  no_equation e = tested None e

  pub other_side : (x y : TermTree) (r : Bool) → Sides (Some (x, y)) → r ≡ tree_eq x a → r ≡ false → r ≡ tree_eq t (equation a b)
  other_side x y r e is low = low ∙ ap (λ c. c && tree_eq y b) (sym low ∙ is) ∙ tested (Some (x, y)) e

  pub both_sides : (x y : TermTree) (r s : Bool) → Sides (Some (x, y)) → r ≡ tree_eq x a → r ≡ true → s ≡ tree_eq y b → s ≡ tree_eq t (equation a b)
  both_sides x y r s e is high also = also ∙ ap (λ c. c && tree_eq y b) (sym high ∙ is) ∙ tested (Some (x, y)) e

-- ---- facts from one place on

pub found_here : (st : List TermTree) (facts : List Term) (i : ℕ) (p : Term) (t : TermTree) → i < length facts → p ≡ get_or facts i p → tree_eq (tree_at st p.id) t ≡ true → contains (trees_at st (drop i facts)) t ≡ true
found_here st facts i p t lt is e =
    ap (λ qs. contains (trees_at st qs) t) (drop_more facts i p lt ∙ ap (λ q. q ∷ drop (i + 1) facts) (sym is)) ∙ ap (λ b. b || contains (trees_at st (drop (i + 1) facts)) t) e

pub not_here : (st : List TermTree) (facts : List Term) (i : ℕ) (p : Term) (t : TermTree) → i < length facts → p ≡ get_or facts i p → tree_eq (tree_at st p.id) t ≡ false
    → contains (trees_at st (drop (i + 1) facts)) t ≡ contains (trees_at st (drop i facts)) t
not_here st facts i p t lt is e =
    sym (ap (λ qs. contains (trees_at st qs) t) (drop_more facts i p lt ∙ ap (λ q. q ∷ drop (i + 1) facts) (sym is)) ∙ ap (λ b. b || contains (trees_at st (drop (i + 1) facts)) t) e)

pub none_left : (st : List TermTree) (facts : List Term) (i : ℕ) (t : TermTree) → length facts ≤ i → contains (trees_at st (drop i facts)) t ≡ false
none_left st facts i t le = ap (λ qs. contains (trees_at st qs) t) (drop_all i facts le)

-- ---- facts at any place

or_later : (a b : Bool) → b ≡ true → (a || b) ≡ true
or_later true b e = refl
or_later false b e = e

from_later : (st : List TermTree) (facts : List Term) (i : ℕ) (t : TermTree) → contains (trees_at st (drop i facts)) t ≡ true → contains (trees_at st facts) t ≡ true
from_later st facts zero t h = h
from_later st [] (suc i) t h = h
from_later st (f ∷ facts) (suc i) t h = or_later (tree_eq (tree_at st f.id) t) (contains (trees_at st facts) t) (from_later st facts i t h)

pub found_at : (st : List TermTree) (facts : List Term) (i : ℕ) (p : Term) (t : TermTree) → i < length facts → p ≡ get_or facts i p → tree_eq (tree_at st p.id) t ≡ true → contains (trees_at st facts) t ≡ true
found_at st facts i p t lt is e = from_later st facts i t (found_here st facts i p t lt is e)
