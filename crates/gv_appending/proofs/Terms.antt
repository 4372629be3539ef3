-- The term of an expression speaks of what the terms of locals speak of.
use Rattle.std.proofs.Common.{◌≡◌, ℕ, Bool, true, false, ◌&&◌, List, [], ◌∷◌, Option, Some, None, refl, sym, ap, ◌∙◌}
use Rattle.std.specs.Prelude.{slice_get}
use Rattle.gv_terms.specs.declared.operator.Operator.{Operator}
use Rattle.gv_terms.specs.declared.operator.Operator.TheVariants as op
use Rattle.gv_terms.specs.declared.tree.TermTree.{TermTree}
use Rattle.gv_terms.specs.declared.tree.TermTree.TheVariants as tree
use Rattle.gv_terms.specs.declared.var.Var.{Var}
use Rattle.gv_terms.specs.Scopes.{is_closed}
use Rattle.gv_terms.proofs.Closed.{closed_apply}
use Rattle.gv_lang.specs.Tree.{Expr, Number, Truth, Nil, NilSlice, LocalAt, One, Two}
use Rattle.gv_seats.specs.Paths.{term_of, known, over_one, over_two, unary_operator, binary_operator}

some_same : {A : Type 0} (x y : A) → Some x ≡ Some y → x ≡ y
some_same x y e = cc

module _ (vars : List Var) (locals : List (Option TermTree)) (closed : (x : ℕ) (t : TermTree) → slice_get locals x ≡ Some (Some t) → is_closed vars t ≡ true) where
  plain_closed : (o : Operator) (t : TermTree) → Some (tree.Apply o []) ≡ Some t → is_closed vars t ≡ true
  plain_closed o t e = ap (is_closed vars) (sym (some_same (tree.Apply o []) t e)) ∙ closed_apply vars o []

  one_closed : (o : Operator) (a : Option TermTree) (t : TermTree) → ((x : TermTree) → a ≡ Some x → is_closed vars x ≡ true) → over_one o a ≡ Some t → is_closed vars t ≡ true
  one_closed o None t all e = absurd cc
  one_closed o (Some x) t all e =
      ap (is_closed vars) (sym (some_same (tree.Apply o (x ∷ [])) t e)) ∙ closed_apply vars o (x ∷ []) ∙ ap (λ (b : Bool). b && true) (all x refl)

  two_closed : (o : Operator) (a b : Option TermTree) (t : TermTree) → ((x : TermTree) → a ≡ Some x → is_closed vars x ≡ true) → ((x : TermTree) → b ≡ Some x → is_closed vars x ≡ true)
      → over_two o a b ≡ Some t → is_closed vars t ≡ true
  two_closed o (Some x) (Some y) t all more e =
      ap (is_closed vars) (sym (some_same (tree.Apply o (x ∷ y ∷ [])) t e)) ∙ closed_apply vars o (x ∷ y ∷ []) ∙ ap (λ (b : Bool). b && (is_closed vars y && true)) (all x refl)
      ∙ ap (λ (b : Bool). b && true) (more y refl)
  two_closed o None b t all more e = absurd cc
  two_closed o (Some x) None t all more e = absurd cc

  local_closed : (x : ℕ) (found : Option (Option TermTree)) → slice_get locals x ≡ found → (t : TermTree) → known found ≡ Some t → is_closed vars t ≡ true
  local_closed x None is t e = absurd cc
  local_closed x (Some None) is t e = absurd cc
  local_closed x (Some (Some u)) is t e = closed x t (is ∙ ap Some e)

  pub term_closed : (e : Expr) (t : TermTree) → term_of locals e ≡ Some t → is_closed vars t ≡ true
  term_closed (Number n) t e = plain_closed (op.Number n) t e
  term_closed (Truth true) t e = plain_closed op.True t e
  term_closed (Truth false) t e = plain_closed op.False t e
  term_closed Nil t e = plain_closed op.Nil t e
  term_closed NilSlice t e = plain_closed op.NilSlice t e
  term_closed (LocalAt x) t e = local_closed x (slice_get locals x) refl t e
  term_closed (One o a) t e = one_closed (unary_operator o) (term_of locals a) t (λ x is. term_closed a x is) e
  term_closed (Two o a b) t e = two_closed (binary_operator o) (term_of locals a) (term_of locals b) t (λ x is. term_closed a x is) (λ x is. term_closed b x is) e
