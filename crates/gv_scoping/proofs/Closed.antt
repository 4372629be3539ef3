-- Assertions, facts and locals over some variables alone.
use Rattle.std.proofs.Common.{◌≡◌, ℕ, Bool, true, ◌&&◌, List, [], ◌∷◌, ◌++◌, length, ◌<◌, Option, Some, sym, ap, ◌∙◌, inl, inr}
use Rattle.std.specs.Prelude.{slice_get, slice_set}
use Rattle.gv_terms.specs.declared.operator.Operator.{Operator}
use Rattle.gv_terms.specs.declared.operator.Operator.TheVariants as op
use Rattle.gv_terms.specs.declared.tree.TermTree.{TermTree}
use Rattle.gv_terms.specs.declared.tree.TermTree.TheVariants as tree
use Rattle.gv_terms.specs.declared.var.Var.{Var}
use Rattle.gv_terms.specs.Scopes.{is_closed}
use Rattle.gv_terms.proofs.Closed.{closed_apply}
use Rattle.gv_resources.proofs.Sums.{number_test}
use Rattle.gv_assertions.specs.Atoms.{Atom, Takes, here, there}
use Rattle.gv_instances.specs.Agreeing.{AreClosed, IsClosedAtom, AreClosedAtoms}
use Rattle.gv_seats.specs.Paths.{number}
use Rattle.gv_seats.proofs.Locals.{set_there, set_elsewhere}
use Rattle.gv_rules.specs.Rows.{Replaces}
use Rattle.gv_rules.specs.Rows.{here as first, there as later}

-- ---- terms

pub number_closed : (vars : List Var) (n : ℕ) → is_closed vars (number n) ≡ true
number_closed vars n = closed_apply vars (op.Number n) []

pub plain_closed : (vars : List Var) (o : Operator) → is_closed vars (tree.Apply o []) ≡ true
plain_closed vars o = closed_apply vars o []

pub one_closed : (vars : List Var) (o : Operator) (a : TermTree) → is_closed vars a ≡ true → is_closed vars (tree.Apply o (a ∷ [])) ≡ true
one_closed vars o a c = closed_apply vars o (a ∷ []) ∙ ap (λ (b : Bool). b && true) c

pub two_closed : (vars : List Var) (o : Operator) (a b : TermTree) → is_closed vars a ≡ true → is_closed vars b ≡ true → is_closed vars (tree.Apply o (a ∷ b ∷ [])) ≡ true
two_closed vars o a b c d = closed_apply vars o (a ∷ b ∷ []) ∙ ap (λ (x : Bool). x && (is_closed vars b && true)) c ∙ ap (λ (x : Bool). x && true) d

pub three_closed : (vars : List Var) (o : Operator) (a b c : TermTree) → is_closed vars a ≡ true → is_closed vars b ≡ true → is_closed vars c ≡ true
    → is_closed vars (tree.Apply o (a ∷ b ∷ c ∷ [])) ≡ true
three_closed vars o a b c p q r =
    closed_apply vars o (a ∷ b ∷ c ∷ []) ∙ ap (λ (x : Bool). x && (is_closed vars b && (is_closed vars c && true))) p ∙ ap (λ (x : Bool). x && (is_closed vars c && true)) q
    ∙ ap (λ (x : Bool). x && true) r

-- ---- lists

pub facts_join : (vars : List Var) (facts more : List TermTree) → AreClosed vars facts → AreClosed vars more → AreClosed vars (facts ++ more)
facts_join vars [] more c d = d
facts_join vars (f ∷ facts) more c d = (c.0, facts_join vars facts more c.1 d)

pub atoms_join : (vars : List Var) (all more : List Atom) → AreClosedAtoms vars all → AreClosedAtoms vars more → AreClosedAtoms vars (all ++ more)
atoms_join vars [] more c d = d
atoms_join vars (a ∷ all) more c d = (c.0, atoms_join vars all more c.1 d)

pub atom_of : (vars : List Var) {all left : List Atom} {a : Atom} → Takes all a left → AreClosedAtoms vars all → IsClosedAtom vars a
atom_of vars here c = c.0
atom_of vars (there t) c = atom_of vars t c.1

pub atoms_left : (vars : List Var) {all left : List Atom} {a : Atom} → Takes all a left → AreClosedAtoms vars all → AreClosedAtoms vars left
atoms_left vars here c = c.1
atoms_left vars (there t) c = (c.0, atoms_left vars t c.1)

pub replaced_of : (vars : List Var) {all after : List Atom} {a b : Atom} → Replaces all a b after → AreClosedAtoms vars all → IsClosedAtom vars a
replaced_of vars first c = c.0
replaced_of vars (later t) c = replaced_of vars t c.1

pub atoms_replaced : (vars : List Var) {all after : List Atom} {a b : Atom} → Replaces all a b after → AreClosedAtoms vars all → IsClosedAtom vars b → AreClosedAtoms vars after
atoms_replaced vars first c d = (d, c.1)
atoms_replaced vars (later t) c d = (c.0, atoms_replaced vars t c.1 d)

-- ---- locals

abbrev pub AreClosedLocals : List Var → List (Option TermTree) → Type 0
AreClosedLocals vars locals = (x : ℕ) (t : TermTree) → slice_get locals x ≡ Some (Some t) → is_closed vars t ≡ true

some_same : {A : Type 0} (x y : A) → Some x ≡ Some y → x ≡ y
some_same x y e = cc

pub local_set : (vars : List Var) (locals : List (Option TermTree)) (x : ℕ) (t : TermTree) → x < length locals → AreClosedLocals vars locals → is_closed vars t ≡ true
    → AreClosedLocals vars (slice_set locals x (Some t))
local_set vars locals x t l closed c y u found = elim (number_test y x) [
  | inl (same, b) ↦
      let here : Some (Some t) ≡ Some (Some u) = sym (set_there locals x (Some t) l) ∙ ap (λ z. slice_get (slice_set locals x (Some t)) z) (sym same) ∙ found in
      let is_u : t ≡ u = some_same t u (some_same (Some t) (Some u) here) in
      ap (is_closed vars) (sym is_u) ∙ c
  | inr (ne, b) ↦ closed y u (sym (set_elsewhere locals x y (Some t) ne) ∙ found)
]
