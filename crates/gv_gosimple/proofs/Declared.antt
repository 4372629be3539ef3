-- Types that new variables get, and what they declare.
use Rattle.std.proofs.Common.{◌≡◌, ℕ, ◌==◌, Bool, true, false, List, [], ◌∷◌, length, map, Option, Some, None, refl, sym, ap, ◌∙◌, arith}
use Rattle.std.specs.Prelude.{if◌then◌else◌}
use Rattle.gv_gosyntax.specs.declared.node.Node.{Node}
use Rattle.gv_gosyntax.specs.declared.tree.Expr.{Expr as DeclaredExpr}
use Rattle.gv_operands.specs.declared.types.GoType.{GoType}
use Rattle.gv_gotypes.specs.Trees.{Expr, Name, Call, Value, Result, expr_of}
use Rattle.gv_gotypes.specs.Scopes.{Env}
use Rattle.gv_gotypes.specs.Places.{spot_of}
use Rattle.gv_gotypes.specs.Expressions.{operand}
use Rattle.gv_gotypes.specs.Calls.{answer}
use Rattle.gv_gotypes.specs.Assigning.{settled, unknown_for, types_for, read_types, given_types, is_map_read, declaring}
use Rattle.gv_gosimple.specs.Lefts.{AreExprs}
use Rattle.gv_gosimple.specs.Given.{padded, with_left}
use Rattle.gv_gosimple.proofs.Splits.{First}

equal : (m n : ℕ) → m ≡ n → (m == n) ≡ true
equal m n e = grind arith

unequal : (m n : ℕ) → (m ≡ n → ⊥) → (m == n) ≡ false
unequal m n e = grind arith

-- ---- types

pub padded_none : {T : Type 0} (es : List T) → padded es [] ≡ unknown_for es
padded_none [] = refl
padded_none (e ∷ es) = ap (λ (ks : List (Option GoType)). None ∷ ks) (padded_none es)

padded_all : {T : Type 0} (es : List T) (ks : List (Option GoType)) → length ks ≡ length es → padded es ks ≡ ks
padded_all [] [] h = refl
padded_all [] (k ∷ ks) h = absurd (omega (arith, h))
padded_all (e ∷ es) [] h = absurd (omega (arith, h))
padded_all (e ∷ es) (k ∷ ks) h = ap (λ (xs : List (Option GoType)). k ∷ xs) (padded_all es ks (omega (arith, h)))

types_by : (b : Bool) {T : Type 0} (es : List T) (ks : List (Option GoType)) → (length ks == length es) ≡ b → types_for es (Some ks) ≡ (if b then ks else unknown_for es)
types_by b es ks h = ap (λ (x : Bool). if x then ks else unknown_for es) h

pub types_same : {T : Type 0} (es : List T) (ks : List (Option GoType)) → length ks ≡ length es → padded es ks ≡ types_for es (Some ks)
types_same es ks h = padded_all es ks h ∙ sym (types_by true es ks (equal (length ks) (length es) h))

pub types_other : {T : Type 0} (es : List T) (ks : List (Option GoType)) → (length ks ≡ length es → ⊥) → padded es [] ≡ types_for es (Some ks)
types_other es ks h = padded_none es ∙ sym (types_by false es ks (unequal (length ks) (length es) h))

pub one_given : (env : Env) (es : List Expr) (e : Expr) → length es ≡ 1
    → types_for es (Some (settled (spot_of e) (operand env e).class ∷ [])) ≡ given_types env es (Value e)
one_given env [] e h = absurd (omega (arith, h))
one_given env (l ∷ []) e h = refl
one_given env (l ∷ m ∷ ls) e h = absurd (omega (arith, h))

pub other_given : (env : Env) (es : List Expr) (e : Expr) → (length es ≡ 1 → ⊥) → types_for es (read_types (is_map_read env e)) ≡ given_types env es (Value e)
other_given env [] e h = refl
other_given env (l ∷ []) e h = absurd (h refl)
other_given env (l ∷ m ∷ ls) e h = refl

pub result_given : (env : Env) (es : List Expr) (c : Call) → types_for es (answer env c).results ≡ given_types env es (Result c)
result_given env [] c = refl
result_given env (l ∷ []) c = refl
result_given env (l ∷ m ∷ ls) c = refl

-- ---- declarations

pub one_declared : (env : Env) (e : Expr) (es : List Expr) (k : Option GoType) (ks : List (Option GoType)) → declaring env (e ∷ es) (k ∷ ks) ≡ declaring (with_left env e k) es ks
one_declared env (Name t) es k ks = refl
one_declared env e es k ks = refl

-- those that are left, where the others are declared
pub record Behind (before now : Env) (nodes : List Node) (places : List ℕ) (kinds given : List (Option GoType)) (es : List DeclaredExpr) : Type 0 where
  pub left : List DeclaredExpr
  pub are : AreExprs nodes places left
  pub same : declaring before (map expr_of es) (padded (map expr_of es) kinds) ≡ declaring now (map expr_of left) (padded (map expr_of left) given)

pub behind_more : (before now next : Env) (nodes : List Node) (places rest : List ℕ) (place : ℕ) (kinds given more : List (Option GoType)) (kind : Option GoType) (es : List DeclaredExpr)
    → (b : Behind before now nodes places kinds given es) → (f : First nodes place rest b.left)
    → padded (expr_of f.of_first ∷ map expr_of f.of_rest) given ≡ kind ∷ padded (map expr_of f.of_rest) more
    → next ≡ with_left now (expr_of f.of_first) kind → Behind before next nodes rest kinds more es
behind_more before now next nodes places rest place kinds given more kind es b f p n = record {
  left = f.of_rest;
  are = f.are;
  same = b.same
      ∙ ap (λ (xs : List DeclaredExpr). declaring now (map expr_of xs) (padded (map expr_of xs) given)) f.same
      ∙ ap (λ (ks : List (Option GoType)). declaring now (expr_of f.of_first ∷ map expr_of f.of_rest) ks) p
      ∙ one_declared now (expr_of f.of_first) (map expr_of f.of_rest) kind (padded (map expr_of f.of_rest) more)
      ∙ ap (λ (e : Env). declaring e (map expr_of f.of_rest) (padded (map expr_of f.of_rest) more)) (sym n);
}
