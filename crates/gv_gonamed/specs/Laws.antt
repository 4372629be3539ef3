-- What an expression outside of functions is by the constants that it names.
use Rattle.std.specs.Prelude.{◌≡◌, ℕ, List, Option, None}
use Rattle.gv_operands.specs.declared.types.Class.{Class}
use Rattle.gv_cycles.specs.Leading.{IsIn}
use Rattle.gv_gotypes.specs.Trees.{Expr}
use Rattle.gv_gotypes.specs.Scopes.{Source, Package, Env, constant_class}
use Rattle.gv_gotypes.specs.Expressions.{operand}
use Rattle.gv_gotypes.specs.Declarations.{outside}
use Rattle.gv_gotypes.specs.Constants.{with_constants, named_by}

-- outside of functions, where the constants are these
abbrev pub with_these : Source → Package → List (Option Class) → Env
with_these s p ks = outside s (with_constants p ks)

abbrev pub class_in : Package → List (Option Class) → ℕ → Option Class
class_in p ks n = constant_class (with_constants p ks) n

-- What it names doesn't depend on what constants are.
abbrev pub NamesAlike : Type 0
NamesAlike = (s : Source) (p : Package) (ks js : List (Option Class)) (e : Expr) → named_by (with_these s p ks) e ≡ named_by (with_these s p js) e

-- It is the same where those that it names are.
abbrev pub RestsOnNamed : Type 0
RestsOnNamed = (s : Source) (p : Package) (ks js : List (Option Class)) (e : Expr)
    → ((n : ℕ) → IsIn n (named_by (with_these s p ks) e) → class_in p ks n ≡ class_in p js n)
    → operand (with_these s p ks) e ≡ operand (with_these s p js) e

-- It is nothing where one of them is nothing.
abbrev pub NothingOfNothing : Type 0
NothingOfNothing = (env : Env) (e : Expr) (n : ℕ) → IsIn n (named_by env e) → constant_class env.declared n ≡ None → (operand env e).class ≡ None
