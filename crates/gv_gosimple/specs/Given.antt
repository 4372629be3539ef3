-- Types that new variables get.
use Rattle.std.specs.Prelude.{List, [], ◌∷◌, Option, None}
use Rattle.gv_operands.specs.declared.types.GoType.{GoType}
use Rattle.gv_gotypes.specs.Trees.{Expr, Name}
use Rattle.gv_gotypes.specs.Scopes.{Env, with_variable}

-- one for each left side; those that are left have none
abbrev pub padded : {T : Type 0} → List T → List (Option GoType) → List (Option GoType)
padded [] ks = []
padded (e ∷ es) [] = None ∷ padded es []
padded (e ∷ es) (k ∷ ks) = k ∷ padded es ks

-- behind one left side of a definition
abbrev pub with_left : Env → Expr → Option GoType → Env
with_left env (Name t) k = with_variable env t k
with_left env other k = env
