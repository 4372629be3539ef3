-- What is appended for an expression and for its parts.
use Rattle.std.proofs.Common.{◌≡◌, ℕ, List, ◌++◌, Option, sym, ap, ◌∙◌, append_assoc}
use Rattle.std.specs.Prelude.{option_map}
use Rattle.gv_gosyntax.specs.declared.tree.Expr.{Expr as DeclaredExpr}
use Rattle.gv_gotypes.specs.Trees.{Expr, bound_of, expr_of}
use Rattle.gv_gotypes.specs.Scopes.{Env}
use Rattle.gv_gotypes.specs.Constants.{named_by, named_by_bound}

pub of_plain : (env : Env) (e d : DeclaredExpr) (p : Expr) (old new : List ℕ) → e ≡ d → expr_of d ≡ p → new ≡ old ++ named_by env p → new ≡ old ++ named_by env (expr_of e)
of_plain env e d p old new made is h = h ∙ ap (λ (x : Expr). old ++ named_by env x) (sym (ap expr_of made ∙ is))

pub of_bound : (env : Env) (b d : Option DeclaredExpr) (old new : List ℕ) → b ≡ d → new ≡ old ++ named_by_bound env (bound_of (option_map expr_of d))
    → new ≡ old ++ named_by_bound env (bound_of (option_map expr_of b))
of_bound env b d old new made h = h ∙ ap (λ (x : Option DeclaredExpr). old ++ named_by_bound env (bound_of (option_map expr_of x))) (sym made)

pub both : (old mid new ns ms : List ℕ) → mid ≡ old ++ ns → new ≡ mid ++ ms → new ≡ old ++ (ns ++ ms)
both old mid new ns ms e f = f ∙ (ap (λ (xs : List ℕ). xs ++ ms) e ∙ append_assoc old ns ms)
