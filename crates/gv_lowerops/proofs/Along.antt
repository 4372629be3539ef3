-- From what is so of the parts of a node to what is so of its tree.
use Rattle.std.proofs.Common.{◌≡◌, Option, sym, ap, subst, ◌∙◌}
use Rattle.std.specs.Prelude.{option_map}
use Rattle.gv_gosyntax.specs.declared.tree.Expr.{Expr as DeclaredExpr}
use Rattle.gv_gotypes.specs.Trees.{Expr, Bound, bound_of, expr_of}

pub along : (P : Expr → Type 0) (e d : DeclaredExpr) (p : Expr) → e ≡ d → expr_of d ≡ p → P p → P (expr_of e)
along P e d p made is h = subst P (sym (ap expr_of made ∙ is)) h

pub along_bound : (P : Bound → Type 0) (b d : Option DeclaredExpr) → b ≡ d → P (bound_of (option_map expr_of d)) → P (bound_of (option_map expr_of b))
along_bound P b d made h = subst (λ (x : Option DeclaredExpr). P (bound_of (option_map expr_of x))) (sym made) h
