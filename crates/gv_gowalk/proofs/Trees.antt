-- The plain tree of each form of an operand.
use Rattle.std.proofs.Common.{◌≡◌, Option, Some, None, rules}
use Rattle.std.specs.Prelude.{option_map}
use Rattle.gv_gosyntax.specs.declared.lexeme.Lexeme.{Lexeme}
use Rattle.gv_gosyntax.specs.declared.tree.Expr.{Expr as DeclaredExpr}
use Rattle.gv_gosyntax.specs.declared.tree.Expr as declared_expr
use Rattle.gv_gosyntax.specs.declared.tree.Expr.TheVariants as expr
use Rattle.gv_gotypes.specs.Trees.{Constant, Name, Paren, Convert, Select, Index, Slice, Unary, Binary, bound_of, expr_of}

pub constant_of : (t : Lexeme) → expr_of (expr.Constant t) ≡ Constant t
unfolding expr_of
constant_of t = search (rules, declared_expr.the_lemmas)

pub name_of : (t : Lexeme) → expr_of (expr.Name t) ≡ Name t
unfolding expr_of
name_of t = search (rules, declared_expr.the_lemmas)

pub paren_of : (t : Lexeme) (e : DeclaredExpr) → expr_of (expr.Paren t e) ≡ Paren t (expr_of e)
unfolding expr_of
paren_of t e = search (rules, declared_expr.the_lemmas)

pub convert_of : (t : Lexeme) (e : DeclaredExpr) → expr_of (expr.Convert t e) ≡ Convert t (expr_of e)
unfolding expr_of
convert_of t e = search (rules, declared_expr.the_lemmas)

pub select_of : (e : DeclaredExpr) (t : Lexeme) → expr_of (expr.Select e t) ≡ Select (expr_of e) t
unfolding expr_of
select_of e t = search (rules, declared_expr.the_lemmas)

pub index_of : (e i : DeclaredExpr) → expr_of (expr.Index e i) ≡ Index (expr_of e) (expr_of i)
unfolding expr_of
index_of e i = search (rules, declared_expr.the_lemmas)

pub slice_of : (e : DeclaredExpr) (a b : Option DeclaredExpr) → expr_of (expr.Slice e a b) ≡ Slice (expr_of e) (bound_of (option_map expr_of a)) (bound_of (option_map expr_of b))
unfolding expr_of
slice_of e None None = search (rules, declared_expr.the_lemmas)
slice_of e None (Some b) = search (rules, declared_expr.the_lemmas)
slice_of e (Some a) None = search (rules, declared_expr.the_lemmas)
slice_of e (Some a) (Some b) = search (rules, declared_expr.the_lemmas)

pub unary_of : (t : Lexeme) (e : DeclaredExpr) → expr_of (expr.Unary t e) ≡ Unary t (expr_of e)
unfolding expr_of
unary_of t e = search (rules, declared_expr.the_lemmas)

pub binary_of : (a : DeclaredExpr) (t : Lexeme) (b : DeclaredExpr) → expr_of (expr.Binary a t b) ≡ Binary (expr_of a) t (expr_of b)
unfolding expr_of
binary_of a t b = search (rules, declared_expr.the_lemmas)
