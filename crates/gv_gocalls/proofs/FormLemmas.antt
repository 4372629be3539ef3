-- The form of an operand by its node.
use Rattle.std.proofs.Common.{◌≡◌, ℕ, ◌<◌, List, length, Option, Some, None, refl, sym, ap, subst, ◌∙◌, arith}
use Rattle.gv_gosyntax.specs.declared.generated.gosyntax_acts.Part.TheVariants.{Expr as PExpr}
use Rattle.gv_gosyntax.specs.declared.node.Node.{Node}
use Rattle.gv_gosyntax.specs.declared.tree.Expr.{Expr as DeclaredExpr}
use Rattle.gv_gosyntax.specs.declared.tree.Expr.TheVariants as expr
use Rattle.gv_gonodes.specs.Expr.{IsExprNode}
use Rattle.gv_gonodes.specs.declared.generated.expr_node.ExprNode.{ExprNode}
use Rattle.gv_gonodes.specs.declared.generated.expr_node.ExprNode.TheVariants as node
use Rattle.gv_gotypes.specs.Trees as plain
use Rattle.gv_gotypes.specs.Trees.{Expr, expr_of}
use Rattle.gv_gowalk.proofs.Trees.{constant_of, name_of, paren_of, convert_of, select_of, index_of, slice_of, unary_of, binary_of}
use Rattle.gv_gocalls.specs.Forms.{form_by, IsForm, IsOther}

other : (e d : DeclaredExpr) (p : Expr) → e ≡ d → expr_of d ≡ p → IsOther p → IsOther (expr_of e)
other e d p made is h = subst IsOther (sym (ap expr_of made ∙ is)) h

pub is_form : (nodes : List Node) (at : ℕ) (n : ExprNode) (e : DeclaredExpr) → IsExprNode nodes at n e → IsForm nodes at (form_by n) e
is_form nodes at (node.Constant t) e is = other e (expr.Constant t) (plain.Constant t) is (constant_of t) tt
is_form nodes at (node.Operand t) e is = ap expr_of is ∙ name_of t
is_form nodes at (node.Paren t i) e is = other e (expr.Paren t is.of_inner) (plain.Paren t (expr_of is.of_inner)) is.made (paren_of t is.of_inner) tt
is_form nodes at (node.Convert t i) e is = other e (expr.Convert t is.of_inner) (plain.Convert t (expr_of is.of_inner)) is.made (convert_of t is.of_inner) tt
is_form nodes at (node.Select i t) e is = record { of_inner = is.of_inner; at_inner = is.at_inner; made = ap expr_of is.made ∙ select_of is.of_inner t }
is_form nodes at (node.Index i j) e is = record {
  of_inner = is.of_inner;
  of_index = is.of_index;
  at_inner = is.at_inner;
  at_index = is.at_index;
  made = ap expr_of is.made ∙ index_of is.of_inner is.of_index;
}
is_form nodes at (node.SliceTo i b) e is = subst IsOther (sym (ap expr_of is.made ∙ slice_of is.of_inner None is.of_high)) tt
is_form nodes at (node.SliceFrom i a b) e is = subst IsOther (sym (ap expr_of is.made ∙ slice_of is.of_inner (Some is.of_low) is.of_high)) tt
is_form nodes at (node.Unary t i) e is = other e (expr.Unary t is.of_inner) (plain.Unary t (expr_of is.of_inner)) is.made (unary_of t is.of_inner) tt
is_form nodes at (node.Binary i t j) e is = subst IsOther (sym (ap expr_of is.made ∙ binary_of is.of_left t is.of_right)) tt
