-- Operands as they are called and assigned.
use Rattle.std.specs.Prelude.{◌≡◌, ℕ, List}
use Rattle.gv_gosyntax.specs.declared.generated.gosyntax_acts.Part.TheVariants.{Expr as PExpr}
use Rattle.gv_gosyntax.specs.declared.lexeme.Lexeme.{Lexeme}
use Rattle.gv_gosyntax.specs.declared.node.Node.{Node}
use Rattle.gv_gosyntax.specs.declared.tree.Expr.{Expr as DeclaredExpr}
use Rattle.gv_gonodes.specs.Places.{IsBefore}
use Rattle.gv_gonodes.specs.declared.generated.expr_node.ExprNode.{ExprNode}
use Rattle.gv_gonodes.specs.declared.generated.expr_node.ExprNode.TheVariants as node
use Rattle.gv_gotypes.specs.Trees as plain
use Rattle.gv_gotypes.specs.Trees.{Expr, expr_of}
use Rattle.gv_gocalls.specs.declared.forms.Form.{Form}
use Rattle.gv_gocalls.specs.declared.forms.Form.TheVariants.{Name, Member, Item, Other}

abbrev pub form_by : ExprNode → Form
form_by (node.Operand t) = Name t
form_by (node.Select inner t) = Member inner t
form_by (node.Index inner index) = Item inner index
form_by _ = Other

-- an operand that is no name, no member and no item
abbrev pub IsOther : Expr → Type 0
IsOther (plain.Name t) = ⊥
IsOther (plain.Select e t) = ⊥
IsOther (plain.Index e i) = ⊥
IsOther (plain.Constant t) = Unit {0}
IsOther (plain.Paren t e) = Unit {0}
IsOther (plain.Convert t e) = Unit {0}
IsOther (plain.Slice e a b) = Unit {0}
IsOther (plain.Unary t e) = Unit {0}
IsOther (plain.Binary a t b) = Unit {0}

-- a member of the operand at a place before
pub record IsMemberAt (nodes : List Node) (limit inner : ℕ) (t : Lexeme) (e : DeclaredExpr) : Type 0 where
  pub of_inner : DeclaredExpr
  pub at_inner : IsBefore nodes limit inner (PExpr of_inner)
  pub made : expr_of e ≡ plain.Select (expr_of of_inner) t

pub record IsItemAt (nodes : List Node) (limit inner index : ℕ) (e : DeclaredExpr) : Type 0 where
  pub of_inner : DeclaredExpr
  pub of_index : DeclaredExpr
  pub at_inner : IsBefore nodes limit inner (PExpr of_inner)
  pub at_index : IsBefore nodes limit index (PExpr of_index)
  pub made : expr_of e ≡ plain.Index (expr_of of_inner) (expr_of of_index)

-- it has this form
abbrev pub IsForm : List Node → ℕ → Form → DeclaredExpr → Type 0
IsForm nodes limit (Name t) e = expr_of e ≡ plain.Name t
IsForm nodes limit (Member inner t) e = IsMemberAt nodes limit inner t e
IsForm nodes limit (Item inner index) e = IsItemAt nodes limit inner index e
IsForm nodes limit Other e = IsOther (expr_of e)
