-- What is known of an operand that may name a package.
use Rattle.std.specs.Prelude.{◌≡◌, Option, Some, None}
use Rattle.gv_gosyntax.specs.declared.lexeme.Lexeme.{Lexeme}
use Rattle.gv_gonodes.specs.declared.generated.expr_node.ExprNode.{ExprNode}
use Rattle.gv_gonodes.specs.declared.generated.expr_node.ExprNode.TheVariants as node
use Rattle.gv_gotypes.specs.declared.names.Library.{Library}
use Rattle.gv_gotypes.specs.Trees.{Expr, Name}
use Rattle.gv_gotypes.specs.Scopes.{Env}
use Rattle.gv_gotypes.specs.Expressions.{library_of}

-- the name that an operand is, by its node
abbrev pub name_by : ExprNode → Option Lexeme
name_by (node.Operand name) = Some name
name_by _ = None

-- the operand is this name of this package
pub record IsNamed (env : Env) (e : Expr) (word : Lexeme) (library : Library) : Type 0 where
  pub same : e ≡ Name word
  pub named : library_of env (Name word) ≡ Some library

-- a package that an operand names, with the name, or none
abbrev pub IsPackage : Env → Expr → Option (Lexeme × Library) → Type 0
IsPackage env e None = library_of env e ≡ None
IsPackage env e (Some p) = IsNamed env e p.0 p.1
