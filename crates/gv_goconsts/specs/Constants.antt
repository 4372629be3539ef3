-- Declared constants by their nodes.
use Rattle.std.specs.Prelude.{◌≡◌, ℕ, ◌<◌, List, [], ◌∷◌, length, Option, Some, None}
use Rattle.gv_gosyntax.specs.declared.generated.gosyntax_acts.Part.TheVariants.{Expr as PExpr}
use Rattle.gv_gosyntax.specs.declared.node.Node.{Node}
use Rattle.gv_gosyntax.specs.declared.tree.Expr.{Expr as DeclaredExpr}
use Rattle.gv_gosyntax.specs.Nodes.{IsPartAt}
use Rattle.gv_operands.specs.declared.types.Class.{Class}
use Rattle.gv_gotypes.specs.Trees.{expr_of}
use Rattle.gv_gotypes.specs.Scopes.{Env}
use Rattle.gv_gotypes.specs.Expressions.{operand}
use Rattle.gv_gotypes.specs.Constants.{ConstantTree, named_by, settled_constant}
use Rattle.gv_goconsts.specs.declared.constants.ConstantNode.{ConstantNode}

-- The expression of a constant stands at its place.
pub record IsConstantAt (nodes : List Node) (c : ConstantNode) (tree : ConstantTree) : Type 0 where
  pub whole : DeclaredExpr
  pub within : c.value < length nodes
  pub part : IsPartAt nodes c.value (PExpr whole)
  pub is_word : c.is_word ≡ tree.is_word
  pub expr : expr_of whole ≡ tree.expr

abbrev pub AreConstantsAt : List Node → List ConstantNode → List ConstantTree → Type 0
AreConstantsAt nodes [] [] = Unit {0}
AreConstantsAt nodes (c ∷ cs) (t ∷ ts) = IsConstantAt nodes c t × AreConstantsAt nodes cs ts
AreConstantsAt nodes cs ts = ⊥

-- some constants stand there
pub record AreSomeConstants (nodes : List Node) (constants : List ConstantNode) : Type 0 where
  pub trees : List ConstantTree
  pub there : AreConstantsAt nodes constants trees

-- the constants that the expression of each of them names
abbrev pub names_of : Env → List ConstantTree → List (List ℕ)
names_of env [] = []
names_of env (c ∷ cs) = named_by env c.expr ∷ names_of env cs

-- what a constant is where the others are these
abbrev pub made_of : Env → Option ConstantTree → Option Class
made_of env None = None
made_of env (Some c) = settled_constant c.is_word (operand env c.expr).class
