-- From a node to the nodes of its parts, and back to its plain tree.
use Rattle.std.proofs.Common.{◌≡◌, ℕ, ◌<◌, Bool, true, false, ◌&&◌, ◌||◌, List, length, Option, refl, sym, ap, ◌∙◌, arith}
use Rattle.gv_gosyntax.specs.declared.generated.gosyntax_acts.Part.TheVariants.{Block as PBlock, Bound as PBound, Stmt as PStmt, Stmts as PStmts}
use Rattle.gv_gosyntax.specs.declared.lexeme.Lexeme.{Lexeme}
use Rattle.gv_gosyntax.specs.declared.node.Node.{Node}
use Rattle.gv_gosyntax.specs.declared.tree.Block.{Block as DeclaredBlock}
use Rattle.gv_gosyntax.specs.declared.tree.Expr.{Expr}
use Rattle.gv_gosyntax.specs.declared.tree.Stmt.{Stmt as DeclaredStmt}
use Rattle.gv_gosyntax.specs.Nodes.{IsPartAt}
use Rattle.gv_gonodes.specs.declared.generated.block_node.BlockNode.{BlockNode}
use Rattle.gv_gonodes.specs.declared.generated.block_node.BlockNode.TheVariants as node
use Rattle.gv_gonodes.specs.Places.{IsBefore}
use Rattle.gv_gonodes.specs.Block.{IsBlockNode, IsSomeBlock}
use Rattle.gv_gonodes.specs.Bound.{IsSomeBound}
use Rattle.gv_gonodes.specs.Stmt.{IsSomeStmt}
use Rattle.gv_gonodes.specs.Stmts.{IsSomeStmts}
use Rattle.gv_gotypes.specs.Trees.{Stmt, Stmts, next, no_more}
use Rattle.gv_gotypes.specs.Returns.{ends, is_empty}
use Rattle.gv_goends.specs.Trees.{stmt_of, plain, statements_by, IsEnd}

pub stmt_there : (nodes : List Node) (at inner : ℕ) (s : DeclaredStmt) → at < length nodes → IsBefore nodes at inner (PStmt s) → IsSomeStmt nodes inner
stmt_there nodes at inner s l is = let k = is.before in record { whole = s; within = omega (arith, l, k); part = is.is }

pub stmts_there : (nodes : List Node) (at inner : ℕ) (ss : List DeclaredStmt) → at < length nodes → IsBefore nodes at inner (PStmts ss) → IsSomeStmts nodes inner
stmts_there nodes at inner ss l is = let k = is.before in record { whole = ss; within = omega (arith, l, k); part = is.is }

pub bound_there : (nodes : List Node) (at inner : ℕ) (b : Option Expr) → at < length nodes → IsBefore nodes at inner (PBound b) → IsSomeBound nodes inner
bound_there nodes at inner b l is = let k = is.before in record { whole = b; within = omega (arith, l, k); part = is.is }

pub block_there : (nodes : List Node) (at inner : ℕ) (b : DeclaredBlock) → at < length nodes → IsBefore nodes at inner (PBlock b) → IsSomeBlock nodes inner
block_there nodes at inner b l is = let k = is.before in record { whole = b; within = omega (arith, l, k); part = is.is }

-- ---- blocks

pub record BlockParts (nodes : List Node) (at place : ℕ) (b : DeclaredBlock) : Type 0 where
  pub start : Lexeme
  pub statements : List DeclaredStmt
  pub end : Lexeme
  pub there : IsBefore nodes at place (PStmts statements)
  pub made : b ≡ record { start = start; statements = statements; end = end }

pub block_parts : (nodes : List Node) (at place : ℕ) (n : BlockNode) (b : DeclaredBlock) → place ≡ statements_by n → IsBlockNode nodes at n b → BlockParts nodes at place b
block_parts nodes at place (node.Block st ss e) b q is = record {
  start = st;
  statements = is.of_statements;
  end = e;
  there = record { before = (let k = is.at_statements.before in omega (arith, q, k)); is = here q is.at_statements.is };
  made = is.made;
}
  where
    here : place ≡ ss → IsPartAt nodes ss (PStmts is.of_statements) → IsPartAt nodes place (PStmts is.of_statements)
    here q p = rw q p

-- ---- one statement

pub of_form : {T : Type 0} (f : Stmt → T) (s d : DeclaredStmt) (p : Stmt) (x : T) → s ≡ d → stmt_of d ≡ p → x ≡ f p → x ≡ f (stmt_of s)
of_form f s d p x made is e = e ∙ sym (ap f (ap stmt_of made ∙ is))

pub or_first : (x a b : Bool) → x ≡ a → x ≡ true → x ≡ (a || b)
or_first x a b e h = h ∙ sym (ap (λ (y : Bool). y || b) (sym e ∙ h))

pub or_second : (x a y b : Bool) → x ≡ a → x ≡ false → y ≡ b → y ≡ (a || b)
or_second x a y b e h k = k ∙ sym (ap (λ (z : Bool). z || b) (sym e ∙ h))

pub and_none : (a : Bool) → false ≡ (a && false)
and_none true = refl
and_none false = refl

pub and_first : (x a b : Bool) → x ≡ a → x ≡ false → x ≡ (a && b)
and_first x a b e h = h ∙ sym (ap (λ (y : Bool). y && b) (sym e ∙ h))

pub and_second : (x a y b : Bool) → x ≡ a → x ≡ true → y ≡ b → y ≡ (a && b)
and_second x a y b e h k = k ∙ sym (ap (λ (z : Bool). z && b) (sym e ∙ h))

pub end_of : (s d : DeclaredStmt) (p : Stmt) (x : Bool) → s ≡ d → stmt_of d ≡ p → x ≡ ends p → is_empty (next p no_more) ≡ false → IsEnd x s
end_of s d p x made is e some = record { same = of_form ends s d p x made is e; some = ap (λ (y : Stmt). is_empty (next y no_more)) (ap stmt_of made ∙ is) ∙ some }

-- ---- lists of statements, from their end

-- what is so of the list is told by the list that is left
pub record Rest (f : Stmts → Bool) (nodes : List Node) (place : ℕ) (ss : List DeclaredStmt) : Type 0 where
  pub left : List DeclaredStmt
  pub there : IsPartAt nodes place (PStmts left)
  pub same : f (plain ss) ≡ f (plain left)
