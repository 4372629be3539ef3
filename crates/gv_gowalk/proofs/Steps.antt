-- From a node to the nodes of its parts, and back to its plain tree.
use Rattle.std.proofs.Common.{◌≡◌, ℕ, ◌<◌, List, length, Option, Some, None, refl, sym, ap, subst, ◌∙◌, arith}
use Rattle.std.specs.Prelude.{option_map}
use Rattle.gv_gosyntax.specs.declared.generated.gosyntax_acts.Part.TheVariants.{Bound as PBound, Expr as PExpr, Pointed as PPointed}
use Rattle.gv_gosyntax.specs.declared.lexeme.Lexeme.{Lexeme}
use Rattle.gv_gosyntax.specs.declared.node.Node.{Node}
use Rattle.gv_gosyntax.specs.declared.tree.Expr.{Expr as DeclaredExpr}
use Rattle.gv_gosyntax.specs.declared.tree.Expr.TheVariants as expr
use Rattle.gv_gosyntax.specs.declared.tree.Pointed.{Pointed}
use Rattle.gv_gonodes.specs.Places.{IsBefore}
use Rattle.gv_gonodes.specs.Pointed.{IsSomePointed}
use Rattle.gv_gonodes.specs.Bound.{IsSomeBound}
use Rattle.gv_gonodes.specs.Expr.{IsExprNode, IsSomeExpr}
use Rattle.gv_gonodes.specs.declared.generated.expr_node.ExprNode.{ExprNode}
use Rattle.gv_gonodes.specs.declared.generated.expr_node.ExprNode.TheVariants as node
use Rattle.gv_gotypes.specs.declared.names.Library.{Library}
use Rattle.gv_gotypes.specs.Trees.{Expr, Constant, Name, Paren, Convert, Select, Index, Slice, Unary, Binary, left_out, bound, bound_of, expr_of}
use Rattle.gv_gotypes.specs.Scopes.{Env}
use Rattle.gv_gotypes.specs.Expressions.{library_of}
use Rattle.gv_gotyped.specs.declared.outcomes.Operand.{Operand}
use Rattle.gv_gotyped.specs.Operands.{IsOperand}
use Rattle.gv_gotyped.specs.Parts.{IsBound}
use Rattle.gv_gowalk.specs.Packages.{name_by}
use Rattle.gv_gowalk.proofs.Trees.{constant_of, paren_of, convert_of, select_of, index_of, slice_of, unary_of, binary_of}

pub expr_there : (nodes : List Node) (at inner : ℕ) (e : DeclaredExpr) → at < length nodes → IsBefore nodes at inner (PExpr e) → IsSomeExpr nodes inner
expr_there nodes at inner e l is = let k = is.before in record { whole = e; within = omega (arith, l, k); part = is.is }

pub bound_there : (nodes : List Node) (at inner : ℕ) (b : Option DeclaredExpr) → at < length nodes → IsBefore nodes at inner (PBound b) → IsSomeBound nodes inner
bound_there nodes at inner b l is = let k = is.before in record { whole = b; within = omega (arith, l, k); part = is.is }

pub pointed_there : (nodes : List Node) (at inner : ℕ) (to : Pointed) → at < length nodes → IsBefore nodes at inner (PPointed to) → IsSomePointed nodes inner
pointed_there nodes at inner to l is = let k = is.before in record { whole = to; within = omega (arith, l, k); part = is.is }

pub of_plain : (env : Env) (e d : DeclaredExpr) (p : Expr) (known : Operand) → e ≡ d → expr_of d ≡ p → IsOperand env p known → IsOperand env (expr_of e) known
of_plain env e d p known made is h = subst (λ (x : Expr). IsOperand env x known) (sym (ap expr_of made ∙ is)) h

pub of_bound : (env : Env) (b d : Option DeclaredExpr) (known : Option Operand) → b ≡ d → IsBound env (bound_of (option_map expr_of d)) known → IsBound env (bound_of (option_map expr_of b)) known
of_bound env b d known made h = subst (λ (x : Option DeclaredExpr). IsBound env (bound_of (option_map expr_of x)) known) (sym made) h

-- an operand that is a name names what the name stands for
pub library_there : (env : Env) (e d : DeclaredExpr) (t : Lexeme) (o : Option Library) → e ≡ d → expr_of d ≡ Name t → o ≡ library_of env (Name t) → library_of env (expr_of e) ≡ o
library_there env e d t o made is found = ap (λ (x : Expr). library_of env x) (ap expr_of made ∙ is) ∙ sym found

-- and no other operand does
no_library : (env : Env) (e d : DeclaredExpr) (p : Expr) → e ≡ d → expr_of d ≡ p → library_of env p ≡ None → library_of env (expr_of e) ≡ None
no_library env e d p made is none = ap (λ (x : Expr). library_of env x) (ap expr_of made ∙ is) ∙ none

pub named : (nodes : List Node) (at : ℕ) (n : ExprNode) (e : DeclaredExpr) (t : Lexeme) → name_by n ≡ Some t → IsExprNode nodes at n e → e ≡ expr.Name t
named nodes at (node.Operand u) e t q is = let r : u ≡ t = cc in is ∙ ap (λ (x : Lexeme). expr.Name x) r
named nodes at other e t q is = absurd cc

pub unnamed : (env : Env) (nodes : List Node) (at : ℕ) (n : ExprNode) (e : DeclaredExpr) → name_by n ≡ None → IsExprNode nodes at n e → library_of env (expr_of e) ≡ None
unnamed env nodes at (node.Constant t) e q is = no_library env e (expr.Constant t) (Constant t) is (constant_of t) refl
unnamed env nodes at (node.Operand u) e q is = absurd cc
unnamed env nodes at (node.Paren t i) e q is = no_library env e (expr.Paren t is.of_inner) (Paren t (expr_of is.of_inner)) is.made (paren_of t is.of_inner) refl
unnamed env nodes at (node.Convert t i) e q is = no_library env e (expr.Convert t is.of_inner) (Convert t (expr_of is.of_inner)) is.made (convert_of t is.of_inner) refl
unnamed env nodes at (node.Select i t) e q is = no_library env e (expr.Select is.of_inner t) (Select (expr_of is.of_inner) t) is.made (select_of is.of_inner t) refl
unnamed env nodes at (node.Index i j) e q is = no_library env e (expr.Index is.of_inner is.of_index) (Index (expr_of is.of_inner) (expr_of is.of_index)) is.made (index_of is.of_inner is.of_index) refl
unnamed env nodes at (node.SliceTo i b) e q is =
    no_library env e (expr.Slice is.of_inner None is.of_high) (Slice (expr_of is.of_inner) left_out (bound_of (option_map expr_of is.of_high))) is.made (slice_of is.of_inner None is.of_high) refl
unnamed env nodes at (node.SliceFrom i a b) e q is =
    no_library env e (expr.Slice is.of_inner (Some is.of_low) is.of_high) (Slice (expr_of is.of_inner) (bound (expr_of is.of_low)) (bound_of (option_map expr_of is.of_high))) is.made
    (slice_of is.of_inner (Some is.of_low) is.of_high) refl
unnamed env nodes at (node.Unary t i) e q is = no_library env e (expr.Unary t is.of_inner) (Unary t (expr_of is.of_inner)) is.made (unary_of t is.of_inner) refl
unnamed env nodes at (node.Binary i t j) e q is = no_library env e (expr.Binary is.of_left t is.of_right) (Binary (expr_of is.of_left) t (expr_of is.of_right)) is.made (binary_of is.of_left t is.of_right) refl
