-- Lists of statements and of right sides, one after another.
use Rattle.std.specs.Prelude.{◌≡◌, ℕ, ◌<◌, List, [], ◌∷◌, Option, Some, None, option_map, length}
use Rattle.gv_gosyntax.specs.declared.generated.gosyntax_acts.Part.TheVariants.{Call as PCall, Right as PRight, Stmt as PStmt}
use Rattle.gv_gosyntax.specs.declared.node.Node.{Node}
use Rattle.gv_gosyntax.specs.declared.tree.Call.{Call as DeclaredCall}
use Rattle.gv_gosyntax.specs.declared.tree.Expr.{Expr as DeclaredExpr}
use Rattle.gv_gosyntax.specs.declared.tree.Right.{Right as DeclaredRight}
use Rattle.gv_gosyntax.specs.declared.tree.Simple.{Simple as DeclaredSimple}
use Rattle.gv_gosyntax.specs.declared.tree.Stmt.{Stmt as DeclaredStmt}
use Rattle.gv_gosyntax.specs.Nodes.{IsPartAt}
use Rattle.gv_gonodes.specs.Places.{IsBefore}
use Rattle.gv_operands.specs.declared.types.GoType.{GoType}
use Rattle.gv_operands.specs.declared.part.Want.{Want}
use Rattle.gv_operands.specs.declared.part.Want.TheVariants.{Unknown}
use Rattle.gv_gotypes.specs.Types.{Finding}
use Rattle.gv_gotypes.specs.Trees.{Right, Value, Result, ForHeader, call_of, expr_of, simple_of}
use Rattle.gv_gotypes.specs.Scopes.{Env}
use Rattle.gv_gotypes.specs.Places.{want}
use Rattle.gv_gotypes.specs.Calls.{answer, placed}
use Rattle.gv_gotypes.specs.Statements.{stmts_findings}
use Rattle.gv_goends.specs.Trees.{plain}

-- ---- statements

-- at each place before `limit` stands the node of a statement, in their order
abbrev pub AreStmts : List Node → ℕ → List ℕ → List DeclaredStmt → Type 0
AreStmts nodes limit [] [] = Unit {0}
AreStmts nodes limit (p ∷ ps) (s ∷ ss) = IsBefore nodes limit p (PStmt s) × AreStmts nodes limit ps ss
AreStmts nodes limit ps ss = ⊥

-- They are these statements, empty ones aside.
pub record AreWithin (nodes : List Node) (limit : ℕ) (places : List ℕ) (ss : List DeclaredStmt) : Type 0 where
  pub of_places : List DeclaredStmt
  pub are : AreStmts nodes limit places of_places
  pub same : (env : Env) → stmts_findings env (plain of_places) ≡ stmts_findings env (plain ss)

-- ---- right sides

abbrev pub AreRights : List Node → List ℕ → List DeclaredRight → Type 0
AreRights nodes [] [] = Unit {0}
AreRights nodes (p ∷ ps) (r ∷ rs) = (p < length nodes) × IsPartAt nodes p (PRight r) × AreRights nodes ps rs
AreRights nodes ps rs = ⊥

pub record AreSomeRights (nodes : List Node) (places : List ℕ) : Type 0 where
  pub whole : List DeclaredRight
  pub are : AreRights nodes places whole

-- what is found in one of them, where this is wanted
abbrev pub right_one : Env → Want → Right → List Finding
right_one env w (Value e) = placed env w e
right_one env w (Result c) = (answer env c).findings

-- what the first result of a function wants
abbrev pub first_want : List (Option GoType) → Want
first_want [] = Unknown
first_want (k ∷ ks) = want k

abbrev pub other_kinds : List (Option GoType) → List (Option GoType)
other_kinds [] = []
other_kinds (k ∷ ks) = ks

-- the results behind a right side: a call takes none
abbrev pub behind : Right → List (Option GoType) → List (Option GoType)
behind (Value e) ks = other_kinds ks
behind (Result c) ks = ks

-- The one right side is a call.
pub record IsCallAlone (nodes : List Node) (call : ℕ) (rs : List Right) : Type 0 where
  pub of_call : DeclaredCall
  pub within : call < length nodes
  pub is : IsPartAt nodes call (PCall of_call)
  pub same : rs ≡ Result (call_of of_call) ∷ []

abbrev pub IsNoCallAlone : List Right → Type 0
IsNoCallAlone (Result c ∷ []) = ⊥
IsNoCallAlone rs = Unit {0}

abbrev pub IsCall : List Node → Option ℕ → List Right → Type 0
IsCall nodes (Some call) rs = IsCallAlone nodes call rs
IsCall nodes None rs = IsNoCallAlone rs

-- ---- headers

abbrev pub plain_header : Option DeclaredSimple → Option DeclaredExpr → Option DeclaredSimple → ForHeader
plain_header a b c = record { first = option_map simple_of a; condition = option_map expr_of b; post = option_map simple_of c }
