-- Packages as plain trees, of which the rules of names and types speak. Each declared tree is one of these.
use Rattle.std.specs.Prelude.{List, [], ◌∷◌, map, Option, Some, None, option_map}
use Rattle.gv_gosyntax.specs.declared.lexeme.Lexeme.{Lexeme}
use Rattle.gv_gosyntax.specs.declared.tree.Expr.{Expr as DeclaredExpr, fold-Expr}
use Rattle.gv_gosyntax.specs.declared.tree.Expr.TheOpen as open_expr
use Rattle.gv_gosyntax.specs.declared.tree.Expr.TheOpen.{Expr-F}
use Rattle.gv_gosyntax.specs.declared.tree.GoType.{GoType}
use Rattle.gv_gosyntax.specs.declared.tree.Group.{Group}
use Rattle.gv_gosyntax.specs.declared.tree.Receiver.{Receiver}
use Rattle.gv_gosyntax.specs.declared.tree.KeyedExpr.{KeyedExpr as DeclaredKeyed}
use Rattle.gv_gosyntax.specs.declared.tree.Call.{Call as DeclaredCall}
use Rattle.gv_gosyntax.specs.declared.tree.Call.TheVariants as declared_call
use Rattle.gv_gosyntax.specs.declared.tree.Right.{Right as DeclaredRight}
use Rattle.gv_gosyntax.specs.declared.tree.Right.TheVariants as declared_right
use Rattle.gv_gosyntax.specs.declared.tree.Simple.{Simple as DeclaredSimple}
use Rattle.gv_gosyntax.specs.declared.tree.Simple.TheVariants as declared_simple
use Rattle.gv_gosyntax.specs.declared.tree.ForHeader.{ForHeader as DeclaredHeader}
use Rattle.gv_gosyntax.specs.declared.tree.Block.{Block as DeclaredBlock, fold-Block}
use Rattle.gv_gosyntax.specs.declared.tree.Stmt.TheOpen as open_stmt
use Rattle.gv_gosyntax.specs.declared.tree.Stmt.TheOpen.{Stmt-F, Block-F}
use Rattle.gv_gosyntax.specs.declared.tree.Func.{Func as DeclaredFunc}
use Rattle.gv_gosyntax.specs.declared.tree.Decl.{Decl as DeclaredDecl}
use Rattle.gv_gosyntax.specs.declared.tree.Decl.TheVariants as declared_decl
use Rattle.gv_gosyntax.specs.declared.tree.File.{File as DeclaredFile}

-- ---- operands

mutual
  pub data Expr : Type 0 where
    -- a number, `true`, `false` or `nil`
    Constant : Lexeme → Expr
    Name : Lexeme → Expr
    Paren : Lexeme → Expr → Expr
    -- `len(e)`, `uint64(e)` or `byte(e)`
    Convert : Lexeme → Expr → Expr
    Select : Expr → Lexeme → Expr
    Index : Expr → Expr → Expr
    Slice : Expr → Bound → Bound → Expr
    Unary : Lexeme → Expr → Expr
    Binary : Expr → Lexeme → Expr → Expr

  -- a bound of `e[a:b]`, which may be left out
  pub data Bound : Type 0 where
    left_out : Bound
    bound : Expr → Bound

abbrev pub bound_of : Option Expr → Bound
bound_of None = left_out
bound_of (Some e) = bound e

-- one level of an operand, over plain ones
abbrev pub expr_here : Expr-F Expr → Expr
expr_here (open_expr.Constant t) = Constant t
expr_here (open_expr.Name i) = Name i
expr_here (open_expr.Paren o e) = Paren o e
expr_here (open_expr.Convert w e) = Convert w e
expr_here (open_expr.Select e i) = Select e i
expr_here (open_expr.Index e i) = Index e i
expr_here (open_expr.Slice e a b) = Slice e (bound_of a) (bound_of b)
expr_here (open_expr.Unary t e) = Unary t e
expr_here (open_expr.Binary a t b) = Binary a t b

unfoldable pub expr_of : DeclaredExpr → Expr
expr_of = fold-Expr Expr expr_here

-- ---- calls and right sides

-- `KEY: VALUE` in a literal
pub record KeyedExpr : Type 0 where
  pub key : Lexeme
  pub value : Expr

pub data Call : Type 0 where
  Function : Expr → List Expr → Call
  -- `delete(a, b)` or `append(a, b)`
  Pair : Lexeme → Expr → Expr → Call
  Make : Lexeme → GoType → Option Expr → Call
  -- `new(sync.Mutex)`
  New : Lexeme → Call
  -- `&T{..}`
  Literal : Lexeme → Lexeme → List KeyedExpr → Call

pub data Right : Type 0 where
  Value : Expr → Right
  Result : Call → Right

abbrev pub keyed_of : DeclaredKeyed → KeyedExpr
keyed_of k = record { key = k.key; value = expr_of k.value }

abbrev pub call_of : DeclaredCall → Call
call_of (declared_call.Function f es) = Function (expr_of f) (map expr_of es)
call_of (declared_call.Pair w a b) = Pair w (expr_of a) (expr_of b)
call_of (declared_call.Make w t size) = Make w t (option_map expr_of size)
call_of (declared_call.New w) = New w
call_of (declared_call.Literal a t ks) = Literal a t (map keyed_of ks)

abbrev pub right_of : DeclaredRight → Right
right_of (declared_right.Value e) = Value (expr_of e)
right_of (declared_right.Result c) = Result (call_of c)

-- ---- statements that may stand in the header of a `for`

pub data SimpleStmt : Type 0 where
  Assign : List Expr → Lexeme → Right → SimpleStmt
  -- `x++` or `x--`
  Count : Expr → Lexeme → SimpleStmt
  Update : Expr → Lexeme → Expr → SimpleStmt
  Calling : Call → SimpleStmt

pub record ForHeader : Type 0 where
  pub first : Option SimpleStmt
  pub condition : Option Expr
  pub post : Option SimpleStmt

abbrev pub simple_of : DeclaredSimple → SimpleStmt
simple_of (declared_simple.Assign ls s r) = Assign (map expr_of ls) s (right_of r)
simple_of (declared_simple.Count e s) = Count (expr_of e) s
simple_of (declared_simple.Update e s f) = Update (expr_of e) s (expr_of f)
simple_of (declared_simple.Call c) = Calling (call_of c)

abbrev pub header_of : DeclaredHeader → ForHeader
header_of h = record { first = option_map simple_of h.first; condition = option_map expr_of h.condition; post = option_map simple_of h.post }

-- ---- statements

mutual
  pub data Stmt : Type 0 where
    Empty : Stmt
    Simple : SimpleStmt → Stmt
    -- `var NAME TYPE [= RIGHT]`, at the word `var`
    Var : Lexeme → Lexeme → GoType → Option Right → Stmt
    If : Lexeme → Expr → Block → Else → Stmt
    Nested : Block → Stmt
    -- `break` or `continue`
    Jump : Lexeme → Stmt
    For : Lexeme → ForHeader → Block → Stmt
    Return : Lexeme → List Right → Stmt
    -- `go func() { .. }()`
    Go : Lexeme → Block → Stmt

  -- a block, between its braces
  pub data Block : Type 0 where
    braces : Lexeme → Stmts → Lexeme → Block

  pub data Stmts : Type 0 where
    no_more : Stmts
    next : Stmt → Stmts → Stmts

  pub data Else : Type 0 where
    no_branch : Else
    branch : Stmt → Else

abbrev pub stmts_of : List Stmt → Stmts
stmts_of [] = no_more
stmts_of (s ∷ ss) = next s (stmts_of ss)

abbrev pub else_of : Option Stmt → Else
else_of None = no_branch
else_of (Some s) = branch s

-- one level of a statement and of a block, over plain ones
abbrev pub stmt_here : Stmt-F Stmt Block → Stmt
stmt_here open_stmt.Empty = Empty
stmt_here (open_stmt.Simple s) = Simple (simple_of s)
stmt_here (open_stmt.Var w i t r) = Var w i t (option_map right_of r)
stmt_here (open_stmt.If w e b o) = If w (expr_of e) b (else_of o)
stmt_here (open_stmt.Block b) = Nested b
stmt_here (open_stmt.Jump w) = Jump w
stmt_here (open_stmt.For w h b) = For w (header_of h) b
stmt_here (open_stmt.Return w rs) = Return w (map right_of rs)
stmt_here (open_stmt.Go w b) = Go w b

abbrev pub block_here : Block-F Stmt Block → Block
block_here b = braces b.start (stmts_of b.statements) b.end

unfoldable pub block_of : DeclaredBlock → Block
block_of = fold-Block Stmt Block stmt_here block_here

-- ---- declarations

pub record FuncTree : Type 0 where
  pub receiver : Option Receiver
  pub name : Lexeme
  pub params : List Group
  pub results : List GoType
  pub body : Block

pub data Decl : Type 0 where
  Struct : Lexeme → List Group → Decl
  -- `const NAME [uint64] = EXPR`
  Const : Lexeme → Option Lexeme → Expr → Decl
  Func : FuncTree → Decl

pub record File : Type 0 where
  pub name : Lexeme
  pub imports : List (List Lexeme)
  pub decls : List Decl

abbrev pub func_of : DeclaredFunc → FuncTree
func_of f = record { receiver = f.receiver; name = f.name; params = f.params; results = f.results; body = block_of f.body }

abbrev pub decl_of : DeclaredDecl → Decl
decl_of (declared_decl.Struct i gs) = Struct i gs
decl_of (declared_decl.Const i u e) = Const i u (expr_of e)
decl_of (declared_decl.Func f) = Func (func_of f)

-- the plain tree of a package
abbrev pub file_of : DeclaredFile → File
file_of f = record { name = f.name; imports = f.imports; decls = map decl_of f.decls }
