-- The published grammar of the sample language, production by production, with the levels of nesting.
--
-- The first number of a relation is the level before its tokens, the second one, where there is one, the level behind
-- them: an operator or a selector stays open for the rest of the expression, all others give their level back.
use Rattle.std.specs.Prelude.{◌≡◌, ℕ, List, [], ◌∷◌, ◌++◌, Option, Some, None, ◌⊎◌, ◌+◌}
use Rattle.gv_grammar.specs.Text.{Placed, plain, opens}
use Rattle.grammar_sample.specs.declared.generated.sample_table.TheConstants.{CLASS_IDENT, CLASS_NUMBER, CLASS_FUNC, CLASS_L_PAREN, CLASS_R_PAREN, CLASS_COMMA, CLASS_SEMI, CLASS_ASSIGN, CLASS_DEFINE, CLASS_BANG, CLASS_PLUS, CLASS_MINUS, CLASS_STAR, CLASS_L_BRACE, CLASS_R_BRACE, CLASS_DOT, CLASS_IF, CLASS_ELSE}
use Rattle.grammar_sample.specs.declared.tree.Token.{Token}
use Rattle.grammar_sample.specs.declared.tree.Expr.{Expr}
use Rattle.grammar_sample.specs.declared.tree.Expr.TheVariants.{Number, Name, Apply, Select, Not, Binary}
use Rattle.grammar_sample.specs.declared.tree.Call.{Call}
use Rattle.grammar_sample.specs.declared.tree.Left.{Left}
use Rattle.grammar_sample.specs.declared.tree.Left.TheVariants.{Variable, Field}
use Rattle.grammar_sample.specs.declared.tree.Right.{Right}
use Rattle.grammar_sample.specs.declared.tree.Right.TheVariants.{Value, Result}
use Rattle.grammar_sample.specs.declared.tree.Stmt.{Stmt}
use Rattle.grammar_sample.specs.declared.tree.Stmt.TheVariants.{Assign, Called, Block, If}

abbrev pub Is : ℕ → Token → Type 0
Is class t = t.class ≡ class

mutual
  -- Prim = number | id | func "(" Args ")" | "(" Sum ")" | Prim "." id .
  pub data IsPrim : ℕ → Expr → ℕ → List (Placed Token) → Type 0 where
    number : {n : ℕ} (t : Token) → Is CLASS_NUMBER t → IsPrim n (Number t.value) n (plain t ∷ [])
    name : {n : ℕ} (t : Token) → Is CLASS_IDENT t → IsPrim n (Name t.value) n (plain t ∷ [])
    apply : {n : ℕ} (f o c : Token) {es : List Expr} {ts : List (Placed Token)} → Is CLASS_FUNC f → Is CLASS_L_PAREN o → IsArgs (n + 1) es ts
        → Is CLASS_R_PAREN c
        → IsPrim n (Apply f.value es) n (plain f ∷ opens n o ∷ ts ++ plain c ∷ [])
    paren : {n m : ℕ} (o c : Token) {e : Expr} {ts : List (Placed Token)} → Is CLASS_L_PAREN o → IsSum (n + 1) e m ts → Is CLASS_R_PAREN c
        → IsPrim n e n (opens n o ∷ ts ++ plain c ∷ [])
    select : {n m : ℕ} (d i : Token) {e : Expr} {ts : List (Placed Token)} → IsPrim n e m ts → Is CLASS_DOT d → Is CLASS_IDENT i
        → IsPrim n (Select e i.value) (m + 1) (ts ++ opens m d ∷ plain i ∷ [])

  -- Unary = "!" Unary | Prim .
  pub data IsUnary : ℕ → Expr → ℕ → List (Placed Token) → Type 0 where
    not : {n m : ℕ} (t : Token) {e : Expr} {ts : List (Placed Token)} → Is CLASS_BANG t → IsUnary (n + 1) e m ts → IsUnary n (Not e) m (opens n t ∷ ts)
    prim : {n m : ℕ} {e : Expr} {ts : List (Placed Token)} → IsPrim n e m ts → IsUnary n e m ts

  -- Product = Unary | Product "*" Unary .
  pub data IsProduct : ℕ → Expr → ℕ → List (Placed Token) → Type 0 where
    unary : {n m : ℕ} {e : Expr} {ts : List (Placed Token)} → IsUnary n e m ts → IsProduct n e m ts
    times : {n m k : ℕ} (t : Token) {a b : Expr} {ts us : List (Placed Token)} → IsProduct n a m ts → Is CLASS_STAR t → IsUnary (m + 1) b k us
        → IsProduct n (Binary t a b) k (ts ++ opens m t ∷ us)

  -- Sum = Product | Sum ( "+" | "-" ) Product .
  pub data IsSum : ℕ → Expr → ℕ → List (Placed Token) → Type 0 where
    product : {n m : ℕ} {e : Expr} {ts : List (Placed Token)} → IsProduct n e m ts → IsSum n e m ts
    plus : {n m k : ℕ} (t : Token) {a b : Expr} {ts us : List (Placed Token)} → IsSum n a m ts → Is CLASS_PLUS t ⊎ Is CLASS_MINUS t → IsProduct (m + 1) b k us
        → IsSum n (Binary t a b) k (ts ++ opens m t ∷ us)

  -- Args = [ Sum { "," Sum } ] .
  pub data IsArgs : ℕ → List Expr → List (Placed Token) → Type 0 where
    no_args : {n : ℕ} → IsArgs n [] []
    some_args : {n : ℕ} {es : List Expr} {ts : List (Placed Token)} → IsList n es ts → IsArgs n es ts

  pub data IsList : ℕ → List Expr → List (Placed Token) → Type 0 where
    one : {n m : ℕ} {e : Expr} {ts : List (Placed Token)} → IsSum n e m ts → IsList n (e ∷ []) ts
    more : {n m : ℕ} (t : Token) {e : Expr} {es : List Expr} {ts us : List (Placed Token)} → IsList n es ts → Is CLASS_COMMA t → IsSum n e m us
        → IsList n (es ++ e ∷ []) (ts ++ plain t ∷ us)

-- [ Prim "." ]
pub data IsReceiver : ℕ → Option Expr → ℕ → List (Placed Token) → Type 0 where
  no_receiver : {n : ℕ} → IsReceiver n None n []
  receiver : {n m : ℕ} (d : Token) {e : Expr} {ts : List (Placed Token)} → IsPrim n e m ts → Is CLASS_DOT d
      → IsReceiver n (Some e) (m + 1) (ts ++ opens m d ∷ [])

-- Call = [ Prim "." ] id "(" Args ")" .
pub data IsCall : ℕ → Call → List (Placed Token) → Type 0 where
  call : {n m : ℕ} (i o c : Token) {of : Option Expr} {es : List Expr} {ts us : List (Placed Token)} → IsReceiver n of m ts → Is CLASS_IDENT i
      → Is CLASS_L_PAREN o → IsArgs (m + 1) es us → Is CLASS_R_PAREN c
      → IsCall n (record { receiver = of; name = i.value; arguments = es }) (ts ++ plain i ∷ opens m o ∷ us ++ plain c ∷ [])

-- Left = id | Prim "." id .
pub data IsLeft : ℕ → Left → List (Placed Token) → Type 0 where
  variable : {n : ℕ} (i : Token) → Is CLASS_IDENT i → IsLeft n (Variable i.value) (plain i ∷ [])
  field : {n m : ℕ} (d i : Token) {e : Expr} {ts : List (Placed Token)} → IsPrim n e m ts → Is CLASS_DOT d → Is CLASS_IDENT i
      → IsLeft n (Field e i.value) (ts ++ opens m d ∷ plain i ∷ [])

-- Right = Sum | Call .
pub data IsRight : ℕ → Right → List (Placed Token) → Type 0 where
  value : {n m : ℕ} {e : Expr} {ts : List (Placed Token)} → IsSum n e m ts → IsRight n (Value e) ts
  result : {n : ℕ} {c : Call} {ts : List (Placed Token)} → IsCall n c ts → IsRight n (Result c) ts

mutual
  -- Stmt = Left ( "=" | ":=" ) Right | Call | Block | Branch .
  pub data IsStmt : ℕ → Stmt → List (Placed Token) → Type 0 where
    assign : {n : ℕ} (t : Token) {l : Left} {r : Right} {ts us : List (Placed Token)} → IsLeft n l ts → Is CLASS_ASSIGN t ⊎ Is CLASS_DEFINE t → IsRight n r us
        → IsStmt n (Assign l t r) (ts ++ plain t ∷ us)
    called : {n : ℕ} {c : Call} {ts : List (Placed Token)} → IsCall n c ts → IsStmt n (Called c) ts
    block : {n : ℕ} {ss : List Stmt} {ts : List (Placed Token)} → IsBlock n ss ts → IsStmt n (Block ss) ts
    branch : {n : ℕ} {s : Stmt} {ts : List (Placed Token)} → IsBranch n s ts → IsStmt n s ts

  -- Branch = "if" Sum Block [ "else" ( Block | Branch ) ] . An `else` before another `if` opens a level.
  pub data IsBranch : ℕ → Stmt → List (Placed Token) → Type 0 where
    only : {n m : ℕ} (i : Token) {e : Expr} {ss : List Stmt} {ts us : List (Placed Token)} → Is CLASS_IF i → IsSum n e m ts → IsBlock n ss us
        → IsBranch n (If e ss None) (plain i ∷ ts ++ us)
    otherwise : {n m : ℕ} (i l : Token) {e : Expr} {ss rs : List Stmt} {ts us vs : List (Placed Token)} → Is CLASS_IF i → IsSum n e m ts → IsBlock n ss us
        → Is CLASS_ELSE l → IsBlock n rs vs
        → IsBranch n (If e ss (Some (Block rs))) (plain i ∷ ts ++ us ++ plain l ∷ vs)
    chain : {n m : ℕ} (i l : Token) {e : Expr} {ss : List Stmt} {s : Stmt} {ts us vs : List (Placed Token)} → Is CLASS_IF i → IsSum n e m ts → IsBlock n ss us
        → Is CLASS_ELSE l → IsBranch (n + 1) s vs
        → IsBranch n (If e ss (Some s)) (plain i ∷ ts ++ us ++ opens n l ∷ vs)

  -- Block = "{" [ Stmt { ";" Stmt } [ ";" ] ] "}" .
  pub data IsBlock : ℕ → List Stmt → List (Placed Token) → Type 0 where
    braces : {n : ℕ} (o c : Token) {ss : List Stmt} {ts : List (Placed Token)} → Is CLASS_L_BRACE o → IsStmts (n + 1) ss ts → Is CLASS_R_BRACE c
        → IsBlock n ss (opens n o ∷ ts ++ plain c ∷ [])

  pub data IsStmts : ℕ → List Stmt → List (Placed Token) → Type 0 where
    no_stmts : {n : ℕ} → IsStmts n [] []
    unclosed : {n : ℕ} {ss : List Stmt} {ts : List (Placed Token)} → IsItems n ss ts → IsStmts n ss ts
    closed : {n : ℕ} (t : Token) {ss : List Stmt} {ts : List (Placed Token)} → IsItems n ss ts → Is CLASS_SEMI t → IsStmts n ss (ts ++ plain t ∷ [])

  pub data IsItems : ℕ → List Stmt → List (Placed Token) → Type 0 where
    first : {n : ℕ} {s : Stmt} {ts : List (Placed Token)} → IsStmt n s ts → IsItems n (s ∷ []) ts
    next : {n : ℕ} (t : Token) {s : Stmt} {ss : List Stmt} {ts us : List (Placed Token)} → IsItems n ss ts → Is CLASS_SEMI t → IsStmt n s us
        → IsItems n (ss ++ s ∷ []) (ts ++ plain t ∷ us)

-- Sum, by itself: its levels end with it.
pub data IsExpression : ℕ → Expr → List (Placed Token) → Type 0 where
  expression : {n m : ℕ} {e : Expr} {ts : List (Placed Token)} → IsSum n e m ts → IsExpression n e ts
