-- The published grammar of packages, production by production, with the levels of nesting.
--
-- The first number of a relation is the level before its tokens. A second one is the level behind them: an operator, an
-- index or a selector stays open for the rest of its expression. All others give their level back.
use Rattle.std.specs.Prelude.{◌≡◌, ℕ, ◌+◌, Bool, true, false, List, [], ◌∷◌, ◌++◌, Option, Some, None}
use Rattle.gv_grammar.specs.Derivation.{is_among}
use Rattle.gv_grammar.specs.Text.{Placed, plain, opens}
use Rattle.gv_gosyntax.specs.declared.generated.gosyntax_table.TheConstants.{CLASS_AMP, CLASS_AMP_ASSIGN, CLASS_AMP_CARET, CLASS_AMP_CARET_ASSIGN, CLASS_AND_AND, CLASS_APPEND, CLASS_ASSIGN, CLASS_AT_LEAST, CLASS_AT_MOST, CLASS_BANG, CLASS_BAR, CLASS_BAR_ASSIGN, CLASS_BLOCK, CLASS_BOOL, CLASS_BREAK, CLASS_BYTE, CLASS_CARET, CLASS_CARET_ASSIGN, CLASS_COLON, CLASS_COMMA, CLASS_CONST, CLASS_CONTINUE, CLASS_DECREMENT, CLASS_DEFINE, CLASS_DELETE, CLASS_DISK, CLASS_DOT, CLASS_ELSE, CLASS_EQUAL, CLASS_FALSE, CLASS_FOR, CLASS_FUNC, CLASS_GO, CLASS_GREATER, CLASS_IDENT, CLASS_IF, CLASS_IMPORT, CLASS_INCREMENT, CLASS_LEN, CLASS_LESS, CLASS_L_BRACE, CLASS_L_BRACKET, CLASS_L_PAREN, CLASS_MAKE, CLASS_MAP, CLASS_MINUS, CLASS_MINUS_ASSIGN, CLASS_MUTEX, CLASS_NEW, CLASS_NIL, CLASS_NOT_EQUAL, CLASS_NUMBER, CLASS_OR_OR, CLASS_PACKAGE, CLASS_PERCENT, CLASS_PERCENT_ASSIGN, CLASS_PLUS, CLASS_PLUS_ASSIGN, CLASS_RETURN, CLASS_R_BRACE, CLASS_R_BRACKET, CLASS_R_PAREN, CLASS_SEMI, CLASS_SHIFT_LEFT, CLASS_SHIFT_LEFT_ASSIGN, CLASS_SHIFT_RIGHT, CLASS_SHIFT_RIGHT_ASSIGN, CLASS_SLASH, CLASS_SLASH_ASSIGN, CLASS_STAR, CLASS_STAR_ASSIGN, CLASS_STRUCT, CLASS_SYNC, CLASS_TEXT, CLASS_TRUE, CLASS_TWODISK, CLASS_TYPE, CLASS_UINT64, CLASS_VAR}
use Rattle.gv_gosyntax.specs.declared.lexeme.Lexeme.{Lexeme}
use Rattle.gv_gosyntax.specs.declared.tree.Expr.{Expr}
use Rattle.gv_gosyntax.specs.declared.tree.Expr.TheVariants.{Constant, Name, Paren, Convert, Select, Index, Slice, Unary, Binary}
use Rattle.gv_gosyntax.specs.declared.tree.Pointed.{Pointed}
use Rattle.gv_gosyntax.specs.declared.tree.Pointed.TheVariants.{Named, Mutex}
use Rattle.gv_gosyntax.specs.declared.tree.GoType.{GoType}
use Rattle.gv_gosyntax.specs.declared.tree.GoType.TheVariants as type
use Rattle.gv_gosyntax.specs.declared.tree.KeyedExpr.{KeyedExpr}
use Rattle.gv_gosyntax.specs.declared.tree.Call.{Call}
use Rattle.gv_gosyntax.specs.declared.tree.Call.TheVariants.{Function, Pair, Make, New, Literal}
use Rattle.gv_gosyntax.specs.declared.tree.Right.{Right}
use Rattle.gv_gosyntax.specs.declared.tree.Right.TheVariants.{Value, Result}
use Rattle.gv_gosyntax.specs.declared.tree.Simple.{Simple}
use Rattle.gv_gosyntax.specs.declared.tree.Simple.TheVariants as simple_stmt
use Rattle.gv_gosyntax.specs.declared.tree.Block.{Block}
use Rattle.gv_gosyntax.specs.declared.tree.Stmt.{Stmt}
use Rattle.gv_gosyntax.specs.declared.tree.Stmt.TheVariants as stmt
use Rattle.gv_gosyntax.specs.declared.tree.Group.{Group}
use Rattle.gv_gosyntax.specs.declared.tree.Receiver.{Receiver}
use Rattle.gv_gosyntax.specs.declared.tree.Decl.{Decl}
use Rattle.gv_gosyntax.specs.declared.tree.Decl.TheVariants.{Struct, Const}
use Rattle.gv_gosyntax.specs.declared.tree.Decl.TheVariants as decl
use Rattle.gv_gosyntax.specs.declared.tree.File.{File}

abbrev pub Tokens : Type 0
Tokens = List (Placed Lexeme)

-- a token of a class, and of one of several
abbrev pub Is : ℕ → Lexeme → Type 0
Is class t = t.class ≡ class

abbrev pub AnyOf : List ℕ → Lexeme → Type 0
AnyOf classes t = is_among t.class classes ≡ true

-- ---- words, numbers and signs

-- a name: the words `sync`, `Mutex`, `disk`, `twodisk` and `Block` are names where no type wants them
abbrev pub other_names : List ℕ
other_names = CLASS_IDENT ∷ CLASS_MUTEX ∷ CLASS_DISK ∷ CLASS_TWODISK ∷ CLASS_BLOCK ∷ []

abbrev pub names : List ℕ
names = CLASS_SYNC ∷ other_names

abbrev pub constants : List ℕ
constants = CLASS_NUMBER ∷ CLASS_TRUE ∷ CLASS_FALSE ∷ CLASS_NIL ∷ []

-- the words of the operands `len(..)`, `uint64(..)` and `byte(..)`
abbrev pub converting : List ℕ
converting = CLASS_LEN ∷ CLASS_UINT64 ∷ CLASS_BYTE ∷ []

-- unary operators, and the four levels of binary operators that have more than one
abbrev pub inverting : List ℕ
inverting = CLASS_BANG ∷ CLASS_CARET ∷ []

abbrev pub comparing : List ℕ
comparing = CLASS_EQUAL ∷ CLASS_NOT_EQUAL ∷ CLASS_LESS ∷ CLASS_AT_MOST ∷ CLASS_GREATER ∷ CLASS_AT_LEAST ∷ []

abbrev pub adding : List ℕ
adding = CLASS_PLUS ∷ CLASS_MINUS ∷ CLASS_BAR ∷ CLASS_CARET ∷ []

abbrev pub multiplying : List ℕ
multiplying = CLASS_STAR ∷ CLASS_SLASH ∷ CLASS_PERCENT ∷ CLASS_SHIFT_LEFT ∷ CLASS_SHIFT_RIGHT ∷ CLASS_AMP ∷ CLASS_AMP_CARET ∷ []

-- `:=` and `=`, `++` and `--`, and each binary operator of the last two levels with `=`, which is one token
abbrev pub assigning : List ℕ
assigning = CLASS_DEFINE ∷ CLASS_ASSIGN ∷ []

abbrev pub counting : List ℕ
counting = CLASS_INCREMENT ∷ CLASS_DECREMENT ∷ []

abbrev pub updating : List ℕ
updating =
    CLASS_PLUS_ASSIGN ∷ CLASS_MINUS_ASSIGN ∷ CLASS_BAR_ASSIGN ∷ CLASS_CARET_ASSIGN ∷ CLASS_STAR_ASSIGN ∷ CLASS_SLASH_ASSIGN ∷ CLASS_PERCENT_ASSIGN ∷ CLASS_SHIFT_LEFT_ASSIGN
    ∷ CLASS_SHIFT_RIGHT_ASSIGN ∷ CLASS_AMP_ASSIGN ∷ CLASS_AMP_CARET_ASSIGN ∷ []

-- ---- lists

-- X { separator X }
pub data IsItems {X : Type 0} (IsX : X → Tokens → Type 0) (separator : ℕ) : List X → Tokens → Type 0 where
  first : {x : X} {ts : Tokens} → IsX x ts → IsItems IsX separator (x ∷ []) ts
  next : (t : Lexeme) {x : X} {xs : List X} {ts us : Tokens} → IsItems IsX separator xs ts → Is separator t → IsX x us
      → IsItems IsX separator (xs ++ x ∷ []) (ts ++ (plain t ∷ us))

-- [ X { separator X } [ separator ] ]: so is { X ";" } where the last semicolon may be left out
pub data IsList {X : Type 0} (IsX : X → Tokens → Type 0) (separator : ℕ) : List X → Tokens → Type 0 where
  empty : IsList IsX separator [] []
  items : {xs : List X} {ts : Tokens} → IsItems IsX separator xs ts → IsList IsX separator xs ts
  closed : (t : Lexeme) {xs : List X} {ts : Tokens} → IsItems IsX separator xs ts → Is separator t → IsList IsX separator xs (ts ++ (plain t ∷ []))

-- ---- types

-- Star = id | "sync" "." "Mutex" .
pub data IsPointed : Pointed → Tokens → Type 0 where
  named : (i : Lexeme) → AnyOf names i → IsPointed (Named i) (plain i ∷ [])
  mutex : (s d m : Lexeme) → Is CLASS_SYNC s → Is CLASS_DOT d → Is CLASS_MUTEX m → IsPointed (Mutex s) (plain s ∷ plain d ∷ plain m ∷ [])

-- Type = "uint64" | "byte" | "bool" | "[" "]" "byte" | "[" "]" "uint64" | "[" "]" "*" Star
--      | "map" "[" "uint64" "]" "uint64" | "*" Star | ( "disk" | "twodisk" ) "." "Block" .
pub data IsType : GoType → Tokens → Type 0 where
  type_word : (w : Lexeme) → AnyOf (CLASS_UINT64 ∷ CLASS_BYTE ∷ CLASS_BOOL ∷ []) w → IsType (type.Word w) (plain w ∷ [])
  type_slice : (o c w : Lexeme) → Is CLASS_L_BRACKET o → Is CLASS_R_BRACKET c → AnyOf (CLASS_BYTE ∷ CLASS_UINT64 ∷ []) w
      → IsType (type.Slice o w) (plain o ∷ plain c ∷ plain w ∷ [])
  type_pointers : (o c s : Lexeme) {p : Pointed} {ts : Tokens} → Is CLASS_L_BRACKET o → Is CLASS_R_BRACKET c → Is CLASS_STAR s → IsPointed p ts
      → IsType (type.Pointers o p) (plain o ∷ plain c ∷ plain s ∷ ts)
  type_map : (m o k c v : Lexeme) → Is CLASS_MAP m → Is CLASS_L_BRACKET o → Is CLASS_UINT64 k → Is CLASS_R_BRACKET c → Is CLASS_UINT64 v
      → IsType (type.Map m) (plain m ∷ plain o ∷ plain k ∷ plain c ∷ plain v ∷ [])
  type_pointer : (s : Lexeme) {p : Pointed} {ts : Tokens} → Is CLASS_STAR s → IsPointed p ts → IsType (type.Pointer s p) (plain s ∷ ts)
  type_block : (k d b : Lexeme) → AnyOf (CLASS_DISK ∷ CLASS_TWODISK ∷ []) k → Is CLASS_DOT d → Is CLASS_BLOCK b
      → IsType (type.Block k) (plain k ∷ plain d ∷ plain b ∷ [])

-- ---- operands

mutual
  -- Prim = number | "true" | "false" | "nil" | id | "(" Expr ")" | Prim "." id | Prim "[" Expr "]"
  --      | Prim "[" [ Expr ] ":" [ Expr ] "]" | "len" "(" Expr ")" | "uint64" "(" Expr ")" | "byte" "(" Expr ")" .
  -- A parenthesis opens a level that ends with it. A selector, an index and a slice open one for the rest of the expression.
  pub data IsPrim : ℕ → Expr → ℕ → Tokens → Type 0 where
    constant : {n : ℕ} (t : Lexeme) → AnyOf constants t → IsPrim n (Constant t) n (plain t ∷ [])
    name : {n : ℕ} (i : Lexeme) → AnyOf names i → IsPrim n (Name i) n (plain i ∷ [])
    paren : {n m : ℕ} (o c : Lexeme) {e : Expr} {ts : Tokens} → Is CLASS_L_PAREN o → IsExpr (n + 1) e m ts → Is CLASS_R_PAREN c
        → IsPrim n (Paren o e) n (opens n o ∷ (ts ++ (plain c ∷ [])))
    select : {n m : ℕ} (d i : Lexeme) {e : Expr} {ts : Tokens} → IsPrim n e m ts → Is CLASS_DOT d → AnyOf names i
        → IsPrim n (Select e i) (m + 1) (ts ++ (opens m d ∷ plain i ∷ []))
    index : {n m k : ℕ} (o c : Lexeme) {e i : Expr} {ts us : Tokens} → IsPrim n e m ts → Is CLASS_L_BRACKET o → IsExpr (m + 1) i k us → Is CLASS_R_BRACKET c
        → IsPrim n (Index e i) (m + 1) (ts ++ (opens m o ∷ (us ++ (plain c ∷ []))))
    slice : {n m : ℕ} (o d c : Lexeme) {e : Expr} {low high : Option Expr} {ts us vs : Tokens} → IsPrim n e m ts → Is CLASS_L_BRACKET o
        → IsBound (m + 1) low us → Is CLASS_COLON d
        → IsBound (m + 1) high vs → Is CLASS_R_BRACKET c → IsPrim n (Slice e low high) (m + 1) (ts ++ (opens m o ∷ (us ++ (plain d ∷ (vs ++ (plain c ∷ []))))))
    convert : {n m : ℕ} (w o c : Lexeme) {e : Expr} {ts : Tokens} → AnyOf converting w → Is CLASS_L_PAREN o → IsExpr (n + 1) e m ts → Is CLASS_R_PAREN c
        → IsPrim n (Convert w e) n (plain w ∷ opens n o ∷ (ts ++ (plain c ∷ [])))

  -- Unary = ( "!" | "^" ) Unary | Prim . Each operator opens a level for the rest of the expression.
  pub data IsUnary : ℕ → Expr → ℕ → Tokens → Type 0 where
    invert : {n m : ℕ} (t : Lexeme) {e : Expr} {ts : Tokens} → AnyOf inverting t → IsUnary (n + 1) e m ts → IsUnary n (Unary t e) m (opens n t ∷ ts)
    prim : {n m : ℕ} {e : Expr} {ts : Tokens} → IsPrim n e m ts → IsUnary n e m ts

  -- Expr: five levels of binary operators, all to the left, over Unary.
  pub data IsProduct : ℕ → Expr → ℕ → Tokens → Type 0 where
    unary : {n m : ℕ} {e : Expr} {ts : Tokens} → IsUnary n e m ts → IsProduct n e m ts
    times : {n m k : ℕ} (t : Lexeme) {a b : Expr} {ts us : Tokens} → IsProduct n a m ts → AnyOf multiplying t → IsUnary (m + 1) b k us
        → IsProduct n (Binary a t b) k (ts ++ (opens m t ∷ us))

  pub data IsSum : ℕ → Expr → ℕ → Tokens → Type 0 where
    product : {n m : ℕ} {e : Expr} {ts : Tokens} → IsProduct n e m ts → IsSum n e m ts
    plus : {n m k : ℕ} (t : Lexeme) {a b : Expr} {ts us : Tokens} → IsSum n a m ts → AnyOf adding t → IsProduct (m + 1) b k us
        → IsSum n (Binary a t b) k (ts ++ (opens m t ∷ us))

  pub data IsComparison : ℕ → Expr → ℕ → Tokens → Type 0 where
    sum : {n m : ℕ} {e : Expr} {ts : Tokens} → IsSum n e m ts → IsComparison n e m ts
    compare : {n m k : ℕ} (t : Lexeme) {a b : Expr} {ts us : Tokens} → IsComparison n a m ts → AnyOf comparing t → IsSum (m + 1) b k us
        → IsComparison n (Binary a t b) k (ts ++ (opens m t ∷ us))

  pub data IsConjunction : ℕ → Expr → ℕ → Tokens → Type 0 where
    comparison : {n m : ℕ} {e : Expr} {ts : Tokens} → IsComparison n e m ts → IsConjunction n e m ts
    both : {n m k : ℕ} (t : Lexeme) {a b : Expr} {ts us : Tokens} → IsConjunction n a m ts → Is CLASS_AND_AND t → IsComparison (m + 1) b k us
        → IsConjunction n (Binary a t b) k (ts ++ (opens m t ∷ us))

  pub data IsExpr : ℕ → Expr → ℕ → Tokens → Type 0 where
    conjunction : {n m : ℕ} {e : Expr} {ts : Tokens} → IsConjunction n e m ts → IsExpr n e m ts
    either : {n m k : ℕ} (t : Lexeme) {a b : Expr} {ts us : Tokens} → IsExpr n a m ts → Is CLASS_OR_OR t → IsConjunction (m + 1) b k us
        → IsExpr n (Binary a t b) k (ts ++ (opens m t ∷ us))

  -- [ Expr ]
  pub data IsBound : ℕ → Option Expr → Tokens → Type 0 where
    unbound : {n : ℕ} → IsBound n None []
    bound : {n m : ℕ} {e : Expr} {ts : Tokens} → IsExpr n e m ts → IsBound n (Some e) ts

-- an Expr by itself: its levels end with it
pub data IsWhole : ℕ → Expr → Tokens → Type 0 where
  whole : {n m : ℕ} {e : Expr} {ts : Tokens} → IsExpr n e m ts → IsWhole n e ts

-- ---- calls

-- id ":" Expr
pub data IsKeyed : ℕ → KeyedExpr → Tokens → Type 0 where
  keyed : {n : ℕ} (i c : Lexeme) {e : Expr} {ts : Tokens} → AnyOf names i → Is CLASS_COLON c → IsWhole n e ts
      → IsKeyed n (record { key = i; value = e }) (plain i ∷ plain c ∷ ts)

-- Call = [ Prim "." ] id "(" [ Expr { "," Expr } [ "," ] ] ")" | "delete" "(" Expr "," Expr ")" | "append" "(" Expr "," Expr ")"
--      | "make" "(" Type [ "," Expr ] ")" | "new" "(" "sync" "." "Mutex" ")" | "&" id "{" [ id ":" Expr { "," id ":" Expr } [ "," ] ] "}" .
-- The last one doesn't stand in the header of a `for`. The selectors before a call's parenthesis count within it.
pub data IsCall (header : Bool) : ℕ → Call → Tokens → Type 0 where
  function : {n : ℕ} (i o c : Lexeme) {es : List Expr} {us : Tokens} → AnyOf names i → Is CLASS_L_PAREN o
      → IsList (IsWhole (n + 1)) CLASS_COMMA es us → Is CLASS_R_PAREN c
      → IsCall header n (Function (Name i) es) (plain i ∷ opens n o ∷ (us ++ (plain c ∷ [])))
  method : {n m : ℕ} (d i o c : Lexeme) {e : Expr} {es : List Expr} {ts us : Tokens} → IsPrim n e m ts → Is CLASS_DOT d → AnyOf names i
      → Is CLASS_L_PAREN o → IsList (IsWhole ((m + 1) + 1)) CLASS_COMMA es us
      → Is CLASS_R_PAREN c → IsCall header n (Function (Select e i) es) (ts ++ (opens m d ∷ plain i ∷ opens (m + 1) o ∷ (us ++ (plain c ∷ []))))
  pair : {n : ℕ} (w o s c : Lexeme) {a b : Expr} {ts us : Tokens} → AnyOf (CLASS_DELETE ∷ CLASS_APPEND ∷ []) w → Is CLASS_L_PAREN o
      → IsWhole (n + 1) a ts → Is CLASS_COMMA s → IsWhole (n + 1) b us
      → Is CLASS_R_PAREN c → IsCall header n (Pair w a b) (plain w ∷ opens n o ∷ (ts ++ (plain s ∷ (us ++ (plain c ∷ [])))))
  make : {n : ℕ} (w o c : Lexeme) {t : GoType} {ts : Tokens} → Is CLASS_MAKE w → Is CLASS_L_PAREN o → IsType t ts → Is CLASS_R_PAREN c
      → IsCall header n (Make w t None) (plain w ∷ opens n o ∷ (ts ++ (plain c ∷ [])))
  make_length : {n : ℕ} (w o s c : Lexeme) {t : GoType} {e : Expr} {ts us : Tokens} → Is CLASS_MAKE w → Is CLASS_L_PAREN o → IsType t ts
      → Is CLASS_COMMA s → IsWhole (n + 1) e us → Is CLASS_R_PAREN c
      → IsCall header n (Make w t (Some e)) (plain w ∷ opens n o ∷ (ts ++ (plain s ∷ (us ++ (plain c ∷ [])))))
  new : {n : ℕ} (w o s d m c : Lexeme) → Is CLASS_NEW w → Is CLASS_L_PAREN o → Is CLASS_SYNC s → Is CLASS_DOT d → Is CLASS_MUTEX m → Is CLASS_R_PAREN c
      → IsCall header n (New w) (plain w ∷ opens n o ∷ plain s ∷ plain d ∷ plain m ∷ plain c ∷ [])
  literal : {n : ℕ} (a i o c : Lexeme) {ks : List KeyedExpr} {ts : Tokens} → header ≡ false → Is CLASS_AMP a → AnyOf names i → Is CLASS_L_BRACE o
      → IsList (IsKeyed n) CLASS_COMMA ks ts → Is CLASS_R_BRACE c
      → IsCall header n (Literal a i ks) (plain a ∷ plain i ∷ plain o ∷ (ts ++ (plain c ∷ [])))

-- Right = Expr | Call .
pub data IsRight (header : Bool) : ℕ → Right → Tokens → Type 0 where
  value : {n m : ℕ} {e : Expr} {ts : Tokens} → IsExpr n e m ts → IsRight header n (Value e) ts
  result : {n : ℕ} {c : Call} {ts : Tokens} → IsCall header n c ts → IsRight header n (Result c) ts

-- ---- statements that may stand in the header of a `for`

-- Left = id | Prim "." id | Prim "[" Expr "]" .
pub data IsLeft : ℕ → Expr → Tokens → Type 0 where
  variable : {n : ℕ} (i : Lexeme) → AnyOf names i → IsLeft n (Name i) (plain i ∷ [])
  field : {n m : ℕ} (d i : Lexeme) {e : Expr} {ts : Tokens} → IsPrim n e m ts → Is CLASS_DOT d → AnyOf names i
      → IsLeft n (Select e i) (ts ++ (opens m d ∷ plain i ∷ []))
  item : {n m k : ℕ} (o c : Lexeme) {e i : Expr} {ts us : Tokens} → IsPrim n e m ts → Is CLASS_L_BRACKET o → IsExpr (m + 1) i k us
      → Is CLASS_R_BRACKET c → IsLeft n (Index e i) (ts ++ (opens m o ∷ (us ++ (plain c ∷ []))))

-- Simple = Left [ "," Left ] ( ":=" | "=" ) Right | id ( "++" | "--" ) | id BinOp "=" Expr | Call .
pub data IsSimple (header : Bool) : ℕ → Simple → Tokens → Type 0 where
  assign : {n : ℕ} (s : Lexeme) {l : Expr} {r : Right} {ts us : Tokens} → IsLeft n l ts → AnyOf assigning s → IsRight header n r us
      → IsSimple header n (simple_stmt.Assign (l ∷ []) s r) (ts ++ (plain s ∷ us))
  assign_two : {n : ℕ} (t s : Lexeme) {l k : Expr} {r : Right} {ts us vs : Tokens} → IsLeft n l ts → Is CLASS_COMMA t → IsLeft n k us
      → AnyOf assigning s → IsRight header n r vs
      → IsSimple header n (simple_stmt.Assign (l ∷ k ∷ []) s r) (ts ++ (plain t ∷ (us ++ (plain s ∷ vs))))
  count : {n : ℕ} (i s : Lexeme) → AnyOf names i → AnyOf counting s → IsSimple header n (simple_stmt.Count (Name i) s) (plain i ∷ plain s ∷ [])
  update : {n m : ℕ} (i s : Lexeme) {e : Expr} {ts : Tokens} → AnyOf names i → AnyOf updating s → IsExpr n e m ts
      → IsSimple header n (simple_stmt.Update (Name i) s e) (plain i ∷ plain s ∷ ts)
  call : {n : ℕ} {c : Call} {ts : Tokens} → IsCall header n c ts → IsSimple header n (simple_stmt.Call c) ts

-- [ Simple ], in the header of a `for`
pub data IsPart : ℕ → Option Simple → Tokens → Type 0 where
  no_part : {n : ℕ} → IsPart n None []
  part : {n : ℕ} {s : Simple} {ts : Tokens} → IsSimple true n s ts → IsPart n (Some s) ts

-- an Expr as one of several values
pub data IsValue : ℕ → Right → Tokens → Type 0 where
  operand : {n m : ℕ} {e : Expr} {ts : Tokens} → IsExpr n e m ts → IsValue n (Value e) ts

-- ---- statements

-- In these, `inside` says whether the statement stands in a `for` of its own function or literal.
mutual
  -- Stmt = Simple | "var" id Type [ "=" Right ] | If | Block | "break" | "continue"
  --      | "for" [ Expr | [ Simple ] ";" [ Expr ] ";" [ Simple ] ] Block
  --      | "return" [ Right | Expr { "," Expr } ] | "go" "func" "(" ")" Block "(" ")" .
  -- A lone expression behind `return` is a Right. The empty statement stands below.
  pub data IsStmt : Bool → ℕ → Stmt → Tokens → Type 0 where
    simple : {b : Bool} {n : ℕ} {s : Simple} {ts : Tokens} → IsSimple false n s ts → IsStmt b n (stmt.Simple s) ts
    var : {b : Bool} {n : ℕ} (w i : Lexeme) {t : GoType} {ts : Tokens} → Is CLASS_VAR w → AnyOf names i → IsType t ts
        → IsStmt b n (stmt.Var w i t None) (plain w ∷ plain i ∷ ts)
    var_value : {b : Bool} {n : ℕ} (w i s : Lexeme) {t : GoType} {r : Right} {ts us : Tokens} → Is CLASS_VAR w → AnyOf names i → IsType t ts
        → Is CLASS_ASSIGN s → IsRight false n r us
        → IsStmt b n (stmt.Var w i t (Some r)) (plain w ∷ plain i ∷ (ts ++ (plain s ∷ us)))
    branch : {b : Bool} {n : ℕ} {s : Stmt} {ts : Tokens} → IsIf b n s ts → IsStmt b n s ts
    nested : {b : Bool} {n : ℕ} {k : Block} {ts : Tokens} → IsBlock b n k ts → IsStmt b n (stmt.Block k) ts
    jump : {n : ℕ} (w : Lexeme) → AnyOf (CLASS_BREAK ∷ CLASS_CONTINUE ∷ []) w → IsStmt true n (stmt.Jump w) (plain w ∷ [])
    forever : {b : Bool} {n : ℕ} (w : Lexeme) {k : Block} {ts : Tokens} → Is CLASS_FOR w → IsBlock true n k ts
        → IsStmt b n (stmt.For w (record { first = None; condition = None; post = None }) k) (plain w ∷ ts)
    while : {b : Bool} {n m : ℕ} (w : Lexeme) {e : Expr} {k : Block} {ts us : Tokens} → Is CLASS_FOR w → IsExpr n e m ts → IsBlock true n k us
        → IsStmt b n (stmt.For w (record { first = None; condition = Some e; post = None }) k) (plain w ∷ (ts ++ us))
    clauses : {b : Bool} {n : ℕ} (w s t : Lexeme) {f p : Option Simple} {c : Option Expr} {k : Block} {ts us vs ws : Tokens} → Is CLASS_FOR w
        → IsPart n f ts → Is CLASS_SEMI s → IsBound n c us → Is CLASS_SEMI t
        → IsPart n p vs → IsBlock true n k ws
        → IsStmt b n (stmt.For w (record { first = f; condition = c; post = p }) k) (plain w ∷ (ts ++ (plain s ∷ (us ++ (plain t ∷ (vs ++ ws))))))
    return_none : {b : Bool} {n : ℕ} (w : Lexeme) → Is CLASS_RETURN w → IsStmt b n (stmt.Return w []) (plain w ∷ [])
    return_one : {b : Bool} {n : ℕ} (w : Lexeme) {r : Right} {ts : Tokens} → Is CLASS_RETURN w → IsRight false n r ts
        → IsStmt b n (stmt.Return w (r ∷ [])) (plain w ∷ ts)
    return_more : {b : Bool} {n : ℕ} (w t : Lexeme) {r : Right} {rs : List Right} {ts us : Tokens} → Is CLASS_RETURN w
        → IsItems (IsValue n) CLASS_COMMA rs ts → Is CLASS_COMMA t → IsValue n r us
        → IsStmt b n (stmt.Return w (rs ++ r ∷ [])) (plain w ∷ (ts ++ (plain t ∷ us)))
    go : {b : Bool} {n : ℕ} (w f o c p q : Lexeme) {k : Block} {ts : Tokens} → Is CLASS_GO w → Is CLASS_FUNC f → Is CLASS_L_PAREN o
        → Is CLASS_R_PAREN c → IsBlock false n k ts → Is CLASS_L_PAREN p → Is CLASS_R_PAREN q
        → IsStmt b n (stmt.Go w k) (plain w ∷ plain f ∷ opens n o ∷ plain c ∷ (ts ++ (opens n p ∷ plain q ∷ [])))

  -- If = "if" Expr Block [ "else" ( If | Block ) ] . An `else` before another `if` opens a level.
  pub data IsIf : Bool → ℕ → Stmt → Tokens → Type 0 where
    only : {b : Bool} {n m : ℕ} (i : Lexeme) {e : Expr} {k : Block} {ts us : Tokens} → Is CLASS_IF i → IsExpr n e m ts → IsBlock b n k us
        → IsIf b n (stmt.If i e k None) (plain i ∷ (ts ++ us))
    otherwise : {b : Bool} {n m : ℕ} (i l : Lexeme) {e : Expr} {k o : Block} {ts us vs : Tokens} → Is CLASS_IF i → IsExpr n e m ts → IsBlock b n k us
        → Is CLASS_ELSE l → IsBlock b n o vs
        → IsIf b n (stmt.If i e k (Some (stmt.Block o))) (plain i ∷ (ts ++ (us ++ (plain l ∷ vs))))
    chain : {b : Bool} {n m : ℕ} (i l : Lexeme) {e : Expr} {k : Block} {s : Stmt} {ts us vs : Tokens} → Is CLASS_IF i → IsExpr n e m ts
        → IsBlock b n k us → Is CLASS_ELSE l → IsIf b (n + 1) s vs
        → IsIf b n (stmt.If i e k (Some s)) (plain i ∷ (ts ++ (us ++ (opens n l ∷ vs))))

  -- Block = "{" { Stmt ";" } "}" .
  pub data IsBlock : Bool → ℕ → Block → Tokens → Type 0 where
    braces : {b : Bool} {n : ℕ} (o c : Lexeme) {ss : List Stmt} {ts : Tokens} → Is CLASS_L_BRACE o → IsBody b (n + 1) ss ts → Is CLASS_R_BRACE c
        → IsBlock b n (record { start = o; statements = ss; end = c }) (opens n o ∷ (ts ++ (plain c ∷ [])))

  -- { Stmt ";" }
  pub data IsStmts : Bool → ℕ → List Stmt → Tokens → Type 0 where
    no_stmts : {b : Bool} {n : ℕ} → IsStmts b n [] []
    next_stmt : {b : Bool} {n : ℕ} (t : Lexeme) {s : Stmt} {ss : List Stmt} {ts us : Tokens} → IsStmts b n ss ts → IsStmt b n s us → Is CLASS_SEMI t
        → IsStmts b n (ss ++ s ∷ []) (ts ++ (us ++ (plain t ∷ [])))
    next_empty : {b : Bool} {n : ℕ} (t : Lexeme) {ss : List Stmt} {ts : Tokens} → IsStmts b n ss ts → Is CLASS_SEMI t
        → IsStmts b n (ss ++ stmt.Empty ∷ []) (ts ++ (plain t ∷ []))

  -- the same before a `}`, where the last semicolon may be left out. With the fewest statements: none is empty there.
  pub data IsBody : Bool → ℕ → List Stmt → Tokens → Type 0 where
    all_closed : {b : Bool} {n : ℕ} {ss : List Stmt} {ts : Tokens} → IsStmts b n ss ts → IsBody b n ss ts
    last_open : {b : Bool} {n : ℕ} {s : Stmt} {ss : List Stmt} {ts us : Tokens} → IsStmts b n ss ts → IsStmt b n s us → IsBody b n (ss ++ s ∷ []) (ts ++ us)

-- ---- declarations

-- one name, and one text
pub data IsName : Lexeme → Tokens → Type 0 where
  one_name : (i : Lexeme) → AnyOf names i → IsName i (plain i ∷ [])

pub data IsText : Lexeme → Tokens → Type 0 where
  one_text : (t : Lexeme) → Is CLASS_TEXT t → IsText t (plain t ∷ [])

-- Par = id { "," id } Type . The fields of a struct are such, too.
pub data IsGroup : Group → Tokens → Type 0 where
  group : {is : List Lexeme} {t : GoType} {ts us : Tokens} → IsItems IsName CLASS_COMMA is ts → IsType t us
      → IsGroup (record { names = is; kind = t }) (ts ++ us)

-- [ "(" id "*" id ")" ]
pub data IsReceiver : ℕ → Option Receiver → Tokens → Type 0 where
  no_receiver : {n : ℕ} → IsReceiver n None []
  receiver : {n : ℕ} (o i s t c : Lexeme) → Is CLASS_L_PAREN o → AnyOf names i → Is CLASS_STAR s → AnyOf names t → Is CLASS_R_PAREN c
      → IsReceiver n (Some (record { name = i; of = t })) (opens n o ∷ plain i ∷ plain s ∷ plain t ∷ plain c ∷ [])

-- [ Type | "(" Type { "," Type } ")" ]
pub data IsResults : ℕ → List GoType → Tokens → Type 0 where
  no_results : {n : ℕ} → IsResults n [] []
  one_result : {n : ℕ} {t : GoType} {ts : Tokens} → IsType t ts → IsResults n (t ∷ []) ts
  results : {n : ℕ} (o c : Lexeme) {rs : List GoType} {ts : Tokens} → Is CLASS_L_PAREN o → IsItems IsType CLASS_COMMA rs ts → Is CLASS_R_PAREN c
      → IsResults n rs (opens n o ∷ (ts ++ (plain c ∷ [])))

-- Decl = "type" id "struct" "{" { id { "," id } Type ";" } "}" | "const" id [ "uint64" ] "=" Expr
--      | "func" [ "(" id "*" id ")" ] id "(" [ Par { "," Par } [ "," ] ] ")" [ Type | "(" Type { "," Type } ")" ] Block .
pub data IsDecl : ℕ → Decl → Tokens → Type 0 where
  struct : {n : ℕ} (w i s o c : Lexeme) {gs : List Group} {ts : Tokens} → Is CLASS_TYPE w → AnyOf names i → Is CLASS_STRUCT s → Is CLASS_L_BRACE o
      → IsList IsGroup CLASS_SEMI gs ts → Is CLASS_R_BRACE c
      → IsDecl n (Struct i gs) (plain w ∷ plain i ∷ plain s ∷ plain o ∷ (ts ++ (plain c ∷ [])))
  const : {n : ℕ} (w i s : Lexeme) {e : Expr} {ts : Tokens} → Is CLASS_CONST w → AnyOf names i → Is CLASS_ASSIGN s → IsWhole n e ts
      → IsDecl n (Const i None e) (plain w ∷ plain i ∷ plain s ∷ ts)
  typed_const : {n : ℕ} (w i u s : Lexeme) {e : Expr} {ts : Tokens} → Is CLASS_CONST w → AnyOf names i → Is CLASS_UINT64 u → Is CLASS_ASSIGN s → IsWhole n e ts
      → IsDecl n (Const i (Some u) e) (plain w ∷ plain i ∷ plain u ∷ plain s ∷ ts)
  func : {n : ℕ} (w i o c : Lexeme) {r : Option Receiver} {ps : List Group} {rs : List GoType} {k : Block} {ts us vs ws : Tokens} → Is CLASS_FUNC w
      → IsReceiver n r ts → AnyOf names i → Is CLASS_L_PAREN o
      → IsList IsGroup CLASS_COMMA ps us → Is CLASS_R_PAREN c → IsResults n rs vs → IsBlock false n k ws
      → IsDecl n (decl.Func (record { receiver = r; name = i; params = ps; results = rs; body = k })) (plain w ∷ (ts ++ (plain i ∷ opens n o ∷ (us ++ (plain c ∷ (vs ++ ws))))))

-- Imp = text | "(" { text ";" } ")" .
pub data IsImport : ℕ → List Lexeme → Tokens → Type 0 where
  one_import : {n : ℕ} (t : Lexeme) → Is CLASS_TEXT t → IsImport n (t ∷ []) (plain t ∷ [])
  imports : {n : ℕ} (o c : Lexeme) {xs : List Lexeme} {ts : Tokens} → Is CLASS_L_PAREN o → IsList IsText CLASS_SEMI xs ts → Is CLASS_R_PAREN c
      → IsImport n xs (opens n o ∷ (ts ++ (plain c ∷ [])))

-- { "import" Imp ";" }
pub data IsImports : ℕ → List (List Lexeme) → Tokens → Type 0 where
  no_imports : {n : ℕ} → IsImports n [] []
  next_import : {n : ℕ} (w t : Lexeme) {x : List Lexeme} {xs : List (List Lexeme)} {ts us : Tokens} → IsImports n xs ts → Is CLASS_IMPORT w
      → IsImport n x us → Is CLASS_SEMI t
      → IsImports n (xs ++ x ∷ []) (ts ++ (plain w ∷ (us ++ (plain t ∷ []))))

-- { Decl ";" }
pub data IsDecls : ℕ → List Decl → Tokens → Type 0 where
  no_decls : {n : ℕ} → IsDecls n [] []
  next_decl : {n : ℕ} (t : Lexeme) {d : Decl} {ds : List Decl} {ts us : Tokens} → IsDecls n ds ts → IsDecl n d us → Is CLASS_SEMI t
      → IsDecls n (ds ++ d ∷ []) (ts ++ (us ++ (plain t ∷ [])))

-- File = "package" id ";" { "import" Imp ";" } { Decl ";" } .
pub data IsFile : ℕ → File → Tokens → Type 0 where
  file : {n : ℕ} (p i s : Lexeme) {xs : List (List Lexeme)} {ds : List Decl} {ts us : Tokens} → Is CLASS_PACKAGE p → AnyOf names i → Is CLASS_SEMI s
      → IsImports n xs ts → IsDecls n ds us
      → IsFile n (record { name = i; imports = xs; decls = ds }) (plain p ∷ plain i ∷ plain s ∷ (ts ++ us))
