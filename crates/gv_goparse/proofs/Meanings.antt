-- What each name of the grammar means, and what is read so far where only what follows tells what it is.
use Rattle.std.proofs.Common.{◌≡◌, ◌+◌, ◌∷◌, ◌++◌, ◌∙◌, ℕ, Bool, true, false, List, Option, Some, None, sym, subst, append_assoc, []}
use Rattle.std.proofs.lemmas.List.{append-nil, map-append}
use Rattle.gv_grammar.specs.Derivation.{symbols_of}
use Rattle.gv_grammar.specs.Text.{plain, opens, tokens_of}
use Rattle.gv_grammar.proofs.Meaning.{Meant, Made, mk, at, Phrase, Tail, meaning_at}
use Rattle.gv_gosyntax.specs.declared.generated.gosyntax_table.TheConstants.{CLASS_COLON, CLASS_COMMA, CLASS_CONST, CLASS_DOT, CLASS_ELSE, CLASS_FOR, CLASS_IF, CLASS_L_BRACKET, CLASS_L_PAREN, CLASS_MAKE, CLASS_RETURN, CLASS_R_BRACKET, CLASS_SEMI, CLASS_SYNC, CLASS_VAR}
use Rattle.gv_gosyntax.specs.declared.lexeme.Lexeme.{Lexeme}
use Rattle.gv_gosyntax.specs.declared.tree.Expr.{Expr}
use Rattle.gv_gosyntax.specs.declared.tree.GoType.{GoType}
use Rattle.gv_gosyntax.specs.declared.tree.Right.{Right}
use Rattle.gv_gosyntax.specs.declared.tree.Simple.{Simple}
use Rattle.gv_gosyntax.specs.declared.tree.Block.{Block}
use Rattle.gv_gosyntax.specs.declared.tree.Stmt.{Stmt}
use Rattle.gv_gosyntax.specs.declared.tree.ForHeader.{ForHeader}
use Rattle.gv_gosyntax.specs.declared.tree.Expr.TheVariants.{Name, Select, Index, Slice}
use Rattle.gv_gosyntax.specs.declared.tree.Stmt.TheVariants as stmt
use Rattle.gv_gosyntax.specs.GosyntaxTable.{gosyntax_tables}
use Rattle.gv_goparse.specs.Language.{Tokens, Is, AnyOf, names, IsItems, IsList, IsPointed, IsType, IsPrim, IsUnary, IsProduct, IsSum, IsComparison, IsConjunction, IsExpr, IsBound, IsWhole, IsKeyed, IsCall, IsRight, IsLeft, IsSimple, IsPart, IsValue, IsStmt, IsIf, IsBlock, IsStmts, IsBody, IsName, IsText, IsGroup, IsReceiver, IsResults, IsDecl, IsImport, IsImports, IsDecls, IsFile, first, next, empty, closed, name, select, index, slice, unbound, bound, whole, value, variable, field, item, operand, forever, while, clauses, return_none, return_one, return_more, only, otherwise, chain, next_stmt, last_open}

-- ---- what is read so far, where only what follows tells what it is

-- relations with a level behind, as those with none
abbrev pub Prim : ℕ → Expr × ℕ → Tokens → Type 0
Prim n x ps = IsPrim n x.0 x.1 ps

abbrev pub Unary : ℕ → Expr × ℕ → Tokens → Type 0
Unary n x ps = IsUnary n x.0 x.1 ps

abbrev pub Product : ℕ → Expr × ℕ → Tokens → Type 0
Product n x ps = IsProduct n x.0 x.1 ps

abbrev pub Sum : ℕ → Expr × ℕ → Tokens → Type 0
Sum n x ps = IsSum n x.0 x.1 ps

abbrev pub Comparison : ℕ → Expr × ℕ → Tokens → Type 0
Comparison n x ps = IsComparison n x.0 x.1 ps

abbrev pub Conjunction : ℕ → Expr × ℕ → Tokens → Type 0
Conjunction n x ps = IsConjunction n x.0 x.1 ps

abbrev pub Expression : ℕ → Expr × ℕ → Tokens → Type 0
Expression n x ps = IsExpr n x.0 x.1 ps

-- a name alone, a name maybe of something, and what may be assigned to
pub data IsAlone : ℕ → Expr × ℕ → Tokens → Type 0 where
  alone : {n : ℕ} (i : Lexeme) → AnyOf names i → IsAlone n (Name i, n) (plain i ∷ [])

pub data IsMember : ℕ → Expr × ℕ → Tokens → Type 0 where
  of_alone : {n : ℕ} {x : Expr × ℕ} {ts : Tokens} → IsAlone n x ts → IsMember n x ts
  member : {n m : ℕ} (d i : Lexeme) {e : Expr} {ts : Tokens} → IsPrim n e m ts → Is CLASS_DOT d → AnyOf names i → IsMember n (Select e i, m + 1) (ts ++ (opens m d ∷ plain i ∷ []))

pub data IsPlace : ℕ → Expr × ℕ → Tokens → Type 0 where
  of_member : {n : ℕ} {x : Expr × ℕ} {ts : Tokens} → IsMember n x ts → IsPlace n x ts
  place : {n m k : ℕ} (o c : Lexeme) {e i : Expr} {ts us : Tokens} → IsPrim n e m ts → Is CLASS_L_BRACKET o → IsExpr (m + 1) i k us → Is CLASS_R_BRACKET c
      → IsPlace n (Index e i, m + 1) (ts ++ (opens m o ∷ (us ++ (plain c ∷ []))))

-- an operand with a bracket, and with what stands first within it
pub data IsOpened : ℕ → Expr × ℕ → Tokens → Type 0 where
  opened : {n m : ℕ} (o : Lexeme) {e : Expr} {ts : Tokens} → IsPrim n e m ts → Is CLASS_L_BRACKET o → IsOpened n (e, m) (ts ++ (opens m o ∷ []))

pub data IsFilled : ℕ → (Expr × Expr) × ℕ → Tokens → Type 0 where
  filled : {n m k : ℕ} (o : Lexeme) {e i : Expr} {ts us : Tokens} → IsPrim n e m ts → Is CLASS_L_BRACKET o → IsExpr (m + 1) i k us → IsFilled n ((e, i), m) (ts ++ (opens m o ∷ us))

pub member_prim : {n : ℕ} {x : Expr × ℕ} {ts : Tokens} → IsMember n x ts → Prim n x ts
member_prim (of_alone (alone i h)) = name i h
member_prim (member d i h j k) = select d i h j k

pub place_prim : {n : ℕ} {x : Expr × ℕ} {ts : Tokens} → IsPlace n x ts → Prim n x ts
place_prim (of_member h) = member_prim h
place_prim (place o c h i d j) = index o c h i d j

pub place_left : {n : ℕ} {x : Expr × ℕ} {ts : Tokens} → IsPlace n x ts → IsLeft n x.0 ts
place_left (of_member (of_alone (alone i h))) = variable i h
place_left (of_member (member d i h j k)) = field d i h j k
place_left (place o c h i d j) = item o c h i d j

-- items of a list that are closed, or none
pub data IsFront {X : Type 0} (IsX : X → Tokens → Type 0) (separator : ℕ) : List X → Tokens → Type 0 where
  fresh : IsFront IsX separator [] []
  behind : (t : Lexeme) {xs : List X} {ts : Tokens} → IsItems IsX separator xs ts → Is separator t → IsFront IsX separator xs (ts ++ (plain t ∷ []))

pub front_next : {X : Type 0} {IsX : X → Tokens → Type 0} {separator : ℕ} {x : X} {xs : List X} {ts us : Tokens} → IsFront IsX separator xs ts → IsX x us → IsItems IsX separator (xs ++ x ∷ []) (ts ++ us)
front_next fresh d = first d
front_next {IsX = IsX} {separator = separator} {x = x} {xs = xs} {us = us} (behind t {ts = ts} h i) d = subst (λ (ps : Tokens). IsItems IsX separator (xs ++ x ∷ []) ps) (sym (append_assoc ts (plain t ∷ []) us)) (next t h i d)

pub front_list : {X : Type 0} {IsX : X → Tokens → Type 0} {separator : ℕ} {xs : List X} {ts : Tokens} → IsFront IsX separator xs ts → IsList IsX separator xs ts
front_list fresh = empty
front_list (behind t h i) = closed t h i

-- statements whose last one has no semicolon yet, and those of a block
pub data IsUnclosed : Bool → ℕ → List Stmt → Tokens → Type 0 where
  unclosed : {b : Bool} {n : ℕ} {s : Stmt} {ss : List Stmt} {ts us : Tokens} → IsStmts b n ss ts → IsStmt b n s us → IsUnclosed b n (ss ++ s ∷ []) (ts ++ us)

pub unclosed_body : {b : Bool} {n : ℕ} {ss : List Stmt} {ts : Tokens} → IsUnclosed b n ss ts → IsBody b n ss ts
unclosed_body (unclosed d e) = last_open d e

pub unclosed_stmts : {b : Bool} {n : ℕ} {ss : List Stmt} {ts : Tokens} (t : Lexeme) → IsUnclosed b n ss ts → Is CLASS_SEMI t → IsStmts b n ss (ts ++ (plain t ∷ []))
unclosed_stmts {b} {n} t (unclosed {s = s} {ss = ss} {ts = ts} {us = us} d e) i = subst (λ (ps : Tokens). IsStmts b n (ss ++ s ∷ []) ps) (sym (append_assoc ts us (plain t ∷ []))) (next_stmt t d e i)

-- an `if` as far as its block
pub data IsHalf : Bool → ℕ → (Lexeme × Expr) × Block → Tokens → Type 0 where
  half : {b : Bool} {n m : ℕ} (i : Lexeme) {e : Expr} {k : Block} {ts us : Tokens} → Is CLASS_IF i → IsExpr n e m ts → IsBlock b n k us → IsHalf b n ((i, e), k) (plain i ∷ (ts ++ us))

pub half_only : {b : Bool} {n : ℕ} {x : (Lexeme × Expr) × Block} {ps : Tokens} → IsHalf b n x ps → IsIf b n (stmt.If x.0.0 x.0.1 x.1 None) ps
half_only (half i c d k) = only i c d k

pub half_otherwise : {b : Bool} {n : ℕ} {x : (Lexeme × Expr) × Block} {o : Block} {ps vs : Tokens} (l : Lexeme) → IsHalf b n x ps → Is CLASS_ELSE l → IsBlock b n o vs
    → IsIf b n (stmt.If x.0.0 x.0.1 x.1 (Some (stmt.Block o))) (ps ++ (plain l ∷ vs))
half_otherwise {b} {n} {x} {o} {vs = vs} l (half i {ts = ts} {us = us} c d k) h e =
    subst (λ (qs : Tokens). IsIf b n (stmt.If x.0.0 x.0.1 x.1 (Some (stmt.Block o))) (plain i ∷ qs)) (sym (append_assoc ts us (plain l ∷ vs))) (otherwise i l c d k h e)

pub half_chain : {b : Bool} {n : ℕ} {x : (Lexeme × Expr) × Block} {s : Stmt} {ps vs : Tokens} (l : Lexeme) → IsHalf b n x ps → Is CLASS_ELSE l → IsIf b (n + 1) s vs → IsIf b n (stmt.If x.0.0 x.0.1 x.1 (Some s)) (ps ++ (opens n l ∷ vs))
half_chain {b} {n} {x} {s} {vs = vs} l (half i {ts = ts} {us = us} c d k) h e =
    subst (λ (qs : Tokens). IsIf b n (stmt.If x.0.0 x.0.1 x.1 (Some s)) (plain i ∷ qs)) (sym (append_assoc ts us (opens n l ∷ vs))) (chain i l c d k h e)

-- a `for` behind its word
pub data IsLoop : ℕ → ForHeader × Block → Tokens → Type 0 where
  forever_loop : {n : ℕ} {k : Block} {ts : Tokens} → IsBlock true n k ts → IsLoop n (record { first = None; condition = None; post = None }, k) ts
  while_loop : {n m : ℕ} {e : Expr} {k : Block} {ts us : Tokens} → IsExpr n e m ts → IsBlock true n k us → IsLoop n (record { first = None; condition = Some e; post = None }, k) (ts ++ us)
  clauses_loop : {n : ℕ} (s t : Lexeme) {f p : Option Simple} {c : Option Expr} {k : Block} {ts us vs ws : Tokens} → IsPart n f ts → Is CLASS_SEMI s → IsBound n c us → Is CLASS_SEMI t → IsPart n p vs
      → IsBlock true n k ws → IsLoop n (record { first = f; condition = c; post = p }, k) (ts ++ (plain s ∷ (us ++ (plain t ∷ (vs ++ ws)))))

pub loop_stmt : {b : Bool} {n : ℕ} {x : ForHeader × Block} {ts : Tokens} (w : Lexeme) → Is CLASS_FOR w → IsLoop n x ts → IsStmt b n (stmt.For w x.0 x.1) (plain w ∷ ts)
loop_stmt w h (forever_loop d) = forever w h d
loop_stmt w h (while_loop e d) = while w h e d
loop_stmt w h (clauses_loop s t f i c j p d) = clauses w s t h f i c j p d

-- what stands behind `return`
pub data IsRights : ℕ → List Right → Tokens → Type 0 where
  no_rights : {n : ℕ} → IsRights n [] []
  one_right : {n : ℕ} {r : Right} {ts : Tokens} → IsRight false n r ts → IsRights n (r ∷ []) ts
  more_rights : {n : ℕ} (t : Lexeme) {r : Right} {rs : List Right} {ts us : Tokens} → IsItems (IsValue n) CLASS_COMMA rs ts → Is CLASS_COMMA t → IsValue n r us → IsRights n (rs ++ r ∷ []) (ts ++ (plain t ∷ us))

pub rights_stmt : {b : Bool} {n : ℕ} {rs : List Right} {ts : Tokens} (w : Lexeme) → Is CLASS_RETURN w → IsRights n rs ts → IsStmt b n (stmt.Return w rs) (plain w ∷ ts)
rights_stmt w h no_rights = return_none w h
rights_stmt w h (one_right d) = return_one w h d
rights_stmt w h (more_rights t d i e) = return_more w t h d i e

pub values_rights : {n : ℕ} {rs : List Right} {ts : Tokens} → IsItems (IsValue n) CLASS_COMMA rs ts → IsRights n rs ts
values_rights (first (operand d)) = one_right (value d)
values_rights (next t d i e) = more_rights t d i e

-- other beginnings
pub data IsVar : ℕ → (Lexeme × Lexeme) × GoType → Tokens → Type 0 where
  var_start : {n : ℕ} (w i : Lexeme) {t : GoType} {ts : Tokens} → Is CLASS_VAR w → AnyOf names i → IsType t ts → IsVar n ((w, i), t) (plain w ∷ plain i ∷ ts)

pub data IsConst : ℕ → Lexeme → Tokens → Type 0 where
  const_start : {n : ℕ} (w i : Lexeme) → Is CLASS_CONST w → AnyOf names i → IsConst n i (plain w ∷ plain i ∷ [])

pub data IsSlice : ℕ → Lexeme → Tokens → Type 0 where
  slice_start : {n : ℕ} (o c : Lexeme) → Is CLASS_L_BRACKET o → Is CLASS_R_BRACKET c → IsSlice n o (plain o ∷ plain c ∷ [])

pub data IsMaking : ℕ → Lexeme × GoType → Tokens → Type 0 where
  making : {n : ℕ} (w o : Lexeme) {t : GoType} {ts : Tokens} → Is CLASS_MAKE w → Is CLASS_L_PAREN o → IsType t ts → IsMaking n (w, t) (plain w ∷ opens n o ∷ ts)

pub data IsSync : ℕ → Lexeme → Tokens → Type 0 where
  sync_start : {n : ℕ} (s : Lexeme) → Is CLASS_SYNC s → IsSync n s (plain s ∷ [])

-- ---- what each name means

abbrev pub BehindIf : Bool → List Lexeme → Type 0
BehindIf b us = (n : ℕ) (i : Lexeme) → Is CLASS_IF i → Made (IsIf b n) (i ∷ us)

abbrev pub BehindElse : Bool → List Lexeme → Type 0
BehindElse b us = (n : ℕ) (x : (Lexeme × Expr) × Block) (ps : Tokens) (l : Lexeme) → IsHalf b n x ps → Is CLASS_ELSE l → Made (IsIf b n) (tokens_of ps ++ (l ∷ us))

abbrev pub meanings : List (List Lexeme → Type 0)
meanings =
    Phrase IsFile  -- File
    ∷ Tail IsImports IsImports  -- Imports
    ∷ Phrase IsImport  -- Imp
    ∷ Tail (λ n. IsFront IsText CLASS_SEMI) (λ n. IsList IsText CLASS_SEMI)  -- Texts
    ∷ Tail (λ n. IsItems IsText CLASS_SEMI) (λ n. IsList IsText CLASS_SEMI)  -- AfterText
    ∷ Tail IsDecls IsDecls  -- Decls
    ∷ Phrase IsDecl  -- Decl
    ∷ Tail IsConst IsDecl  -- ConstRest
    ∷ Phrase IsReceiver  -- Receiver
    ∷ Tail (λ n. IsFront IsGroup CLASS_SEMI) (λ n. IsList IsGroup CLASS_SEMI)  -- Fields
    ∷ Tail (λ n. IsItems IsGroup CLASS_SEMI) (λ n. IsList IsGroup CLASS_SEMI)  -- AfterField
    ∷ Tail (λ n. IsFront IsGroup CLASS_COMMA) (λ n. IsList IsGroup CLASS_COMMA)  -- Params
    ∷ Tail (λ n. IsItems IsGroup CLASS_COMMA) (λ n. IsList IsGroup CLASS_COMMA)  -- AfterParam
    ∷ Phrase (λ n. IsGroup)  -- Group
    ∷ Tail (λ n. IsItems IsName CLASS_COMMA) (λ n. IsItems IsName CLASS_COMMA)  -- MoreNames
    ∷ Phrase IsResults  -- Results
    ∷ Tail (λ n. IsItems IsType CLASS_COMMA) (λ n. IsItems IsType CLASS_COMMA)  -- MoreTypes
    ∷ Phrase (λ n. IsType)  -- TypeOf
    ∷ Tail IsSlice (λ n. IsType)  -- Items
    ∷ Phrase (λ n. IsPointed)  -- Pointed
    ∷ Tail IsSync (λ n. IsPointed)  -- AfterSync
    ∷ Phrase (IsBlock false)  -- Braces
    ∷ Tail (IsStmts false) (IsBody false)  -- Stmts
    ∷ Tail (IsUnclosed false) (IsBody false)  -- AfterStmt
    ∷ Phrase (IsStmt false)  -- Stmt
    ∷ BehindIf false  -- IfRest
    ∷ Tail (IsHalf false) (IsIf false)  -- Otherwise
    ∷ BehindElse false  -- Other
    ∷ Phrase (IsBlock true)  -- LoopBraces
    ∷ Tail (IsStmts true) (IsBody true)  -- LoopStmts
    ∷ Tail (IsUnclosed true) (IsBody true)  -- LoopAfterStmt
    ∷ Phrase (IsStmt true)  -- LoopStmt
    ∷ BehindIf true  -- LoopIfRest
    ∷ Tail (IsHalf true) (IsIf true)  -- LoopOtherwise
    ∷ BehindElse true  -- LoopOther
    ∷ (λ us. (b : Bool) → Phrase (IsStmt b) us)  -- Plain
    ∷ (λ us. (b : Bool) → Tail IsVar (IsStmt b) us)  -- VarRest
    ∷ Phrase (IsSimple false)  -- Simple
    ∷ Tail IsAlone (IsSimple false)  -- SimpleName
    ∷ Tail IsMember (IsSimple false)  -- SimpleMember
    ∷ Tail IsPlace (IsSimple false)  -- SimpleIndex
    ∷ Tail Prim (IsSimple false)  -- SimpleTail
    ∷ Tail IsOpened (IsSimple false)  -- SimpleBracket
    ∷ Tail IsFilled (IsSimple false)  -- SimpleClosing
    ∷ Tail IsLeft (IsSimple false)  -- SimpleAssign
    ∷ Phrase (IsSimple true)  -- Post
    ∷ Tail IsAlone (IsSimple true)  -- PostName
    ∷ Tail IsMember (IsSimple true)  -- PostMember
    ∷ Tail IsPlace (IsSimple true)  -- PostIndex
    ∷ Tail Prim (IsSimple true)  -- PostTail
    ∷ Tail IsOpened (IsSimple true)  -- PostBracket
    ∷ Tail IsFilled (IsSimple true)  -- PostClosing
    ∷ Tail IsLeft (IsSimple true)  -- PostAssign
    ∷ Phrase IsLoop  -- Header
    ∷ Tail IsAlone IsLoop  -- FirstName
    ∷ Tail IsMember IsLoop  -- FirstMember
    ∷ Tail IsPlace IsLoop  -- FirstIndex
    ∷ Tail Prim IsLoop  -- FirstTail
    ∷ Tail IsOpened IsLoop  -- FirstBracket
    ∷ Tail IsFilled IsLoop  -- FirstClosing
    ∷ Tail IsLeft IsLoop  -- FirstAssign
    ∷ Tail (IsSimple true) IsLoop  -- AfterFirst
    ∷ Tail IsPart IsLoop  -- Clauses
    ∷ Phrase IsPart  -- PostPart
    ∷ Phrase IsLeft  -- Left
    ∷ Tail IsPlace IsLeft  -- LeftEnd
    ∷ Tail Prim IsLeft  -- LeftTail
    ∷ Tail IsOpened IsLeft  -- LeftBracket
    ∷ Tail IsFilled IsLeft  -- LeftClosing
    ∷ Phrase (IsRight false)  -- Right
    ∷ (λ us. (h : Bool) → Phrase (IsRight h) us)  -- PlainRight
    ∷ (λ us. (h : Bool) → Tail IsMember (IsRight h) us)  -- RightMember
    ∷ (λ us. (h : Bool) → Tail Prim (IsRight h) us)  -- RightTail
    ∷ Phrase IsRights  -- Returned
    ∷ Tail IsMember IsRights  -- ReturnedMember
    ∷ Tail Prim IsRights  -- ReturnedTail
    ∷ Tail (λ n. IsItems (IsValue n) CLASS_COMMA) IsRights  -- MoreReturned
    ∷ (λ us. (h : Bool) → Tail IsMember (IsCall h) us)  -- Arguments
    ∷ Tail (λ n. IsFront (IsWhole n) CLASS_COMMA) (λ n. IsList (IsWhole n) CLASS_COMMA)  -- Exprs
    ∷ Tail (λ n. IsItems (IsWhole n) CLASS_COMMA) (λ n. IsList (IsWhole n) CLASS_COMMA)  -- AfterExpr
    ∷ (λ us. (h : Bool) → Phrase (IsCall h) us)  -- BuiltIn
    ∷ (λ us. (h : Bool) → Tail IsMaking (IsCall h) us)  -- MakeRest
    ∷ Phrase (IsCall false)  -- Literal
    ∷ Tail (λ n. IsFront (IsKeyed n) CLASS_COMMA) (λ n. IsList (IsKeyed n) CLASS_COMMA)  -- Keyed
    ∷ Tail (λ n. IsItems (IsKeyed n) CLASS_COMMA) (λ n. IsList (IsKeyed n) CLASS_COMMA)  -- AfterKeyed
    ∷ Phrase IsWhole  -- Whole
    ∷ Phrase IsBound  -- Bound
    ∷ Phrase Expression  -- Expr
    ∷ Tail Expression Expression  -- ExprTail
    ∷ Phrase Conjunction  -- Conjunction
    ∷ Tail Conjunction Conjunction  -- ConjunctionTail
    ∷ Phrase Comparison  -- Comparison
    ∷ Tail Comparison Comparison  -- ComparisonTail
    ∷ Phrase Sum  -- Sum
    ∷ Tail Sum Sum  -- SumTail
    ∷ Phrase Product  -- Product
    ∷ Tail Product Product  -- ProductTail
    ∷ Tail Unary Expression  -- Operators
    ∷ Tail Product Expression  -- ProductOperators
    ∷ Tail Sum Expression  -- SumOperators
    ∷ Tail Comparison Expression  -- ComparisonOperators
    ∷ Tail Conjunction Expression  -- ConjunctionOperators
    ∷ Phrase Unary  -- Unary
    ∷ Tail Prim Prim  -- PrimTail
    ∷ Phrase Prim  -- Closed
    ∷ Tail Prim Prim  -- Bracket
    ∷ Tail IsOpened Prim  -- InBracket
    ∷ Tail IsFilled Prim  -- Closing
    ∷ []

abbrev pub M : ℕ → List Lexeme → Type 0
M of us = meaning_at meanings of us

-- a rule keeps the meaning of its name
abbrev pub Keeps : ℕ → ℕ → Type 0
Keeps rule of = (us : List Lexeme) → Meant gosyntax_tables Lexeme (λ token. token.class) M (symbols_of gosyntax_tables rule) us → M of us

-- ---- steps behind an operand, wherever it stands

module _ {E : Type 0} {P : ℕ → E → Tokens → Type 0} where
  pub go_name : (us : List Lexeme) → Tail IsAlone P us → (i : Lexeme) → AnyOf names i → Phrase P (i ∷ (us ++ []))
  go_name us k i h n = at (simp append-nil) (k n (Name i, n) (plain i ∷ []) (alone i h))

  pub go_closed : (ts us : List Lexeme) → Phrase Prim ts → Tail Prim P us → Phrase P (ts ++ (us ++ []))
  go_closed ts us d k n = let a = d n in let e = a.same in at (simp (append-nil, e)) (k n a.tree a.placed a.spelled)

  pub go_dot : (us : List Lexeme) → Tail IsMember P us → (d x : Lexeme) → Is CLASS_DOT d → AnyOf names x → Tail Prim P (d ∷ x ∷ (us ++ []))
  go_dot us k d x i j n (e, m) xs h = at (simp (map-append, append_assoc, append-nil)) (k n (Select e x, m + 1) (xs ++ (opens m d ∷ plain x ∷ [])) (member d x h i j))

  pub go_open : (us : List Lexeme) → Tail IsOpened P us → (o : Lexeme) → Is CLASS_L_BRACKET o → Tail Prim P (o ∷ (us ++ []))
  go_open us k o i n (e, m) xs h = at (simp (map-append, append_assoc, append-nil)) (k n (e, m) (xs ++ (opens m o ∷ [])) (opened o h i))

  pub go_to : (ts us : List Lexeme) → Phrase IsBound ts → Tail Prim P us → (d c : Lexeme) → Is CLASS_COLON d → Is CLASS_R_BRACKET c → Tail IsOpened P (d ∷ (ts ++ (c ∷ (us ++ []))))
  go_to ts us b k d c i j n _ _ (opened {m = m} o {e = e} {ts = xs} h l) =
      let a = b (m + 1) in
      let q = a.same in
      at (simp (map-append, append_assoc, append-nil, q)) (k n (Slice e None a.tree, m + 1) (xs ++ (opens m o ∷ plain d ∷ (a.placed ++ (plain c ∷ [])))) (slice o d c h l unbound i a.spelled j))

  pub go_first : (ts us : List Lexeme) → Phrase IsWhole ts → Tail IsFilled P us → Tail IsOpened P (ts ++ (us ++ []))
  go_first ts us b k n _ _ (opened {m = m} o {e = e} {ts = xs} h l) = let a = b (m + 1) in go a.tree a.placed a.spelled a.same
    where
      go : (i : Expr) (ys : Tokens) → IsWhole (m + 1) i ys → tokens_of ys ≡ ts → Made (P n) (tokens_of (xs ++ (opens m o ∷ [])) ++ (ts ++ (us ++ [])))
      go i ys (whole d) q = at (simp (map-append, append_assoc, append-nil, q)) (k n ((e, i), m) (xs ++ (opens m o ∷ ys)) (filled o h l d))

  pub go_index : (us : List Lexeme) → Tail IsPlace P us → (c : Lexeme) → Is CLASS_R_BRACKET c → Tail IsFilled P (c ∷ (us ++ []))
  go_index us k c j n _ _ (filled {m = m} o {e = e} {i = i} {ts = xs} {us = ys} h l d) = at (simp (map-append, append_assoc, append-nil)) (k n (Index e i, m + 1) (xs ++ (opens m o ∷ (ys ++ (plain c ∷ [])))) (place o c h l d j))

  pub go_from : (ts us : List Lexeme) → Phrase IsBound ts → Tail Prim P us → (d c : Lexeme) → Is CLASS_COLON d → Is CLASS_R_BRACKET c → Tail IsFilled P (d ∷ (ts ++ (c ∷ (us ++ []))))
  go_from ts us b k d c i j n _ _ (filled {m = m} o {e = e} {i = w} {ts = xs} {us = ys} h l x) =
      let a = b (m + 1) in
      let q = a.same in
      at (simp (map-append, append_assoc, append-nil, q)) (k n (Slice e (Some w) a.tree, m + 1) (xs ++ (opens m o ∷ (ys ++ (plain d ∷ (a.placed ++ (plain c ∷ [])))))) (slice o d c h l (bound x) i a.spelled j))

  -- the same by a name that goes on as another one
  pub go_on : {D : Type 0} {Q R : ℕ → D → Tokens → Type 0} (us : List Lexeme) → ((n : ℕ) (x : D) (xs : Tokens) → Q n x xs → R n x xs) → Tail R P us → Tail Q P (us ++ [])
  go_on us f k n x xs h = at (simp append-nil) (k n x xs (f n x xs h))

-- what ends where it is
pub ends : {D E : Type 0} {Q : ℕ → D → Tokens → Type 0} (P : ℕ → E → Tokens → Type 0) (to : D → E) → ((n : ℕ) (x : D) (xs : Tokens) → Q n x xs → P n (to x) xs) → Tail Q P []
ends P to f n x xs h = mk (P n) (to x) xs (f n x xs h) (simp append-nil)

pub end_here : {D : Type 0} (P : ℕ → D → Tokens → Type 0) → Tail P P []
end_here P n x xs h = mk (P n) x xs h (simp append-nil)

-- a phrase by itself, as one of a larger kind
pub alone_so : {D E : Type 0} {Q : ℕ → D → Tokens → Type 0} (P : ℕ → E → Tokens → Type 0) (to : D → E) (us : List Lexeme) → ((n : ℕ) (x : D) (xs : Tokens) → Q n x xs → P n (to x) xs) → Phrase Q us → Phrase P (us ++ [])
alone_so P to us f d n = let a = d n in mk (P n) (to a.tree) a.placed (f n a.tree a.placed a.spelled) (a.same ∙ sym (append-nil us))
