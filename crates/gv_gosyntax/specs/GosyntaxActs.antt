-- What part each act makes of those on top, the top one first. Made by tools/grammar.py from gosyntax.grammar: edit that.
use Rattle.std.specs.Prelude.{Bool, true, false, List, [], ◌∷◌, ◌++◌, Some, None, Option, map}
use Rattle.gv_grammar.specs.declared.steps.Step.{Step}
use Rattle.gv_grammar.specs.Building.{Reduction, act_of, run}
use Rattle.gv_gosyntax.specs.Making.{Making, reduction_of, no_token}
use Rattle.gv_gosyntax.specs.declared.generated.gosyntax_acts.Part.{Part}
use Rattle.gv_gosyntax.specs.declared.generated.gosyntax_acts.Part.TheVariants.{Token as PToken, Names as PNames, Imports as PImports, Expr as PExpr, Exprs as PExprs, Bound as PBound, Keyed as PKeyed, Call as PCall, Right as PRight, Rights as PRights, Simple as PSimple, Part as PPart, Stmt as PStmt, Stmts as PStmts, Block as PBlock, Pointed as PPointed, GoType as PGoType, Types as PTypes, Receiver as PReceiver, Groups as PGroups, Decl as PDecl, Decls as PDecls, File as PFile}
use Rattle.gv_gosyntax.specs.declared.lexeme.Lexeme.{Lexeme}
use Rattle.gv_gosyntax.specs.declared.tree.Block.{Block}
use Rattle.gv_gosyntax.specs.declared.tree.Call.{Call}
use Rattle.gv_gosyntax.specs.declared.tree.Decl.{Decl}
use Rattle.gv_gosyntax.specs.declared.tree.Expr.{Expr}
use Rattle.gv_gosyntax.specs.declared.tree.File.{File}
use Rattle.gv_gosyntax.specs.declared.tree.GoType.{GoType}
use Rattle.gv_gosyntax.specs.declared.tree.Group.{Group}
use Rattle.gv_gosyntax.specs.declared.tree.KeyedExpr.{KeyedExpr}
use Rattle.gv_gosyntax.specs.declared.tree.Pointed.{Pointed}
use Rattle.gv_gosyntax.specs.declared.tree.Receiver.{Receiver}
use Rattle.gv_gosyntax.specs.declared.tree.Right.{Right}
use Rattle.gv_gosyntax.specs.declared.tree.Simple.{Simple}
use Rattle.gv_gosyntax.specs.declared.tree.Stmt.{Stmt}
use Rattle.gv_gosyntax.specs.declared.tree.Call.TheVariants as call
use Rattle.gv_gosyntax.specs.declared.tree.Decl.TheVariants as decl
use Rattle.gv_gosyntax.specs.declared.tree.Expr.TheVariants as expr
use Rattle.gv_gosyntax.specs.declared.tree.Pointed.TheVariants as pointed
use Rattle.gv_gosyntax.specs.declared.tree.Right.TheVariants as right
use Rattle.gv_gosyntax.specs.declared.tree.Simple.TheVariants as simple
use Rattle.gv_gosyntax.specs.declared.tree.Stmt.TheVariants as stmt
use Rattle.gv_gosyntax.specs.declared.tree.GoType.TheVariants as go_type

abbrev pub is_token : Part → Bool
is_token (PToken of) = true
is_token part = false

abbrev pub is_names : Part → Bool
is_names (PNames of) = true
is_names part = false

abbrev pub is_imports : Part → Bool
is_imports (PImports of) = true
is_imports part = false

abbrev pub is_expr : Part → Bool
is_expr (PExpr of) = true
is_expr part = false

abbrev pub is_exprs : Part → Bool
is_exprs (PExprs of) = true
is_exprs part = false

abbrev pub is_bound : Part → Bool
is_bound (PBound of) = true
is_bound part = false

abbrev pub is_keyed : Part → Bool
is_keyed (PKeyed of) = true
is_keyed part = false

abbrev pub is_call : Part → Bool
is_call (PCall of) = true
is_call part = false

abbrev pub is_right : Part → Bool
is_right (PRight of) = true
is_right part = false

abbrev pub is_rights : Part → Bool
is_rights (PRights of) = true
is_rights part = false

abbrev pub is_simple : Part → Bool
is_simple (PSimple of) = true
is_simple part = false

abbrev pub is_part : Part → Bool
is_part (PPart of) = true
is_part part = false

abbrev pub is_stmt : Part → Bool
is_stmt (PStmt of) = true
is_stmt part = false

abbrev pub is_stmts : Part → Bool
is_stmts (PStmts of) = true
is_stmts part = false

abbrev pub is_block : Part → Bool
is_block (PBlock of) = true
is_block part = false

abbrev pub is_pointed : Part → Bool
is_pointed (PPointed of) = true
is_pointed part = false

abbrev pub is_go_type : Part → Bool
is_go_type (PGoType of) = true
is_go_type part = false

abbrev pub is_types : Part → Bool
is_types (PTypes of) = true
is_types part = false

abbrev pub is_receiver : Part → Bool
is_receiver (PReceiver of) = true
is_receiver part = false

abbrev pub is_groups : Part → Bool
is_groups (PGroups of) = true
is_groups part = false

abbrev pub is_decl : Part → Bool
is_decl (PDecl of) = true
is_decl part = false

abbrev pub is_decls : Part → Bool
is_decls (PDecls of) = true
is_decls part = false

abbrev pub is_file : Part → Bool
is_file (PFile of) = true
is_file part = false

abbrev pub made_no_names : List Part → List Lexeme
made_no_names parts = []

abbrev pub made_name : List Part → List Lexeme
made_name (PToken name ∷ PNames names ∷ parts) = names ++ name ∷ []
made_name parts = []

abbrev pub made_past_names : List Part → List Lexeme
made_past_names (PToken _ ∷ PNames names ∷ parts) = names
made_past_names parts = []

abbrev pub made_in_parens : List Part → List Lexeme
made_in_parens (PToken _ ∷ PNames names ∷ PToken _ ∷ parts) = names
made_in_parens parts = []

abbrev pub made_constant : List Part → Expr
made_constant (PToken token ∷ parts) = expr.Constant token
made_constant parts = expr.Constant no_token

abbrev pub made_operand : List Part → Expr
made_operand (PToken name ∷ parts) = expr.Name name
made_operand parts = expr.Constant no_token

abbrev pub made_paren : List Part → Expr
made_paren (PToken _ ∷ PExpr inner ∷ PToken start ∷ parts) = expr.Paren start inner
made_paren parts = expr.Constant no_token

abbrev pub made_convert : List Part → Expr
made_convert (PToken _ ∷ PExpr inner ∷ PToken _ ∷ PToken word ∷ parts) = expr.Convert word inner
made_convert parts = expr.Constant no_token

abbrev pub made_select : List Part → Expr
made_select (PToken name ∷ PToken _ ∷ PExpr inner ∷ parts) = expr.Select inner name
made_select parts = expr.Constant no_token

abbrev pub made_index : List Part → Expr
made_index (PToken _ ∷ PExpr index ∷ PToken _ ∷ PExpr inner ∷ parts) = expr.Index inner index
made_index parts = expr.Constant no_token

abbrev pub made_slice_to : List Part → Expr
made_slice_to (PToken _ ∷ PBound high ∷ PToken _ ∷ PToken _ ∷ PExpr inner ∷ parts) = expr.Slice inner None high
made_slice_to parts = expr.Constant no_token

abbrev pub made_slice_from : List Part → Expr
made_slice_from (PToken _ ∷ PBound high ∷ PToken _ ∷ PExpr low ∷ PToken _ ∷ PExpr inner ∷ parts) = expr.Slice inner (Some low) high
made_slice_from parts = expr.Constant no_token

abbrev pub made_unary : List Part → Expr
made_unary (PExpr inner ∷ PToken sign ∷ parts) = expr.Unary sign inner
made_unary parts = expr.Constant no_token

abbrev pub made_binary : List Part → Expr
made_binary (PExpr right ∷ PToken sign ∷ PExpr left ∷ parts) = expr.Binary left sign right
made_binary parts = expr.Constant no_token

abbrev pub made_no_bound : List Part → Option Expr
made_no_bound parts = None

abbrev pub made_bound : List Part → Option Expr
made_bound (PExpr inner ∷ parts) = Some inner
made_bound parts = None

abbrev pub made_no_exprs : List Part → List Expr
made_no_exprs parts = []

abbrev pub made_expr : List Part → List Expr
made_expr (PExpr last ∷ PExprs exprs ∷ parts) = exprs ++ last ∷ []
made_expr parts = []

abbrev pub made_past_exprs : List Part → List Expr
made_past_exprs (PToken _ ∷ PExprs exprs ∷ parts) = exprs
made_past_exprs parts = []

abbrev pub made_call : List Part → Call
made_call (PToken _ ∷ PExprs arguments ∷ PToken _ ∷ PExpr function ∷ parts) = call.Function function arguments
made_call parts = call.New no_token

abbrev pub made_pair : List Part → Call
made_pair (PToken _ ∷ PExpr second ∷ PToken _ ∷ PExpr first ∷ PToken _ ∷ PToken word ∷ parts) = call.Pair word first second
made_pair parts = call.New no_token

abbrev pub made_make : List Part → Call
made_make (PToken _ ∷ PGoType kind ∷ PToken _ ∷ PToken word ∷ parts) = call.Make word kind None
made_make parts = call.New no_token

abbrev pub made_make_length : List Part → Call
made_make_length (PToken _ ∷ PExpr length ∷ PToken _ ∷ PGoType kind ∷ PToken _ ∷ PToken word ∷ parts) = call.Make word kind (Some length)
made_make_length parts = call.New no_token

abbrev pub made_new : List Part → Call
made_new (PToken _ ∷ PToken _ ∷ PToken _ ∷ PToken _ ∷ PToken _ ∷ PToken word ∷ parts) = call.New word
made_new parts = call.New no_token

abbrev pub made_no_keyed : List Part → List KeyedExpr
made_no_keyed parts = []

abbrev pub made_keyed : List Part → List KeyedExpr
made_keyed (PExpr value ∷ PToken _ ∷ PToken key ∷ PKeyed fields ∷ parts) = fields ++ (record { key = key; value = value }) ∷ []
made_keyed parts = []

abbrev pub made_past_keyed : List Part → List KeyedExpr
made_past_keyed (PToken _ ∷ PKeyed fields ∷ parts) = fields
made_past_keyed parts = []

abbrev pub made_literal : List Part → Call
made_literal (PToken _ ∷ PKeyed fields ∷ PToken _ ∷ PToken name ∷ PToken start ∷ parts) = call.Literal start name fields
made_literal parts = call.New no_token

abbrev pub made_value : List Part → Right
made_value (PExpr value ∷ parts) = right.Value value
made_value parts = right.Value (expr.Constant no_token)

abbrev pub made_result : List Part → Right
made_result (PCall result ∷ parts) = right.Result result
made_result parts = right.Value (expr.Constant no_token)

abbrev pub made_left : List Part → List Expr
made_left (PExpr left ∷ parts) = left ∷ []
made_left parts = []

abbrev pub made_assign : List Part → Simple
made_assign (PRight right ∷ PToken sign ∷ PExprs lefts ∷ parts) = simple.Assign lefts sign right
made_assign parts = simple.Call (call.New no_token)

abbrev pub made_count : List Part → Simple
made_count (PToken sign ∷ PExpr name ∷ parts) = simple.Count name sign
made_count parts = simple.Call (call.New no_token)

abbrev pub made_update : List Part → Simple
made_update (PExpr value ∷ PToken sign ∷ PExpr name ∷ parts) = simple.Update name sign value
made_update parts = simple.Call (call.New no_token)

abbrev pub made_do : List Part → Simple
made_do (PCall done ∷ parts) = simple.Call done
made_do parts = simple.Call (call.New no_token)

abbrev pub made_no_part : List Part → Option Simple
made_no_part parts = None

abbrev pub made_part : List Part → Option Simple
made_part (PSimple simple ∷ parts) = Some simple
made_part parts = None

abbrev pub made_no_stmts : List Part → List Stmt
made_no_stmts parts = []

abbrev pub made_stmt : List Part → List Stmt
made_stmt (PStmt stmt ∷ PStmts stmts ∷ parts) = stmts ++ stmt ∷ []
made_stmt parts = []

abbrev pub made_empty : List Part → List Stmt
made_empty (PToken _ ∷ PStmts stmts ∷ parts) = stmts ++ stmt.Empty ∷ []
made_empty parts = []

abbrev pub made_past_stmts : List Part → List Stmt
made_past_stmts (PToken _ ∷ PStmts stmts ∷ parts) = stmts
made_past_stmts parts = []

abbrev pub made_block : List Part → Block
made_block (PToken end ∷ PStmts statements ∷ PToken start ∷ parts) = record { start = start; statements = statements; end = end }
made_block parts = record { start = no_token; statements = []; end = no_token }

abbrev pub made_simple : List Part → Stmt
made_simple (PSimple simple ∷ parts) = stmt.Simple simple
made_simple parts = stmt.Empty

abbrev pub made_var : List Part → Stmt
made_var (PGoType kind ∷ PToken name ∷ PToken word ∷ parts) = stmt.Var word name kind None
made_var parts = stmt.Empty

abbrev pub made_var_value : List Part → Stmt
made_var_value (PRight value ∷ PToken _ ∷ PGoType kind ∷ PToken name ∷ PToken word ∷ parts) = stmt.Var word name kind (Some value)
made_var_value parts = stmt.Empty

abbrev pub made_if : List Part → Stmt
made_if (PBlock body ∷ PExpr condition ∷ PToken word ∷ parts) = stmt.If word condition body None
made_if parts = stmt.Empty

abbrev pub made_if_else : List Part → Stmt
made_if_else (PStmt other ∷ PToken _ ∷ PBlock body ∷ PExpr condition ∷ PToken word ∷ parts) = stmt.If word condition body (Some other)
made_if_else parts = stmt.Empty

abbrev pub made_nested : List Part → Stmt
made_nested (PBlock block ∷ parts) = stmt.Block block
made_nested parts = stmt.Empty

abbrev pub made_jump : List Part → Stmt
made_jump (PToken word ∷ parts) = stmt.Jump word
made_jump parts = stmt.Empty

abbrev pub made_forever : List Part → Stmt
made_forever (PBlock body ∷ PToken word ∷ parts) = stmt.For word (record { first = None; condition = None; post = None }) body
made_forever parts = stmt.Empty

abbrev pub made_while : List Part → Stmt
made_while (PBlock body ∷ PExpr condition ∷ PToken word ∷ parts) = stmt.For word (record { first = None; condition = Some condition; post = None }) body
made_while parts = stmt.Empty

abbrev pub made_for : List Part → Stmt
made_for (PBlock body ∷ PPart post ∷ PToken _ ∷ PBound condition ∷ PToken _ ∷ PPart first ∷ PToken word ∷ parts) = stmt.For word (record { first = first; condition = condition; post = post }) body
made_for parts = stmt.Empty

abbrev pub made_no_rights : List Part → List Right
made_no_rights parts = []

abbrev pub made_right : List Part → List Right
made_right (PRight last ∷ PRights rights ∷ parts) = rights ++ last ∷ []
made_right parts = []

abbrev pub made_past_rights : List Part → List Right
made_past_rights (PToken _ ∷ PRights rights ∷ parts) = rights
made_past_rights parts = []

abbrev pub made_return : List Part → Stmt
made_return (PRights rights ∷ PToken word ∷ parts) = stmt.Return word rights
made_return parts = stmt.Empty

abbrev pub made_go : List Part → Stmt
made_go (PToken _ ∷ PToken _ ∷ PBlock body ∷ PToken _ ∷ PToken _ ∷ PToken _ ∷ PToken word ∷ parts) = stmt.Go word body
made_go parts = stmt.Empty

abbrev pub made_named : List Part → Pointed
made_named (PToken name ∷ parts) = pointed.Named name
made_named parts = pointed.Named no_token

abbrev pub made_mutex : List Part → Pointed
made_mutex (PToken _ ∷ PToken _ ∷ PToken word ∷ parts) = pointed.Mutex word
made_mutex parts = pointed.Named no_token

abbrev pub made_word_type : List Part → GoType
made_word_type (PToken word ∷ parts) = go_type.Word word
made_word_type parts = go_type.Word no_token

abbrev pub made_slice_type : List Part → GoType
made_slice_type (PToken word ∷ PToken _ ∷ PToken start ∷ parts) = go_type.Slice start word
made_slice_type parts = go_type.Word no_token

abbrev pub made_pointers_type : List Part → GoType
made_pointers_type (PPointed to ∷ PToken _ ∷ PToken _ ∷ PToken start ∷ parts) = go_type.Pointers start to
made_pointers_type parts = go_type.Word no_token

abbrev pub made_map_type : List Part → GoType
made_map_type (PToken _ ∷ PToken _ ∷ PToken _ ∷ PToken _ ∷ PToken word ∷ parts) = go_type.Map word
made_map_type parts = go_type.Word no_token

abbrev pub made_pointer_type : List Part → GoType
made_pointer_type (PPointed to ∷ PToken star ∷ parts) = go_type.Pointer star to
made_pointer_type parts = go_type.Word no_token

abbrev pub made_block_type : List Part → GoType
made_block_type (PToken _ ∷ PToken _ ∷ PToken word ∷ parts) = go_type.Block word
made_block_type parts = go_type.Word no_token

abbrev pub made_no_groups : List Part → List Group
made_no_groups parts = []

abbrev pub made_group : List Part → List Group
made_group (PGoType kind ∷ PNames names ∷ PGroups groups ∷ parts) = groups ++ (record { names = names; kind = kind }) ∷ []
made_group parts = []

abbrev pub made_past_groups : List Part → List Group
made_past_groups (PToken _ ∷ PGroups groups ∷ parts) = groups
made_past_groups parts = []

abbrev pub made_no_types : List Part → List GoType
made_no_types parts = []

abbrev pub made_type : List Part → List GoType
made_type (PGoType kind ∷ PTypes types ∷ parts) = types ++ kind ∷ []
made_type parts = []

abbrev pub made_past_types : List Part → List GoType
made_past_types (PToken _ ∷ PTypes types ∷ parts) = types
made_past_types parts = []

abbrev pub made_no_receiver : List Part → Option Receiver
made_no_receiver parts = None

abbrev pub made_receiver : List Part → Option Receiver
made_receiver (PToken _ ∷ PToken of ∷ PToken _ ∷ PToken name ∷ PToken _ ∷ parts) = Some (record { name = name; of = of })
made_receiver parts = None

abbrev pub made_struct : List Part → Decl
made_struct (PToken _ ∷ PGroups fields ∷ PToken _ ∷ PToken _ ∷ PToken name ∷ PToken _ ∷ parts) = decl.Struct name fields
made_struct parts = decl.Struct no_token []

abbrev pub made_const : List Part → Decl
made_const (PExpr value ∷ PToken _ ∷ PToken name ∷ PToken _ ∷ parts) = decl.Const name None value
made_const parts = decl.Struct no_token []

abbrev pub made_typed_const : List Part → Decl
made_typed_const (PExpr value ∷ PToken _ ∷ PToken kind ∷ PToken name ∷ PToken _ ∷ parts) = decl.Const name (Some kind) value
made_typed_const parts = decl.Struct no_token []

abbrev pub made_func : List Part → Decl
made_func (PBlock body ∷ PTypes results ∷ PToken _ ∷ PGroups params ∷ PToken _ ∷ PToken name ∷ PReceiver receiver ∷ PToken _ ∷ parts) = decl.Func (record { receiver = receiver; name = name; params = params; results = results; body = body })
made_func parts = decl.Struct no_token []

abbrev pub made_no_imports : List Part → List (List Lexeme)
made_no_imports parts = []

abbrev pub made_import : List Part → List (List Lexeme)
made_import (PToken _ ∷ PNames texts ∷ PToken _ ∷ PImports imports ∷ parts) = imports ++ texts ∷ []
made_import parts = []

abbrev pub made_no_decls : List Part → List Decl
made_no_decls parts = []

abbrev pub made_decl : List Part → List Decl
made_decl (PToken _ ∷ PDecl decl ∷ PDecls decls ∷ parts) = decls ++ decl ∷ []
made_decl parts = []

abbrev pub made_file : List Part → File
made_file (PDecls decls ∷ PImports imports ∷ PToken _ ∷ PToken name ∷ PToken _ ∷ parts) = record { name = name; imports = imports; decls = decls }
made_file parts = record { name = no_token; imports = []; decls = [] }

-- the acts, from the first number behind the marks on
abbrev pub gosyntax_makings : List (Making Part)
gosyntax_makings =
    record { takes = []; makes = λ parts. PNames (made_no_names parts) }
    ∷ record { takes = is_token ∷ is_names ∷ []; makes = λ parts. PNames (made_name parts) }
    ∷ record { takes = is_token ∷ is_names ∷ []; makes = λ parts. PNames (made_past_names parts) }
    ∷ record { takes = is_token ∷ is_names ∷ is_token ∷ []; makes = λ parts. PNames (made_in_parens parts) }
    ∷ record { takes = is_token ∷ []; makes = λ parts. PExpr (made_constant parts) }
    ∷ record { takes = is_token ∷ []; makes = λ parts. PExpr (made_operand parts) }
    ∷ record { takes = is_token ∷ is_expr ∷ is_token ∷ []; makes = λ parts. PExpr (made_paren parts) }
    ∷ record { takes = is_token ∷ is_expr ∷ is_token ∷ is_token ∷ []; makes = λ parts. PExpr (made_convert parts) }
    ∷ record { takes = is_token ∷ is_token ∷ is_expr ∷ []; makes = λ parts. PExpr (made_select parts) }
    ∷ record { takes = is_token ∷ is_expr ∷ is_token ∷ is_expr ∷ []; makes = λ parts. PExpr (made_index parts) }
    ∷ record { takes = is_token ∷ is_bound ∷ is_token ∷ is_token ∷ is_expr ∷ []; makes = λ parts. PExpr (made_slice_to parts) }
    ∷ record { takes = is_token ∷ is_bound ∷ is_token ∷ is_expr ∷ is_token ∷ is_expr ∷ []; makes = λ parts. PExpr (made_slice_from parts) }
    ∷ record { takes = is_expr ∷ is_token ∷ []; makes = λ parts. PExpr (made_unary parts) }
    ∷ record { takes = is_expr ∷ is_token ∷ is_expr ∷ []; makes = λ parts. PExpr (made_binary parts) }
    ∷ record { takes = []; makes = λ parts. PBound (made_no_bound parts) }
    ∷ record { takes = is_expr ∷ []; makes = λ parts. PBound (made_bound parts) }
    ∷ record { takes = []; makes = λ parts. PExprs (made_no_exprs parts) }
    ∷ record { takes = is_expr ∷ is_exprs ∷ []; makes = λ parts. PExprs (made_expr parts) }
    ∷ record { takes = is_token ∷ is_exprs ∷ []; makes = λ parts. PExprs (made_past_exprs parts) }
    ∷ record { takes = is_token ∷ is_exprs ∷ is_token ∷ is_expr ∷ []; makes = λ parts. PCall (made_call parts) }
    ∷ record { takes = is_token ∷ is_expr ∷ is_token ∷ is_expr ∷ is_token ∷ is_token ∷ []; makes = λ parts. PCall (made_pair parts) }
    ∷ record { takes = is_token ∷ is_go_type ∷ is_token ∷ is_token ∷ []; makes = λ parts. PCall (made_make parts) }
    ∷ record { takes = is_token ∷ is_expr ∷ is_token ∷ is_go_type ∷ is_token ∷ is_token ∷ []; makes = λ parts. PCall (made_make_length parts) }
    ∷ record { takes = is_token ∷ is_token ∷ is_token ∷ is_token ∷ is_token ∷ is_token ∷ []; makes = λ parts. PCall (made_new parts) }
    ∷ record { takes = []; makes = λ parts. PKeyed (made_no_keyed parts) }
    ∷ record { takes = is_expr ∷ is_token ∷ is_token ∷ is_keyed ∷ []; makes = λ parts. PKeyed (made_keyed parts) }
    ∷ record { takes = is_token ∷ is_keyed ∷ []; makes = λ parts. PKeyed (made_past_keyed parts) }
    ∷ record { takes = is_token ∷ is_keyed ∷ is_token ∷ is_token ∷ is_token ∷ []; makes = λ parts. PCall (made_literal parts) }
    ∷ record { takes = is_expr ∷ []; makes = λ parts. PRight (made_value parts) }
    ∷ record { takes = is_call ∷ []; makes = λ parts. PRight (made_result parts) }
    ∷ record { takes = is_expr ∷ []; makes = λ parts. PExprs (made_left parts) }
    ∷ record { takes = is_right ∷ is_token ∷ is_exprs ∷ []; makes = λ parts. PSimple (made_assign parts) }
    ∷ record { takes = is_token ∷ is_expr ∷ []; makes = λ parts. PSimple (made_count parts) }
    ∷ record { takes = is_expr ∷ is_token ∷ is_expr ∷ []; makes = λ parts. PSimple (made_update parts) }
    ∷ record { takes = is_call ∷ []; makes = λ parts. PSimple (made_do parts) }
    ∷ record { takes = []; makes = λ parts. PPart (made_no_part parts) }
    ∷ record { takes = is_simple ∷ []; makes = λ parts. PPart (made_part parts) }
    ∷ record { takes = []; makes = λ parts. PStmts (made_no_stmts parts) }
    ∷ record { takes = is_stmt ∷ is_stmts ∷ []; makes = λ parts. PStmts (made_stmt parts) }
    ∷ record { takes = is_token ∷ is_stmts ∷ []; makes = λ parts. PStmts (made_empty parts) }
    ∷ record { takes = is_token ∷ is_stmts ∷ []; makes = λ parts. PStmts (made_past_stmts parts) }
    ∷ record { takes = is_token ∷ is_stmts ∷ is_token ∷ []; makes = λ parts. PBlock (made_block parts) }
    ∷ record { takes = is_simple ∷ []; makes = λ parts. PStmt (made_simple parts) }
    ∷ record { takes = is_go_type ∷ is_token ∷ is_token ∷ []; makes = λ parts. PStmt (made_var parts) }
    ∷ record { takes = is_right ∷ is_token ∷ is_go_type ∷ is_token ∷ is_token ∷ []; makes = λ parts. PStmt (made_var_value parts) }
    ∷ record { takes = is_block ∷ is_expr ∷ is_token ∷ []; makes = λ parts. PStmt (made_if parts) }
    ∷ record { takes = is_stmt ∷ is_token ∷ is_block ∷ is_expr ∷ is_token ∷ []; makes = λ parts. PStmt (made_if_else parts) }
    ∷ record { takes = is_block ∷ []; makes = λ parts. PStmt (made_nested parts) }
    ∷ record { takes = is_token ∷ []; makes = λ parts. PStmt (made_jump parts) }
    ∷ record { takes = is_block ∷ is_token ∷ []; makes = λ parts. PStmt (made_forever parts) }
    ∷ record { takes = is_block ∷ is_expr ∷ is_token ∷ []; makes = λ parts. PStmt (made_while parts) }
    ∷ record { takes = is_block ∷ is_part ∷ is_token ∷ is_bound ∷ is_token ∷ is_part ∷ is_token ∷ []; makes = λ parts. PStmt (made_for parts) }
    ∷ record { takes = []; makes = λ parts. PRights (made_no_rights parts) }
    ∷ record { takes = is_right ∷ is_rights ∷ []; makes = λ parts. PRights (made_right parts) }
    ∷ record { takes = is_token ∷ is_rights ∷ []; makes = λ parts. PRights (made_past_rights parts) }
    ∷ record { takes = is_rights ∷ is_token ∷ []; makes = λ parts. PStmt (made_return parts) }
    ∷ record { takes = is_token ∷ is_token ∷ is_block ∷ is_token ∷ is_token ∷ is_token ∷ is_token ∷ []; makes = λ parts. PStmt (made_go parts) }
    ∷ record { takes = is_token ∷ []; makes = λ parts. PPointed (made_named parts) }
    ∷ record { takes = is_token ∷ is_token ∷ is_token ∷ []; makes = λ parts. PPointed (made_mutex parts) }
    ∷ record { takes = is_token ∷ []; makes = λ parts. PGoType (made_word_type parts) }
    ∷ record { takes = is_token ∷ is_token ∷ is_token ∷ []; makes = λ parts. PGoType (made_slice_type parts) }
    ∷ record { takes = is_pointed ∷ is_token ∷ is_token ∷ is_token ∷ []; makes = λ parts. PGoType (made_pointers_type parts) }
    ∷ record { takes = is_token ∷ is_token ∷ is_token ∷ is_token ∷ is_token ∷ []; makes = λ parts. PGoType (made_map_type parts) }
    ∷ record { takes = is_pointed ∷ is_token ∷ []; makes = λ parts. PGoType (made_pointer_type parts) }
    ∷ record { takes = is_token ∷ is_token ∷ is_token ∷ []; makes = λ parts. PGoType (made_block_type parts) }
    ∷ record { takes = []; makes = λ parts. PGroups (made_no_groups parts) }
    ∷ record { takes = is_go_type ∷ is_names ∷ is_groups ∷ []; makes = λ parts. PGroups (made_group parts) }
    ∷ record { takes = is_token ∷ is_groups ∷ []; makes = λ parts. PGroups (made_past_groups parts) }
    ∷ record { takes = []; makes = λ parts. PTypes (made_no_types parts) }
    ∷ record { takes = is_go_type ∷ is_types ∷ []; makes = λ parts. PTypes (made_type parts) }
    ∷ record { takes = is_token ∷ is_types ∷ []; makes = λ parts. PTypes (made_past_types parts) }
    ∷ record { takes = []; makes = λ parts. PReceiver (made_no_receiver parts) }
    ∷ record { takes = is_token ∷ is_token ∷ is_token ∷ is_token ∷ is_token ∷ []; makes = λ parts. PReceiver (made_receiver parts) }
    ∷ record { takes = is_token ∷ is_groups ∷ is_token ∷ is_token ∷ is_token ∷ is_token ∷ []; makes = λ parts. PDecl (made_struct parts) }
    ∷ record { takes = is_expr ∷ is_token ∷ is_token ∷ is_token ∷ []; makes = λ parts. PDecl (made_const parts) }
    ∷ record { takes = is_expr ∷ is_token ∷ is_token ∷ is_token ∷ is_token ∷ []; makes = λ parts. PDecl (made_typed_const parts) }
    ∷ record { takes = is_block ∷ is_types ∷ is_token ∷ is_groups ∷ is_token ∷ is_token ∷ is_receiver ∷ is_token ∷ []; makes = λ parts. PDecl (made_func parts) }
    ∷ record { takes = []; makes = λ parts. PImports (made_no_imports parts) }
    ∷ record { takes = is_token ∷ is_names ∷ is_token ∷ is_imports ∷ []; makes = λ parts. PImports (made_import parts) }
    ∷ record { takes = []; makes = λ parts. PDecls (made_no_decls parts) }
    ∷ record { takes = is_token ∷ is_decl ∷ is_decls ∷ []; makes = λ parts. PDecls (made_decl parts) }
    ∷ record { takes = is_decls ∷ is_imports ∷ is_token ∷ is_token ∷ is_token ∷ []; makes = λ parts. PFile (made_file parts) }
    ∷ []

abbrev pub gosyntax_acts : List (Reduction Part)
gosyntax_acts = map reduction_of gosyntax_makings

-- the parts that steps leave of tokens
abbrev pub gosyntax_built : List Step → List Lexeme → Option (List Part)
gosyntax_built steps tokens = run PToken (act_of gosyntax_acts) steps tokens []
