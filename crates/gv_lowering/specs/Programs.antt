-- The program of a package: its structs, a procedure for each function and each literal behind `go`, and their locals.
use Rattle.std.specs.Prelude.{ℕ, suc, ◌+◌, ◌-◌, ◌*◌, ◌/◌, ◌%◌, Bool, true, false, ◌&&◌, ◌==◌, not, nat_lt, if◌then◌else◌, is_none, List, [], ◌∷◌, ◌++◌, map, length, Option, Some, None, codes, slice_get}
use Rattle.std.specs.Fmt.{decimal}
use Rattle.std.specs.Str.{bytes_eq}
use Rattle.gv_lang.specs.declared.program.LocalKind.{LocalKind}
use Rattle.gv_lang.specs.declared.program.LocalKind.TheVariants as kind
use Rattle.gv_lang.specs.declared.program.Local.{Local as LocalName}
use Rattle.gv_lang.specs.declared.program.Struct.{Struct as StructName}
use Rattle.gv_lang.specs.Tree as lang
use Rattle.gv_lang.specs.Graph.{sets}
use Rattle.gv_gosyntax.specs.declared.lexeme.Lexeme.{Lexeme}
use Rattle.gv_gosyntax.specs.declared.tree.Group.{Group}
use Rattle.gv_gosyntax.specs.declared.tree.Receiver.{Receiver}
use Rattle.gv_operands.specs.declared.types.GoType.{GoType}
use Rattle.gv_gotypes.specs.Trees as go
use Rattle.gv_gotypes.specs.Trees.{FuncTree, File}
use Rattle.gv_gotypes.specs.declared.names.Entity.{Entity}
use Rattle.gv_gotypes.specs.declared.names.Entity.TheVariants.{ProcedureOf, Variable}
use Rattle.gv_gotypes.specs.Scopes.{Source, Env, Entry, Declared, Opened, Literal, FieldType, StructType, name_in, is_blank, entity_named, opened, in_literal}
use Rattle.gv_gotypes.specs.Kinds.{kind_of as type_of}
use Rattle.gv_gotypes.specs.Statements.{header_env}
use Rattle.gv_gotypes.specs.Statements.{after as env_after}
use Rattle.gv_gotypes.specs.Functions.{receiver_kind, body_env}
use Rattle.gv_gotypes.specs.Declarations.{is_number, struct_of_method}
use Rattle.gv_gotypes.specs.Literals.{is_exported}
use Rattle.gv_gotypes.specs.Operations.{Recover, Absent, Wrong, Makes, recover_in}
use Rattle.gv_gotypes.specs.Files.{file_env}
use Rattle.gv_lowering.specs.Operands.{Local, VariableAt, Temporary, Context, kind_if, block_of}
use Rattle.gv_lowering.specs.Statements.{Made}
use Rattle.gv_lowering.specs.Statements.{Declared as Variables}
use Rattle.gv_lowering.specs.Bodies.{captured, body}

-- ---- procedures as they stand in the text

-- A function or a literal: its name, where its `go` stands, the scope of its body, its parameters, its results and its body.
pub record Part : Type 0 where
  pub name : List ℕ
  pub word : Option ℕ
  pub env : Env
  pub params : List Variables
  pub results : List (Option GoType)
  pub block : go.Block

abbrev pub dotted : List ℕ → List ℕ → List ℕ
dotted name rest = name ++ (codes "." ++ rest)

-- the type of a variable, by where its name is declared
abbrev pub type_at : List Entry → ℕ → Option GoType
type_at [] b = None
type_at (Declared n ∷ es) b = elim n.entity as (λ _. Option GoType → Option GoType) [
  | Variable d k ↦ λ rest. if d == b then k else rest
  | other ↦ λ rest. rest
] (type_at es b)
type_at (Opened ∷ es) b = type_at es b
type_at (Literal ∷ es) b = type_at es b

-- the variables that a literal captures, in order of first use, are its parameters
abbrev pub literal_part : List ℕ → Env → Lexeme → go.Block → Part
literal_part name env w b = record {
  name = name;
  word = Some w.start;
  env = in_literal env;
  params = map (λ d. (d, type_at env.entries d)) (captured env b);
  results = [];
  block = b;
}

-- how many literals stand in a statement, those within them aside
abbrev mutual
  pub literals : go.Stmt → ℕ
  literals (go.Go w b) = 1
  literals (go.If w e b o) = block_literals b + else_literals o
  literals (go.Nested b) = block_literals b
  literals (go.For w h b) = block_literals b
  literals go.Empty = 0
  literals (go.Simple s) = 0
  literals (go.Var w t k r) = 0
  literals (go.Jump w) = 0
  literals (go.Return w rs) = 0

  pub block_literals : go.Block → ℕ
  block_literals (go.braces o ss e) = stmts_literals ss

  pub stmts_literals : go.Stmts → ℕ
  stmts_literals go.no_more = 0
  stmts_literals (go.next s ss) = literals s + stmts_literals ss

  pub else_literals : go.Else → ℕ
  else_literals go.no_branch = 0
  else_literals (go.branch s) = literals s

-- The literals of a procedure, numbered behind its name, each before those within it; k of them stand before.
abbrev mutual
  pub stmt_parts : go.Stmt → Env → List ℕ → ℕ → List Part
  stmt_parts (go.Go w b) env name k =
      literal_part (dotted name (decimal (k + 1))) env w b ∷ block_parts b (in_literal env) (dotted name (decimal (k + 1))) 0
  stmt_parts (go.If w e b o) env name k = block_parts b (opened env) name k ++ else_parts o env name (k + block_literals b)
  stmt_parts (go.Nested b) env name k = block_parts b (opened env) name k
  stmt_parts (go.For w h b) env name k = block_parts b (opened (header_env env h)) name k
  stmt_parts go.Empty env name k = []
  stmt_parts (go.Simple s) env name k = []
  stmt_parts (go.Var w t v r) env name k = []
  stmt_parts (go.Jump w) env name k = []
  stmt_parts (go.Return w rs) env name k = []

  pub block_parts : go.Block → Env → List ℕ → ℕ → List Part
  block_parts (go.braces o ss e) env name k = stmts_parts ss env name k

  pub stmts_parts : go.Stmts → Env → List ℕ → ℕ → List Part
  stmts_parts go.no_more env name k = []
  stmts_parts (go.next s ss) env name k = stmt_parts s env name k ++ stmts_parts ss (env_after env s) name (k + literals s)

  pub else_parts : go.Else → Env → List ℕ → ℕ → List Part
  else_parts go.no_branch env name k = []
  else_parts (go.branch s) env name k = stmt_parts s env name k

-- a receiver is the first parameter
abbrev pub receiver_params : Env → Option Receiver → List Variables
receiver_params out None = []
receiver_params out (Some r) = (r.name.start, receiver_kind out r) ∷ []

abbrev pub group_params : List Lexeme → Option GoType → List Variables
group_params is k = map (λ i. (i.start, k)) is

abbrev pub params_of : Env → List Group → List Variables
params_of out [] = []
params_of out (g ∷ gs) = group_params g.names (type_of out g.kind) ++ params_of out gs

-- `f` and `T.m`
abbrev pub func_name : Env → FuncTree → List ℕ
func_name out f = elim f.receiver as (λ _. List ℕ) [
  | None ↦ name_in out.source f.name
  | Some r ↦ dotted (name_in out.source r.of) (name_in out.source f.name)
]

abbrev pub func_part : Env → FuncTree → Part
func_part out f = record {
  name = func_name out f;
  word = None;
  env = body_env out f;
  params = receiver_params out f.receiver ++ params_of out f.params;
  results = (body_env out f).results;
  block = f.body;
}

-- each function, then the literals in it
abbrev pub parts : Env → List go.Decl → List Part
parts out [] = []
parts out (go.Func f ∷ ds) = func_part out f ∷ (block_parts f.body (body_env out f) (func_name out f) 0 ++ parts out ds)
parts out (d ∷ ds) = parts out ds

-- ---- places of procedures

-- declared procedure f among functions and literals
abbrev pub function_place : List Part → (f at : ℕ) → ℕ
function_place [] f at = at
function_place (p ∷ ps) f at = if is_none p.word then (if f == 0 then at else function_place ps (f - 1) (at + 1)) else function_place ps f (at + 1)

abbrev pub literal_place : List Part → (word at : ℕ) → ℕ
literal_place [] word at = at
literal_place (p ∷ ps) word at = if is_number word p.word then at else literal_place ps word (at + 1)

-- ---- locals

-- A local as one number, of which it can be told again: variables are odd, and temporaries even.
abbrev pub code : Local → ℕ
code (VariableAt b) = 2 * b + 1
code (Temporary k) = 2 * k

abbrev mutual
  -- the locals that commands set, in order of the text
  pub sets_of : lang.Block → List ℕ
  sets_of lang.finish = []
  sets_of (lang.next c b) = command_sets c ++ sets_of b

  pub command_sets : lang.Cmd → List ℕ
  command_sets (lang.Do a place) = sets a
  command_sets (lang.If e t f place) = sets_of t ++ sets_of f
  command_sets (lang.Loop b place) = sets_of b
  command_sets (lang.Break place) = []
  command_sets (lang.Continue place) = []
  command_sets (lang.Return es place) = []

abbrev pub has : List ℕ → ℕ → Bool
has [] x = false
has (y ∷ ys) x = if y == x then true else has ys x

-- each once, where it stands first
abbrev pub once_each : List ℕ → List ℕ → List ℕ
once_each before [] = []
once_each before (x ∷ xs) = if has before x then once_each before xs else x ∷ once_each (x ∷ before) xs

abbrev pub place_in : List ℕ → ℕ → ℕ
place_in [] x = 0
place_in (y ∷ ys) x = if y == x then 0 else suc (place_in ys x)

abbrev pub param_codes : Part → List ℕ
param_codes p = map (λ v. code (VariableAt v.0)) p.params

abbrev pub made_of : Context → Part → Made
made_of c p = body c p.env (length p.results == 0) p.block

abbrev pub by_codes : Context
by_codes = record { place = code; procedure = λ f. 0; literal = λ w. 0 }

-- a procedure's locals: its parameters, then each other one in the order in which they are first set
abbrev pub order_of : Part → List ℕ
order_of p = once_each [] (param_codes p ++ sets_of (block_of (made_of by_codes p).cmds))

abbrev pub context_of : List Part → Part → Context
context_of ps p = record {
  place = λ l. place_in (order_of p) (code l);
  procedure = λ f. function_place ps f 0;
  literal = λ w. literal_place ps w 0;
}

-- ---- names and kinds of locals

-- the name that is declared at a byte
abbrev pub spelled : List ℕ → List Lexeme → ℕ → Source → List ℕ
spelled none [] b s = none
spelled none (t ∷ ts) b s = if t.start == b then name_in s t else spelled none ts b s

abbrev pub name_at : Source → ℕ → List ℕ
name_at s b = spelled [] s.tokens b s

-- whether a local is a variable of this name that is declared no later
abbrev pub is_before : Source → List ℕ → ℕ → ℕ → Bool
is_before s name b x = x % 2 == 1 && not (nat_lt b (x / 2)) && bytes_eq (name_at s (x / 2)) name

abbrev pub count_of : (ℕ → Bool) → List ℕ → ℕ
count_of f [] = 0
count_of f (x ∷ xs) = if f x then count_of f xs + 1 else count_of f xs

-- a name that is declared again gets a number
abbrev pub numbered : List ℕ → ℕ → List ℕ
numbered name k = if k == 1 then name else dotted name (decimal k)

abbrev pub variable_name : Source → List ℕ → ℕ → List ℕ
variable_name s order b = numbered (name_at s b) (count_of (is_before s (name_at s b) b) order)

-- temporaries pass over the names that variables t have got
abbrev pub temporary_name : Source → List ℕ → ℕ → List ℕ
temporary_name s order k = let taken = count_of (is_before s (codes "t") (length s.text)) order in
    dotted (codes "t") (decimal (if k == 1 then 1 else k + (taken - 1)))

-- a parameter `_` has its place for a name, the receiver counted
abbrev pub param_name : List ℕ → ℕ → List ℕ
param_name name place = if is_blank name then dotted name (decimal (place + 1)) else name

abbrev pub local_name : Source → List ℕ → ℕ → ℕ → List ℕ
local_name s order place x =
    if x % 2 == 0 then temporary_name s order (x / 2) else (
    if is_blank (name_at s (x / 2)) then param_name (name_at s (x / 2)) place else variable_name s order (x / 2))

abbrev pub type_among : List Variables → ℕ → Option GoType
type_among [] b = None
type_among (v ∷ vs) b = if v.0 == b then v.1 else type_among vs b

abbrev pub temp_kind : List LocalKind → ℕ → LocalKind
temp_kind ks k = elim (slice_get ks (k - 1)) as (λ _. LocalKind) [ None ↦ kind.Word | Some j ↦ j ]

abbrev pub local_kind : List Variables → List LocalKind → ℕ → LocalKind
local_kind vs temps x = if x % 2 == 0 then temp_kind temps (x / 2) else kind_if (type_among vs (x / 2))

abbrev pub locals_from : Part → Made → List ℕ → ℕ → List ℕ → List LocalName
locals_from p m order place [] = []
locals_from p m order place (x ∷ xs) =
    record { name = local_name p.env.source order place x; kind = local_kind (p.params ++ m.declared) m.temps x }
    ∷ locals_from p m order (place + 1) xs

-- ---- the whole

abbrev pub procedure_of : List Part → Part → lang.Proc
procedure_of ps p = let m = made_of (context_of ps p) p in record {
  name = p.name;
  params = length p.params;
  locals = locals_from p m (order_of p) 0 (order_of p);
  results = map kind_if p.results;
  body = block_of m.cmds;
}

abbrev pub field_name : FieldType → LocalName
field_name f = record { name = f.name; kind = kind_if f.kind }

abbrev pub struct_of : StructType → StructName
struct_of s = record { name = s.name; fields = map field_name s.fields }

-- the procedure that a name of the package stands for
abbrev pub named_procedure : List Part → Option Entity → ℕ
named_procedure ps (Some (ProcedureOf f)) = function_place ps f 0
named_procedure ps e = 0

-- the exported methods of the struct that `Recover` makes, f procedures standing before
abbrev pub operations_from : Env → List Part → ℕ → ℕ → List go.Decl → List ℕ
operations_from out ps n f [] = []
operations_from out ps n f (go.Func d ∷ ds) =
    if is_number n (struct_of_method out d) && is_exported (name_in out.source d.name)
    then function_place ps f 0 ∷ operations_from out ps n (f + 1) ds
    else operations_from out ps n (f + 1) ds
operations_from out ps n f (d ∷ ds) = operations_from out ps n f ds

abbrev pub operations : Env → List Part → Recover → List go.Decl → List ℕ
operations out ps (Makes n) ds = operations_from out ps n 0 ds
operations out ps Absent ds = []
operations out ps (Wrong i) ds = []

-- the program of a package: it fixes it
abbrev pub program_of : Source → File → lang.Program
program_of s f = let out = file_env s f in let ps = parts out f.decls in record {
  structs = map struct_of out.declared.structs;
  procs = map (procedure_of ps) ps;
  recover = named_procedure ps (entity_named out (codes "Recover"));
  ops = operations out ps (recover_in out f.decls) f.decls;
}
