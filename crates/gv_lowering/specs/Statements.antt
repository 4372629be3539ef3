-- What calls and statements become. The reads of a statement go from left to right, those of its left side before those of its right.
use Rattle.std.specs.Prelude.{ℕ, ◌+◌, ◌-◌, Bool, true, false, ◌&&◌, ◌==◌, if◌then◌else◌, List, [], ◌∷◌, ◌++◌, map, length, Option, Some, None, option_and_then, codes, slice_get}
use Rattle.std.specs.Str.{bytes_eq}
use Rattle.gv_base.specs.declared.answers.Place.{Place}
use Rattle.gv_base.specs.Places.{place_at}
use Rattle.gv_lang.specs.declared.program.ItemKind.{ItemKind}
use Rattle.gv_lang.specs.declared.program.ItemKind.TheVariants as item
use Rattle.gv_lang.specs.declared.program.LocalKind.{LocalKind}
use Rattle.gv_lang.specs.declared.program.LocalKind.TheVariants as kind
use Rattle.gv_lang.specs.Tree as lang
use Rattle.gv_gosyntax.specs.declared.generated.gosyntax_table.TheConstants as class
use Rattle.gv_gosyntax.specs.declared.lexeme.Lexeme.{Lexeme}
use Rattle.gv_operands.specs.declared.types.Base.TheVariants.{Struct, Mutex}
use Rattle.gv_operands.specs.declared.types.GoType.{GoType}
use Rattle.gv_operands.specs.declared.types.GoType.TheVariants.{Word, Byte, Boolean, Bytes, Words, Pointers, Map, Pointer}
use Rattle.gv_operands.specs.declared.types.Class.{Class}
use Rattle.gv_operands.specs.declared.types.Class.TheVariants.{Run}
use Rattle.gv_operands.specs.Types.{item_of, own_type_of}
use Rattle.gv_gotypes.specs.declared.names.Library.{Library}
use Rattle.gv_gotypes.specs.declared.names.Library.TheVariants.{Sync, Disk, TwoDisk, Machine}
use Rattle.gv_gotypes.specs.declared.names.Entity.{Entity}
use Rattle.gv_gotypes.specs.declared.names.Entity.TheVariants.{StructOf, ProcedureOf, Variable}
use Rattle.gv_gotypes.specs.Trees as go
use Rattle.gv_gotypes.specs.Scopes.{Env, FieldType, name_in, is_blank, entity_named}
use Rattle.gv_gotypes.specs.Kinds.{struct_in}
use Rattle.gv_gotypes.specs.Kinds.{kind_of as type_of}
use Rattle.gv_gotypes.specs.Members.{Member, FieldOf, base_member, method_among}
use Rattle.gv_gotypes.specs.Expressions.{operand, library_of}
use Rattle.gv_gotypes.specs.Places.{start_of}
use Rattle.gv_gotypes.specs.Calls.{callee, answer, call_start, fields_of}
use Rattle.gv_gotypes.specs.Assigning.{is_new, given_types}
use Rattle.gv_gotypes.specs.Statements.{first_start}
use Rattle.gv_lowering.specs.Operands.{VariableAt, Context, kind_if, Last, Value, Reads, ReadsMap, Tail, Read, temporary, chosen, operated, tail, read}

-- where what begins at a byte of the text stands
abbrev pub at_byte : Env → ℕ → Place
at_byte env byte = place_at env.source.text byte

-- ---- what is made of a statement

-- a variable, by the byte where its name is declared, with its type
abbrev pub Declared : Type 0
Declared = ℕ × Option GoType

-- commands, the kinds of the temporaries that they use, in order of use, and the variables that are declared
pub record Made : Type 0 where
  pub cmds : List lang.Cmd
  pub temps : List LocalKind
  pub declared : List Declared

abbrev pub no_commands : Made
no_commands = record { cmds = []; temps = []; declared = [] }

abbrev pub made : List lang.Cmd → List LocalKind → Made
made cmds temps = record { cmds = cmds; temps = temps; declared = [] }

-- two, one after the other
abbrev pub followed : Made → Made → Made
followed m k = record { cmds = m.cmds ++ k.cmds; temps = m.temps ++ k.temps; declared = m.declared ++ k.declared }

-- one command behind reads
abbrev pub acting : Place → Read → lang.Action → Made
acting at r a = made (r.cmds ++ lang.Do a at ∷ []) r.temps

-- ---- targets

-- a left side that is a name: a local, or `_`, which is a temporary, of some kind
pub data Target : Type 0 where
  Known : ℕ → Target
  Fresh : LocalKind → Target

-- the locals, where n temporaries are in use, and the kinds of the temporaries among them
abbrev pub given : Context → ℕ → List Target → List ℕ × List LocalKind
given c n [] = ([], [])
given c n (Known x ∷ ts) = let rest = given c n ts in (x ∷ rest.0, rest.1)
given c n (Fresh k ∷ ts) = let rest = given c (n + 1) ts in (temporary c n ∷ rest.0, k ∷ rest.1)

abbrev pub local_in : Context → Option Entity → ℕ
local_in c (Some (Variable declared k)) = c.place (VariableAt declared)
local_in c e = 0

-- the local of a name on the left: of a new one its own
abbrev pub named_target : Context → Env → Bool → Lexeme → LocalKind → Target
named_target c env defines t k =
    if is_blank (name_in env.source t) then Fresh k else (
    if defines && is_new env (go.Name t) then Known (c.place (VariableAt t.start))
    else Known (local_in c (entity_named env (name_in env.source t))))

abbrev pub target_of : Context → Env → Bool → go.Expr → LocalKind → Target
target_of c env defines (go.Name t) k = named_target c env defines t k
target_of c env defines e k = Fresh k

-- left sides with the types that stand on the right
abbrev pub targets_of : Context → Env → Bool → List go.Expr → List (Option GoType) → List Target
targets_of c env defines (e ∷ es) (k ∷ ks) = target_of c env defines e (kind_if k) ∷ targets_of c env defines es ks
targets_of c env defines es ks = []

-- a temporary for each result
abbrev pub all_fresh : List (Option GoType) → List Target
all_fresh ks = map (λ k. Fresh (kind_if k)) ks

-- ---- a whole right side

abbrev pub first_of : List ℕ → ℕ
first_of [] = 0
first_of (x ∷ xs) = x

abbrev pub second_of : List ℕ → ℕ
second_of [] = 0
second_of (x ∷ xs) = first_of xs

-- it sets its targets itself; the second target of a read of a map is a temporary where the text names none
abbrev pub set_last : Context → Place → ℕ → List Target → Last → Made
set_last c at n ts (Value v) = let xs = given c n ts in made (lang.Do (lang.Let (first_of xs.0) v) at ∷ []) xs.1
set_last c at n ts (Reads k f) = let xs = given c n ts in made (lang.Do (f (first_of xs.0)) at ∷ []) xs.1
set_last c at n (t ∷ []) (ReadsMap m k) = let xs = given c n (t ∷ Fresh kind.Bool ∷ []) in
    made (lang.Do (lang.MapGet (first_of xs.0) (second_of xs.0) m k) at ∷ []) xs.1
set_last c at n ts (ReadsMap m k) = let xs = given c n ts in
    made (lang.Do (lang.MapGet (first_of xs.0) (second_of xs.0) m k) at ∷ []) xs.1

abbrev pub set : Context → Place → ℕ → List Target → Tail → Made
set c at n ts t = followed (made t.before t.temps) (set_last c at (n + length t.temps) ts t.last)

-- ---- arguments

pub record Args : Type 0 where
  pub cmds : List lang.Cmd
  pub temps : List LocalKind
  pub values : List lang.Expr

abbrev pub next_arg : Read → Args → Args
next_arg r rest = record { cmds = r.cmds ++ rest.cmds; temps = r.temps ++ rest.temps; values = r.value ∷ rest.values }

abbrev pub first_kind : List (Option GoType) → Option GoType
first_kind [] = None
first_kind (k ∷ ks) = k

abbrev pub other_kinds : List (Option GoType) → List (Option GoType)
other_kinds [] = []
other_kinds (k ∷ ks) = ks

-- each in a place of its type, from left to right
abbrev pub args : Context → Place → Env → ℕ → List (Option GoType) → List go.Expr → Args
args c at env n ks [] = record { cmds = []; temps = []; values = [] }
args c at env n ks (e ∷ es) = let r = read c at env e (first_kind ks) n in next_arg r (args c at env (n + length r.temps) (other_kinds ks) es)

abbrev pub arg_at : List lang.Expr → ℕ → lang.Expr
arg_at es i = elim (slice_get es i) as (λ _. lang.Expr) [ None ↦ lang.Nil | Some e ↦ e ]

-- ---- what is called

-- what a call does with arguments and targets
abbrev pub Doing : Type 0
Doing = List lang.Expr → List ℕ → lang.Action

abbrev pub is_named : List (List ℕ × Doing) → List ℕ → Doing → Doing
is_named [] name other = other
is_named (row ∷ rows) name other = if bytes_eq row.0 name then row.1 else is_named rows name other

abbrev pub nothing_done : Doing
nothing_done es xs = lang.Let (first_of xs) (lang.Number 0)

-- a barrier only sets a temporary to 0
abbrev pub library_call : Library → List ℕ → Doing
library_call Disk name = is_named (
    (codes "Read", λ es xs. lang.DiskRead (first_of xs) (arg_at es 0))
    ∷ (codes "Write", λ es xs. lang.DiskWrite (lang.Number 0) (arg_at es 0) (arg_at es 1))
    ∷ (codes "Size", λ es xs. lang.DiskSize (first_of xs)) ∷ []) name nothing_done
library_call TwoDisk name = is_named (
    (codes "Read", λ es xs. lang.DiskRead2 (first_of xs) (second_of xs) (arg_at es 0) (arg_at es 1))
    ∷ (codes "Write", λ es xs. lang.DiskWrite (arg_at es 0) (arg_at es 1) (arg_at es 2))
    ∷ (codes "Size", λ es xs. lang.DiskSize (first_of xs)) ∷ []) name nothing_done
library_call Machine name = is_named (
    (codes "UInt64Get", λ es xs. lang.Get64 (first_of xs) (arg_at es 0))
    ∷ (codes "UInt64Put", λ es xs. lang.Put64 (arg_at es 0) (arg_at es 1)) ∷ []) name nothing_done
library_call Sync name = nothing_done

abbrev pub is_barrier : Option Library → List ℕ → Bool
is_barrier (Some Disk) name = bytes_eq name (codes "Barrier")
is_barrier l name = false

abbrev pub mutex_call : List ℕ → Doing
mutex_call name es xs = if bytes_eq name (codes "Lock") then lang.Lock (arg_at es 0) else lang.Unlock (arg_at es 0)

abbrev pub procedure_call : Context → Option ℕ → Doing
procedure_call c None es xs = lang.Call xs 0 es
procedure_call c (Some f) es xs = lang.Call xs (c.procedure f) es

-- the number of a method among the declared procedures
abbrev pub method_number : Env → ℕ → List ℕ → Option ℕ
method_number env of name = option_and_then (λ s. method_among s.methods name) (slice_get env.declared.structs of)

-- of a method the receiver is the first argument
abbrev pub method_call : Context → Env → Option Class → List ℕ → Doing
method_call c env (Some (Run (Pointer (Struct of)))) name = procedure_call c (method_number env of name)
method_call c env (Some (Run (Pointer Mutex))) name = mutex_call name
method_call c env k name = nothing_done

abbrev pub procedure_in : Option Entity → Option ℕ
procedure_in (Some (ProcedureOf f)) = Some f
procedure_in e = None

-- what is called, and the operand that it is a method of
abbrev pub called : Context → Env → go.Expr → Doing
called c env (go.Name t) = procedure_call c (procedure_in (entity_named env (name_in env.source t)))
called c env (go.Select e t) = elim (library_of env e) as (λ _. Doing) [
  | Some l ↦ library_call l (name_in env.source t)
  | None ↦ method_call c env (operand env e).class (name_in env.source t)
]
called c env other = nothing_done

abbrev pub receiver_of : Env → go.Expr → List go.Expr
receiver_of env (go.Select e t) = elim (library_of env e) as (λ _. List go.Expr) [ Some l ↦ [] | None ↦ e ∷ [] ]
receiver_of env other = []

abbrev pub untyped_for : List go.Expr → List (Option GoType)
untyped_for es = map (λ e. None) es

abbrev pub params_of : Env → go.Expr → List (Option GoType)
params_of env f = elim (callee env f).signature as (λ _. List (Option GoType)) [ None ↦ [] | Some s ↦ s.params ]

-- what a whole call sets: its results, and a temporary for the barrier
abbrev pub barrier_or : Bool → List (Option GoType) → List (Option GoType)
barrier_or true ks = Some Word ∷ []
barrier_or false ks = ks

abbrev pub barrier_called : Env → go.Expr → Bool
barrier_called env (go.Select e t) = is_barrier (library_of env e) (name_in env.source t)
barrier_called env other = false

-- ---- `delete`, `append`, `make`, `new` and literals

abbrev pub item_kind : Option GoType → ItemKind
item_kind (Some Byte) = item.Byte
item_kind (Some Word) = item.Word
item_kind k = item.Ref

abbrev pub is_map : Option GoType → Bool
is_map (Some Map) = true
is_map k = false

abbrev pub zero_of : Option GoType → lang.Expr
zero_of (Some Word) = lang.Number 0
zero_of (Some Byte) = lang.Number 0
zero_of (Some Boolean) = lang.Truth false
zero_of (Some Bytes) = lang.NilSlice
zero_of (Some Words) = lang.NilSlice
zero_of (Some (Pointers b)) = lang.NilSlice
zero_of (Some Map) = lang.Nil
zero_of (Some (Pointer b)) = lang.Nil
zero_of None = lang.Nil

abbrev pub values_of_keys : List go.KeyedExpr → List go.Expr
values_of_keys ks = map (λ k. k.value) ks

abbrev pub field_type : List FieldType → List ℕ → Option GoType
field_type [] name = None
field_type (f ∷ fs) name = if bytes_eq f.name name then f.kind else field_type fs name

abbrev pub types_of_keys : Env → List FieldType → List go.KeyedExpr → List (Option GoType)
types_of_keys env fs ks = map (λ k. field_type fs (name_in env.source k.key)) ks

-- the value under a field's name; a field that is left out is zero
abbrev pub keyed_value : Env → List go.KeyedExpr → List lang.Expr → FieldType → lang.Expr
keyed_value env (k ∷ ks) (v ∷ vs) f = if bytes_eq (name_in env.source k.key) f.name then v else keyed_value env ks vs f
keyed_value env ks vs f = zero_of f.kind

abbrev pub struct_number : Option Entity → ℕ
struct_number (Some (StructOf n)) = n
struct_number e = 0

abbrev pub fields_named : Env → Lexeme → List FieldType
fields_named env t = elim (fields_of env.declared (struct_in (entity_named env (name_in env.source t)))) as (λ _. List FieldType) [ None ↦ [] | Some fs ↦ fs ]

-- ---- every call

-- behind arguments
abbrev pub acted : Context → Place → ℕ → List Target → Args → (List lang.Expr → List ℕ → lang.Action) → Made
acted c at n ts a f = let xs = given c (n + length a.temps) ts in made (a.cmds ++ lang.Do (f a.values xs.0) at ∷ []) (a.temps ++ xs.1)

abbrev pub sized : Context → Place → Env → ℕ → Option go.Expr → Args
sized c at env n None = record { cmds = []; temps = []; values = [] }
sized c at env n (Some e) = args c at env n (Some Word ∷ []) (e ∷ [])

abbrev pub call : Context → Place → Env → ℕ → List Target → go.Call → Made
call c at env n ts (go.Function f es) = let self = receiver_of env f in
    acted c at n ts (args c at env n (untyped_for self ++ params_of env f) (self ++ es)) (called c env f)
call c at env n ts (go.Pair w a b) = let k = own_type_of (operand env a).class in
    if w.class == class.CLASS_DELETE
    then acted c at n ts (args c at env n (k ∷ Some Word ∷ []) (a ∷ b ∷ [])) (λ es xs. lang.MapDelete (arg_at es 0) (arg_at es 1))
    else acted c at n ts (args c at env n (k ∷ option_and_then item_of k ∷ []) (a ∷ b ∷ []))
    (λ es xs. lang.Append (first_of xs) (item_kind (option_and_then item_of k)) (arg_at es 0) (arg_at es 1))
call c at env n ts (go.Make w t size) = let k = type_of env t in
    acted c at n ts (sized c at env n size) (λ es xs.
    if is_map k then lang.NewMap (first_of xs) else lang.MakeSlice (first_of xs) (item_kind (option_and_then item_of k)) (arg_at es 0))
call c at env n ts (go.New w) = acted c at n ts (args c at env n [] []) (λ es xs. lang.NewMutex (first_of xs))
call c at env n ts (go.Literal amp t ks) = let fs = fields_named env t in
    acted c at n ts (args c at env n (types_of_keys env fs ks) (values_of_keys ks))
    (λ es xs. lang.New (first_of xs) (struct_number (entity_named env (name_in env.source t))) (map (keyed_value env ks es) fs))

-- the types of a call's results
abbrev pub results_of : Env → go.Call → List (Option GoType)
results_of env k = elim (answer env k).results as (λ _. List (Option GoType)) [ None ↦ [] | Some ks ↦ ks ]

abbrev pub is_barrier_call : Env → go.Call → Bool
is_barrier_call env (go.Function f es) = barrier_called env f
is_barrier_call env other = false

-- a call that is a whole statement sets temporaries
abbrev pub whole_call : Context → Place → Env → ℕ → go.Call → Made
whole_call c at env n k = call c at env n (all_fresh (barrier_or (is_barrier_call env k) (results_of env k))) k

-- ---- assignments to fields and items

-- what is written, behind the parts of the left side
abbrev pub Writing : Type 0
Writing = lang.Expr → lang.Action

abbrev pub field_write : lang.Expr → ℕ → Option Member → Writing
field_write p of (Some (FieldOf field k)) v = lang.Store p of field v
field_write p of m v = lang.Store p of 0 v

abbrev pub select_write : Env → Lexeme → Option Class → lang.Expr → Writing
select_write env t (Some (Run (Pointer (Struct of)))) p = field_write p of (base_member env.declared (Struct of) (name_in env.source t))
select_write env t k p = field_write p 0 None

abbrev pub index_write : Bool → lang.Expr → lang.Expr → Writing
index_write true m k v = lang.MapPut m k v
index_write false s i v = lang.Put s i v

-- the type that a left side wants
abbrev pub left_type : Env → go.Expr → Option GoType
left_type env e = own_type_of (operand env e).class

abbrev pub written : Place → Args → Made → lang.Expr → Writing → Made
written at left right v f = followed (followed (made left.cmds left.temps) right) (made (lang.Do (f v) at ∷ []) [])

-- a call's result sets a temporary before it is written
abbrev pub written_call : Context → Place → Env → ℕ → Args → go.Call → LocalKind → Writing → Made
written_call c at env n left k kind f = let m = call c at env (n + length left.temps) (Fresh kind ∷ []) k in
    written at left m (lang.LocalAt (temporary c (n + length left.temps + length m.temps - 1))) f

abbrev pub right_written : Context → Place → Env → ℕ → Args → Option GoType → go.Right → Writing → Made
right_written c at env n left want (go.Value e) f = let r = read c at env e want (n + length left.temps) in
    written at left (made r.cmds r.temps) r.value f
right_written c at env n left want (go.Result k) f = written_call c at env n left k (kind_if want) f

-- ---- statements that may stand in the header of a `for`

-- definitions declare the names that are new
abbrev pub news : Env → Bool → List go.Expr → List (Option GoType) → List Declared
news env defines (go.Name t ∷ es) (k ∷ ks) = (if defines && is_new env (go.Name t) then (t.start, k) ∷ [] else []) ++ news env defines es ks
news env defines (e ∷ es) (k ∷ ks) = news env defines es ks
news env defines es ks = []

abbrev pub declaring : List Declared → Made → Made
declaring ds m = record { cmds = m.cmds; temps = m.temps; declared = ds ++ m.declared }

-- a name on the left, or two
abbrev pub named : Context → Place → Env → ℕ → List Target → Option GoType → go.Right → Made
named c at env n ts want (go.Value e) = set c at n ts (tail c at env e want n)
named c at env n ts want (go.Result k) = call c at env n ts k

abbrev pub assigned : Context → Place → Env → ℕ → Bool → List go.Expr → go.Right → Made
assigned c at env n defines (go.Select p t ∷ []) r =
    right_written c at env n (args c at env n (None ∷ []) (p ∷ [])) (left_type env (go.Select p t)) r
    (λ v. select_write env t (operand env p).class (arg_at (args c at env n (None ∷ []) (p ∷ [])).values 0) v)
assigned c at env n defines (go.Index s i ∷ []) r = let left = args c at env n (None ∷ Some Word ∷ []) (s ∷ i ∷ []) in
    right_written c at env n left (left_type env (go.Index s i)) r
    (index_write (is_map (own_type_of (operand env s).class)) (arg_at left.values 0) (arg_at left.values 1))
assigned c at env n defines ls r = let ks = given_types env ls r in
    declaring (news env defines ls ks) (named c at env n (targets_of c env defines ls ks) (first_kind (map (left_type env) ls)) r)

-- the operator of `op=`
abbrev pub updating : List (ℕ × ℕ)
updating =
    (class.CLASS_PLUS_ASSIGN, class.CLASS_PLUS) ∷ (class.CLASS_MINUS_ASSIGN, class.CLASS_MINUS)
    ∷ (class.CLASS_BAR_ASSIGN, class.CLASS_BAR) ∷ (class.CLASS_CARET_ASSIGN, class.CLASS_CARET)
    ∷ (class.CLASS_STAR_ASSIGN, class.CLASS_STAR) ∷ (class.CLASS_SLASH_ASSIGN, class.CLASS_SLASH)
    ∷ (class.CLASS_PERCENT_ASSIGN, class.CLASS_PERCENT) ∷ (class.CLASS_SHIFT_LEFT_ASSIGN, class.CLASS_SHIFT_LEFT)
    ∷ (class.CLASS_SHIFT_RIGHT_ASSIGN, class.CLASS_SHIFT_RIGHT) ∷ (class.CLASS_AMP_ASSIGN, class.CLASS_AMP)
    ∷ (class.CLASS_AMP_CARET_ASSIGN, class.CLASS_AMP_CARET) ∷ []

abbrev pub counting : ℕ → ℕ
counting sign = if sign == class.CLASS_INCREMENT then class.CLASS_PLUS else class.CLASS_MINUS

-- `x op e` sets x
abbrev pub updated : Context → Place → Env → ℕ → go.Expr → ℕ → Read → Made
updated c at env n x sign r = let v = read c at env x None n in
    set c at n (target_of c env false x kind.Word ∷ []) (record { before = r.cmds; temps = r.temps; last = operated sign v.value r.value })

abbrev pub simple : Context → Env → ℕ → go.SimpleStmt → Made
simple c env n (go.Assign ls s r) = assigned c (at_byte env (first_start ls)) env n (s.class == class.CLASS_DEFINE) ls r
simple c env n (go.Count x s) = updated c (at_byte env (start_of x)) env n x (counting s.class) (record { cmds = []; temps = []; value = lang.Number 1 })
simple c env n (go.Update x s e) = let at = at_byte env (start_of x) in
    updated c at env n x (chosen updating class.CLASS_PLUS s.class) (read c at env e (Some Word) n)
simple c env n (go.Calling k) = whole_call c (at_byte env (call_start k)) env n k

abbrev pub simple_if : Context → Env → ℕ → Option go.SimpleStmt → Made
simple_if c env n None = no_commands
simple_if c env n (Some s) = simple c env n s
