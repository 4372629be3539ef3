-- What is found in functions and methods: their types, their bodies, captured variables, and missing returns.
use Rattle.std.specs.Prelude.{ℕ, Bool, true, false, ◌==◌, ◌||◌, if◌then◌else◌, List, [], ◌∷◌, ◌++◌, map, Option, Some, None}
use Rattle.gv_base.specs.declared.answers.Code.TheVariants.{MissingReturn, Captured}
use Rattle.gv_gosyntax.specs.declared.lexeme.Lexeme.{Lexeme}
use Rattle.gv_gotypes.specs.Trees.{FuncTree, Block, braces}
use Rattle.gv_gosyntax.specs.declared.tree.Group.{Group}
use Rattle.gv_gosyntax.specs.declared.tree.Receiver.{Receiver}
use Rattle.gv_gosyntax.specs.declared.tree.GoType.{GoType as TypeTree}
use Rattle.gv_operands.specs.declared.types.GoType.{GoType}
use Rattle.gv_operands.specs.declared.types.GoType.TheVariants.{Pointer}
use Rattle.gv_gotypes.specs.Types.{Finding, Fault, Outer, Assigned, unless}
use Rattle.gv_gotypes.specs.Scopes.{Env, name_in, entity_named, with_variable, token_before}
use Rattle.gv_gotypes.specs.Kinds.{kind_of, kind_findings, name_findings, struct_in}
use Rattle.gv_gotypes.specs.Statements.{block_findings}
use Rattle.gv_gotypes.specs.Statements.{name_findings as twice_findings}
use Rattle.gv_gotypes.specs.Returns.{block_ends}

-- where a block ends
abbrev pub block_end : Block → ℕ
block_end (braces o ss c) = c.start

-- ---- parameters

-- the receiver, then the parameters, each name in the scope of those before it. Their types are looked up outside of the function.
abbrev pub receiver_kind : Env → Receiver → Option GoType
receiver_kind out r = elim (struct_in (entity_named out (name_in out.source r.of))) [ None ↦ None | Some b ↦ Some (Pointer b) ]

abbrev pub with_receiver : Env → Env → Option Receiver → Env
with_receiver out env None = env
with_receiver out env (Some r) = with_variable env r.name (receiver_kind out r)

abbrev pub with_names : Env → List Lexeme → Option GoType → Env
with_names env [] k = env
with_names env (i ∷ is) k = with_names (with_variable env i k) is k

abbrev pub with_params : Env → Env → List Group → Env
with_params out env [] = env
with_params out env (g ∷ gs) = with_params out (with_names env g.names (kind_of out g.kind)) gs

abbrev pub names_findings : Env → List Lexeme → Option GoType → List Finding
names_findings env [] k = []
names_findings env (i ∷ is) k = twice_findings env i ++ names_findings (with_variable env i k) is k

abbrev pub params_findings : Env → Env → List Group → List Finding
params_findings out env [] = []
params_findings out env (g ∷ gs) = let k = kind_of out g.kind in
    kind_findings out g.kind ++ (names_findings env g.names k ++ params_findings out (with_names env g.names k) gs)

-- the type of a receiver begins at the `*` before its struct's name
abbrev pub receiver_findings : Env → Option Receiver → List Finding
receiver_findings out None = []
receiver_findings out (Some r) = let e = entity_named out (name_in out.source r.of) in
    name_findings e (struct_in e) r.of.start (token_before r.of.start out.source.tokens r.of.start)

abbrev pub kinds_findings : Env → List TypeTree → List Finding
kinds_findings out [] = []
kinds_findings out (t ∷ ts) = kind_findings out t ++ kinds_findings out ts

-- ---- captured variables

abbrev pub is_assigned : ℕ → List Finding → Bool
is_assigned declared [] = false
is_assigned declared (Assigned d ∷ fs) = d == declared || is_assigned declared fs
is_assigned declared (f ∷ fs) = is_assigned declared fs

-- A literal behind `go` uses an outer variable that is assigned after its declaration, wherever that is.
abbrev pub captured : List Finding → List Finding → List Finding
captured all [] = []
captured all (Outer at declared ∷ fs) = if is_assigned declared all then Fault at Captured ∷ captured all fs else captured all fs
captured all (f ∷ fs) = captured all fs

-- ---- bodies

-- the scope of a body is that of the receiver and the parameters
abbrev pub body_env : Env → FuncTree → Env
body_env out f = let env = with_params out (with_receiver out out f.receiver) f.params in
    record { source = env.source; declared = env.declared; entries = env.entries; results = map (kind_of out) f.results }

abbrev pub has_none : {T : Type 0} → List T → Bool
has_none [] = true
has_none (t ∷ ts) = false

-- a function with results ends in a return
abbrev pub ending : FuncTree → List Finding
ending f = unless (has_none f.results || block_ends f.body) (block_end f.body) MissingReturn

abbrev pub func_findings : Env → FuncTree → List Finding
func_findings out f = let body = block_findings (body_env out f) f.body in
    receiver_findings out f.receiver
    ++ (params_findings out (with_receiver out out f.receiver) f.params
    ++ (kinds_findings out f.results ++ (body ++ (captured body body ++ ending f))))
