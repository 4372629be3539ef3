-- What is found in a whole package, and which fault of it is told.
use Rattle.std.specs.Prelude.{ℕ, Bool, false, ◌&&◌, ◌||◌, not, nat_lt, if◌then◌else◌, is_none, is_some, List, [], ◌∷◌, ◌++◌, Option, Some, None, slice_get}
use Rattle.std.specs.Str.{bytes_eq}
use Rattle.gv_base.specs.Codes.{code_number}
use Rattle.gv_base.specs.declared.answers.Code.{Code}
use Rattle.gv_base.specs.declared.answers.Code.TheVariants.{Undeclared, Twice}
use Rattle.gv_text.specs.Answers.{IsFirst}
use Rattle.gv_gosyntax.specs.declared.lexeme.Lexeme.{Lexeme}
use Rattle.gv_gotypes.specs.Trees as decl
use Rattle.gv_gotypes.specs.Trees.{FuncTree, Decl, File}
use Rattle.gv_gosyntax.specs.declared.tree.Group.{Group}
use Rattle.gv_gotypes.specs.Types.{Finding, Fault, unless}
use Rattle.gv_gotypes.specs.Scopes.{Source, Env, Named, Package, Entity, Method, name_in, is_blank, named_in}
use Rattle.gv_gotypes.specs.Kinds.{kind_findings}
use Rattle.gv_gotypes.specs.Members.{field_from}
use Rattle.gv_gotypes.specs.Literals.{element_of}
use Rattle.gv_gotypes.specs.Declarations.{all_imports, import_names, library_named, Counts, no_counts, counted, declared_name, outside, struct_of_method}
use Rattle.gv_gotypes.specs.Constants.{ConstantTree, constant_trees, constant_findings, is_there, declared_by}
use Rattle.gv_gotypes.specs.Functions.{func_findings}
use Rattle.gv_gotypes.specs.Told.{IsFound}
use Rattle.gv_gotypes.specs.Operations.{Recover, recover_in, recover_findings, operation_findings}

-- ---- names that are declared twice

-- a name that stands among those before it; `_` is declared by nothing
abbrev pub twice : List Named → List ℕ → ℕ → List Finding
twice before name at = unless (is_blank name || is_none (named_in before name)) at Twice

-- imports, behind those before them
abbrev pub import_findings : Source → List Named → List Lexeme → List Finding
import_findings s before [] = []
import_findings s before (t ∷ ts) = let name = element_of (name_in s t) in
    (if is_none (library_named name) then Fault t.start Undeclared ∷ [] else twice before name t.start)
    ++ import_findings s (before ++ import_names s (t ∷ [])) ts

abbrev pub name_twice : Source → List Named → Option (Lexeme × Entity) → List Finding
name_twice s before None = []
name_twice s before (Some p) = twice before (name_in s p.0) p.0.start

abbrev pub with_name : Source → List Named → Option (Lexeme × Entity) → List Named
with_name s before None = before
with_name s before (Some p) = before ++ record { name = name_in s p.0; entity = p.1 } ∷ []

-- fields of one struct, behind those before them
abbrev pub is_borne : List (List ℕ) → List ℕ → Bool
is_borne [] name = false
is_borne (n ∷ ns) name = bytes_eq n name || is_borne ns name

abbrev pub all_names_of : List Group → List Lexeme
all_names_of [] = []
all_names_of (g ∷ gs) = g.names ++ all_names_of gs

abbrev pub fields_twice : Source → List (List ℕ) → List Lexeme → List Finding
fields_twice s before [] = []
fields_twice s before (i ∷ is) = let name = name_in s i in
    unless (is_blank name || not (is_borne before name)) i.start Twice ++ fields_twice s (name ∷ before) is

-- a method whose struct has a field, or a method before it, of its name
abbrev pub is_earlier : List Method → ℕ → List ℕ → Bool
is_earlier [] number name = false
is_earlier (m ∷ ms) number name = nat_lt m.procedure number && bytes_eq m.name name || is_earlier ms number name

abbrev pub is_taken : Package → ℕ → List ℕ → Option ℕ → Bool
is_taken p number name None = false
is_taken p number name (Some n) = elim (slice_get p.structs n) [
  | None ↦ false
  | Some s ↦ is_some (field_from 0 s.fields name) || is_earlier s.methods number name
]

abbrev pub method_twice : Env → ℕ → FuncTree → List Finding
method_twice env number f = let name = name_in env.source f.name in
    unless (is_blank name || not (is_taken env.declared number name (struct_of_method env f))) f.name.start Twice

-- ---- declarations

abbrev pub groups_findings : Env → List Group → List Finding
groups_findings env [] = []
groups_findings env (g ∷ gs) = kind_findings env g.kind ++ groups_findings env gs

abbrev pub decl_findings : Env → List ConstantTree → Recover → Counts → Decl → List Finding
decl_findings env cs r n (decl.Struct i gs) = groups_findings env gs ++ fields_twice env.source [] (all_names_of gs)
decl_findings env cs r n (decl.Const i u e) = constant_findings env cs n.constants (is_there u) e
decl_findings env cs r n (decl.Func f) =
    method_twice env n.procedures f ++ (operation_findings env r f ++ func_findings env f)

abbrev pub decls_findings : Env → List ConstantTree → Recover → List Named → Counts → List Decl → List Finding
decls_findings env cs r before n [] = []
decls_findings env cs r before n (d ∷ ds) = let name = declared_name n d in
    name_twice env.source before name
    ++ (decl_findings env cs r n d ++ decls_findings env cs r (with_name env.source before name) (counted n d) ds)

-- ---- the whole

abbrev pub file_env : Source → File → Env
file_env s f = outside s (declared_by s f)

abbrev pub file_findings : Source → File → List Finding
file_findings s f = let env = file_env s f in let r = recover_in env f.decls in
    import_findings s [] (all_imports f.imports)
    ++ (decls_findings env (constant_trees f.decls) r (import_names s (all_imports f.imports)) no_counts f.decls
    ++ recover_findings env r)

-- a package has a fault at a byte of its text
abbrev pub HasFault : Source → File → ℕ → Code → Type 0
HasFault s f at code = IsFound (file_findings s f) at code

-- The rules hold at every node.
abbrev pub IsTyped : Source → File → Type 0
IsTyped s f = (at : ℕ) (code : Code) → HasFault s f at code → ⊥

-- It is refused at the first of its faults.
abbrev pub IsRefusedAt : Source → File → ℕ → Code → Type 0
IsRefusedAt s f = IsFirst code_number (HasFault s f)
