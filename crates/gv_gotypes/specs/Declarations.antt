-- What the declarations of a package declare: names, structs, procedures. Constants stand in Constants.
use Rattle.std.specs.Prelude.{ℕ, suc, Bool, false, ◌==◌, if◌then◌else◌, List, [], ◌∷◌, ◌++◌, map, Option, Some, None, codes}
use Rattle.std.specs.Str.{bytes_eq}
use Rattle.gv_gosyntax.specs.declared.lexeme.Lexeme.{Lexeme}
use Rattle.gv_gotypes.specs.Trees as decl
use Rattle.gv_gotypes.specs.Trees.{FuncTree, Decl, File}
use Rattle.gv_gosyntax.specs.declared.tree.Group.{Group}
use Rattle.gv_operands.specs.declared.types.GoType.{GoType}
use Rattle.gv_gotypes.specs.Scopes.{Source, Library, Sync, Disk, TwoDisk, Machine, Entity, Imported, StructOf, ConstantOf, ProcedureOf, Signature, FieldType, Method, StructType, Named, Package, Env, name_in, entity_named}
use Rattle.gv_gotypes.specs.Kinds.{kind_of}
use Rattle.gv_gotypes.specs.Literals.{element_of}

-- ---- imports

-- an import is known by the last element of its path
abbrev pub library_named : List ℕ → Option Library
library_named name =
    if bytes_eq name (codes "sync") then Some Sync else (
    if bytes_eq name (codes "disk") then Some Disk else (
    if bytes_eq name (codes "twodisk") then Some TwoDisk else (
    if bytes_eq name (codes "machine") then Some Machine else (
    if bytes_eq name (codes "primitive") then Some Machine else None))))

abbrev pub all_imports : List (List Lexeme) → List Lexeme
all_imports [] = []
all_imports (ts ∷ tss) = ts ++ all_imports tss

abbrev pub import_name : Source → Lexeme → List Named
import_name s t = let name = element_of (name_in s t) in
    elim (library_named name) [ None ↦ [] | Some l ↦ record { name = name; entity = Imported l } ∷ [] ]

abbrev pub import_names : Source → List Lexeme → List Named
import_names s [] = []
import_names s (t ∷ ts) = import_name s t ++ import_names s ts

-- ---- names of declarations

-- how many structs, constants and procedures stand before
pub record Counts : Type 0 where
  pub structs : ℕ
  pub constants : ℕ
  pub procedures : ℕ

abbrev pub no_counts : Counts
no_counts = record { structs = 0; constants = 0; procedures = 0 }

abbrev pub counted : Counts → Decl → Counts
counted n (decl.Struct i gs) = record { structs = suc n.structs; constants = n.constants; procedures = n.procedures }
counted n (decl.Const i u e) = record { structs = n.structs; constants = suc n.constants; procedures = n.procedures }
counted n (decl.Func f) = record { structs = n.structs; constants = n.constants; procedures = suc n.procedures }

-- the name that a declaration gives the package: a method gives it none
abbrev pub declared_name : Counts → Decl → Option (Lexeme × Entity)
declared_name n (decl.Struct i gs) = Some (i, StructOf n.structs)
declared_name n (decl.Const i u e) = Some (i, ConstantOf n.constants)
declared_name n (decl.Func f) = elim f.receiver [ None ↦ Some (f.name, ProcedureOf n.procedures) | Some r ↦ None ]

abbrev pub decl_names : Source → Counts → List Decl → List Named
decl_names s n [] = []
decl_names s n (d ∷ ds) = elim (declared_name n d) [
  | None ↦ decl_names s (counted n d) ds
  | Some p ↦ record { name = name_in s p.0; entity = p.1 } ∷ decl_names s (counted n d) ds
]

-- imports come first; of two declarations of one name the first one counts
abbrev pub all_names : Source → File → List Named
all_names s f = import_names s (all_imports f.imports) ++ decl_names s no_counts f.decls

-- a place outside of all functions
abbrev pub outside : Source → Package → Env
outside s p = record { source = s; declared = p; entries = []; results = [] }

-- types speak of names alone
abbrev pub names_alone : Source → File → Env
names_alone s f = outside s (record { names = all_names s f; structs = []; procedures = []; constants = [] })

-- ---- procedures

abbrev pub group_kinds : Env → List Lexeme → Option GoType → List (Option GoType)
group_kinds env [] k = []
group_kinds env (i ∷ is) k = k ∷ group_kinds env is k

abbrev pub param_kinds : Env → List Group → List (Option GoType)
param_kinds env [] = []
param_kinds env (g ∷ gs) = group_kinds env g.names (kind_of env g.kind) ++ param_kinds env gs

-- a receiver is none of the parameters
abbrev pub signature_of : Env → FuncTree → Signature
signature_of env f = record { params = param_kinds env f.params; results = map (kind_of env) f.results }

abbrev pub signatures : Env → List Decl → List Signature
signatures env [] = []
signatures env (decl.Func f ∷ ds) = signature_of env f ∷ signatures env ds
signatures env (d ∷ ds) = signatures env ds

-- ---- structs

abbrev pub group_fields : Env → List Lexeme → Option GoType → List FieldType
group_fields env [] k = []
group_fields env (i ∷ is) k = record { name = name_in env.source i; kind = k } ∷ group_fields env is k

abbrev pub all_fields : Env → List Group → List FieldType
all_fields env [] = []
all_fields env (g ∷ gs) = group_fields env g.names (kind_of env g.kind) ++ all_fields env gs

-- the struct that a method belongs to, by the name behind the `*` of its receiver
abbrev pub struct_number : Option Entity → Option ℕ
struct_number (Some (StructOf n)) = Some n
struct_number e = None

abbrev pub struct_of_method : Env → FuncTree → Option ℕ
struct_of_method env f = elim f.receiver [ None ↦ None | Some r ↦ struct_number (entity_named env (name_in env.source r.of)) ]

abbrev pub is_number : ℕ → Option ℕ → Bool
is_number n None = false
is_number n (Some m) = m == n

-- the methods of a struct in order of text, by the numbers of their procedures
abbrev pub methods_from : Env → ℕ → ℕ → List Decl → List Method
methods_from env n number [] = []
methods_from env n number (decl.Func f ∷ ds) =
    if is_number n (struct_of_method env f)
    then record { name = name_in env.source f.name; procedure = number } ∷ methods_from env n (suc number) ds
    else methods_from env n (suc number) ds
methods_from env n number (d ∷ ds) = methods_from env n number ds

abbrev pub structs_from : Env → List Decl → ℕ → List Decl → List StructType
structs_from env all number [] = []
structs_from env all number (decl.Struct i gs ∷ ds) =
    record { name = name_in env.source i; fields = all_fields env gs; methods = methods_from env number 0 all } ∷ structs_from env all (suc number) ds
structs_from env all number (d ∷ ds) = structs_from env all number ds

-- all but the constants
abbrev pub without_constants : Source → File → Package
without_constants s f = let env = names_alone s f in record {
  names = all_names s f;
  structs = structs_from env f.decls 0 f.decls;
  procedures = signatures env f.decls;
  constants = [];
}
