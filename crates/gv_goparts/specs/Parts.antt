-- What is found in a whole package, by the rules that it breaks: names, structs, methods, constants, functions, operations.
use Rattle.std.specs.Prelude.{◌≡◌, ℕ, List, [], ◌∷◌, ◌++◌}
use Rattle.gv_gotypes.specs.Trees as decl
use Rattle.gv_gotypes.specs.Trees.{Decl, File}
use Rattle.gv_gotypes.specs.Types.{Finding}
use Rattle.gv_gotypes.specs.Scopes.{Source, Named, Env}
use Rattle.gv_gotypes.specs.Declarations.{all_imports, import_names, Counts, no_counts, counted, declared_name}
use Rattle.gv_gotypes.specs.Constants.{ConstantTree, constant_trees, constant_findings, is_there}
use Rattle.gv_gotypes.specs.Functions.{func_findings}
use Rattle.gv_gotypes.specs.Operations.{Recover, recover_in, recover_findings, operation_findings}
use Rattle.gv_gotypes.specs.Files.{import_findings, name_twice, with_name, groups_findings, all_names_of, fields_twice, method_twice, file_env}
use Rattle.gv_gotyped.specs.First.{first_of}
use Rattle.gv_goparts.specs.declared.parts.PartFaults.{PartFaults}

-- ---- what is found in declarations

-- names that are declared again, behind those before them
abbrev pub names_findings : Source → List Named → Counts → List Decl → List Finding
names_findings s before n [] = []
names_findings s before n (d ∷ ds) = name_twice s before (declared_name n d) ++ names_findings s (with_name s before (declared_name n d)) (counted n d) ds

abbrev pub struct_findings : Env → Decl → List Finding
struct_findings env (decl.Struct i gs) = groups_findings env gs ++ fields_twice env.source [] (all_names_of gs)
struct_findings env d = []

abbrev pub structs_findings : Env → List Decl → List Finding
structs_findings env [] = []
structs_findings env (d ∷ ds) = struct_findings env d ++ structs_findings env ds

abbrev pub named_method_findings : Env → ℕ → Decl → List Finding
named_method_findings env number (decl.Func f) = method_twice env number f
named_method_findings env number d = []

-- methods whose names are taken, behind so many declarations
abbrev pub methods_findings : Env → Counts → List Decl → List Finding
methods_findings env n [] = []
methods_findings env n (d ∷ ds) = named_method_findings env n.procedures d ++ methods_findings env (counted n d) ds

abbrev pub declared_constant_findings : Env → List ConstantTree → ℕ → Decl → List Finding
declared_constant_findings env cs number (decl.Const i u e) = constant_findings env cs number (is_there u) e
declared_constant_findings env cs number d = []

abbrev pub constants_findings : Env → List ConstantTree → Counts → List Decl → List Finding
constants_findings env cs n [] = []
constants_findings env cs n (d ∷ ds) = declared_constant_findings env cs n.constants d ++ constants_findings env cs (counted n d) ds

abbrev pub function_findings : Env → Decl → List Finding
function_findings env (decl.Func f) = func_findings env f
function_findings env d = []

abbrev pub functions_findings : Env → List Decl → List Finding
functions_findings env [] = []
functions_findings env (d ∷ ds) = function_findings env d ++ functions_findings env ds

abbrev pub declared_operation_findings : Env → Recover → Decl → List Finding
declared_operation_findings env r (decl.Func f) = operation_findings env r f
declared_operation_findings env r d = []

abbrev pub operations_findings : Env → Recover → List Decl → List Finding
operations_findings env r [] = []
operations_findings env r (d ∷ ds) = declared_operation_findings env r d ++ operations_findings env r ds

-- ---- what is found in a package

-- of imports and names
abbrev pub names_in : Source → File → List Finding
names_in s f = import_findings s [] (all_imports f.imports) ++ names_findings s (import_names s (all_imports f.imports)) no_counts f.decls

-- of `Recover` and the operations
abbrev pub operations_in : Env → File → List Finding
operations_in env f = operations_findings env (recover_in env f.decls) f.decls ++ recover_findings env (recover_in env f.decls)

-- the faults that are told of the parts of a package
pub record AreOf (s : Source) (f : File) (faults : PartFaults) : Type 0 where
  pub names : faults.names ≡ first_of (names_in s f)
  pub structs : faults.structs ≡ first_of (structs_findings (file_env s f) f.decls)
  pub methods : faults.methods ≡ first_of (methods_findings (file_env s f) no_counts f.decls)
  pub constants : faults.constants ≡ first_of (constants_findings (file_env s f) (constant_trees f.decls) no_counts f.decls)
  pub functions : faults.functions ≡ first_of (functions_findings (file_env s f) f.decls)
  pub operations : faults.operations ≡ first_of (operations_in (file_env s f) f)
