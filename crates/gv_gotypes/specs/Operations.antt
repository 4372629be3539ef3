-- `Recover`, and the operations of a package.
use Rattle.std.specs.Prelude.{ℕ, Bool, true, false, ◌&&◌, if◌then◌else◌, List, [], ◌∷◌, ◌++◌, Option, Some, None, option_and_then, length, codes}
use Rattle.std.specs.Str.{bytes_eq}
use Rattle.gv_base.specs.declared.answers.Code.TheVariants.{WrongType, NoRecover}
use Rattle.gv_gosyntax.specs.declared.lexeme.Lexeme.{Lexeme}
use Rattle.gv_gotypes.specs.Trees as decl
use Rattle.gv_gotypes.specs.Trees.{FuncTree, Decl, File}
use Rattle.gv_gosyntax.specs.declared.tree.Group.{Group}
use Rattle.gv_gosyntax.specs.declared.tree.GoType.{GoType as TypeTree}
use Rattle.gv_operands.specs.declared.types.Base.TheVariants.{Struct}
use Rattle.gv_operands.specs.declared.types.GoType.{GoType}
use Rattle.gv_operands.specs.declared.types.GoType.TheVariants.{Word, Boolean, Bytes, Pointer}
use Rattle.gv_gotypes.specs.Types.{Finding, Fault, unless}
use Rattle.gv_gotypes.specs.Scopes.{Env, Source, name_in}
use Rattle.gv_gotypes.specs.Kinds.{kind_of, type_start}
use Rattle.gv_gotypes.specs.Declarations.{declared_name, no_counts, struct_of_method, is_number}
use Rattle.gv_gotypes.specs.Literals.{is_exported}

-- ---- `Recover`

-- What is the first declaration of the name `Recover`, with that name: a right one makes a pointer to a struct of nothing.
pub data Recover : Type 0 where
  Absent : Recover
  Wrong : Lexeme → Recover
  Makes : ℕ → Recover

abbrev pub pointed_struct : GoType → Option ℕ
pointed_struct (Pointer (Struct n)) = Some n
pointed_struct k = None

abbrev pub made_struct : Env → List TypeTree → Option ℕ
made_struct env (t ∷ []) = option_and_then pointed_struct (kind_of env t)
made_struct env ts = None

abbrev pub recover_func : Env → FuncTree → Recover
recover_func env f = elim f.params [
  | [] ↦ elim (made_struct env f.results) [ None ↦ Wrong f.name | Some n ↦ Makes n ]
  | g ∷ gs ↦ Wrong f.name
]

abbrev pub recover_decl : Env → Decl → Recover
recover_decl env (decl.Struct i gs) = Wrong i
recover_decl env (decl.Const i u e) = Wrong i
recover_decl env (decl.Func f) = recover_func env f

abbrev pub is_recover : Source → Decl → Bool
is_recover s d = elim (declared_name no_counts d) [ None ↦ false | Some p ↦ bytes_eq (name_in s p.0) (codes "Recover") ]

abbrev pub recover_in : Env → List Decl → Recover
recover_in env [] = Absent
recover_in env (d ∷ ds) = if is_recover env.source d then recover_decl env d else recover_in env ds

abbrev pub recover_findings : Env → Recover → List Finding
recover_findings env Absent = Fault (length env.source.text) NoRecover ∷ []
recover_findings env (Wrong i) = Fault i.start NoRecover ∷ []
recover_findings env (Makes n) = []

-- ---- operations

-- the types of parameters and results; a refused one has a fault of its own
abbrev pub is_plain : Option GoType → Bool
is_plain None = true
is_plain (Some Word) = true
is_plain (Some Boolean) = true
is_plain (Some Bytes) = true
is_plain (Some k) = false

abbrev pub plain_findings : Env → TypeTree → List Finding
plain_findings env t = unless (is_plain (kind_of env t)) (type_start t) WrongType

abbrev pub plain_params : Env → List Group → List Finding
plain_params env [] = []
plain_params env (g ∷ gs) = plain_findings env g.kind ++ plain_params env gs

-- at most one result
abbrev pub plain_results : Env → List TypeTree → List Finding
plain_results env [] = []
plain_results env (t ∷ []) = plain_findings env t
plain_results env (t ∷ u ∷ us) = plain_findings env t ++ Fault (type_start u) WrongType ∷ []

-- an exported method on the struct that `Recover` makes a pointer to
abbrev pub is_operation : Env → ℕ → FuncTree → Bool
is_operation env n f = is_number n (struct_of_method env f) && is_exported (name_in env.source f.name)

abbrev pub operation_findings : Env → Recover → FuncTree → List Finding
operation_findings env (Makes n) f = if is_operation env n f then plain_params env f.params ++ plain_results env f.results else []
operation_findings env r f = []
