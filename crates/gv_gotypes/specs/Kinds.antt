-- Types as they are written: what each stands for, and its faults.
use Rattle.std.specs.Prelude.{ℕ, ◌==◌, if◌then◌else◌, List, [], ◌∷◌, Option, Some, None, option_map}
use Rattle.gv_base.specs.declared.answers.Code.TheVariants.{Undeclared, WrongType}
use Rattle.gv_gosyntax.specs.declared.generated.gosyntax_table.TheConstants.{CLASS_BYTE, CLASS_UINT64, CLASS_DISK}
use Rattle.gv_gosyntax.specs.declared.lexeme.Lexeme.{Lexeme}
use Rattle.gv_gosyntax.specs.declared.tree.Pointed.{Pointed}
use Rattle.gv_gosyntax.specs.declared.tree.Pointed.TheVariants.{Named, Mutex as MutexTree}
use Rattle.gv_gosyntax.specs.declared.tree.GoType.{GoType as TypeTree}
use Rattle.gv_gosyntax.specs.declared.tree.GoType.TheVariants as tree
use Rattle.gv_operands.specs.declared.types.Base.{Base}
use Rattle.gv_operands.specs.declared.types.Base.TheVariants.{Struct, Mutex}
use Rattle.gv_operands.specs.declared.types.GoType.{GoType}
use Rattle.gv_operands.specs.declared.types.GoType.TheVariants.{Word, Byte, Boolean, Bytes, Words, Pointers, Map, Pointer}
use Rattle.gv_gotypes.specs.Types.{Finding, Fault}
use Rattle.gv_gotypes.specs.Scopes.{Env, Entity, Imported, StructOf, Sync, Disk, TwoDisk, name_in, entity_named}

-- where a type begins
abbrev pub type_start : TypeTree → ℕ
type_start (tree.Word w) = w.start
type_start (tree.Slice o w) = o.start
type_start (tree.Pointers o p) = o.start
type_start (tree.Map m) = m.start
type_start (tree.Pointer s p) = s.start
type_start (tree.Block k) = k.start

-- ---- what it stands for

abbrev pub struct_in : Option Entity → Option Base
struct_in (Some (StructOf n)) = Some (Struct n)
struct_in _ = None

abbrev pub mutex_in : Option Entity → Option Base
mutex_in (Some (Imported Sync)) = Some Mutex
mutex_in _ = None

abbrev pub word_of_pointed : Pointed → Lexeme
word_of_pointed (Named t) = t
word_of_pointed (MutexTree t) = t

abbrev pub base_in : Pointed → Option Entity → Option Base
base_in (Named t) e = struct_in e
base_in (MutexTree t) e = mutex_in e

abbrev pub base_of : Env → Pointed → Option Base
base_of env p = base_in p (entity_named env (name_in env.source (word_of_pointed p)))

-- `disk.Block` and `twodisk.Block` are `[]byte`, each of its own package
abbrev pub block_in : ℕ → Option Entity → Option GoType
block_in class (Some (Imported Disk)) = if class == CLASS_DISK then Some Bytes else None
block_in class (Some (Imported TwoDisk)) = if class == CLASS_DISK then None else Some Bytes
block_in class _ = None

abbrev pub word_type : ℕ → GoType
word_type class = if class == CLASS_UINT64 then Word else (if class == CLASS_BYTE then Byte else Boolean)

abbrev pub slice_type : ℕ → GoType
slice_type class = if class == CLASS_BYTE then Bytes else Words

abbrev pub kind_of : Env → TypeTree → Option GoType
kind_of env (tree.Word w) = Some (word_type w.class)
kind_of env (tree.Slice o w) = Some (slice_type w.class)
kind_of env (tree.Pointers o p) = option_map Pointers (base_of env p)
kind_of env (tree.Map m) = Some Map
kind_of env (tree.Pointer s p) = option_map Pointer (base_of env p)
kind_of env (tree.Block k) = block_in k.class (entity_named env (name_in env.source k))

-- ---- its faults

abbrev pub undeclared : ℕ → List Finding
undeclared at = Fault at Undeclared ∷ []

-- A name is Undeclared where nothing bears it; one that is none of the wanted kind is WrongType where the type begins.
abbrev pub name_findings : {T : Type 0} → Option Entity → Option T → ℕ → ℕ → List Finding
name_findings None meant name start = undeclared name
name_findings (Some e) None name start = Fault start WrongType ∷ []
name_findings (Some e) (Some t) name start = []

abbrev pub base_findings : Env → Pointed → ℕ → List Finding
base_findings env p start = let t = word_of_pointed p in
    name_findings (entity_named env (name_in env.source t)) (base_of env p) t.start start

abbrev pub kind_findings : Env → TypeTree → List Finding
kind_findings env (tree.Word w) = []
kind_findings env (tree.Slice o w) = []
kind_findings env (tree.Pointers o p) = base_findings env p o.start
kind_findings env (tree.Map m) = []
kind_findings env (tree.Pointer s p) = base_findings env p s.start
kind_findings env (tree.Block k) =
    name_findings (entity_named env (name_in env.source k)) (kind_of env (tree.Block k)) k.start k.start
