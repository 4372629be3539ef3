-- Names: what the declarations of a package declare, and what a name stands for where it is used.
use Rattle.std.specs.Prelude.{ℕ, Bool, true, false, ◌&&◌, ◌==◌, nat_lt, if◌then◌else◌, List, [], ◌∷◌, Option, Some, None, option_map, option_and_then, codes, slice_get, slice_range}
use Rattle.std.specs.Str.{bytes_eq}
use Rattle.gv_gosyntax.specs.declared.lexeme.Lexeme.{Lexeme}
pub use Rattle.gv_gotypes.specs.declared.names.Library.{Library}
pub use Rattle.gv_gotypes.specs.declared.names.Library.TheVariants.{Sync, Disk, TwoDisk, Machine}
pub use Rattle.gv_gotypes.specs.declared.names.Entity.{Entity}
pub use Rattle.gv_gotypes.specs.declared.names.Entity.TheVariants.{Imported, StructOf, ConstantOf, ProcedureOf, Variable}
pub use Rattle.gv_gotypes.specs.declared.names.Found.{Found}
use Rattle.gv_operands.specs.declared.types.GoType.{GoType}
use Rattle.gv_operands.specs.declared.types.Class.{Class}

-- The text of a package and its tokens, as the grammar sees them. The bytes of a name are those of the text.
pub record Source : Type 0 where
  pub text : List ℕ
  pub tokens : List Lexeme

abbrev pub name_in : Source → Lexeme → List ℕ
name_in s t = slice_range s.text t.start t.end

-- `_` declares nothing
abbrev pub is_blank : List ℕ → Bool
is_blank name = bytes_eq name (codes "_")

-- ---- what a package declares

-- types of parameters and results; a refused type is none
pub record Signature : Type 0 where
  pub params : List (Option GoType)
  pub results : List (Option GoType)

pub record FieldType : Type 0 where
  pub name : List ℕ
  pub kind : Option GoType

pub record Method : Type 0 where
  pub name : List ℕ
  pub procedure : ℕ

pub record StructType : Type 0 where
  pub name : List ℕ
  pub fields : List FieldType
  pub methods : List Method

pub record Named : Type 0 where
  pub name : List ℕ
  pub entity : Entity

-- Names of the package, and what each number stands for. A refused constant has no class.
pub record Package : Type 0 where
  pub names : List Named
  pub structs : List StructType
  pub procedures : List Signature
  pub constants : List (Option Class)

-- what a constant is by its declaration, if anything
abbrev pub constant_class : Package → ℕ → Option Class
constant_class p n = option_and_then (λ c. c) (slice_get p.constants n)

-- ---- scopes

-- What was declared and which blocks were opened, the last one first.
pub data Entry : Type 0 where
  Declared : Named → Entry
  -- a block of its own begins here
  Opened : Entry
  -- a literal behind `go` begins here
  Literal : Entry

-- Where something stands: in which package, behind which declarations, and in a function with which results.
pub record Env : Type 0 where
  pub source : Source
  pub declared : Package
  pub entries : List Entry
  pub results : List (Option GoType)

-- the first one that bears a name
abbrev pub named_in : List Named → List ℕ → Option Entity
named_in [] name = None
named_in (n ∷ ns) name = if bytes_eq n.name name then Some n.entity else named_in ns name

abbrev pub from_outside : Option Found → Option Found
from_outside found = option_map (λ f. record { entity = f.entity; is_outer = true }) found

abbrev pub found_among : List Entry → Option Entity → List ℕ → Option Found
found_among [] other name = option_map (λ e. record { entity = e; is_outer = false }) other
found_among (Declared n ∷ es) other name = if bytes_eq n.name name then Some (record { entity = n.entity; is_outer = false }) else found_among es other name
found_among (Opened ∷ es) other name = found_among es other name
found_among (Literal ∷ es) other name = from_outside (found_among es other name)

-- The innermost declaration of a name, or that of the package. Nothing bears the name `_`.
abbrev pub found : Env → List ℕ → Option Found
found env name = if is_blank name then None else found_among env.entries (named_in env.declared.names name) name

abbrev pub entity_named : Env → List ℕ → Option Entity
entity_named env name = option_map (λ f. f.entity) (found env name)

-- a name is declared in the block that was opened last
abbrev pub is_here : List Entry → List ℕ → Bool
is_here [] name = false
is_here (Declared n ∷ es) name = if bytes_eq n.name name then true else is_here es name
is_here (Opened ∷ es) name = false
is_here (Literal ∷ es) name = false

-- ---- scopes that begin and grow

abbrev pub with_entries : Env → List Entry → Env
with_entries env entries = record { source = env.source; declared = env.declared; entries = entries; results = env.results }

abbrev pub opened : Env → Env
opened env = with_entries env (Opened ∷ env.entries)

-- within a literal behind `go`, which has no results
abbrev pub in_literal : Env → Env
in_literal env = record { source = env.source; declared = env.declared; entries = Literal ∷ env.entries; results = [] }

-- behind the declaration of a variable; `_`, and a name that is there already, declare nothing
abbrev pub with_variable : Env → Lexeme → Option GoType → Env
with_variable env name kind =
    if is_blank (name_in env.source name) then env else (
    if is_here env.entries (name_in env.source name) then env else
    with_entries env (Declared (record { name = name_in env.source name; entity = Variable name.start kind }) ∷ env.entries))

-- ---- what stands beside a token

-- where the first token of a class begins that stands behind a place
abbrev pub next_of : ℕ → List Lexeme → ℕ → ℕ
next_of class [] at = at
next_of class (t ∷ ts) at = if nat_lt at t.start && t.class == class then t.start else next_of class ts at

-- where the last token begins that stands before a place
abbrev pub token_before : ℕ → List Lexeme → ℕ → ℕ
token_before last [] at = last
token_before last (t ∷ ts) at = if nat_lt t.start at then token_before t.start ts at else token_before last ts at
