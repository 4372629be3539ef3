-- Structs to which methods are added one after another.
use Rattle.std.specs.Prelude.{◌≡◌, ℕ, suc, if◌then◌else◌, ◌||◌, not, List, [], ◌∷◌, Option, Some, None, slice_get}
use Rattle.gv_base.specs.declared.answers.Code.TheVariants.{Twice}
use Rattle.gv_gotypes.specs.Types.{Finding, unless}
use Rattle.gv_gosyntax.specs.declared.tree.Receiver.{Receiver}
use Rattle.gv_gotypes.specs.Trees as decl
use Rattle.gv_gotypes.specs.Trees.{Decl}
use Rattle.gv_gotypes.specs.Scopes.{Method, StructType, Package, Env, is_blank, name_in, entity_named}
use Rattle.gv_gotypes.specs.Declarations.{is_number, struct_number, struct_of_method}
use Rattle.gv_gotypes.specs.Files.{is_taken}
use Rattle.gv_gonames.specs.declared.span.Span.{Span}
use Rattle.gv_gonames.specs.Structs.{StructOf, with_method}
use Rattle.gv_goseen.specs.Naming.{span_by, AreBelow, AreFrom, IsGrown}

-- a place where a package has these structs
abbrev pub with_structs : Env → List StructType → Env
with_structs env ss = record {
  source = env.source;
  declared = record { names = env.declared.names; structs = ss; procedures = env.declared.procedures; constants = env.declared.constants };
  entries = env.entries;
  results = env.results;
}

-- one method more of the struct with a number, where structs are numbered from `number` on
abbrev pub with_method_of : Option ℕ → Span → ℕ → ℕ → List StructOf → List StructOf
with_method_of o name procedure number [] = []
with_method_of o name procedure number (t ∷ ts) =
    (if is_number number o then with_method t name procedure else t) ∷ with_method_of o name procedure (suc number) ts

-- all have this text
abbrev pub AreIn : List ℕ → List StructOf → Type 0
AreIn text [] = Unit {0}
AreIn text (t ∷ ts) = (t.text ≡ text) × AreIn text ts

-- what is found of a method with such a name and number
abbrev pub method_twice_of : Package → ℕ → List ℕ → Option ℕ → ℕ → List Finding
method_twice_of p procedure name o start = unless (is_blank name || not (is_taken p procedure name o)) start Twice

-- the struct with a number has so far the methods with lower numbers, or there is none
pub record IsGrowing (p : Package) (procedure number : ℕ) (s : StructType) : Type 0 where
  pub rest : List Method
  pub grown : IsGrown p number s rest
  pub below : AreBelow procedure s.methods
  pub from : AreFrom procedure rest

abbrev pub IsGrowingIn : Package → ℕ → ℕ → Option StructOf → Type 0
IsGrowingIn p procedure number None = slice_get p.structs number ≡ None
IsGrowingIn p procedure number (Some t) = IsGrowing p procedure number t.struct

abbrev pub AreGrowing : Package → ℕ → List StructOf → Type 0
AreGrowing p procedure ts = (number : ℕ) → IsGrowingIn p procedure number (slice_get ts number)

-- ---- declarations

abbrev pub struct_of_receiver : Env → Option Receiver → Option ℕ
struct_of_receiver env receiver = elim receiver [ None ↦ None | Some r ↦ struct_number (entity_named env (name_in env.source r.of)) ]

-- what is found of the name of a declaration, if it is a method
abbrev pub head_twice : Env → Package → ℕ → Decl → List Finding
head_twice env p procedure (decl.Func f) = method_twice_of p procedure (name_in env.source f.name) (struct_of_method env f) f.name.start
head_twice env p procedure d = []

-- with the method that a declaration declares
abbrev pub with_head : Env → ℕ → Decl → List StructOf → List StructOf
with_head env procedure (decl.Func f) ts = with_method_of (struct_of_method env f) (span_by f.name) procedure 0 ts
with_head env procedure d ts = ts
