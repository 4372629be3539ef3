-- Assignments and definitions: left sides, and what stands on the right of them.
use Rattle.std.specs.Prelude.{ℕ, Bool, true, false, ◌==◌, ◌&&◌, ◌||◌, not, if◌then◌else◌, List, [], ◌∷◌, ◌++◌, Option, Some, None, option_map, length}
use Rattle.std.specs.Str.{bytes_eq}
use Rattle.gv_base.specs.declared.answers.Code.TheVariants.{Undeclared, Twice, WrongType, WrongCount, NotAssignable}
use Rattle.gv_gosyntax.specs.declared.generated.gosyntax_table.TheConstants.{CLASS_DEFINE}
use Rattle.gv_gosyntax.specs.declared.lexeme.Lexeme.{Lexeme}
use Rattle.gv_gotypes.specs.Trees.{Expr, Constant, Name, Paren, Convert, Select, Index, Slice, Unary, Binary, Right, Value, Result}
use Rattle.gv_operands.specs.declared.types.GoType.{GoType}
use Rattle.gv_operands.specs.declared.types.GoType.TheVariants.{Word, Boolean, Map, Pointer}
use Rattle.gv_operands.specs.declared.types.Class.{Class}
use Rattle.gv_operands.specs.declared.types.Class.TheVariants.{Run}
use Rattle.gv_operands.specs.Types.{same_type, own_type_of}
use Rattle.gv_operands.specs.declared.part.Spot.{Spot}
use Rattle.gv_gotypes.specs.Types.{Finding, Fault, Assigned, unless}
use Rattle.gv_gotypes.specs.Scopes.{Env, Imported, StructOf, ConstantOf, ProcedureOf, Variable, Found, name_in, is_blank, is_here, found, with_variable}
use Rattle.gv_gotypes.specs.Members.{Member, FieldOf, library_member, base_member}
use Rattle.gv_operands.specs.declared.part.Want.{Want}
use Rattle.gv_operands.specs.declared.part.Want.TheVariants.{Exactly, AnyTyped, Unknown}
use Rattle.gv_gotypes.specs.Places.{start_of, bare, spot_of, refusals, want, in_place}
use Rattle.gv_gotypes.specs.Expressions.{operand, library_of, outer_use}
use Rattle.gv_gotypes.specs.Calls.{answer, call_start, placed}

-- ---- left sides

-- what a left side wants, and what is found in it
pub record Target : Type 0 where
  pub wants : Want
  pub findings : List Finding

abbrev pub no_target : List Finding → Target
no_target fs = record { wants = Unknown; findings = fs }

-- a variable is assigned; no other name may be
abbrev pub entity_target : ℕ → Option Found → Target
entity_target at None = no_target (Fault at Undeclared ∷ [])
entity_target at (Some f) = elim f.entity [
  | Variable declared kind ↦ record { wants = want kind; findings = Assigned declared ∷ outer_use f at }
  | Imported l ↦ no_target (Fault at NotAssignable ∷ [])
  | StructOf n ↦ no_target (Fault at NotAssignable ∷ [])
  | ConstantOf n ↦ no_target (Fault at NotAssignable ∷ [])
  | ProcedureOf n ↦ no_target (Fault at NotAssignable ∷ [])
]

-- `_` takes every operand that has a type by itself
abbrev pub name_target : Env → Lexeme → Target
name_target env t =
    if is_blank (name_in env.source t) then record { wants = AnyTyped; findings = [] } else entity_target t.start (found env (name_in env.source t))

-- a field; no other member may be assigned
abbrev pub member_target : Option Member → ℕ → ℕ → Target
member_target None name start = no_target (Fault name Undeclared ∷ [])
member_target (Some (FieldOf n kind)) name start = record { wants = want kind; findings = [] }
member_target (Some other) name start = no_target (Fault start NotAssignable ∷ [])

abbrev pub class_target : Env → Class → Lexeme → ℕ → Target
class_target env (Run (Pointer b)) t start = member_target (base_member env.declared b (name_in env.source t)) t.start start
class_target env other t start = no_target (Fault start WrongType ∷ [])

abbrev pub refused_or : List Finding → Target → Target
refused_or [] c = c
refused_or (f ∷ fs) c = no_target (f ∷ fs)

abbrev pub field_target : Env → Spot → Lexeme → Option Class → Target
field_target env e t None = no_target []
field_target env e t (Some c) = refused_or (refusals (record { spot = e; class = Some c } ∷ [])) (class_target env c t e.start)

abbrev pub also : List Finding → Target → Target
also fs t = record { wants = t.wants; findings = fs ++ t.findings }

-- a variable or `_`, a field, or an item
abbrev pub target : Env → Expr → Target
target env (Name t) = name_target env t
target env (Select e t) = elim (library_of env e) [
  | Some l ↦ member_target (library_member l (name_in env.source t)) t.start (start_of e)
  | None ↦ let o = operand env e in also o.findings (field_target env (spot_of e) t o.class)
]
target env (Index e i) = let o = operand env (Index e i) in record { wants = want (own_type_of o.class); findings = o.findings }
target env other = no_target (Fault (start_of other) NotAssignable ∷ [])

-- what is found in the parts of a left side that is no name
abbrev pub left_parts : Env → Expr → List Finding
left_parts env (Select e t) = elim (library_of env e) [ Some l ↦ [] | None ↦ (operand env e).findings ]
left_parts env (Index e i) = (operand env e).findings ++ (operand env i).findings
left_parts env other = []

abbrev pub not_assignable : Env → Expr → Target
not_assignable env e = no_target (left_parts env e ++ Fault (start_of e) NotAssignable ∷ [])

-- one of two left sides is a name
abbrev pub pair_target : Env → Expr → Target
pair_target env (Name t) = name_target env t
pair_target env other = not_assignable env other

-- ---- left sides of `:=`

abbrev pub is_new : Env → Expr → Bool
is_new env (Name t) = not (is_blank (name_in env.source t)) && not (is_here env.entries (name_in env.source t))
is_new env other = false

abbrev pub is_old : Env → Expr → Bool
is_old env (Name t) = not (is_blank (name_in env.source t)) && is_here env.entries (name_in env.source t)
is_old env other = false

abbrev pub some_is : (Expr → Bool) → List Expr → Bool
some_is f [] = false
some_is f (e ∷ es) = f e || some_is f es

abbrev pub same_name : Env → Expr → Expr → Bool
same_name env (Name t) (Name u) = not (is_blank (name_in env.source t)) && bytes_eq (name_in env.source t) (name_in env.source u)
same_name env e f = false

-- A new name takes every operand that has a type by itself; a name that is there already is assigned, where another one is new.
abbrev pub defined : Env → Bool → Expr → Target
defined env fresh (Name t) =
    if is_old env (Name t) then (if fresh then name_target env t else no_target (Fault t.start Twice ∷ [])) else record { wants = AnyTyped; findings = [] }
defined env fresh other = not_assignable env other

-- the first `_` is Twice where no left side is a name that is declared, now or before
abbrev pub first_blank : Env → List Expr → List Finding
first_blank env [] = []
first_blank env (Name t ∷ es) = if is_blank (name_in env.source t) then Fault t.start Twice ∷ [] else first_blank env es
first_blank env (other ∷ es) = first_blank env es

abbrev pub nothing_new : Env → List Expr → List Finding
nothing_new env es = if some_is (is_new env) es || some_is (is_old env) es then [] else first_blank env es

-- of two the second is Twice where it is the first one again
abbrev pub again : Env → List Expr → List Finding
again env (a ∷ b ∷ []) = unless (not (is_new env a && same_name env a b)) (start_of b) Twice
again env es = []

-- ---- both

abbrev pub targets_by : (Expr → Target) → List Expr → List Target
targets_by f [] = []
targets_by f (e ∷ es) = f e ∷ targets_by f es

abbrev pub targets : Env → ℕ → List Expr → List Target
targets env sign (e ∷ []) = if sign == CLASS_DEFINE then defined env (is_new env e) e ∷ [] else target env e ∷ []
targets env sign es = if sign == CLASS_DEFINE then targets_by (defined env (some_is (is_new env) es)) es else targets_by (pair_target env) es

abbrev pub target_findings : List Target → List Finding
target_findings [] = []
target_findings (t ∷ ts) = t.findings ++ target_findings ts

abbrev pub left_findings : Env → ℕ → List Expr → List Finding
left_findings env sign es =
    target_findings (targets env sign es) ++ (if sign == CLASS_DEFINE then nothing_new env es ++ again env es else [])

-- ---- right sides

-- a result has another type than its place wants
abbrev pub is_unlike : Want → Option GoType → Bool
is_unlike (Exactly t) (Some u) = not (same_type t u)
is_unlike w k = false

abbrev pub some_unlike : List Target → List (Option GoType) → Bool
some_unlike (t ∷ ts) (k ∷ ks) = is_unlike t.wants k || some_unlike ts ks
some_unlike ts ks = false

-- Results of a call: as many as are wanted, else WrongCount at the statement; of the wanted types, else WrongType where the call begins.
abbrev pub result_findings : List Target → Option (List (Option GoType)) → ℕ → ℕ → List Finding
result_findings ts None statement start = []
result_findings ts (Some ks) statement start =
    if length ks == length ts then unless (not (some_unlike ts ks)) start WrongType else Fault statement WrongCount ∷ []

abbrev pub is_map_class : Class → Bool
is_map_class (Run Map) = true
is_map_class c = false

-- whether an operand is a read of a map, parentheses aside, where that is known
abbrev pub is_map_read : Env → Expr → Option Bool
is_map_read env e = elim (bare e) as (λ _. Option Bool) [
  | Index c i ↦ option_map is_map_class (operand env c).class
  | Constant t ↦ Some false
  | Name t ↦ Some false
  | Paren t d ↦ Some false
  | Convert t d ↦ Some false
  | Select d t ↦ Some false
  | Slice d a b ↦ Some false
  | Unary t d ↦ Some false
  | Binary a t b ↦ Some false
]

-- what a read of a map gives two left sides
abbrev pub map_results : List (Option GoType)
map_results = Some Word ∷ Some Boolean ∷ []

abbrev pub read_findings : List Target → Option Bool → Option Class → ℕ → ℕ → List Finding
read_findings ts None c statement start = []
read_findings ts (Some false) c statement start = Fault statement WrongCount ∷ []
read_findings ts (Some true) None statement start = []
read_findings ts (Some true) (Some c) statement start = unless (not (some_unlike ts map_results)) start WrongType

-- the right side of one left side, or of two
abbrev pub right_findings : Env → List Target → ℕ → Right → List Finding
right_findings env (t ∷ []) statement (Value e) = placed env t.wants e
right_findings env ts statement (Value e) = let o = operand env e in
    o.findings ++ read_findings ts (is_map_read env e) o.class statement (start_of e)
right_findings env ts statement (Result c) = let a = answer env c in a.findings ++ result_findings ts a.results statement (call_start c)

-- ---- what is declared

-- the type that a new variable gets of an operand
abbrev pub settled : Spot → Option Class → Option GoType
settled e c = elim (in_place e AnyTyped c) [ [] ↦ own_type_of c | f ∷ fs ↦ None ]

abbrev pub unknown_for : {T : Type 0} → List T → List (Option GoType)
unknown_for [] = []
unknown_for (t ∷ ts) = None ∷ unknown_for ts

abbrev pub types_for : {T : Type 0} → List T → Option (List (Option GoType)) → List (Option GoType)
types_for ts None = unknown_for ts
types_for ts (Some ks) = if length ks == length ts then ks else unknown_for ts

abbrev pub read_types : Option Bool → Option (List (Option GoType))
read_types (Some true) = Some map_results
read_types k = None

-- the types that new variables get, one for a left side
abbrev pub given_types : Env → List Expr → Right → List (Option GoType)
given_types env (l ∷ []) (Value e) = settled (spot_of e) (operand env e).class ∷ []
given_types env ls (Value e) = types_for ls (read_types (is_map_read env e))
given_types env ls (Result c) = types_for ls (answer env c).results

-- behind a definition
abbrev pub declaring : Env → List Expr → List (Option GoType) → Env
declaring env (Name t ∷ ls) (k ∷ ks) = declaring (with_variable env t k) ls ks
declaring env (l ∷ ls) (k ∷ ks) = declaring env ls ks
declaring env ls ks = env
