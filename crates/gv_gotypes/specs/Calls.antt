-- Calls: what each gives, and what is found in it.
use Rattle.std.specs.Prelude.{ℕ, Bool, true, false, ◌==◌, ◌&&◌, not, if◌then◌else◌, List, [], ◌∷◌, ◌++◌, Option, Some, None, option_map, option_and_then, is_some, length, codes, slice_get}
use Rattle.std.specs.Str.{bytes_eq}
use Rattle.gv_base.specs.declared.answers.Code.TheVariants.{Undeclared, Twice, WrongType, WrongCount}
use Rattle.gv_gosyntax.specs.declared.generated.gosyntax_table.TheConstants.{CLASS_DELETE, CLASS_SYNC}
use Rattle.gv_gosyntax.specs.declared.lexeme.Lexeme.{Lexeme}
use Rattle.gv_gosyntax.specs.declared.tree.GoType.{GoType as TypeTree}
use Rattle.gv_gotypes.specs.Trees.{Expr, Name, Select, KeyedExpr, Call, Function, Pair, Make, New, Literal}
use Rattle.gv_operands.specs.declared.types.Base.{Base}
use Rattle.gv_operands.specs.declared.types.Base.TheVariants.{Struct}
use Rattle.gv_operands.specs.declared.types.GoType.{GoType}
use Rattle.gv_operands.specs.declared.types.GoType.TheVariants.{Word, Map, Pointer}
use Rattle.gv_operands.specs.declared.types.Class.{Class}
use Rattle.gv_operands.specs.declared.types.Class.TheVariants.{Run}
use Rattle.gv_operands.specs.Types.{item_of, own_type_of}
use Rattle.gv_operands.specs.declared.part.Spot.{Spot}
use Rattle.gv_gotypes.specs.Types.{Finding, Fault, unless}
use Rattle.gv_gotypes.specs.Scopes.{Env, Entity, ProcedureOf, Signature, FieldType, Package, name_in, is_blank, entity_named, next_of}
use Rattle.gv_gotypes.specs.Kinds.{kind_of, kind_findings, name_findings, struct_in, mutex_in, type_start}
use Rattle.gv_gotypes.specs.Members.{Member, FieldOf, Called, library_member, base_member, field_from}
use Rattle.gv_operands.specs.declared.part.Want.{Want}
use Rattle.gv_operands.specs.declared.part.Want.TheVariants.{Exactly, AMap, ASlice, Unknown}
use Rattle.gv_gotypes.specs.Places.{start_of, spot_of, refusals, want, in_place}
use Rattle.gv_gotypes.specs.Expressions.{operand, library_of}

-- What a call gives, where that is known, and what is found in it.
pub record Answer : Type 0 where
  pub results : Option (List (Option GoType))
  pub findings : List Finding

-- an operand in a place, with all that is found in it
abbrev pub placed : Env → Want → Expr → List Finding
placed env w e = let o = operand env e in o.findings ++ in_place (spot_of e) w o.class

-- ---- what is called

pub record Callee : Type 0 where
  pub signature : Option Signature
  pub findings : List Finding

abbrev pub no_callee : List Finding → Callee
no_callee fs = record { signature = None; findings = fs }

abbrev pub entity_callee : Package → ℕ → Option Entity → Callee
entity_callee p at None = no_callee (Fault at Undeclared ∷ [])
entity_callee p at (Some (ProcedureOf n)) = record { signature = slice_get p.procedures n; findings = [] }
entity_callee p at (Some other) = no_callee (Fault at WrongType ∷ [])

abbrev pub member_callee : Option Member → ℕ → ℕ → Callee
member_callee None name start = no_callee (Fault name Undeclared ∷ [])
member_callee (Some (Called s)) name start = record { signature = Some s; findings = [] }
member_callee (Some other) name start = no_callee (Fault start WrongType ∷ [])

abbrev pub class_callee : Env → Class → Lexeme → ℕ → Callee
class_callee env (Run (Pointer b)) t start = member_callee (base_member env.declared b (name_in env.source t)) t.start start
class_callee env other t start = no_callee (Fault start WrongType ∷ [])

abbrev pub refused_or : List Finding → Callee → Callee
refused_or [] c = c
refused_or (f ∷ fs) c = no_callee (f ∷ fs)

abbrev pub method_callee : Env → Spot → Lexeme → Option Class → Callee
method_callee env e t None = no_callee []
method_callee env e t (Some c) = refused_or (refusals (record { spot = e; class = Some c } ∷ [])) (class_callee env c t e.start)

abbrev pub with_findings : List Finding → Callee → Callee
with_findings fs c = record { signature = c.signature; findings = fs ++ c.findings }

-- a function, a method, or a function of a package
abbrev pub callee : Env → Expr → Callee
callee env (Name t) = entity_callee env.declared t.start (entity_named env (name_in env.source t))
callee env (Select e t) = elim (library_of env e) [
  | Some l ↦ member_callee (library_member l (name_in env.source t)) t.start (start_of e)
  | None ↦ let o = operand env e in with_findings o.findings (method_callee env (spot_of e) t o.class)
]
callee env other = no_callee (Fault (start_of other) WrongType ∷ [])

-- ---- arguments

-- each in the place of its parameter; nothing is known of those too many
abbrev pub arguments : Env → List (Option GoType) → List Expr → List Finding
arguments env ps [] = []
arguments env [] (e ∷ es) = placed env Unknown e ++ arguments env [] es
arguments env (p ∷ ps) (e ∷ es) = placed env (want p) e ++ arguments env ps es

abbrev pub function_answer : Env → Expr → List Expr → Callee → Answer
function_answer env f es c = elim c.signature [
  | None ↦ record { results = None; findings = c.findings ++ arguments env [] es }
  | Some s ↦ record {
    results = Some s.results;
    findings = c.findings ++ (unless (length s.params == length es) (start_of f) WrongCount ++ arguments env s.params es);
  }
]

-- ---- `delete`, `append`, `make`, `new`

abbrev pub delete_answer : Env → Expr → Expr → Answer
delete_answer env m k = record { results = Some []; findings = placed env AMap m ++ placed env (Exactly Word) k }

-- the type, where it is that of a slice
abbrev pub slice_type : GoType → Option GoType
slice_type t = option_map (λ item. t) (item_of t)

-- the item has the type of the slice's items, and the result that of the slice
abbrev pub append_answer : Env → Expr → Expr → Answer
append_answer env s v = let t = option_and_then slice_type (own_type_of (operand env s).class) in
    record { results = Some (t ∷ []); findings = placed env ASlice s ++ placed env (want (option_and_then item_of t)) v }

-- a slice has a length, a map may have one
abbrev pub is_made : GoType → Bool
is_made Map = true
is_made t = is_some (item_of t)

abbrev pub is_map_type : GoType → Bool
is_map_type Map = true
is_map_type t = false

abbrev pub made_findings : Option GoType → Bool → ℕ → ℕ → List Finding
made_findings None sized word start = []
made_findings (Some t) sized word start =
    if is_made t then (if sized then [] else unless (is_map_type t) word WrongCount) else Fault start WrongType ∷ []

abbrev pub made_result : Option GoType → Option GoType
made_result None = None
made_result (Some t) = if is_made t then Some t else None

abbrev pub size_findings : Env → Option Expr → List Finding
size_findings env None = []
size_findings env (Some e) = placed env (Exactly Word) e

abbrev pub make_answer : Env → Lexeme → TypeTree → Option Expr → Answer
make_answer env w t size = record {
  results = Some (made_result (kind_of env t) ∷ []);
  findings = kind_findings env t ++ (made_findings (kind_of env t) (is_some size) w.start (type_start t) ++ size_findings env size);
}

-- the type in `new(sync.Mutex)` begins at the first word `sync` behind the word `new`
abbrev pub new_answer : Env → Lexeme → Answer
new_answer env w =
    let e = entity_named env (codes "sync") in let at = next_of CLASS_SYNC env.source.tokens w.start in
    record { results = Some (option_map Pointer (mutex_in e) ∷ []); findings = name_findings e (mutex_in e) at at }

-- ---- literals of structs

abbrev pub fields_of : Package → Option Base → Option (List FieldType)
fields_of p (Some (Struct n)) = option_map (λ s. s.fields) (slice_get p.structs n)
fields_of p other = None

abbrev pub member_want : Member → Want
member_want (FieldOf n kind) = want kind
member_want other = Unknown

-- what the field of a key wants: nothing that is known where there is none
abbrev pub field_want : Option (List FieldType) → List ℕ → Want
field_want None name = Unknown
field_want (Some fs) name = elim (field_from 0 fs name) [ None ↦ Unknown | Some m ↦ member_want m ]

abbrev pub is_field : Option (List FieldType) → List ℕ → Bool
is_field None name = true
is_field (Some fs) name = not (is_blank name) && is_some (field_from 0 fs name)

abbrev pub is_keyed_in : List (List ℕ) → List ℕ → Bool
is_keyed_in [] name = false
is_keyed_in (n ∷ ns) name = if bytes_eq n name then true else is_keyed_in ns name

abbrev pub keyed_findings : Env → Option (List FieldType) → List (List ℕ) → List KeyedExpr → List Finding
keyed_findings env fs before [] = []
keyed_findings env fs before (k ∷ ks) = let name = name_in env.source k.key in
    unless (is_field fs name) k.key.start Undeclared
    ++ (unless (not (is_keyed_in before name)) k.key.start Twice
    ++ (placed env (field_want fs name) k.value ++ keyed_findings env fs (name ∷ before) ks))

abbrev pub literal_answer : Env → Lexeme → Lexeme → List KeyedExpr → Answer
literal_answer env amp t ks =
    let e = entity_named env (name_in env.source t) in record {
      results = Some (option_map Pointer (struct_in e) ∷ []);
      findings = name_findings e (struct_in e) t.start amp.start ++ keyed_findings env (fields_of env.declared (struct_in e)) [] ks;
    }

-- ---- every call

abbrev pub answer : Env → Call → Answer
answer env (Function f es) = function_answer env f es (callee env f)
answer env (Pair w a b) = if w.class == CLASS_DELETE then delete_answer env a b else append_answer env a b
answer env (Make w t size) = make_answer env w t size
answer env (New w) = new_answer env w
answer env (Literal amp t ks) = literal_answer env amp t ks

-- where a call begins
abbrev pub call_start : Call → ℕ
call_start (Function f es) = start_of f
call_start (Pair w a b) = w.start
call_start (Make w t size) = w.start
call_start (New w) = w.start
call_start (Literal amp t ks) = amp.start
