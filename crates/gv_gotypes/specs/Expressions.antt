-- What each operand is, and what is found in it: a rule for each form.
use Rattle.std.specs.Prelude.{ℕ, Bool, true, false, ◌&&◌, ◌||◌, ◌==◌, nat_lt, if◌then◌else◌, List, [], ◌∷◌, ◌++◌, Option, Some, None, option_map, option_and_then}
use Rattle.gv_base.specs.declared.answers.Code.TheVariants.{Undeclared, WrongType, ConstTooLarge}
use Rattle.gv_grammar.specs.Derivation.{is_among}
use Rattle.gv_gosyntax.specs.declared.generated.gosyntax_table.TheConstants.{CLASS_FALSE, CLASS_LEN, CLASS_NUMBER, CLASS_TRUE, CLASS_UINT64}
use Rattle.gv_gosyntax.specs.declared.lexeme.Lexeme.{Lexeme}
use Rattle.gv_gotypes.specs.Trees.{Expr, Constant, Name, Paren, Convert, Select, Index, Slice, Unary, Binary, Bound, left_out, bound}
use Rattle.gv_operands.specs.declared.types.GoType.{GoType}
use Rattle.gv_operands.specs.declared.types.GoType.TheVariants.{Byte, Pointer}
use Rattle.gv_operands.specs.declared.types.Value.TheVariants.{Count, Truth}
use Rattle.gv_operands.specs.declared.types.Kind.TheVariants.{Untyped, OfBool}
use Rattle.gv_operands.specs.declared.types.Class.{Class}
use Rattle.gv_operands.specs.declared.types.Class.TheVariants.{Run, Fixed, Nil, Length}
use Rattle.gv_operands.specs.Types.{item_of, indexed}
use Rattle.gv_operands.specs.declared.part.Spot.{Spot}
use Rattle.gv_operands.specs.declared.part.Part.{Part}
use Rattle.gv_gotypes.specs.Types.{Finding, Fault, Outer}
use Rattle.gv_operands.specs.Operators.{binary, unary, word_within, to_word, to_byte, takes_word, dividing, ordering, equating}
use Rattle.gv_gotypes.specs.Scopes.{Source, Env, Entity, Imported, ConstantOf, Variable, Found, Library, Package, name_in, found, entity_named, constant_class}
use Rattle.gv_gotypes.specs.Members.{Member, ValueOf, FieldOf, library_member, base_member}
use Rattle.gv_gotypes.specs.Literals.{number_value}
use Rattle.gv_gotypes.specs.Places.{start_of, spot_of, Outcome, part_of, refusals, form, behind}

abbrev pub nothing : List Finding → Outcome
nothing fs = record { class = None; findings = fs }

abbrev pub plainly : Option Class → Outcome
plainly c = record { class = c; findings = [] }

-- ---- names and literals

-- a number from 2^64 on is a constant without a value; a text that has tokens has none such
abbrev pub literal_class : Source → Lexeme → Class
literal_class s t =
    if t.class == CLASS_NUMBER then Fixed Untyped (word_within (number_value (name_in s t))) else (
    if t.class == CLASS_TRUE then Fixed OfBool (Some (Truth true)) else (
    if t.class == CLASS_FALSE then Fixed OfBool (Some (Truth false)) else Nil))

-- a variable is of its type and a constant what its declaration makes it; a package, a type or a function is no operand
abbrev pub entity_outcome : Package → ℕ → Entity → Outcome
entity_outcome p at (Variable declared kind) = plainly (option_map Run kind)
entity_outcome p at (ConstantOf n) = plainly (constant_class p n)
entity_outcome p at other = nothing (Fault at WrongType ∷ [])

-- a literal behind `go` uses an outer variable
abbrev pub used_outside : Entity → Bool → ℕ → List Finding
used_outside (Variable declared kind) true at = Outer at declared ∷ []
used_outside e is_outer at = []

abbrev pub outer_use : Found → ℕ → List Finding
outer_use f at = used_outside f.entity f.is_outer at

abbrev pub found_outcome : Env → Lexeme → Option Found → Outcome
found_outcome env t None = nothing (Fault t.start Undeclared ∷ [])
found_outcome env t (Some f) = behind (outer_use f t.start) (entity_outcome env.declared t.start f.entity)

abbrev pub name_outcome : Env → Lexeme → Outcome
name_outcome env t = found_outcome env t (found env (name_in env.source t))

-- ---- members

-- a member as an operand: a field or a constant; what is called, or a type, is none
abbrev pub member_outcome : Option Member → ℕ → ℕ → Outcome
member_outcome None name start = nothing (Fault name Undeclared ∷ [])
member_outcome (Some (ValueOf c)) name start = plainly c
member_outcome (Some (FieldOf n kind)) name start = plainly (option_map Run kind)
member_outcome (Some other) name start = nothing (Fault start WrongType ∷ [])

-- of an operand: only pointers to structs and to mutexes have members
abbrev pub class_member : Env → Class → Lexeme → ℕ → Outcome
class_member env (Run (Pointer b)) t start = member_outcome (base_member env.declared b (name_in env.source t)) t.start start
class_member env other t start = nothing (Fault start WrongType ∷ [])

-- the package that an operand names
abbrev pub library_in : Option Entity → Option Library
library_in (Some (Imported l)) = Some l
library_in e = None

abbrev pub library_of : Env → Expr → Option Library
library_of env (Name t) = library_in (entity_named env (name_in env.source t))
library_of env other = None

-- an operand that is not refused where it stands
abbrev pub unless_refused : List Finding → Outcome → Outcome
unless_refused [] o = o
unless_refused (f ∷ fs) o = nothing (f ∷ fs)

-- `e.t`, where e is no package
abbrev pub select_outcome : Env → Spot → Lexeme → Option Class → Outcome
select_outcome env e t None = nothing []
select_outcome env e t (Some c) = unless_refused (refusals (record { spot = e; class = Some c } ∷ [])) (class_member env c t e.start)

-- a member of a package, or of an operand
abbrev pub select_from : Env → Spot → Lexeme → Option Library → Outcome → Outcome
select_from env e t (Some l) o = member_outcome (library_member l (name_in env.source t)) t.start e.start
select_from env e t None o = behind o.findings (select_outcome env e t o.class)

-- ---- slices, indices and conversions

abbrev pub type_of_run : Class → Option GoType
type_of_run (Run t) = Some t
type_of_run other = None

abbrev pub item_class : Class → Option Class
item_class c = option_map Run (option_and_then indexed (type_of_run c))

abbrev pub index_class : Class → Class → Option Class
index_class c i = if takes_word i then item_class c else None

-- a slice of a slice is of its type
abbrev pub slice_class : Class → Option Class
slice_class c = option_and_then (λ t. option_map (λ item. Run t) (item_of t)) (type_of_run c)

abbrev pub bounds_fit : List Part → Bool
bounds_fit [] = true
bounds_fit (p ∷ ps) = elim p.class [ None ↦ false | Some c ↦ takes_word c && bounds_fit ps ]

abbrev pub sliced : Option Class → List Part → Option Class
sliced c ps = if bounds_fit ps then option_and_then slice_class c else None

abbrev pub index_outcome : Spot → Spot → Option Class → Option Class → Outcome
index_outcome e i None d = nothing (refusals (record { spot = i; class = d } ∷ []))
index_outcome e i (Some c) None = nothing (refusals (record { spot = e; class = Some c } ∷ []))
index_outcome e i (Some c) (Some d) =
    form [] (refusals (record { spot = e; class = Some c } ∷ record { spot = i; class = Some d } ∷ [])) (index_class c d) e.start

-- `e[a:b]` with these bounds
abbrev pub slice_outcome : Spot → Option Class → List Part → Outcome
slice_outcome e c ps = let all = record { spot = e; class = c } ∷ ps in form all (refusals all) (sliced c ps) e.start

abbrev pub length_class : Class → Option Class
length_class c = option_map (λ item. Length) (option_and_then item_of (type_of_run c))

abbrev pub converted : ℕ → Class → Option Class
converted word c = if word == CLASS_LEN then length_class c else (if word == CLASS_UINT64 then to_word c else to_byte c)

-- `uint64(len(e))` is the one place of `len`
abbrev pub convert_refusals : ℕ → Spot → Class → List Finding
convert_refusals word e Length = if word == CLASS_UINT64 then [] else refusals (record { spot = e; class = Some Length } ∷ [])
convert_refusals word e c = refusals (record { spot = e; class = Some c } ∷ [])

abbrev pub convert_outcome : Lexeme → Spot → Option Class → Outcome
convert_outcome w e None = nothing []
convert_outcome w e (Some c) = form [] (convert_refusals w.class e c) (converted w.class c) w.start

-- ---- two operands

-- a number without a type that is too large for the byte that it stands beside
abbrev pub too_large_beside : Class → Spot → Class → List Finding
too_large_beside (Run Byte) e (Fixed Untyped (Some (Count n))) = if nat_lt n 256 then [] else Fault e.start ConstTooLarge ∷ []
too_large_beside c e d = []

abbrev pub is_dividing : ℕ → Bool
is_dividing sign = is_among sign dividing

-- a constant divisor that is zero
abbrev pub zero_divisor : ℕ → Spot → Class → List Finding
zero_divisor sign e (Fixed k (Some (Count n))) = if is_dividing sign && n == 0 then Fault e.start ConstTooLarge ∷ [] else []
zero_divisor sign e c = []

abbrev pub is_comparing : ℕ → Bool
is_comparing sign = is_among sign ordering || is_among sign equating

-- bytes are compared, and nothing else
abbrev pub too_large_compared : ℕ → Spot → Spot → Class → Class → List Finding
too_large_compared sign a b c d = if is_comparing sign then too_large_beside c b d ++ too_large_beside d a c else []

abbrev pub binary_refusals : ℕ → Spot → Spot → Class → Class → List Finding
binary_refusals sign a b c d =
    refusals (record { spot = a; class = Some c } ∷ record { spot = b; class = Some d } ∷ [])
    ++ (too_large_compared sign a b c d ++ zero_divisor sign b d)

abbrev pub binary_outcome : Lexeme → Spot → Spot → Option Class → Option Class → Outcome
binary_outcome t a b None d = nothing (refusals (record { spot = b; class = d } ∷ []))
binary_outcome t a b (Some c) None = nothing (refusals (record { spot = a; class = Some c } ∷ []))
binary_outcome t a b (Some c) (Some d) = form [] (binary_refusals t.class a b c d) (binary t.class c d) a.start

-- `!e` and `^e`
abbrev pub unary_outcome : Lexeme → Spot → Option Class → Outcome
unary_outcome t e c = let ps = record { spot = e; class = c } ∷ [] in form ps (refusals ps) (option_and_then (unary t.class) c) t.start

-- ---- every form

abbrev mutual
  -- what an operand is, and what is found in it
  pub operand : Env → Expr → Outcome
  operand env (Constant t) = plainly (Some (literal_class env.source t))
  operand env (Name t) = name_outcome env t
  operand env (Paren t e) = operand env e
  operand env (Convert w e) = let o = operand env e in behind o.findings (convert_outcome w (spot_of e) o.class)
  operand env (Select e t) = select_from env (spot_of e) t (library_of env e) (operand env e)
  operand env (Index e i) = let o = operand env e in let j = operand env i in
      behind (o.findings ++ j.findings) (index_outcome (spot_of e) (spot_of i) o.class j.class)
  operand env (Slice e a b) = let o = operand env e in let ps = bound_parts env a ++ bound_parts env b in
      behind (o.findings ++ (bound_findings env a ++ bound_findings env b))
      (slice_outcome (spot_of e) o.class ps)
  operand env (Unary t e) = let o = operand env e in
      behind o.findings (unary_outcome t (spot_of e) o.class)
  operand env (Binary a t b) = let o = operand env a in let p = operand env b in
      behind (o.findings ++ p.findings) (binary_outcome t (spot_of a) (spot_of b) o.class p.class)

  pub bound_parts : Env → Bound → List Part
  bound_parts env left_out = []
  bound_parts env (bound e) = part_of e (operand env e).class ∷ []

  pub bound_findings : Env → Bound → List Finding
  bound_findings env left_out = []
  bound_findings env (bound e) = (operand env e).findings
