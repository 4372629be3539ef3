-- Uses in calls: those in their operands.
use Rattle.std.proofs.Common.{◌≡◌, ℕ, Bool, true, false, List, [], ◌∷◌, ◌++◌, Option, Some, None, refl, sym, ap, ◌∙◌}
use Rattle.std.specs.Prelude.{if◌then◌else◌, map, option_map, not}
use Rattle.gv_base.specs.declared.answers.Code.{Code}
use Rattle.gv_base.specs.declared.answers.Code.TheVariants.{Undeclared, Twice, WrongType, WrongCount, ConstTooLarge}
use Rattle.gv_gosyntax.specs.declared.lexeme.Lexeme.{Lexeme}
use Rattle.gv_gosyntax.specs.declared.tree.GoType.{GoType as TypeTree}
use Rattle.gv_gosyntax.specs.declared.tree.GoType.TheVariants as tree
use Rattle.gv_gosyntax.specs.declared.tree.KeyedExpr.{KeyedExpr as DeclaredKeyed}
use Rattle.gv_operands.specs.declared.types.GoType.{GoType}
use Rattle.gv_operands.specs.declared.types.GoType.TheVariants.{Word, Byte, Pointer}
use Rattle.gv_operands.specs.declared.types.Value.TheVariants.{Count}
use Rattle.gv_operands.specs.declared.types.Kind.TheVariants.{Untyped}
use Rattle.gv_operands.specs.declared.types.Class.{Class}
use Rattle.gv_operands.specs.declared.types.Class.TheVariants.{Run, Fixed, Shifted, Nil}
use Rattle.gv_operands.specs.Types.{same_type, has_nil, own_type}
use Rattle.gv_operands.specs.declared.part.Spot.{Spot}
use Rattle.gv_operands.specs.declared.part.Want.{Want}
use Rattle.gv_operands.specs.declared.part.Want.TheVariants.{Exactly, AnyTyped, ASlice, AMap, Unknown}
use Rattle.gv_gotypes.specs.declared.names.Library.{Library}
use Rattle.gv_gotypes.specs.declared.names.Entity.{Entity}
use Rattle.gv_gotypes.specs.declared.names.Entity.TheVariants.{Imported, StructOf, ConstantOf, ProcedureOf, Variable}
use Rattle.gv_gotypes.specs.declared.names.Found.{Found}
use Rattle.gv_gotypes.specs.Types.{Finding, Fault, unless}
use Rattle.gv_gotypes.specs.Trees.{Expr, Name, Select, expr_of, keyed_of}
use Rattle.gv_gotypes.specs.Scopes.{Env, Package, Signature, FieldType, name_in, found, entity_named}
use Rattle.gv_gotypes.specs.Kinds.{name_findings, kind_findings, kind_of, base_of, word_of_pointed, type_start}
use Rattle.gv_gotypes.specs.Members.{Member, ValueOf, FieldOf, Called, TypeName, library_member, base_member}
use Rattle.gv_gotypes.specs.Places.{Outcome, spot_of, start_of, refusal, refusals, unless_refused, unlike, misfit, against, in_place, is_slice, is_map, want}
use Rattle.gv_gotypes.specs.Expressions.{operand, found_outcome, library_in, library_of}
use Rattle.gv_gotypes.specs.Calls.{placed, Callee, callee, entity_callee, member_callee, class_callee, method_callee, with_findings, refused_or, arguments, function_answer, delete_answer, append_answer, made_findings, is_made, is_map_type, size_findings, keyed_findings, field_want, is_field, is_keyed_in}
use Rattle.gv_gotyped.specs.First.{AreFaults}
use Rattle.gv_gotyped.proofs.Faults.{faults_of, faults_of_parts}
use Rattle.gv_gouses.specs.Uses.{uses_of}
use Rattle.gv_gouses.specs.Parts.{operands_findings}
use Rattle.gv_gouses.proofs.UseLemmas.{uses_both, uses_none, uses_before, uses_behind}

pub both_same : (fs gs hs is : List Finding) → uses_of fs ≡ uses_of hs → uses_of gs ≡ uses_of is → uses_of (fs ++ gs) ≡ uses_of (hs ++ is)
both_same fs gs hs is e f = uses_both fs gs ∙ ap (λ us. us ++ uses_of gs) e ∙ ap (λ us. uses_of hs ++ us) f ∙ sym (uses_both hs is)

-- ---- operands in places

pub unless_faults : (b : Bool) (at : ℕ) (c : Code) → AreFaults (unless b at c)
unless_faults true at c = tt
unless_faults false at c = tt

refused_first : (fs gs : List Finding) → AreFaults fs → AreFaults gs → AreFaults (unless_refused fs gs)
refused_first [] gs h k = k
refused_first (f ∷ fs) gs h k = h

unlike_faults : (e : Spot) (t : GoType) (own : Option GoType) → AreFaults (unlike e t own)
unlike_faults e t None = tt
unlike_faults e t (Some u) = unless_faults (same_type t u) e.start WrongType

misfit_faults : (e : Spot) (t : GoType) (c : Class) → AreFaults (misfit e t c)
misfit_faults e Word (Fixed Untyped v) = tt
misfit_faults e Byte (Fixed Untyped (Some (Count n))) = unless_faults _ e.start ConstTooLarge
misfit_faults e Word Shifted = tt
misfit_faults e Word Nil = unless_faults (has_nil Word) e.start WrongType
misfit_faults e Byte Nil = unless_faults (has_nil Byte) e.start WrongType
misfit_faults e t Nil = unless_faults (has_nil t) e.start WrongType
misfit_faults e t c = unlike_faults e t (own_type c)

typed_faults : (e : Spot) (own : Option GoType) → AreFaults (elim own [ None ↦ Fault e.start WrongType ∷ [] | Some t ↦ [] ])
typed_faults e None = tt
typed_faults e (Some t) = tt

against_faults : (e : Spot) (w : Want) (c : Class) → AreFaults (against e w c)
against_faults e Unknown c = tt
against_faults e AnyTyped c = typed_faults e (own_type c)
against_faults e (Exactly t) c = misfit_faults e t c
against_faults e ASlice c = unless_faults (is_slice c) e.start WrongType
against_faults e AMap c = unless_faults (is_map c) e.start WrongType

pub place_faults : (e : Spot) (w : Want) (c : Option Class) → AreFaults (in_place e w c)
place_faults e w None = tt
place_faults e w (Some c) = refused_first (refusal e c) (against e w c) (faults_of e c) (against_faults e w c)

pub placed_uses : (env : Env) (w : Want) (e : Expr) → uses_of (placed env w e) ≡ uses_of (operand env e).findings
placed_uses env w e = let o = operand env e in uses_before o.findings (in_place (spot_of e) w o.class) (place_faults (spot_of e) w o.class)

pub arguments_uses : (env : Env) (ps : List (Option GoType)) (es : List Expr) → uses_of (arguments env ps es) ≡ uses_of (operands_findings env es)
arguments_uses env ps [] = refl
arguments_uses env [] (e ∷ es) =
    both_same (placed env Unknown e) (arguments env [] es) (operand env e).findings (operands_findings env es) (placed_uses env Unknown e) (arguments_uses env [] es)
arguments_uses env (p ∷ ps) (e ∷ es) =
    both_same (placed env (want p) e) (arguments env ps es) (operand env e).findings (operands_findings env es) (placed_uses env (want p) e) (arguments_uses env ps es)

-- ---- what is called

entity_faults : (p : Package) (at : ℕ) (e : Option Entity) → AreFaults (entity_callee p at e).findings
entity_faults p at None = tt
entity_faults p at (Some (Imported l)) = tt
entity_faults p at (Some (StructOf n)) = tt
entity_faults p at (Some (ConstantOf n)) = tt
entity_faults p at (Some (ProcedureOf n)) = tt
entity_faults p at (Some (Variable d k)) = tt

member_faults : (m : Option Member) (name start : ℕ) → AreFaults (member_callee m name start).findings
member_faults None name start = tt
member_faults (Some (ValueOf c)) name start = tt
member_faults (Some (FieldOf n k)) name start = tt
member_faults (Some (Called s)) name start = tt
member_faults (Some TypeName) name start = tt

class_faults : (env : Env) (c : Class) (t : Lexeme) (start : ℕ) → AreFaults (class_callee env c t start).findings
class_faults env (Run (Pointer b)) t start = member_faults (base_member env.declared b (name_in env.source t)) t.start start
class_faults env c t start = tt

refused_faults : (fs : List Finding) (c : Callee) → AreFaults fs → AreFaults c.findings → AreFaults (refused_or fs c).findings
refused_faults [] c h k = k
refused_faults (f ∷ fs) c h k = h

method_faults : (env : Env) (e : Spot) (t : Lexeme) (c : Option Class) → AreFaults (method_callee env e t c).findings
method_faults env e t None = tt
method_faults env e t (Some c) =
    let ps = record { spot = e; class = Some c } ∷ [] in
    refused_faults (refusals ps) (class_callee env c t e.start) (faults_of_parts ps) (class_faults env c t e.start)

abbrev callee_from : Env → Spot → Lexeme → Option Library → Outcome → Callee
callee_from env s t l o = elim l [
  | Some k ↦ member_callee (library_member k (name_in env.source t)) t.start s.start
  | None ↦ with_findings o.findings (method_callee env s t o.class)
]

of_operand : (env : Env) (s : Spot) (t : Lexeme) (o : Outcome) → uses_of (callee_from env s t None o).findings ≡ uses_of o.findings
of_operand env s t o = uses_before o.findings (method_callee env s t o.class).findings (method_faults env s t o.class)

of_found : (env : Env) (u t : Lexeme) (e : Entity) (b : Bool)
    → uses_of (callee_from env (spot_of (Name u)) t (library_in (Some e)) (found_outcome env u (Some (record { entity = e; is_outer = b })))).findings
    ≡ uses_of (found_outcome env u (Some (record { entity = e; is_outer = b }))).findings
of_found env u t (Imported l) b = let m = library_member l (name_in env.source t) in uses_none (member_callee m t.start u.start).findings (member_faults m t.start u.start)
of_found env u t (StructOf n) b = of_operand env (spot_of (Name u)) t (found_outcome env u (Some (record { entity = StructOf n; is_outer = b })))
of_found env u t (ConstantOf n) b = of_operand env (spot_of (Name u)) t (found_outcome env u (Some (record { entity = ConstantOf n; is_outer = b })))
of_found env u t (ProcedureOf n) b = of_operand env (spot_of (Name u)) t (found_outcome env u (Some (record { entity = ProcedureOf n; is_outer = b })))
of_found env u t (Variable d k) b = of_operand env (spot_of (Name u)) t (found_outcome env u (Some (record { entity = Variable d k; is_outer = b })))

of_name : (env : Env) (u t : Lexeme) (f : Option Found)
    → uses_of (callee_from env (spot_of (Name u)) t (library_in (option_map (λ g. g.entity) f)) (found_outcome env u f)).findings ≡ uses_of (found_outcome env u f).findings
of_name env u t None = refl
of_name env u t (Some f) = of_found env u t f.entity f.is_outer

called_uses : (env : Env) (e : Expr) (t : Lexeme) → uses_of (callee_from env (spot_of e) t (library_of env e) (operand env e)).findings ≡ uses_of (operand env e).findings
called_uses env (Name u) t = of_name env u t (found env (name_in env.source u))
called_uses env e t = of_operand env (spot_of e) t (operand env e)

pub select_callee_uses : (env : Env) (e : Expr) (t : Lexeme) → uses_of (callee env (Select e t)).findings ≡ uses_of (operand env e).findings
select_callee_uses env e t = called_uses env e t

-- ---- calls

pub function_uses : (env : Env) (f : Expr) (es : List Expr) (c : Callee) → uses_of (function_answer env f es c).findings ≡ uses_of (c.findings ++ operands_findings env es)
function_uses env f es c = by c.signature
  where
    by : (s : Option Signature) → uses_of (function_answer env f es (record { signature = s; findings = c.findings })).findings ≡ uses_of (c.findings ++ operands_findings env es)
    by None = both_same c.findings (arguments env [] es) c.findings (operands_findings env es) refl (arguments_uses env [] es)
    by (Some s) =
        let count = unless _ (start_of f) WrongCount in
        both_same c.findings (count ++ arguments env s.params es) c.findings (operands_findings env es) refl
        (uses_behind count (arguments env s.params es) (unless_faults _ (start_of f) WrongCount) ∙ arguments_uses env s.params es)

pub pair_uses : (env : Env) (b : Bool) (x y : Expr)
    → uses_of (if b then delete_answer env x y else append_answer env x y).findings ≡ uses_of ((operand env x).findings ++ (operand env y).findings)
pair_uses env true x y = both_same (placed env AMap x) (placed env (Exactly Word) y) (operand env x).findings (operand env y).findings (placed_uses env AMap x) (placed_uses env (Exactly Word) y)
pair_uses env false x y = both_same (placed env ASlice x) (placed env _ y) (operand env x).findings (operand env y).findings (placed_uses env ASlice x) (placed_uses env _ y)

pub name_faults : {T : Type 0} (e : Option Entity) (m : Option T) (name start : ℕ) → AreFaults (name_findings e m name start)
name_faults None m name start = tt
name_faults (Some e) None name start = tt
name_faults (Some e) (Some t) name start = tt

pub kind_faults : (env : Env) (t : TypeTree) → AreFaults (kind_findings env t)
kind_faults env (tree.Word w) = tt
kind_faults env (tree.Slice o w) = tt
kind_faults env (tree.Pointers o p) = name_faults (entity_named env (name_in env.source (word_of_pointed p))) (base_of env p) (word_of_pointed p).start o.start
kind_faults env (tree.Map m) = tt
kind_faults env (tree.Pointer s p) = name_faults (entity_named env (name_in env.source (word_of_pointed p))) (base_of env p) (word_of_pointed p).start s.start
kind_faults env (tree.Block k) = name_faults (entity_named env (name_in env.source k)) (kind_of env (tree.Block k)) k.start k.start

sized_faults : (m sized : Bool) (t : GoType) (word start : ℕ)
    → AreFaults (if m then (if sized then [] else unless (is_map_type t) word WrongCount) else Fault start WrongType ∷ [])
sized_faults true true t word start = tt
sized_faults true false t word start = unless_faults (is_map_type t) word WrongCount
sized_faults false sized t word start = tt

made_faults : (k : Option GoType) (sized : Bool) (word start : ℕ) → AreFaults (made_findings k sized word start)
made_faults None sized word start = tt
made_faults (Some t) sized word start = sized_faults (is_made t) sized t word start

pub make_uses : (env : Env) (t : TypeTree) (sized : Bool) (word : ℕ) (size : Option Expr)
    → uses_of (kind_findings env t ++ (made_findings (kind_of env t) sized word (type_start t) ++ size_findings env size)) ≡ uses_of (size_findings env size)
make_uses env t sized word size =
    let made = made_findings (kind_of env t) sized word (type_start t) in
    uses_behind (kind_findings env t) (made ++ size_findings env size) (kind_faults env t) ∙ uses_behind made (size_findings env size) (made_faults (kind_of env t) sized word (type_start t))

pub keyed_uses : (env : Env) (fs : Option (List FieldType)) (before : List (List ℕ)) (ks : List DeclaredKeyed)
    → uses_of (keyed_findings env fs before (map keyed_of ks)) ≡ uses_of (operands_findings env (map expr_of (map (λ (k : DeclaredKeyed). k.value) ks)))
keyed_uses env fs before [] = refl
keyed_uses env fs before (k ∷ ks) =
    let name = name_in env.source k.key in
    let rest = keyed_findings env fs (name ∷ before) (map keyed_of ks) in
    let own = placed env (field_want fs name) (expr_of k.value) in
    let again = unless (not (is_keyed_in before name)) k.key.start Twice in
    uses_behind (unless (is_field fs name) k.key.start Undeclared) (again ++ (own ++ rest)) (unless_faults (is_field fs name) k.key.start Undeclared)
    ∙ uses_behind again (own ++ rest) (unless_faults (not (is_keyed_in before name)) k.key.start Twice)
    ∙ both_same own rest (operand env (expr_of k.value)).findings (operands_findings env (map expr_of (map (λ (x : DeclaredKeyed). x.value) ks)))
    (placed_uses env (field_want fs name) (expr_of k.value)) (keyed_uses env fs (name ∷ before) ks)
