-- Uses in each form of a left side.
use Rattle.std.proofs.Common.{◌≡◌, ℕ, Bool, true, false, List, [], ◌∷◌, ◌++◌, Option, Some, None, refl, ◌∙◌}
use Rattle.std.specs.Prelude.{if◌then◌else◌, option_map, not, ◌&&◌, ◌||◌}
use Rattle.gv_base.specs.declared.answers.Code.TheVariants.{Twice, NotAssignable}
use Rattle.gv_gosyntax.specs.declared.lexeme.Lexeme.{Lexeme}
use Rattle.gv_operands.specs.declared.types.Class.{Class}
use Rattle.gv_operands.specs.declared.types.Class.TheVariants.{Run}
use Rattle.gv_operands.specs.declared.types.GoType.TheVariants.{Pointer}
use Rattle.gv_operands.specs.declared.part.Spot.{Spot}
use Rattle.gv_gotypes.specs.declared.names.Library.{Library}
use Rattle.gv_gotypes.specs.declared.names.Entity.{Entity}
use Rattle.gv_gotypes.specs.declared.names.Entity.TheVariants.{Imported, StructOf, ConstantOf, ProcedureOf, Variable}
use Rattle.gv_gotypes.specs.declared.names.Found.{Found}
use Rattle.gv_gotypes.specs.Types.{Finding, Fault}
use Rattle.gv_gotypes.specs.Trees.{Expr, Name, Select, Index}
use Rattle.gv_gotypes.specs.Scopes.{Env, name_in, is_blank, found}
use Rattle.gv_gotypes.specs.Members.{Member, ValueOf, FieldOf, Called, TypeName, library_member, base_member}
use Rattle.gv_gotypes.specs.Places.{Outcome, spot_of, start_of, refusals}
use Rattle.gv_gotypes.specs.Expressions.{operand, found_outcome, library_in, library_of}
use Rattle.gv_gotypes.specs.Assigning.{Target, member_target, class_target, refused_or, field_target, also, first_blank, nothing_new, again, some_is, is_new, is_old, same_name}
use Rattle.gv_gotyped.specs.First.{AreFaults}
use Rattle.gv_gotyped.proofs.Faults.{faults_of_parts, both_faults}
use Rattle.gv_gocalls.specs.Forms.{IsOther}
use Rattle.gv_gosimple.specs.declared.sides.Side.{Side}
use Rattle.gv_gosimple.specs.declared.sides.Side.TheVariants.{Lone, Beside, Defined}
use Rattle.gv_gosimple.specs.Lefts.{by_side}
use Rattle.gv_gouses.specs.Uses.{uses_of}
use Rattle.gv_gouses.proofs.UseLemmas.{uses_none, uses_before}
use Rattle.gv_gouses.proofs.Outcomes.{index_uses}
use Rattle.gv_gouses.proofs.CallUses.{unless_faults}

member_faults : (m : Option Member) (name start : ℕ) → AreFaults (member_target m name start).findings
member_faults None name start = tt
member_faults (Some (ValueOf c)) name start = tt
member_faults (Some (FieldOf n k)) name start = tt
member_faults (Some (Called s)) name start = tt
member_faults (Some TypeName) name start = tt

class_faults : (env : Env) (c : Class) (t : Lexeme) (start : ℕ) → AreFaults (class_target env c t start).findings
class_faults env (Run (Pointer b)) t start = member_faults (base_member env.declared b (name_in env.source t)) t.start start
class_faults env c t start = tt

refused_faults : (fs : List Finding) (c : Target) → AreFaults fs → AreFaults c.findings → AreFaults (refused_or fs c).findings
refused_faults [] c h k = k
refused_faults (f ∷ fs) c h k = h

field_faults : (env : Env) (e : Spot) (t : Lexeme) (c : Option Class) → AreFaults (field_target env e t c).findings
field_faults env e t None = tt
field_faults env e t (Some c) =
    let ps = record { spot = e; class = Some c } ∷ [] in
    refused_faults (refusals ps) (class_target env c t e.start) (faults_of_parts ps) (class_faults env c t e.start)

-- ---- members

abbrev target_from : Env → Spot → Lexeme → Option Library → Outcome → Target
target_from env s t l o = elim l [
  | Some k ↦ member_target (library_member k (name_in env.source t)) t.start s.start
  | None ↦ also o.findings (field_target env s t o.class)
]

abbrev parts_from : Option Library → Outcome → List Finding
parts_from l o = elim l [ Some k ↦ [] | None ↦ o.findings ]

target_operand : (env : Env) (s : Spot) (t : Lexeme) (o : Outcome) → uses_of (target_from env s t None o).findings ≡ uses_of o.findings
target_operand env s t o = uses_before o.findings (field_target env s t o.class).findings (field_faults env s t o.class)

target_found : (env : Env) (u t : Lexeme) (e : Entity) (b : Bool)
    → uses_of (target_from env (spot_of (Name u)) t (library_in (Some e)) (found_outcome env u (Some (record { entity = e; is_outer = b })))).findings
    ≡ uses_of (found_outcome env u (Some (record { entity = e; is_outer = b }))).findings
target_found env u t (Imported l) b = let m = library_member l (name_in env.source t) in uses_none (member_target m t.start u.start).findings (member_faults m t.start u.start)
target_found env u t (StructOf n) b = target_operand env (spot_of (Name u)) t (found_outcome env u (Some (record { entity = StructOf n; is_outer = b })))
target_found env u t (ConstantOf n) b = target_operand env (spot_of (Name u)) t (found_outcome env u (Some (record { entity = ConstantOf n; is_outer = b })))
target_found env u t (ProcedureOf n) b = target_operand env (spot_of (Name u)) t (found_outcome env u (Some (record { entity = ProcedureOf n; is_outer = b })))
target_found env u t (Variable d k) b = target_operand env (spot_of (Name u)) t (found_outcome env u (Some (record { entity = Variable d k; is_outer = b })))

target_name : (env : Env) (u t : Lexeme) (f : Option Found)
    → uses_of (target_from env (spot_of (Name u)) t (library_in (option_map (λ g. g.entity) f)) (found_outcome env u f)).findings ≡ uses_of (found_outcome env u f).findings
target_name env u t None = refl
target_name env u t (Some f) = target_found env u t f.entity f.is_outer

target_select : (env : Env) (e : Expr) (t : Lexeme) → uses_of (target_from env (spot_of e) t (library_of env e) (operand env e)).findings ≡ uses_of (operand env e).findings
target_select env (Name u) t = target_name env u t (found env (name_in env.source u))
target_select env e t = target_operand env (spot_of e) t (operand env e)

parts_found : (env : Env) (u : Lexeme) (e : Entity) (b : Bool)
    → uses_of (parts_from (library_in (Some e)) (found_outcome env u (Some (record { entity = e; is_outer = b })))) ≡ uses_of (found_outcome env u (Some (record { entity = e; is_outer = b }))).findings
parts_found env u (Imported l) b = refl
parts_found env u (StructOf n) b = refl
parts_found env u (ConstantOf n) b = refl
parts_found env u (ProcedureOf n) b = refl
parts_found env u (Variable d k) b = refl

parts_name : (env : Env) (u : Lexeme) (f : Option Found) → uses_of (parts_from (library_in (option_map (λ g. g.entity) f)) (found_outcome env u f)) ≡ uses_of (found_outcome env u f).findings
parts_name env u None = refl
parts_name env u (Some f) = parts_found env u f.entity f.is_outer

parts_select : (env : Env) (e : Expr) → uses_of (parts_from (library_of env e) (operand env e)) ≡ uses_of (operand env e).findings
parts_select env (Name u) = parts_name env u (found env (name_in env.source u))
parts_select env e = refl

refused_parts : (fs : List Finding) (at : ℕ) → uses_of (fs ++ Fault at NotAssignable ∷ []) ≡ uses_of fs
refused_parts fs at = uses_before fs (Fault at NotAssignable ∷ []) tt

pub select_side_uses : (env : Env) (s : Side) (e : Expr) (t : Lexeme) → uses_of (by_side env s (Select e t)).findings ≡ uses_of (operand env e).findings
select_side_uses env Lone e t = target_select env e t
select_side_uses env Beside e t = refused_parts (parts_from (library_of env e) (operand env e)) (start_of e) ∙ parts_select env e
select_side_uses env (Defined fresh) e t = refused_parts (parts_from (library_of env e) (operand env e)) (start_of e) ∙ parts_select env e

pub item_side_uses : (env : Env) (s : Side) (e i : Expr) → uses_of (by_side env s (Index e i)).findings ≡ uses_of ((operand env e).findings ++ (operand env i).findings)
item_side_uses env Lone e i = index_uses env e i
item_side_uses env Beside e i = refused_parts ((operand env e).findings ++ (operand env i).findings) (start_of e)
item_side_uses env (Defined fresh) e i = refused_parts ((operand env e).findings ++ (operand env i).findings) (start_of e)

pub other_side_uses : (env : Env) (s : Side) (e : Expr) → IsOther e → uses_of (by_side env s e).findings ≡ []
other_side_uses env s (Name t) h = absurd h
other_side_uses env s (Select e t) h = absurd h
other_side_uses env s (Index e i) h = absurd h
other_side_uses env Lone e h = refl
other_side_uses env Beside e h = refl
other_side_uses env (Defined fresh) e h = refl

-- ---- what left sides of `:=` have against one another

blank_if : (at : ℕ) (b : Bool) (fs : List Finding) → AreFaults fs → AreFaults (if b then Fault at Twice ∷ [] else fs)
blank_if at true fs h = tt
blank_if at false fs h = h

blank_faults : (env : Env) (es : List Expr) → AreFaults (first_blank env es)
blank_faults env [] = tt
blank_faults env (Name t ∷ es) = blank_if t.start (is_blank (name_in env.source t)) (first_blank env es) (blank_faults env es)
blank_faults env (e ∷ es) = blank_faults env es

nothing_faults : (env : Env) (es : List Expr) → AreFaults (nothing_new env es)
nothing_faults env es = by (some_is (is_new env) es || some_is (is_old env) es)
  where
    by : (b : Bool) → AreFaults (if b then [] else first_blank env es)
    by true = tt
    by false = blank_faults env es

again_faults : (env : Env) (es : List Expr) → AreFaults (again env es)
again_faults env [] = tt
again_faults env (a ∷ []) = tt
again_faults env (a ∷ b ∷ []) = unless_faults (not (is_new env a && same_name env a b)) (start_of b) Twice
again_faults env (a ∷ b ∷ e ∷ es) = tt

pub beside_faults : (env : Env) (defines : Bool) (es : List Expr) → AreFaults (if defines then nothing_new env es ++ again env es else [])
beside_faults env true es = both_faults (nothing_new env es) (again env es) (nothing_faults env es) (again_faults env es)
beside_faults env false es = tt
