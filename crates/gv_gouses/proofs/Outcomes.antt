-- Uses in each form of an operand: those in its parts.
use Rattle.std.proofs.Common.{◌≡◌, ℕ, Bool, true, false, List, [], ◌∷◌, ◌++◌, Option, Some, None, refl, sym, ap, ◌∙◌}
use Rattle.std.specs.Prelude.{if◌then◌else◌, option_map}
use Rattle.gv_gosyntax.specs.declared.lexeme.Lexeme.{Lexeme}
use Rattle.gv_operands.specs.declared.types.GoType.TheVariants.{Word, Byte, Boolean, Bytes, Words, Pointers, Map, Pointer}
use Rattle.gv_operands.specs.declared.types.Class.{Class}
use Rattle.gv_operands.specs.declared.types.Class.TheVariants.{Run, Fixed, Shifted, Nil, Length}
use Rattle.gv_operands.specs.declared.part.Spot.{Spot}
use Rattle.gv_operands.specs.declared.part.Part.{Part}
use Rattle.gv_operands.specs.Operators.{is_fixed}
use Rattle.gv_gotypes.specs.Types.{Finding}
use Rattle.gv_gotypes.specs.Trees.{Expr, Name, Convert, Select, Index, Slice, Unary, Binary, Bound}
use Rattle.gv_gotypes.specs.declared.names.Entity.{Entity}
use Rattle.gv_gotypes.specs.declared.names.Entity.TheVariants.{Imported, StructOf, ConstantOf, ProcedureOf, Variable}
use Rattle.gv_gotypes.specs.declared.names.Found.{Found}
use Rattle.gv_gotypes.specs.Scopes.{Env, Package, name_in, found}
use Rattle.gv_gotypes.specs.Members.{Member, ValueOf, FieldOf, Called, TypeName, library_member, base_member}
use Rattle.gv_gotypes.specs.Places.{Outcome, run_form, whole_form, form, refusals, some_is_nothing, spot_of}
use Rattle.gv_gotypes.specs.Expressions.{operand, bound_parts, bound_findings, entity_outcome, found_outcome, outer_use, name_outcome, member_outcome, class_member, unless_refused, select_outcome, select_from, library_in, convert_refusals, convert_outcome, converted, index_outcome, index_class, slice_outcome, sliced, unary_outcome, binary_outcome, binary_refusals}
use Rattle.gv_gotyped.specs.First.{AreFaults}
use Rattle.gv_gotyped.proofs.Faults.{faults_of_parts, faults_of_binary, faults_of_convert}
use Rattle.gv_gosyntax.specs.declared.tree.Expr.{Expr as DeclaredExpr}
use Rattle.gv_gotypes.specs.Trees.{expr_of, bound_of}
use Rattle.gv_gouses.specs.declared.noted.Use.{Use}
use Rattle.gv_gouses.specs.Uses.{uses_of, Adds}
use Rattle.gv_gouses.proofs.UseLemmas.{uses_none, uses_before, adds_as}

-- ---- what forms have against their parts are faults

run_faults : (fs : List Finding) (made : Option Class) (start : ℕ) → AreFaults fs → AreFaults (run_form fs made start).findings
run_faults [] None start h = tt
run_faults [] (Some c) start h = tt
run_faults (f ∷ fs) made start h = h

whole_faults : (fs : List Finding) (made : Option Class) (start : ℕ) → AreFaults fs → AreFaults (whole_form fs made start).findings
whole_faults fs None start h = run_faults fs None start h
whole_faults fs (Some c) start h = by (is_fixed c)
  where
    by : (b : Bool) → AreFaults (if b then record { class = Some c; findings = [] } else run_form fs (Some c) start).findings
    by true = tt
    by false = run_faults fs (Some c) start h

form_faults : (ps : List Part) (fs : List Finding) (made : Option Class) (start : ℕ) → AreFaults fs → AreFaults (form ps fs made start).findings
form_faults ps fs made start h = by (some_is_nothing ps)
  where
    by : (b : Bool) → AreFaults (if b then record { class = None; findings = fs } else whole_form fs made start).findings
    by true = h
    by false = whole_faults fs made start h

entity_faults : (p : Package) (at : ℕ) (e : Entity) → AreFaults (entity_outcome p at e).findings
entity_faults p at (Imported l) = tt
entity_faults p at (StructOf n) = tt
entity_faults p at (ConstantOf n) = tt
entity_faults p at (ProcedureOf n) = tt
entity_faults p at (Variable d k) = tt

member_faults : (m : Option Member) (name start : ℕ) → AreFaults (member_outcome m name start).findings
member_faults None name start = tt
member_faults (Some (ValueOf c)) name start = tt
member_faults (Some (FieldOf n k)) name start = tt
member_faults (Some (Called s)) name start = tt
member_faults (Some TypeName) name start = tt

class_faults : (env : Env) (c : Class) (t : Lexeme) (start : ℕ) → AreFaults (class_member env c t start).findings
class_faults env (Run (Pointer b)) t start = member_faults (base_member env.declared b (name_in env.source t)) t.start start
class_faults env (Run Word) t start = tt
class_faults env (Run Byte) t start = tt
class_faults env (Run Boolean) t start = tt
class_faults env (Run Bytes) t start = tt
class_faults env (Run Words) t start = tt
class_faults env (Run (Pointers b)) t start = tt
class_faults env (Run Map) t start = tt
class_faults env (Fixed k v) t start = tt
class_faults env Shifted t start = tt
class_faults env Nil t start = tt
class_faults env Length t start = tt

refused_faults : (fs : List Finding) (o : Outcome) → AreFaults fs → AreFaults o.findings → AreFaults (unless_refused fs o).findings
refused_faults [] o h k = k
refused_faults (f ∷ fs) o h k = h

select_faults : (env : Env) (e : Spot) (t : Lexeme) (c : Option Class) → AreFaults (select_outcome env e t c).findings
select_faults env e t None = tt
select_faults env e t (Some c) =
    let ps = record { spot = e; class = Some c } ∷ [] in
    refused_faults (refusals ps) (class_member env c t e.start) (faults_of_parts ps) (class_faults env c t e.start)

convert_faults : (w : Lexeme) (e : Spot) (c : Option Class) → AreFaults (convert_outcome w e c).findings
convert_faults w e None = tt
convert_faults w e (Some c) = form_faults [] (convert_refusals w.class e c) (converted w.class c) w.start (faults_of_convert w.class e c)

index_faults : (e i : Spot) (c d : Option Class) → AreFaults (index_outcome e i c d).findings
index_faults e i None d = faults_of_parts (record { spot = i; class = d } ∷ [])
index_faults e i (Some c) None = faults_of_parts (record { spot = e; class = Some c } ∷ [])
index_faults e i (Some c) (Some d) =
    let ps = record { spot = e; class = Some c } ∷ record { spot = i; class = Some d } ∷ [] in
    form_faults [] (refusals ps) (index_class c d) e.start (faults_of_parts ps)

slice_faults : (e : Spot) (c : Option Class) (ps : List Part) → AreFaults (slice_outcome e c ps).findings
slice_faults e c ps = let all = record { spot = e; class = c } ∷ ps in form_faults all (refusals all) (sliced c ps) e.start (faults_of_parts all)

unary_faults : (t : Lexeme) (e : Spot) (c : Option Class) → AreFaults (unary_outcome t e c).findings
unary_faults t e c = let ps = record { spot = e; class = c } ∷ [] in form_faults ps (refusals ps) _ t.start (faults_of_parts ps)

binary_faults : (t : Lexeme) (x y : Spot) (c d : Option Class) → AreFaults (binary_outcome t x y c d).findings
binary_faults t x y None d = faults_of_parts (record { spot = y; class = d } ∷ [])
binary_faults t x y (Some c) None = faults_of_parts (record { spot = x; class = Some c } ∷ [])
binary_faults t x y (Some c) (Some d) = form_faults [] (binary_refusals t.class x y c d) _ x.start (faults_of_binary t.class x y c d)

-- ---- names

pub found_uses : (env : Env) (t : Lexeme) (f : Found) → uses_of (found_outcome env t (Some f)).findings ≡ uses_of (outer_use f t.start)
found_uses env t f = uses_before (outer_use f t.start) (entity_outcome env.declared t.start f.entity).findings (entity_faults env.declared t.start f.entity)

pub name_uses : (env : Env) (t : Lexeme) (f : Option Found) → f ≡ found env (name_in env.source t) → uses_of (name_outcome env t).findings ≡ uses_of (found_outcome env t f).findings
name_uses env t f e = ap (λ (x : Option Found). uses_of (found_outcome env t x).findings) (sym e)

-- ---- forms

pub convert_uses : (env : Env) (w : Lexeme) (e : Expr) → uses_of (operand env (Convert w e)).findings ≡ uses_of (operand env e).findings
convert_uses env w e = let o = operand env e in uses_before o.findings (convert_outcome w (spot_of e) o.class).findings (convert_faults w (spot_of e) o.class)

of_operand : (env : Env) (e : Expr) (t : Lexeme) → uses_of (select_from env (spot_of e) t None (operand env e)).findings ≡ uses_of (operand env e).findings
of_operand env e t = let o = operand env e in uses_before o.findings (select_outcome env (spot_of e) t o.class).findings (select_faults env (spot_of e) t o.class)

of_entity : (env : Env) (u t : Lexeme) (e : Entity) (b : Bool)
    → uses_of (select_from env (spot_of (Name u)) t None (found_outcome env u (Some (record { entity = e; is_outer = b })))).findings ≡ uses_of (found_outcome env u (Some (record { entity = e; is_outer = b }))).findings
of_entity env u t e b =
    let o = found_outcome env u (Some (record { entity = e; is_outer = b })) in
    uses_before o.findings (select_outcome env (spot_of (Name u)) t o.class).findings (select_faults env (spot_of (Name u)) t o.class)

of_found : (env : Env) (u t : Lexeme) (e : Entity) (b : Bool)
    → uses_of (select_from env (spot_of (Name u)) t (library_in (Some e)) (found_outcome env u (Some (record { entity = e; is_outer = b })))).findings
    ≡ uses_of (found_outcome env u (Some (record { entity = e; is_outer = b }))).findings
of_found env u t (Imported l) b =
    let m = library_member l (name_in env.source t) in uses_none (member_outcome m t.start u.start).findings (member_faults m t.start u.start)
of_found env u t (StructOf n) b = of_entity env u t (StructOf n) b
of_found env u t (ConstantOf n) b = of_entity env u t (ConstantOf n) b
of_found env u t (ProcedureOf n) b = of_entity env u t (ProcedureOf n) b
of_found env u t (Variable d k) b = of_entity env u t (Variable d k) b

of_name : (env : Env) (u t : Lexeme) (f : Option Found)
    → uses_of (select_from env (spot_of (Name u)) t (library_in (option_map (λ g. g.entity) f)) (found_outcome env u f)).findings ≡ uses_of (found_outcome env u f).findings
of_name env u t None = refl
of_name env u t (Some f) = of_found env u t f.entity f.is_outer

pub select_uses : (env : Env) (e : Expr) (t : Lexeme) → uses_of (operand env (Select e t)).findings ≡ uses_of (operand env e).findings
select_uses env (Name u) t = of_name env u t (found env (name_in env.source u))
select_uses env e t = of_operand env e t

pub index_uses : (env : Env) (e i : Expr) → uses_of (operand env (Index e i)).findings ≡ uses_of ((operand env e).findings ++ (operand env i).findings)
index_uses env e i = let o = operand env e in let j = operand env i in
    uses_before (o.findings ++ j.findings) (index_outcome (spot_of e) (spot_of i) o.class j.class).findings (index_faults (spot_of e) (spot_of i) o.class j.class)

pub slice_uses : (env : Env) (e : Expr) (a b : Bound)
    → uses_of (operand env (Slice e a b)).findings ≡ uses_of ((operand env e).findings ++ (bound_findings env a ++ bound_findings env b))
slice_uses env e a b = let o = operand env e in let ps = bound_parts env a ++ bound_parts env b in
    uses_before (o.findings ++ (bound_findings env a ++ bound_findings env b)) (slice_outcome (spot_of e) o.class ps).findings (slice_faults (spot_of e) o.class ps)

pub unary_uses : (env : Env) (t : Lexeme) (e : Expr) → uses_of (operand env (Unary t e)).findings ≡ uses_of (operand env e).findings
unary_uses env t e = let o = operand env e in uses_before o.findings (unary_outcome t (spot_of e) o.class).findings (unary_faults t (spot_of e) o.class)

pub binary_uses : (env : Env) (a : Expr) (t : Lexeme) (b : Expr) → uses_of (operand env (Binary a t b)).findings ≡ uses_of ((operand env a).findings ++ (operand env b).findings)
binary_uses env a t b = let o = operand env a in let p = operand env b in
    uses_before (o.findings ++ p.findings) (binary_outcome t (spot_of a) (spot_of b) o.class p.class).findings (binary_faults t (spot_of a) (spot_of b) o.class p.class)

-- ---- by nodes

pub adds_form : (env : Env) (e d : DeclaredExpr) (p : Expr) (old new : List Use) (fs : List Finding)
    → e ≡ d → expr_of d ≡ p → uses_of (operand env p).findings ≡ uses_of fs → Adds old new fs → Adds old new (operand env (expr_of e)).findings
adds_form env e d p old new fs made is same h =
    adds_as old new fs (operand env (expr_of e)).findings h (ap (λ (x : Expr). uses_of (operand env x).findings) (ap expr_of made ∙ is) ∙ same)

pub adds_bound : (env : Env) (b d : Option DeclaredExpr) (old new : List Use)
    → b ≡ d → Adds old new (bound_findings env (bound_of (option_map expr_of d))) → Adds old new (bound_findings env (bound_of (option_map expr_of b)))
adds_bound env b d old new made h =
    adds_as old new (bound_findings env (bound_of (option_map expr_of d))) (bound_findings env (bound_of (option_map expr_of b))) h
    (ap (λ (x : Option DeclaredExpr). uses_of (bound_findings env (bound_of (option_map expr_of x)))) made)
