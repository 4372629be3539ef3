-- An operand with a fault in it is nothing.
use Rattle.std.proofs.Common.{◌≡◌, ℕ, ◌⊎◌, inl, inr, ⊎_elim, Bool, true, false, List, [], ◌∷◌, ◌++◌, Option, Some, None, refl, ap, ◌∙◌}
use Rattle.std.specs.Prelude.{if◌then◌else◌, option_and_then}
use Rattle.gv_base.specs.declared.answers.Code.{Code}
use Rattle.gv_gosyntax.specs.declared.lexeme.Lexeme.{Lexeme}
use Rattle.gv_gotypes.specs.Trees.{Expr, Constant, Name, Paren, Convert, Select, Index, Slice, Unary, Binary, Bound, left_out, bound}
use Rattle.gv_operands.specs.declared.types.GoType.TheVariants.{Pointer}
use Rattle.gv_operands.specs.declared.types.Class.{Class}
use Rattle.gv_operands.specs.declared.types.Class.TheVariants.{Run}
use Rattle.gv_operands.specs.declared.part.Spot.{Spot}
use Rattle.gv_operands.specs.declared.part.Part.{Part}
use Rattle.gv_gotypes.specs.Types.{Finding, Fault, Outer, Assigned}
use Rattle.gv_operands.specs.Operators.{is_fixed, unary}
use Rattle.gv_gotypes.specs.Scopes.{Env, Entity, Imported, StructOf, ConstantOf, ProcedureOf, Variable, Found, Package, Library, found, name_in}
use Rattle.gv_gotypes.specs.Members.{Member, ValueOf, FieldOf, Called, TypeName, library_member, base_member}
use Rattle.gv_gotypes.specs.Places.{Outcome, spot_of, part_of, refusals, is_nothing, some_is_nothing, run_form, whole_form, form, behind}
use Rattle.gv_gotypes.specs.Told.{IsFound}
use Rattle.gv_gotypes.specs.Expressions.{operand, bound_parts, bound_findings, used_outside, entity_outcome, found_outcome, member_outcome, class_member, unless_refused, select_outcome, select_from, library_of, convert_outcome, index_outcome, binary_outcome, unary_outcome, sliced}
use Rattle.gv_gotypes.specs.Laws.{FaultsSilence}

abbrev NoFault : List Finding → Type 0
NoFault fs = (at : ℕ) (code : Code) → IsFound fs at code → ⊥

abbrev Quiet : Outcome → Type 0
Quiet o = (o.class ≡ None) ⊎ NoFault o.findings

empty : NoFault []
empty = λ at code h. h

apart : (fs gs : List Finding) → NoFault fs → NoFault gs → NoFault (fs ++ gs)
apart [] gs p q = q
apart (Fault at code ∷ fs) gs p q = absurd (p at code (inl (refl, refl)))
apart (Outer at declared ∷ fs) gs p q = apart fs gs p q
apart (Assigned declared ∷ fs) gs p q = apart fs gs p q

quiet_behind : (fs : List Finding) (o : Outcome) → NoFault fs → Quiet o → Quiet (behind fs o)
quiet_behind fs o p q = ⊎_elim (λ e. inl e) (λ h. inr (apart fs o.findings p h)) q

-- ---- forms

quiet_run : (fs : List Finding) (made : Option Class) (start : ℕ) → Quiet (run_form fs made start)
quiet_run [] None start = inl refl
quiet_run [] (Some c) start = inr empty
quiet_run (f ∷ fs) made start = inl refl

quiet_fixed : (b : Bool) (fs : List Finding) (c : Class) (start : ℕ) → Quiet (if b then record { class = Some c; findings = [] } else run_form fs (Some c) start)
quiet_fixed true fs c start = inr empty
quiet_fixed false fs c start = quiet_run fs (Some c) start

quiet_whole : (fs : List Finding) (made : Option Class) (start : ℕ) → Quiet (whole_form fs made start)
quiet_whole fs None start = quiet_run fs None start
quiet_whole fs (Some c) start = quiet_fixed (is_fixed c) fs c start

quiet_tested : (b : Bool) (fs : List Finding) (made : Option Class) (start : ℕ) → Quiet (if b then record { class = None; findings = fs } else whole_form fs made start)
quiet_tested true fs made start = inl refl
quiet_tested false fs made start = quiet_whole fs made start

quiet_form : (ps : List Part) (fs : List Finding) (made : Option Class) (start : ℕ) → Quiet (form ps fs made start)
quiet_form ps fs made start = quiet_tested (some_is_nothing ps) fs made start

nothing_tested : (b : Bool) (fs : List Finding) (made : Option Class) (start : ℕ) → b ≡ true → (if b then record { class = None; findings = fs } else whole_form fs made start).class ≡ None
nothing_tested true fs made start e = refl
nothing_tested false fs made start e = absurd cc

-- a form with a part that is nothing
nothing_form : (ps : List Part) (fs : List Finding) (made : Option Class) (start : ℕ) → some_is_nothing ps ≡ true → (form ps fs made start).class ≡ None
nothing_form ps fs made start e = nothing_tested (some_is_nothing ps) fs made start e

-- ---- names and members

used_quiet : (e : Entity) (b : Bool) (at : ℕ) → NoFault (used_outside e b at)
used_quiet (Variable declared kind) true at = λ m c h. h
used_quiet (Variable declared kind) false at = λ m c h. h
used_quiet (Imported l) b at = λ m c h. h
used_quiet (StructOf n) b at = λ m c h. h
used_quiet (ConstantOf n) b at = λ m c h. h
used_quiet (ProcedureOf n) b at = λ m c h. h

quiet_entity : (p : Package) (at : ℕ) (e : Entity) → Quiet (entity_outcome p at e)
quiet_entity p at (Variable declared kind) = inr empty
quiet_entity p at (ConstantOf n) = inr empty
quiet_entity p at (Imported l) = inl refl
quiet_entity p at (StructOf n) = inl refl
quiet_entity p at (ProcedureOf n) = inl refl

quiet_found : (env : Env) (t : Lexeme) (o : Option Found) → Quiet (found_outcome env t o)
quiet_found env t None = inl refl
quiet_found env t (Some f) =
    quiet_behind (used_outside f.entity f.is_outer t.start) (entity_outcome env.declared t.start f.entity)
    (used_quiet f.entity f.is_outer t.start) (quiet_entity env.declared t.start f.entity)

quiet_member : (m : Option Member) (name start : ℕ) → Quiet (member_outcome m name start)
quiet_member None name start = inl refl
quiet_member (Some (ValueOf c)) name start = inr empty
quiet_member (Some (FieldOf n kind)) name start = inr empty
quiet_member (Some (Called s)) name start = inl refl
quiet_member (Some TypeName) name start = inl refl

quiet_class_member : (env : Env) (c : Class) (t : Lexeme) (start : ℕ) → Quiet (class_member env c t start)
quiet_class_member env (Run (Pointer b)) t start = quiet_member (base_member env.declared b (name_in env.source t)) t.start start
quiet_class_member env c t start = inl refl

quiet_unless : (fs : List Finding) (o : Outcome) → Quiet o → Quiet (unless_refused fs o)
quiet_unless [] o q = q
quiet_unless (f ∷ fs) o q = inl refl

quiet_select : (env : Env) (e : Spot) (t : Lexeme) (c : Option Class) → Quiet (select_outcome env e t c)
quiet_select env e t None = inl refl
quiet_select env e t (Some c) =
    quiet_unless (refusals (record { spot = e; class = Some c } ∷ [])) (class_member env c t e.start) (quiet_class_member env c t e.start)

-- ---- forms of one part and of two

-- what is made of nothing is nothing
of_one : (f : Option Class → Outcome) (o : Outcome) → (f None).class ≡ None → ((c : Option Class) → Quiet (f c)) → Quiet o → Quiet (behind o.findings (f o.class))
of_one f o none q h = ⊎_elim (λ (e : o.class ≡ None). inl (ap (λ c. (f c).class) e ∙ none)) (λ n. quiet_behind o.findings (f o.class) n (q o.class)) h

of_two : (f : Option Class → Option Class → Outcome) (o p : Outcome) → ((d : Option Class) → (f None d).class ≡ None) → ((c : Option Class) → (f c None).class ≡ None)
    → ((c d : Option Class) → Quiet (f c d)) → Quiet o → Quiet p → Quiet (behind (o.findings ++ p.findings) (f o.class p.class))
of_two f o p left right q g h = ⊎_elim
    (λ (e : o.class ≡ None). inl (ap (λ c. (f c p.class).class) e ∙ left p.class))
    (λ m. ⊎_elim (λ (e : p.class ≡ None). inl (ap (λ d. (f o.class d).class) e ∙ right o.class))
    (λ n. quiet_behind (o.findings ++ p.findings) (f o.class p.class) (apart o.findings p.findings m n) (q o.class p.class)) h) g

quiet_convert : (w : Lexeme) (e : Spot) (c : Option Class) → Quiet (convert_outcome w e c)
quiet_convert w e None = inl refl
quiet_convert w e (Some c) = quiet_form [] _ _ _

quiet_index : (e i : Spot) (c d : Option Class) → Quiet (index_outcome e i c d)
quiet_index e i None d = inl refl
quiet_index e i (Some c) None = inl refl
quiet_index e i (Some c) (Some d) = quiet_form [] _ _ _

index_right : (e i : Spot) (c : Option Class) → (index_outcome e i c None).class ≡ None
index_right e i None = refl
index_right e i (Some c) = refl

quiet_binary : (t : Lexeme) (a b : Spot) (c d : Option Class) → Quiet (binary_outcome t a b c d)
quiet_binary t a b None d = inl refl
quiet_binary t a b (Some c) None = inl refl
quiet_binary t a b (Some c) (Some d) = quiet_form [] _ _ _

binary_right : (t : Lexeme) (a b : Spot) (c : Option Class) → (binary_outcome t a b c None).class ≡ None
binary_right t a b None = refl
binary_right t a b (Some c) = refl

quiet_from : (env : Env) (e : Spot) (t : Lexeme) (l : Option Library) (o : Outcome) → Quiet o → Quiet (select_from env e t l o)
quiet_from env e t (Some l) o q = quiet_member (library_member l (name_in env.source t)) t.start e.start
quiet_from env e t None o q = of_one (select_outcome env e t) o refl (quiet_select env e t) q

quiet_unary : (t : Lexeme) (e : Spot) (c : Option Class) → Quiet (unary_outcome t e c)
quiet_unary t e c =
    quiet_form (record { spot = e; class = c } ∷ []) (refusals (record { spot = e; class = c } ∷ [])) (option_and_then (unary t.class) c) t.start

-- ---- parts that are nothing

or_else : (b s : Bool) → s ≡ true → (if b then true else s) ≡ true
or_else true s e = refl
or_else false s e = e

both_ways : (b s r : Bool) → (s ≡ true → r ≡ true) → (if b then true else s) ≡ true → (if b then true else r) ≡ true
both_ways true s r f e = refl
both_ways false s r f e = f e

nothing_left : (ps qs : List Part) → some_is_nothing ps ≡ true → some_is_nothing (ps ++ qs) ≡ true
nothing_left [] qs e = absurd cc
nothing_left (p ∷ ps) qs e = both_ways (is_nothing p) (some_is_nothing ps) (some_is_nothing (ps ++ qs)) (nothing_left ps qs) e

nothing_right : (ps qs : List Part) → some_is_nothing qs ≡ true → some_is_nothing (ps ++ qs) ≡ true
nothing_right [] qs e = e
nothing_right (p ∷ ps) qs e = or_else (is_nothing p) (some_is_nothing (ps ++ qs)) (nothing_right ps qs e)

-- ---- every form

abbrev QuietBound : Env → Bound → Type 0
QuietBound env b = (some_is_nothing (bound_parts env b) ≡ true) ⊎ NoFault (bound_findings env b)

-- `e[a:b]` by what its parts are
quiet_slice : (e : Spot) (o : Outcome) (ps qs : List Part) (fs gs : List Finding) → Quiet o → (some_is_nothing ps ≡ true) ⊎ NoFault fs → (some_is_nothing qs ≡ true) ⊎ NoFault gs
    → Quiet (behind (o.findings ++ (fs ++ gs))
    (form (record { spot = e; class = o.class } ∷ (ps ++ qs)) (refusals (record { spot = e; class = o.class } ∷ (ps ++ qs))) (sliced o.class (ps ++ qs)) e.start))
quiet_slice e o ps qs fs gs h p q =
    let all : List Part = record { spot = e; class = o.class } ∷ (ps ++ qs) in
    let gone : some_is_nothing all ≡ true → Quiet (behind (o.findings ++ (fs ++ gs)) (form all (refusals all) (sliced o.class (ps ++ qs)) e.start))
    = λ n. inl (nothing_form all (refusals all) (sliced o.class (ps ++ qs)) e.start n) in
    ⊎_elim
    (λ (n : o.class ≡ None). gone (ap (λ c. some_is_nothing (record { spot = e; class = c } ∷ (ps ++ qs))) n))
    (λ k. ⊎_elim
    (λ n. gone (or_else (is_nothing (record { spot = e; class = o.class })) (some_is_nothing (ps ++ qs)) (nothing_left ps qs n)))
    (λ l. ⊎_elim
    (λ n. gone (or_else (is_nothing (record { spot = e; class = o.class })) (some_is_nothing (ps ++ qs)) (nothing_right ps qs n)))
    (λ m. quiet_behind (o.findings ++ (fs ++ gs)) (form all (refusals all) (sliced o.class (ps ++ qs)) e.start)
    (apart o.findings (fs ++ gs) k (apart fs gs l m)) (quiet_form all (refusals all) (sliced o.class (ps ++ qs)) e.start)) q) p) h

mutual
  quiet : (env : Env) (e : Expr) → Quiet (operand env e)
  quiet env (Constant t) = inr empty
  quiet env (Name t) = quiet_found env t (found env (name_in env.source t))
  quiet env (Paren t e) = quiet env e
  quiet env (Convert w e) = of_one (convert_outcome w (spot_of e)) (operand env e) refl (quiet_convert w (spot_of e)) (quiet env e)
  quiet env (Select e t) = quiet_from env (spot_of e) t (library_of env e) (operand env e) (quiet env e)
  quiet env (Index e i) =
      of_two (index_outcome (spot_of e) (spot_of i)) (operand env e) (operand env i) (λ d. refl) (index_right (spot_of e) (spot_of i)) (quiet_index (spot_of e) (spot_of i)) (quiet env e) (quiet env i)
  quiet env (Slice e a b) =
      quiet_slice (spot_of e) (operand env e) (bound_parts env a) (bound_parts env b) (bound_findings env a) (bound_findings env b)
      (quiet env e) (quiet_bound env a) (quiet_bound env b)
  quiet env (Unary t e) = of_one (unary_outcome t (spot_of e)) (operand env e) refl (quiet_unary t (spot_of e)) (quiet env e)
  quiet env (Binary a t b) =
      of_two (binary_outcome t (spot_of a) (spot_of b)) (operand env a) (operand env b) (λ d. refl) (binary_right t (spot_of a) (spot_of b)) (quiet_binary t (spot_of a) (spot_of b)) (quiet env a) (quiet env b)

  quiet_bound : (env : Env) (b : Bound) → QuietBound env b
  quiet_bound env left_out = inr empty
  quiet_bound env (bound e) = ⊎_elim
      (λ (n : (operand env e).class ≡ None). inl (ap (λ c. some_is_nothing (part_of e c ∷ [])) n))
      (λ k. inr k) (quiet env e)

pub faults_silence : FaultsSilence
faults_silence env e at code h = ⊎_elim (λ n. n) (λ k. absurd (k at code h)) (quiet env e)
