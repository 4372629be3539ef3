-- Bounds of subslices, literals and members, by what is known of them.
use Rattle.std.proofs.Common.{◌≡◌, ℕ, Bool, false, List, [], ◌∷◌, ◌++◌, Option, Some, None, refl, sym, ap, subst, ◌∙◌, append_assoc}
use Rattle.std.specs.Prelude.{if◌then◌else◌, option_map, option_and_then}
use Rattle.gv_gosyntax.specs.declared.lexeme.Lexeme.{Lexeme}
use Rattle.gv_operands.specs.declared.types.Class.{Class}
use Rattle.gv_operands.specs.declared.part.Part.{Part}
use Rattle.gv_gotypes.specs.declared.names.Library.{Library}
use Rattle.gv_gotypes.specs.Types.{Finding}
use Rattle.gv_gotypes.specs.Trees.{Expr, Slice, Select, Name, Bound, left_out, bound}
use Rattle.gv_gotypes.specs.Scopes.{Env, name_in}
use Rattle.gv_gotypes.specs.Members.{library_member}
use Rattle.gv_gotypes.specs.Places.{Outcome, part_of, spot_of, part_refusal, refusals, some_is_nothing, whole_form, form}
use Rattle.gv_gotypes.specs.Expressions.{operand, bound_parts, bound_findings, slice_outcome, select_from, select_outcome, member_outcome, library_of}
use Rattle.gv_gotyped.specs.declared.fault.Fault.{Fault}
use Rattle.gv_gotyped.specs.declared.outcomes.Made.{Made}
use Rattle.gv_gotyped.specs.declared.outcomes.Operand.{Operand}
use Rattle.gv_gotyped.specs.First.{first_of, earliest, IsMade}
use Rattle.gv_gotyped.specs.Operands.{IsOperand}
use Rattle.gv_gotyped.specs.Parts.{listed, IsBound}
use Rattle.gv_gotyped.proofs.Firsts.{first_of_lists}
use Rattle.gv_gotyped.proofs.OperandLemmas.{at, stands, moved, starts}

-- ---- parts of two lists

refusals_both : (ps qs : List Part) → refusals (ps ++ qs) ≡ refusals ps ++ refusals qs
refusals_both [] qs = refl
refusals_both (p ∷ ps) qs = ap (λ (fs : List Finding). part_refusal p ++ fs) (refusals_both ps qs) ∙ sym (append_assoc (part_refusal p) (refusals ps) (refusals qs))

pub first_of_parts : (p : Part) (ps qs : List Part) (a b c x : Option Fault) → a ≡ first_of (part_refusal p) → b ≡ first_of (refusals ps) → c ≡ first_of (refusals qs) → x ≡ earliest b c
    → earliest a x ≡ first_of (refusals (p ∷ (ps ++ qs)))
first_of_parts p ps qs a b c x d e f g =
    first_of_lists (part_refusal p) (refusals ps) (refusals qs) a b c x d e f g
    ∙ sym (ap (λ (fs : List Finding). first_of (part_refusal p ++ fs)) (refusals_both ps qs))

pub whole_of : (ps : List Part) (fs : List Finding) (made : Option Class) (start : ℕ) (m : Made) → some_is_nothing ps ≡ false → IsMade m (whole_form fs made start)
    → IsMade m (form ps fs made start)
whole_of ps fs made start m e h =
    subst (λ (b : Bool). IsMade m (if b then record { class = None; findings = fs } else whole_form fs made start)) (sym e) h

-- ---- bounds

pub bound_listed : (env : Env) (b : Bound) (known : Option Operand) → IsBound env b known → listed (option_map (λ k. k.part) known) ≡ bound_parts env b
bound_listed env left_out None h = refl
bound_listed env left_out (Some k) h = absurd h
bound_listed env (bound e) None h = absurd h
bound_listed env (bound e) (Some k) h = ap (λ (p : Part). p ∷ []) h.part

pub bound_first : (env : Env) (b : Bound) (known : Option Operand) → IsBound env b known → option_and_then (λ k. k.first) known ≡ first_of (bound_findings env b)
bound_first env left_out None h = refl
bound_first env left_out (Some k) h = absurd h
bound_first env (bound e) None h = absurd h
bound_first env (bound e) (Some k) h = h.first

pub slice_stands : (env : Env) (e : Expr) (a b : Bound) (k r : Operand) (low high : Option Operand) (p q : Option Part) (m : Made) (first below above bounds : Option Fault)
    → IsMade m (slice_outcome k.part.spot k.part.class (listed p ++ listed q)) → p ≡ option_map (λ x. x.part) low → q ≡ option_map (λ x. x.part) high
    → below ≡ option_and_then (λ x. x.first) low → above ≡ option_and_then (λ x. x.first) high → bounds ≡ earliest below above → first ≡ earliest k.first bounds
    → r.part ≡ record { spot = at k.part.spot.start; class = m.class } → r.first ≡ earliest first m.first
    → IsOperand env e k → IsBound env a low → IsBound env b high → IsOperand env (Slice e a b) r
slice_stands env e a b k r low high p q m first below above bounds made is_p is_q is_below is_above is_bounds is_first part told g h i =
    let w = part_of e (operand env e).class in
    let s : listed p ++ listed q ≡ bound_parts env a ++ bound_parts env b =
    ap (λ (x : Option Part). listed x ++ listed q) is_p ∙ ap (λ (x : Option Part). listed (option_map (λ (y : Operand). y.part) low) ++ listed x) is_q
    ∙ ap (λ (ps : List Part). ps ++ listed (option_map (λ (y : Operand). y.part) high)) (bound_listed env a low h)
    ∙ ap (λ (ps : List Part). bound_parts env a ++ ps) (bound_listed env b high i) in
    stands env (Slice e a b) ((operand env e).findings ++ (bound_findings env a ++ bound_findings env b)) (slice_outcome w.spot w.class (bound_parts env a ++ bound_parts env b)) k.part.spot.start
    first m r refl (starts k.part w g.part)
    (is_first ∙ first_of_lists (operand env e).findings (bound_findings env a) (bound_findings env b) k.first below above bounds g.first
    (is_below ∙ bound_first env a low h) (is_above ∙ bound_first env b high i) is_bounds)
    (subst (λ (ps : List Part). IsMade m (slice_outcome w.spot w.class ps)) s
    (moved (λ (x : Part). slice_outcome x.spot x.class (listed p ++ listed q)) m k.part w g.part made)) part told

-- ---- members

-- of an operand that is no package's name
pub select_stands : (env : Env) (e : Expr) (t : Lexeme) (k r : Operand) (m : Made) → IsMade m (select_outcome env k.part.spot t k.part.class)
    → r.part ≡ record { spot = at k.part.spot.start; class = m.class } → r.first ≡ earliest k.first m.first
    → IsOperand env e k → library_of env e ≡ None → IsOperand env (Select e t) r
select_stands env e t k r m made part told h none =
    let w = part_of e (operand env e).class in
    stands env (Select e t) (operand env e).findings (select_outcome env w.spot t w.class) k.part.spot.start k.first m r
    (ap (λ (l : Option Library). select_from env (spot_of e) t l (operand env e)) none)
    (starts k.part w h.part) h.first
    (moved (λ (x : Part). select_outcome env x.spot t x.class) m k.part w h.part made) part told

pub library_stands : (env : Env) (word t : Lexeme) (l : Library) (m : Made) (r : Operand) → IsMade m (member_outcome (library_member l (name_in env.source t)) t.start word.start)
    → r.part ≡ record { spot = at word.start; class = m.class } → r.first ≡ m.first
    → library_of env (Name word) ≡ Some l → IsOperand env (Select (Name word) t) r
library_stands env word t l m r made part told is =
    let e = ap (λ (x : Option Library). select_from env (spot_of (Name word)) t x (operand env (Name word))) is in
    record {
      part = part ∙ ap (λ (c : Option Class). part_of (Select (Name word) t) c) (made.class ∙ sym (ap (λ (o : Outcome). o.class) e));
      first = told ∙ made.first ∙ sym (ap (λ (o : Outcome). first_of o.findings) e);
    }
