-- Whole assignments.
use Rattle.std.proofs.Common.{◌≡◌, ℕ, ◌==◌, Bool, true, false, List, [], ◌++◌, Option, sym, ap, subst, ◌∙◌}
use Rattle.std.specs.Prelude.{if◌then◌else◌}
use Rattle.gv_gosyntax.specs.declared.generated.gosyntax_table.TheConstants.{CLASS_DEFINE}
use Rattle.gv_gosyntax.specs.declared.lexeme.Lexeme.{Lexeme}
use Rattle.gv_gotypes.specs.Trees.{Expr, Right, Assign}
use Rattle.gv_gotypes.specs.Scopes.{Env}
use Rattle.gv_gotypes.specs.Assigning.{Target, targets, targets_by, target_findings, left_findings, right_findings, nothing_new, again, declaring, given_types}
use Rattle.gv_gotypes.specs.Statements.{first_start, simple_findings, simple_after}
use Rattle.gv_gotyped.specs.declared.fault.Fault.{Fault}
use Rattle.gv_gotyped.specs.First.{first_of, earliest}
use Rattle.gv_gotyped.proofs.Firsts.{first_of_two}
use Rattle.gv_gosimple.specs.declared.sides.Side.{Side}
use Rattle.gv_gosimple.specs.declared.targets.Targets.{Targets}
use Rattle.gv_gosimple.specs.Lefts.{AreTargets, by_side, side_for, wants_of}
use Rattle.gv_gosimple.proofs.SideLemmas.{targets_of}

pub assign_told : (env : Env) (ls : List Expr) (s : Lexeme) (r : Right) (side : Side) (known : Targets) (defines : Bool) (beside own given first : Option Fault) (statement : ℕ)
    → defines ≡ (s.class == CLASS_DEFINE) → side ≡ side_for env defines ls → AreTargets known (targets_by (by_side env side) ls)
    → beside ≡ first_of (if defines then nothing_new env ls ++ again env ls else []) → statement ≡ first_start ls
    → ((ts : List Target) → known.wants.items ≡ wants_of ts → given ≡ first_of (right_findings env ts statement r))
    → own ≡ earliest known.first beside → first ≡ earliest own given → first ≡ first_of (simple_findings env (Assign ls s r))
assign_told env ls s r side known defines beside own given first statement d e are b st g o t =
    let ts = targets env s.class ls in
    let same : targets_by (by_side env side) ls ≡ targets env s.class ls =
    ap (λ (x : Side). targets_by (by_side env x) ls) (e ∙ ap (λ (x : Bool). side_for env x ls) d) ∙ sym (targets_of env s.class ls) in
    let k = subst (AreTargets known) same are in
    let left : own ≡ first_of (left_findings env s.class ls) =
    o ∙ first_of_two (target_findings ts) (if s.class == CLASS_DEFINE then nothing_new env ls ++ again env ls else []) known.first beside k.first
    (b ∙ ap (λ (x : Bool). first_of (if x then nothing_new env ls ++ again env ls else [])) d) in
    t ∙ first_of_two (left_findings env s.class ls) (right_findings env ts (first_start ls) r) own given left
    (g ts k.wants ∙ ap (λ (n : ℕ). first_of (right_findings env ts n r)) st)

pub defined_after : (env now : Env) (ls : List Expr) (s : Lexeme) (r : Right) (defines : Bool) → defines ≡ (s.class == CLASS_DEFINE) → defines ≡ true
    → now ≡ declaring env ls (given_types env ls r) → now ≡ simple_after env (Assign ls s r)
defined_after env now ls s r defines d e h = h ∙ sym (ap (λ (b : Bool). if b then declaring env ls (given_types env ls r) else env) (sym d ∙ e))

pub assigned_after : (env : Env) (ls : List Expr) (s : Lexeme) (r : Right) (defines : Bool) → defines ≡ (s.class == CLASS_DEFINE) → defines ≡ false
    → env ≡ simple_after env (Assign ls s r)
assigned_after env ls s r defines d e = sym (ap (λ (b : Bool). if b then declaring env ls (given_types env ls r) else env) (sym d ∙ e))
