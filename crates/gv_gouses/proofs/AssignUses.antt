-- Uses in whole assignments and definitions.
use Rattle.std.proofs.Common.{◌≡◌, ℕ, ◌==◌, Bool, true, false, List, [], ◌∷◌, ◌++◌, length, Option, Some, None, sym, ap, ◌∙◌}
use Rattle.std.specs.Prelude.{if◌then◌else◌, not}
use Rattle.gv_base.specs.declared.answers.Code.TheVariants.{WrongType, WrongCount}
use Rattle.gv_gosyntax.specs.declared.generated.gosyntax_table.TheConstants.{CLASS_DEFINE}
use Rattle.gv_gosyntax.specs.declared.lexeme.Lexeme.{Lexeme}
use Rattle.gv_operands.specs.declared.types.Class.{Class}
use Rattle.gv_operands.specs.declared.types.GoType.{GoType}
use Rattle.gv_gotypes.specs.Types.{Fault, unless}
use Rattle.gv_gotypes.specs.Trees.{Expr, Right, Value, Result, Assign}
use Rattle.gv_gotypes.specs.Scopes.{Env}
use Rattle.gv_gotypes.specs.Places.{start_of}
use Rattle.gv_gotypes.specs.Expressions.{operand}
use Rattle.gv_gotypes.specs.Calls.{answer, call_start}
use Rattle.gv_gotypes.specs.Assigning.{Target, targets, targets_by, target_findings, left_findings, nothing_new, again, some_unlike, map_results, read_findings, result_findings, is_map_read}
use Rattle.gv_gotypes.specs.Assigning.{right_findings as given_findings}
use Rattle.gv_gotypes.specs.Statements.{first_start, simple_findings}
use Rattle.gv_gotyped.specs.First.{AreFaults}
use Rattle.gv_gosimple.specs.declared.sides.Side.{Side}
use Rattle.gv_gosimple.specs.Lefts.{by_side, side_for}
use Rattle.gv_gosimple.proofs.SideLemmas.{targets_of}
use Rattle.gv_gouses.specs.Uses.{uses_of}
use Rattle.gv_gouses.specs.Parts.{right_findings}
use Rattle.gv_gouses.proofs.UseLemmas.{uses_before}
use Rattle.gv_gouses.proofs.CallUses.{both_same, unless_faults, placed_uses}
use Rattle.gv_gouses.proofs.SideForms.{beside_faults}

read_faults : (ts : List Target) (r : Option Bool) (c : Option Class) (statement start : ℕ) → AreFaults (read_findings ts r c statement start)
read_faults ts None c statement start = tt
read_faults ts (Some false) c statement start = tt
read_faults ts (Some true) None statement start = tt
read_faults ts (Some true) (Some c) statement start = unless_faults (not (some_unlike ts map_results)) start WrongType

result_faults : (ts : List Target) (ks : Option (List (Option GoType))) (statement start : ℕ) → AreFaults (result_findings ts ks statement start)
result_faults ts None statement start = tt
result_faults ts (Some ks) statement start = by (length ks == length ts)
  where
    by : (b : Bool) → AreFaults (if b then unless (not (some_unlike ts ks)) start WrongType else Fault statement WrongCount ∷ [])
    by true = unless_faults (not (some_unlike ts ks)) start WrongType
    by false = tt

several : (env : Env) (ts : List Target) (statement : ℕ) (e : Expr)
    → uses_of ((operand env e).findings ++ read_findings ts (is_map_read env e) (operand env e).class statement (start_of e)) ≡ uses_of (operand env e).findings
several env ts statement e =
    uses_before (operand env e).findings (read_findings ts (is_map_read env e) (operand env e).class statement (start_of e))
    (read_faults ts (is_map_read env e) (operand env e).class statement (start_of e))

pub given_uses : (env : Env) (ts : List Target) (statement : ℕ) (r : Right) → uses_of (given_findings env ts statement r) ≡ uses_of (right_findings env r)
given_uses env (t ∷ []) statement (Value e) = placed_uses env t.wants e
given_uses env [] statement (Value e) = several env [] statement e
given_uses env (t ∷ u ∷ ts) statement (Value e) = several env (t ∷ u ∷ ts) statement e
given_uses env ts statement (Result c) =
    uses_before (answer env c).findings (result_findings ts (answer env c).results statement (call_start c)) (result_faults ts (answer env c).results statement (call_start c))

pub assign_uses : (env : Env) (ls : List Expr) (s : Lexeme) (r : Right) (side : Side) (defines : Bool) → defines ≡ (s.class == CLASS_DEFINE) → side ≡ side_for env defines ls
    → uses_of (simple_findings env (Assign ls s r)) ≡ uses_of (target_findings (targets_by (by_side env side) ls) ++ right_findings env r)
assign_uses env ls s r side defines d e =
    let ts = targets env s.class ls in
    let beside = (if s.class == CLASS_DEFINE then nothing_new env ls ++ again env ls else []) in
    let same : targets_by (by_side env side) ls ≡ ts =
    ap (λ (x : Side). targets_by (by_side env x) ls) (e ∙ ap (λ (x : Bool). side_for env x ls) d) ∙ sym (targets_of env s.class ls) in
    both_same (left_findings env s.class ls) (given_findings env ts (first_start ls) r) (target_findings (targets_by (by_side env side) ls)) (right_findings env r)
    (uses_before (target_findings ts) beside (beside_faults env (s.class == CLASS_DEFINE) ls) ∙ sym (ap (λ (x : List Target). uses_of (target_findings x)) same))
    (given_uses env ts (first_start ls) r)
