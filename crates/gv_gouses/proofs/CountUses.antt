-- Uses in what is counted.
use Rattle.std.proofs.Common.{◌≡◌, ℕ, ◌&&◌, ◌==◌, Bool, true, false, [], ◌∷◌, ◌++◌, Option, Some, None, refl, ◌∙◌}
use Rattle.std.specs.Prelude.{if◌then◌else◌}
use Rattle.gv_base.specs.declared.answers.Code.TheVariants.{WrongType, ConstTooLarge}
use Rattle.gv_gosyntax.specs.declared.lexeme.Lexeme.{Lexeme}
use Rattle.gv_operands.specs.declared.types.Class.{Class}
use Rattle.gv_operands.specs.declared.types.Class.TheVariants.{Fixed}
use Rattle.gv_operands.specs.declared.types.GoType.TheVariants.{Word}
use Rattle.gv_operands.specs.declared.types.Value.TheVariants.{Count}
use Rattle.gv_operands.specs.declared.part.Spot.{Spot}
use Rattle.gv_operands.specs.declared.part.Want.{Want}
use Rattle.gv_operands.specs.declared.part.Want.TheVariants.{Exactly, AnyTyped, Unknown}
use Rattle.gv_operands.specs.Types.{same_type}
use Rattle.gv_gotypes.specs.declared.names.Found.{Found}
use Rattle.gv_gotypes.specs.Types.{Fault}
use Rattle.gv_gotypes.specs.Trees.{Expr, Name}
use Rattle.gv_gotypes.specs.Scopes.{Env, name_in, is_blank, found_among, named_in}
use Rattle.gv_gotypes.specs.Places.{start_of, spot_of}
use Rattle.gv_gotypes.specs.Expressions.{operand, found_outcome, zero_divisor, is_dividing}
use Rattle.gv_gotypes.specs.Calls.{placed}
use Rattle.gv_gotypes.specs.Assigning.{target, entity_target}
use Rattle.gv_gotypes.specs.Statements.{word_wanted, counted, divisor}
use Rattle.gv_gotyped.specs.First.{AreFaults}
use Rattle.gv_gouses.specs.Uses.{uses_of}
use Rattle.gv_gouses.proofs.UseLemmas.{uses_before}
use Rattle.gv_gouses.proofs.CallUses.{both_same, unless_faults, placed_uses}

word_faults : (at : ℕ) (w : Want) → AreFaults (word_wanted at w)
word_faults at (Exactly t) = unless_faults (same_type t Word) at WrongType
word_faults at w = tt

counted_found : (env : Env) (t : Lexeme) (f : Option Found) (b : Bool)
    → uses_of ((if b then record { wants = Unknown; findings = (found_outcome env t (if b then None else f)).findings } else
    (if b then record { wants = AnyTyped; findings = [] } else entity_target t.start (if b then None else f))).findings
    ++ word_wanted t.start (if b then record { wants = Unknown; findings = (found_outcome env t (if b then None else f)).findings } else
    (if b then record { wants = AnyTyped; findings = [] } else entity_target t.start (if b then None else f))).wants)
    ≡ uses_of (if b then record { wants = AnyTyped; findings = [] } else entity_target t.start (if b then None else f)).findings
counted_found env t f true = refl
counted_found env t f false = uses_before (entity_target t.start f).findings (word_wanted t.start (entity_target t.start f).wants) (word_faults t.start (entity_target t.start f).wants)

pub counted_uses : (env : Env) (e : Expr) → uses_of (counted env e) ≡ uses_of (target env e).findings
counted_uses env (Name t) = let name = name_in env.source t in counted_found env t (found_among env.entries (named_in env.declared.names name) name) (is_blank name)
counted_uses env e = uses_before (target env e).findings (word_wanted (start_of e) (target env e).wants) (word_faults (start_of e) (target env e).wants)

zero_if : (b : Bool) (at : ℕ) → AreFaults (if b then Fault at ConstTooLarge ∷ [] else [])
zero_if true at = tt
zero_if false at = tt

zero_faults : (sign : ℕ) (e : Spot) (c : Class) → AreFaults (zero_divisor sign e c)
zero_faults sign e (Fixed k (Some (Count n))) = zero_if (is_dividing sign && n == 0) e.start
zero_faults sign e c = tt

divided_faults : (sign : ℕ) (e : Spot) (c : Option Class) → AreFaults (elim c [ None ↦ [] | Some d ↦ zero_divisor sign e d ])
divided_faults sign e None = tt
divided_faults sign e (Some c) = zero_faults sign e c

pub update_uses : (env : Env) (sign : ℕ) (e f : Expr)
    → uses_of (counted env e ++ (placed env (Exactly Word) f ++ divisor env sign f)) ≡ uses_of ((target env e).findings ++ (operand env f).findings)
update_uses env sign e f =
    both_same (counted env e) (placed env (Exactly Word) f ++ divisor env sign f) (target env e).findings (operand env f).findings (counted_uses env e)
    (uses_before (placed env (Exactly Word) f) (divisor env sign f) (divided_faults sign (spot_of f) (operand env f).class) ∙ placed_uses env (Exactly Word) f)
