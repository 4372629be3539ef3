-- Names as operands.
use Rattle.std.proofs.Common.{◌≡◌, ℕ, Bool, true, false, List, ◌++◌, Option, Some, None, refl, sym, ap, ◌∙◌}
use Rattle.gv_base.specs.declared.answers.Code.TheVariants as code
use Rattle.gv_gosyntax.specs.declared.lexeme.Lexeme.{Lexeme}
use Rattle.gv_operands.specs.declared.types.Class.{Class}
use Rattle.gv_gotypes.specs.declared.names.Entity.{Entity}
use Rattle.gv_gotypes.specs.declared.names.Entity.TheVariants.{Imported, StructOf, ConstantOf, ProcedureOf, Variable}
use Rattle.gv_gotypes.specs.declared.names.Found.{Found}
use Rattle.gv_gotypes.specs.Types.{Finding}
use Rattle.gv_gotypes.specs.Trees.{Name}
use Rattle.gv_gotypes.specs.Scopes.{Env, found, name_in}
use Rattle.gv_gotypes.specs.Places.{part_of, Outcome}
use Rattle.gv_gotypes.specs.Expressions.{operand, used_outside, entity_outcome, found_outcome}
use Rattle.gv_gotyped.specs.declared.fault.Fault.{Fault}
use Rattle.gv_gotyped.specs.declared.outcomes.Made.{Made}
use Rattle.gv_gotyped.specs.declared.outcomes.Operand.{Operand}
use Rattle.gv_gotyped.specs.First.{first_of, IsMade}
use Rattle.gv_gotyped.specs.Operands.{IsOperand, IsConstantFor}
use Rattle.gv_gotyped.proofs.OperandLemmas.{at}

-- that an outer variable is used is no fault
unseen : (e : Entity) (b : Bool) (place : ℕ) (fs : List Finding) → first_of fs ≡ first_of (used_outside e b place ++ fs)
unseen (Variable declared kind) true place fs = refl
unseen (Variable declared kind) false place fs = refl
unseen (Imported l) b place fs = refl
unseen (StructOf n) b place fs = refl
unseen (ConstantOf n) b place fs = refl
unseen (ProcedureOf n) b place fs = refl

pub of_found : (env : Env) (t : Lexeme) (f : Found) (m : Made) → IsMade m (entity_outcome env.declared t.start f.entity) → IsMade m (found_outcome env t (Some f))
of_found env t f m h = record {
  class = h.class;
  first = h.first ∙ unseen f.entity f.is_outer t.start (entity_outcome env.declared t.start f.entity).findings;
}

pub name_stands : (env : Env) (t : Lexeme) (o : Option Found) (c : Option Class) (m : Made) (r : Operand)
    → ((env : Env) (u : Lexeme) → u.start ≡ t.start → IsConstantFor env.declared o c → IsMade m (found_outcome env u o))
    → r.part ≡ record { spot = at t.start; class = m.class } → r.first ≡ m.first
    → o ≡ found env (name_in env.source t) → IsConstantFor env.declared o c → IsOperand env (Name t) r
name_stands env t o c m r made part first is known =
    let h = made env t refl known in
    let e : (found_outcome env t o) ≡ operand env (Name t) = ap (λ (x : Option Found). found_outcome env t x) is in
    record {
      part = part ∙ ap (λ (x : Option Class). part_of (Name t) x) (h.class ∙ ap (λ (x : Outcome). x.class) e);
      first = first ∙ h.first ∙ ap (λ (x : Outcome). first_of x.findings) e;
    }

pub undeclared : (env : Env) (t : Lexeme) (place : ℕ) → t.start ≡ place
    → IsMade (record { class = None; first = Some (record { start = place; code = code.Undeclared }) }) (found_outcome env t None)
undeclared env t place e = record {
  class = refl;
  first = ap (λ (x : ℕ). let f : Fault = record { start = x; code = code.Undeclared } in Some f) (sym e);
}
