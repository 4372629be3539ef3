-- What is called by an operand of another one.
use Rattle.std.proofs.Common.{◌≡◌, ℕ, List, Option, Some, None, refl, sym, ap, subst, ◌∙◌}
use Rattle.gv_gosyntax.specs.declared.lexeme.Lexeme.{Lexeme}
use Rattle.gv_operands.specs.declared.part.Part.{Part}
use Rattle.gv_gotypes.specs.declared.names.Library.{Library}
use Rattle.gv_gotypes.specs.Trees.{Expr, Select}
use Rattle.gv_gotypes.specs.Scopes.{Env, name_in}
use Rattle.gv_gotypes.specs.Members.{library_member}
use Rattle.gv_gotypes.specs.Places.{start_of, spot_of, part_of}
use Rattle.gv_gotypes.specs.Expressions.{operand, library_of}
use Rattle.gv_gotypes.specs.Calls.{Callee as AnyCallee, callee, method_callee, member_callee, with_findings}
use Rattle.gv_gotyped.specs.declared.fault.Fault.{Fault}
use Rattle.gv_gotyped.specs.declared.outcomes.Operand.{Operand}
use Rattle.gv_gotyped.specs.First.{first_of, earliest}
use Rattle.gv_gotyped.specs.Operands.{IsOperand}
use Rattle.gv_gotyped.proofs.Firsts.{first_of_two}
use Rattle.gv_gocalls.specs.declared.answers.Callee.{Callee}
use Rattle.gv_gocalls.specs.Answers.{IsThisCallee, IsCallee}

moved : (env : Env) (t : Lexeme) (m : Callee) (p q : Part) → p ≡ q → IsThisCallee m p.spot.start (method_callee env p.spot t p.class)
    → IsThisCallee m q.spot.start (method_callee env q.spot t q.class)
moved env t m p q same h = subst (λ (x : Part). IsThisCallee m x.spot.start (method_callee env x.spot t x.class)) same h

pub method_stands : (env : Env) (e : Expr) (t : Lexeme) (k : Operand) (m : Callee) (first : Option Fault)
    → IsThisCallee m k.part.spot.start (method_callee env k.part.spot t k.part.class) → first ≡ earliest k.first m.first
    → IsOperand env e k → library_of env e ≡ None → IsCallee env (Select e t) (record { start = m.start; signature = m.signature; first = first })
method_stands env e t k m first made told known none =
    let o = operand env e in
    let h = moved env t m k.part (part_of e o.class) known.part made in
    let r : Callee = record { start = m.start; signature = m.signature; first = first } in
    subst (λ (l : Option Library). IsThisCallee r (start_of e) (elim l [
      | Some x ↦ member_callee (library_member x (name_in env.source t)) t.start (start_of e)
      | None ↦ with_findings o.findings (method_callee env (spot_of e) t o.class)
    ])) (sym none)
    (record {
      start = h.start;
      signature = h.signature;
      first = told ∙ first_of_two o.findings (method_callee env (spot_of e) t o.class).findings k.first m.first known.first h.first;
    })
