-- Left sides of other operands.
use Rattle.std.proofs.Common.{◌≡◌, ℕ, ◌<◌, false, List, length, Option, Some, None, refl, sym, subst, ◌∙◌, arith}
use Rattle.gv_gosyntax.specs.declared.generated.gosyntax_acts.Part.TheVariants.{Call as PCall}
use Rattle.gv_gosyntax.specs.declared.lexeme.Lexeme.{Lexeme}
use Rattle.gv_gosyntax.specs.declared.node.Node.{Node}
use Rattle.gv_gosyntax.specs.declared.tree.Call.{Call as DeclaredCall}
use Rattle.gv_gonodes.specs.Places.{IsBefore}
use Rattle.gv_gonodes.specs.Call.{IsSomeCall}
use Rattle.gv_operands.specs.declared.part.Part.{Part}
use Rattle.gv_gotypes.specs.declared.names.Library.{Library}
use Rattle.gv_gotypes.specs.Trees as plain
use Rattle.gv_gotypes.specs.Trees.{Expr, Select}
use Rattle.gv_gotypes.specs.Scopes.{Env, name_in}
use Rattle.gv_gotypes.specs.Members.{library_member}
use Rattle.gv_gotypes.specs.Places.{start_of, spot_of}
use Rattle.gv_gotypes.specs.Expressions.{operand, library_of}
use Rattle.gv_gotypes.specs.Assigning.{target, field_target, member_target, also}
use Rattle.gv_gotyped.specs.declared.fault.Fault.{Fault}
use Rattle.gv_gotyped.specs.declared.outcomes.Operand.{Operand}
use Rattle.gv_gotyped.specs.First.{earliest}
use Rattle.gv_gotyped.specs.Operands.{IsOperand}
use Rattle.gv_gotyped.proofs.Firsts.{first_of_two}
use Rattle.gv_gocalls.specs.Forms.{IsOther}
use Rattle.gv_goassigns.specs.declared.targets.Target.{Target}
use Rattle.gv_goassigns.specs.Targets.{IsTarget, is_blank_name}

pub field_stands : (env : Env) (e : Expr) (t : Lexeme) (k : Operand) (m : Target) (first : Option Fault)
    → IsTarget m (field_target env k.part.spot t k.part.class) → first ≡ earliest k.first m.first
    → IsOperand env e k → library_of env e ≡ None → IsTarget (record { wants = m.wants; first = first }) (target env (Select e t))
field_stands env e t k m first made told known none =
    let o = operand env e in
    let h = subst (λ (x : Part). IsTarget m (field_target env x.spot t x.class)) known.part made in
    let r : Target = record { wants = m.wants; first = first } in
    subst (λ (l : Option Library). IsTarget r (elim l [
      | Some x ↦ member_target (library_member x (name_in env.source t)) t.start (start_of e)
      | None ↦ also o.findings (field_target env (spot_of e) t o.class)
    ])) (sym none)
    (record {
      wants = h.wants;
      first = told ∙ first_of_two o.findings (field_target env (spot_of e) t o.class).findings k.first m.first known.first h.first;
    })

pub no_blank : (env : Env) (p : Expr) → IsOther p → false ≡ is_blank_name env p
no_blank env (plain.Name t) h = absurd h
no_blank env (plain.Select e t) h = refl
no_blank env (plain.Index e i) h = refl
no_blank env (plain.Constant t) h = refl
no_blank env (plain.Paren t e) h = refl
no_blank env (plain.Convert t e) h = refl
no_blank env (plain.Slice e a b) h = refl
no_blank env (plain.Unary t e) h = refl
no_blank env (plain.Binary a t b) h = refl

pub call_there : (nodes : List Node) (at inner : ℕ) (d : DeclaredCall) → at < length nodes → IsBefore nodes at inner (PCall d) → IsSomeCall nodes inner
call_there nodes at inner d l is = let k = is.before in record { whole = d; within = omega (arith, l, k); part = is.is }
