use Rattle.std.proofs.Common.{None, sym, subst, length}
use Rattle.gv_gotypes.specs.Trees as go
use Rattle.gv_gotyped.specs.Operands.{IsOperand}
use Rattle.gv_gotyped.specs.declared.outcomes.Operand.{Operand}
use Rattle.gv_lowering.specs.Operands as lower
use Rattle.gv_lowerops.proofs.Wholes.{after_tail}
use Rattle.gv_lowerops.proofs.known.unary_at.Goals as goal

pub returns : goal.returns
returns c = λ d at env old e want m h.
    let whole = go.Unary c.args.sign e in
    let r = lower.read d at env e None (length old.temps.items) in
    let known : IsOperand env whole c.unary_operand-known.result = c.unary_operand-known.ensures env e h.known in
    record {
      tail = c.or_constant.ensures.tail env whole old (lower.after r (lower.Value (lower.one_operand c.args.sign.class r.value))) m known
          (after_tail old c.args.inner.read r c.in_ok-last.last (λ x. lower.Value (lower.one_operand c.args.sign.class x)) h.read c.in_ok-last.ensures);
      known = subst (λ (x : Operand). IsOperand env whole x) (sym c.or_constant.ensures.known) known;
    }
