use Rattle.std.proofs.Common.{Option, None, sym, ap, subst, ◌∙◌, length}
use Rattle.gv_lang.specs.Plain.{expr_of}
use Rattle.gv_operands.specs.declared.types.Class.{Class}
use Rattle.gv_gotypes.specs.Trees as go
use Rattle.gv_gotypes.specs.Expressions.{operand}
use Rattle.gv_gotyped.specs.Operands.{IsOperand}
use Rattle.gv_gotyped.specs.declared.outcomes.Operand.{Operand}
use Rattle.gv_lowering.specs.Operands as lower
use Rattle.gv_lowerops.proofs.Wholes.{after_tail, class_of}
use Rattle.gv_lowerops.proofs.known.selected_at.Goals as goal

pub returns : goal.returns
returns g c = λ d at old e want m h none.
    let env = g.N.Names.env c.args.names.now in
    let whole = go.Select e c.args.name in
    let r = lower.read d at env e None (length old.temps.items) in
    let known : IsOperand env whole c.select_operand-known.result = c.select_operand-known.ensures env e h.known none c.member_of-member.ensures in
    record {
      tail = c.or_constant.ensures.tail env whole old (lower.after r (lower.selected env c.args.name (operand env e).class r.value)) m known
          (after_tail old c.args.whole.read r c.selected-last.result (λ x. lower.selected env c.args.name (operand env e).class x) h.read
          (c.selected-last.ensures ∙ ap (λ (k : Option Class). lower.selected env c.args.name k (expr_of c.args.whole.read.value)) (class_of env e c.args.whole.known h.known)));
      known = subst (λ (x : Operand). IsOperand env whole x) (sym c.or_constant.ensures.known) known;
    }
