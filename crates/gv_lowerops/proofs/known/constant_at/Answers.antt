use Rattle.std.proofs.Common.{sym, ap, subst}
use Rattle.gv_lang.specs.Tree as lang
use Rattle.gv_gotypes.specs.Trees as go
use Rattle.gv_gotyped.specs.Operands.{IsOperand}
use Rattle.gv_gotyped.specs.declared.outcomes.Operand.{Operand}
use Rattle.gv_lowering.specs.Operands as lower
use Rattle.gv_lowerops.proofs.Behind.{behind_same}
use Rattle.gv_lowerops.proofs.known.constant_at.Goals as goal

pub returns : goal.returns
returns g c = λ d at.
    let env = g.N.Names.env c.args.names.now in
    let e = go.Constant c.args.token in
    let known : IsOperand env e c.literal_operand.result = c.literal_operand.ensures env c.value-value.ensures in
    record {
      tail = c.or_constant.ensures.tail env e c.args.draft (lower.plain (lower.nil_of c.args.want)) (record { cmds = c.mark-mark.ensures.cmds; temps = c.mark-mark.ensures.temps }) known
          (record { behind = behind_same c.args.draft; last = ap (λ (x : lang.Expr). lower.Value x) c.nil_of.ensures });
      known = subst (λ (x : Operand). IsOperand env e x) (sym c.or_constant.ensures.known) known;
    }
