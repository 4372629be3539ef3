use Rattle.std.proofs.Common.{None, sym, subst, length}
use Rattle.gv_gotypes.specs.Trees as go
use Rattle.gv_gotyped.specs.Operands.{IsOperand}
use Rattle.gv_gotyped.specs.declared.outcomes.Operand.{Operand}
use Rattle.gv_lowering.specs.Operands as lower
use Rattle.gv_lowerops.proofs.known.converted.Goals as goal

pub returns : goal.returns
returns g c = λ env old e want m h.
    let d = g.P.Places.context c.args.places.now in
    let n = length old.temps.items in
    let whole = go.Convert c.args.word e in
    let t = lower.tail d c.args.place env e None n in
    let known : IsOperand env whole c.convert_operand-known.result = c.convert_operand-known.ensures env e h.known in
    record {
      tail = c.or_constant.ensures.tail env whole old (lower.converted c.args.word.class t (lower.settled d c.args.place n t)) m known (c.in_ok-tail.ensures old t h.tail);
      known = subst (λ (x : Operand). IsOperand env whole x) (sym c.or_constant.ensures.known) known;
    }
