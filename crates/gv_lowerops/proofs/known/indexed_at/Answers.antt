use Rattle.std.proofs.Common.{Option, ap, ◌∙◌}
use Rattle.gv_lang.specs.Plain.{expr_of}
use Rattle.gv_operands.specs.declared.types.GoType.{GoType}
use Rattle.gv_lowering.specs.Operands as lower
use Rattle.gv_lowerops.proofs.Wholes.{index_tail}
use Rattle.gv_lowerops.proofs.known.indexed_at.Goals as goal

pub returns : goal.returns
returns c = λ d at env old mid e i want h k. record {
  tail = index_tail d at env old mid e i c.args.value c.args.known c.args.index.known c.args.index.read c.indexed-last.result want h k
      (c.indexed-last.ensures ∙ ap (λ (o : Option GoType). lower.indexed o (expr_of c.args.value) (expr_of c.args.index.read.value)) c.own_type_of.ensures);
  known = c.index_operand.ensures env e i h.known k.known;
}
