use Rattle.gv_gotyped.proofs.OperandLemmas.{binary_stands}
use Rattle.gv_gotyped.proofs.operands.binary_operand.Goals as goal

pub returns : goal.returns
returns c = λ env a b g h. binary_stands env a b c.args.sign c.args.left c.args.right c.behind.result c.binary_made-made.result c.earliest-first.result
    c.binary_made-made.ensures c.earliest-first.ensures c.behind.ensures.part c.behind.ensures.first g h
