use Rattle.gv_gotyped.proofs.OperandLemmas.{index_stands}
use Rattle.gv_gotyped.proofs.operands.index_operand.Goals as goal

pub returns : goal.returns
returns c = λ env a b g h. index_stands env a b c.args.whole c.args.index c.behind.result c.index_made-made.result c.earliest-first.result
    c.index_made-made.ensures c.earliest-first.ensures c.behind.ensures.part c.behind.ensures.first g h
