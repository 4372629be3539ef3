use Rattle.gv_gotyped.proofs.OperandLemmas.{unary_stands}
use Rattle.gv_gotyped.proofs.operands.unary_operand.Goals as goal

pub returns : goal.returns
returns c = λ env e h. unary_stands env c.args.sign e c.args.inner c.behind.result c.unary_made-made.result c.unary_made-made.ensures c.behind.ensures.part c.behind.ensures.first h
