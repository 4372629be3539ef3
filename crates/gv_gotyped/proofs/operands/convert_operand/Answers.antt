use Rattle.gv_gotyped.proofs.OperandLemmas.{convert_stands}
use Rattle.gv_gotyped.proofs.operands.convert_operand.Goals as goal

pub returns : goal.returns
returns c = λ env e h. convert_stands env c.args.word e c.args.inner c.behind.result c.convert_made-made.result c.convert_made-made.ensures c.behind.ensures.part c.behind.ensures.first h
