use Rattle.gv_gotyped.proofs.PartLemmas.{select_stands}
use Rattle.gv_gotyped.proofs.operands.select_operand.Goals as goal

pub returns : goal.returns
returns c = λ env e h none known. select_stands env e c.args.name c.args.whole c.behind.result c.select_made-made.result
    (c.select_made-made.ensures env known) c.behind.ensures.part c.behind.ensures.first h none
