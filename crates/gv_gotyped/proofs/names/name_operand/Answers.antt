use Rattle.gv_gotyped.proofs.NameLemmas.{name_stands}
use Rattle.gv_gotyped.proofs.names.name_operand.Goals as goal

pub returns : goal.returns
returns c = λ env is known. name_stands env c.args.name c.args.found c.args.constant c.name_made.result c.made_at.result
    c.name_made.ensures c.made_at.ensures.part c.made_at.ensures.first is known
