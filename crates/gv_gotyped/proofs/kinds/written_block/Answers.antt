use Rattle.gv_gotyped.proofs.KindLemmas.{block_stands}
use Rattle.gv_gotyped.proofs.kinds.written_block.Goals as goal

pub returns : goal.returns
returns c = λ env is. block_stands env c.args.word c.args.entity c.block_in-kind.result c.block_fault-first.result c.block_in-kind.ensures c.block_fault-first.ensures is
