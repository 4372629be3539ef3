use Rattle.gv_gotyped.proofs.KindLemmas.{pointer_stands}
use Rattle.gv_gotyped.proofs.kinds.written_pointer.Goals as goal

pub returns : goal.returns
returns c = λ env is. pointer_stands env c.args.star c.args.to c.args.entity c.base_in-base.result c.pointer_to-kind.result c.word_of-word.result c.base_fault-first.result
    c.base_in-base.ensures c.pointer_to-kind.ensures c.word_of-word.ensures c.base_fault-first.ensures is
