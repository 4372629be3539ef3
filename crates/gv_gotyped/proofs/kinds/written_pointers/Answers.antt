use Rattle.gv_gotyped.proofs.KindLemmas.{pointers_stand}
use Rattle.gv_gotyped.proofs.kinds.written_pointers.Goals as goal

pub returns : goal.returns
returns c = λ env is. pointers_stand env c.args.bracket c.args.to c.args.entity c.base_in-base.result c.slice_of-kind.result c.word_of-word.result c.base_fault-first.result
    c.base_in-base.ensures c.slice_of-kind.ensures c.word_of-word.ensures c.base_fault-first.ensures is
