use Rattle.gv_gotyped.proofs.PartLemmas.{slice_stands}
use Rattle.gv_gotyped.proofs.operands.slice_operand.Goals as goal

pub returns : goal.returns
returns c = λ env e a b g h i. slice_stands env e a b c.args.whole c.behind.result c.args.low c.args.high c.part_in.result c.part_in-2.result c.slice_made-made.result
    c.earliest-first.result c.first_in-below.result c.first_in-above.result c.earliest-bounds.result
    c.slice_made-made.ensures c.part_in.ensures c.part_in-2.ensures c.first_in-below.ensures c.first_in-above.ensures c.earliest-bounds.ensures c.earliest-first.ensures
    c.behind.ensures.part c.behind.ensures.first g h i
