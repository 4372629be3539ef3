use Rattle.gv_smallread.proofs.Decided.{start_is_other}
use Rattle.gv_smallread.proofs.reading.small_or_refused.Goals as goal

pub returns-in-Err-Other-clause-other : goal.returns-in-Err-Other-clause-other
returns-in-Err-Other-clause-other c = start_is_other c.args.text.now c.not_of_form.result c.not_of_form.ensures (c.in-Err-Other.ensures.other c.in-Err-Other.field-0-is)
