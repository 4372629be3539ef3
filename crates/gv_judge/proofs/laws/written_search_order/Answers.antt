use Rattle.gv_judge.proofs.Explained.{full_are_explanations, no_full_no_explanation}
use Rattle.gv_judge.proofs.laws.written_search_order.Goals as goal

pub returns-clause-full : goal.returns-clause-full
returns-clause-full c = full_are_explanations c.args.spec.now

pub returns-clause-none : goal.returns-clause-none
returns-clause-none c = no_full_no_explanation c.args.spec.now
