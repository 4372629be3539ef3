use Rattle.gv_interfaces.proofs.Decided.{one_difference, none_where_same, same_for_both}
use Rattle.gv_interfaces.proofs.laws.differences_are_decided.Goals as goal

pub returns-clause-one : goal.returns-clause-one
returns-clause-one c = one_difference

pub returns-clause-none : goal.returns-clause-none
returns-clause-none c = none_where_same

pub returns-clause-both : goal.returns-clause-both
returns-clause-both c = same_for_both
