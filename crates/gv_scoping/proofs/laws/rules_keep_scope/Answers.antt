use Rattle.gv_scoping.proofs.RulesScoped.{rules_keep}
use Rattle.gv_scoping.proofs.laws.rules_keep_scope.Goals as goal

pub returns : goal.returns
returns c = rules_keep
