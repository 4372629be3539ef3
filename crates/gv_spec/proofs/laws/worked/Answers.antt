use Rattle.gv_spec.proofs.Examples.{wrong_package}
use Rattle.gv_spec.proofs.laws.worked.Goals as goal

pub returns-clause-wrong_package : goal.returns-clause-wrong_package
returns-clause-wrong_package c = wrong_package
