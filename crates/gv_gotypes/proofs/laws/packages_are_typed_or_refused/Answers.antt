use Rattle.gv_gotypes.proofs.Told.{all_decided}
use Rattle.gv_gotypes.proofs.laws.packages_are_typed_or_refused.Goals as goal

pub returns-clause-decided : goal.returns-clause-decided
returns-clause-decided c = all_decided
