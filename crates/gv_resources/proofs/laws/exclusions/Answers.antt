use Rattle.gv_resources.proofs.Excluding.{excludes_law}
use Rattle.gv_resources.proofs.laws.exclusions.Goals as goal

pub returns : goal.returns
returns c = excludes_law
