use Rattle.gv_resources.proofs.Equality.{single_test}
use Rattle.gv_resources.proofs.laws.single_laws.Goals as goal

pub returns : goal.returns
returns c = single_test
