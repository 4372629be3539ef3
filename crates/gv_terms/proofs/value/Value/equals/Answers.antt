use Rattle.gv_terms.proofs.Equality.{same_test}
use Rattle.gv_terms.proofs.value.Value.equals.Goals as goal

pub returns : goal.returns
returns c = same_test c.same.result c.args.self.now c.args.other.now c.same.ensures
